-- What is due of a run that is drawn, by what files hold.
use Rattle.std.proofs.Common.{◌≡◌, ◌≢◌, ℕ, List, Option, Some, None, Bool, true, false, ◌⊎◌, Ok, Err, inl, inr, refl, subst}
use Rattle.std.specs.Prelude.{Result, IfErr, IfOk, IsSomeAnd}
use Rattle.std.specs.Bool.{OnTrue}
use Rattle.out_of_memory.specs.Refused.{refused}
use Rattle.image.specs.declared.raw.RawImage.{RawImage}
use Rattle.image.specs.Named.{NamedImage}
use Rattle.image.specs.Raw.{named_of}
use Rattle.outside.specs.Outside.{FilesState, AllStay, NoneFell}
use Rattle.script.specs.declared.fault.ScriptFault.{ScriptFault}
use Rattle.script.specs.declared.fault.ScriptFault.TheVariants as script_fault
use Rattle.script.specs.declared.script.Script.{Script}
use Rattle.script.specs.Faults.{IsFault}
use Rattle.script.specs.Scripts.{IsScript}
use Rattle.command_words.specs.Calls as call
use Rattle.command_due.specs.Script.{script_fault_line}
use Rattle.command_due.specs.CommandsDue.{Outcome, IsImageFile, IsImageRefused}
use Rattle.command_due.specs.ChartDue.{IsChartDue, chart_refused, chart_bad_script, charted}
use Rattle.command_answers.specs.declared.act.PreparedCall.{PreparedCall}
use Rattle.command_answers.specs.declared.status.Status.TheVariants as status
use Rattle.command_answers.specs.Acts.{outcome_of}
use Rattle.command_answers.specs.declared.prepare_error.PrepareError.{PrepareError}
use Rattle.command_answers.specs.Acting.{IsQuiet, puts}
use Rattle.command_answers.specs.Prepared.{IsReadError, Prepares}
use Rattle.command_answers.proofs.Coming.{put_comes_to}
use Rattle.command_answers.proofs.Held.{acted, of_held, script_unread}
use Rattle.image_loaded.specs.Shape.{AreOfValid}
use Rattle.command_images.proofs.Files.{image_file}
use Rattle.command_images.specs.Charted.{IsDrawnDue, IsDrawnOver, misspelled, drawn}

-- ---- scripts

pub drawn_over : {E : Type 0} (a b : ℕ) (n : NamedImage) (script : Script) (P : List ℕ → Type 0) (made : Result PreparedCall E)
    → ((text : List ℕ) → P text → IsScript n.names text script.lines script.end) → IfOk made (λ act. IsDrawnOver a b n script (outcome_of act))
    → IfOk made (λ act. (text : List ℕ) → P text → IsDrawnDue a b n text (outcome_of act))
drawn_over a b n script P (Ok act) is_script is = λ text p. drawn script.lines script.end (is_script text p) is
drawn_over a b n script P (Err e) is_script is = tt

pub bad_drawn : {E : Type 0} (a b : ℕ) (n : NamedImage) (why : ScriptFault) (P : List ℕ → Type 0) (made : Result PreparedCall E)
    → ((text : List ℕ) → P text → (why ≡ script_fault.Memory refused) ⊎ IsFault n.names text why)
    → IfOk made (λ act. act ≡ puts status.Script (script_fault_line why)) → IfOk made (λ act. why ≢ script_fault.Memory refused)
    → IfOk made (λ act. (text : List ℕ) → P text → IsDrawnDue a b n text (outcome_of act))
bad_drawn a b n why P (Ok act) answer is other = λ text p. elim (answer text p) [
  | inl memory ↦ absurd (other memory)
  | inr found ↦ misspelled why (record { is = found; is_fault = other }) (put_comes_to status.Script (script_fault_line why) act is)
]
bad_drawn a b n why P (Err e) answer is other = tt

-- ---- `chart`

chart_over : (a b : ℕ) (bytes other : List ℕ) (n : NamedImage) (outcome : Outcome) → AreOfValid bytes n → IsDrawnDue a b n other outcome → IsChartDue a b (Some bytes) (Some other) outcome
chart_over a b bytes other n outcome file due = by (subst (λ (x : NamedImage). IsDrawnDue a b x other outcome) file.file.image due) where
  by : IsDrawnDue a b (named_of file.file.raw) other outcome → IsChartDue a b (Some bytes) (Some other) outcome
  by (misspelled fault wrong is) = chart_bad_script bytes other file.file.raw fault refl (image_file bytes n file) refl wrong is
  by (drawn lines end script is) = charted bytes other file.file.raw lines end refl (image_file bytes n file) refl script is

chart_due : (tells : Bool) (a b : ℕ) (held script mid : Option (List ℕ)) (P : List ℕ → Type 0) (n : NamedImage) (outcome : Outcome)
    → OnTrue tells (IsSomeAnd held P) → ((bytes : List ℕ) → P bytes → AreOfValid bytes n)
    → OnTrue tells (IsSomeAnd mid (λ other. IsDrawnDue a b n other outcome)) → mid ≡ script → OnTrue tells (IsChartDue a b held script outcome)
chart_due true a b (Some bytes) script mid P n outcome is loads due stays = by script (subst (λ (o : Option (List ℕ)). IsSomeAnd o (λ other. IsDrawnDue a b n other outcome)) stays due)
  where
    by : (o : Option (List ℕ)) → IsSomeAnd o (λ other. IsDrawnDue a b n other outcome) → IsChartDue a b (Some bytes) o outcome
    by (Some other) due = chart_over a b bytes other n outcome (loads bytes is) due
    by None due = absurd due
chart_due true a b None script mid P n outcome is loads due stays = absurd is
chart_due false a b held script mid P n outcome is loads due stays = tt

pub chart_stops : (tells : Bool) (a b : ℕ) (held script : Option (List ℕ)) (P : List ℕ → Type 0) (outcome : Outcome)
    → OnTrue tells (IsSomeAnd held P) → ((bytes : List ℕ) → P bytes → IsImageRefused bytes outcome) → OnTrue tells (IsChartDue a b held script outcome)
chart_stops true a b (Some bytes) script P outcome is refused = chart_refused bytes refl (refused bytes is)
chart_stops true a b None script P outcome is refused = absurd is
chart_stops false a b held script P outcome is refused = tt

pub chart_prepares : (tells : Bool) (image script : List ℕ) (a b : ℕ) (before mid now : FilesState) (P : List ℕ → Type 0) (n : NamedImage) (result : Result PreparedCall PrepareError)
    → OnTrue tells (IsSomeAnd (before.held image) P) → ((bytes : List ℕ) → P bytes → AreOfValid bytes n) → AllStay before.held mid.held → NoneFell before.read_faults mid.read_faults
    → IfOk result (λ act. OnTrue tells (IsSomeAnd (mid.held script) (λ other. IsDrawnDue a b n other (outcome_of act)))) → IfOk result IsQuiet
    → IfErr result (IsReadError script mid now) → Prepares tells (call.chart image script a b) before now result
chart_prepares tells image script a b before mid now P n (Ok act) is loads stays fell due quiet failed =
    acted tells (call.chart image script a b) before act (quiet None)
    (chart_due tells a b (before.held image) (before.held script) (mid.held script) P n (outcome_of act) is loads due (stays script))
chart_prepares tells image script a b before mid now P n (Err why) is loads stays fell due quiet failed =
    script_unread tells (call.chart image script a b) script before mid now fell why refl
    (of_held tells (before.held image) P (λ bytes. (r : RawImage) × IsImageFile bytes r) is (λ bytes p. ((loads bytes p).file.raw, image_file bytes n (loads bytes p)))) failed
