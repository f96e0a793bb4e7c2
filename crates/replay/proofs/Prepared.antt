-- What is due of `replay`, by what files hold.
use Rattle.std.proofs.Common.{◌≡◌, ◌≢◌, ◌<◌, ◌^◌, ◌⊎◌, ℕ, List, Option, Some, None, Bool, true, false, Ok, Err, inl, inr, arith, refl, subst, sym, ap}
use Rattle.std.specs.Prelude.{Result, IfErr, IfOk, IsSomeAnd}
use Rattle.std.specs.Bool.{OnTrue}
use Rattle.out_of_memory.specs.Refused.{refused}
use Rattle.syntax_tree.specs.declared.place.Place.{Place}
use Rattle.syntax_tree.specs.Placed.{Prog, plain}
use Rattle.outside.specs.Outside.{FilesState, AllStay, NoneFell}
use Rattle.image.specs.declared.names.ImageNames.{ImageNames}
use Rattle.script.specs.declared.script.ScriptLine.{ScriptLine}
use Rattle.script.specs.declared.fault.ScriptFault.{ScriptFault}
use Rattle.script.specs.declared.fault.ScriptFault.TheVariants as fault
use Rattle.script.specs.Faults.{IsFault}
use Rattle.script.specs.Scripts.{IsScript}
use Rattle.built_image.specs.Named.{names_of}
use Rattle.command_words.specs.Calls as call
use Rattle.command_due.specs.Source.{IsWritten, fault_line}
use Rattle.command_due.specs.Script.{script_fault_line}
use Rattle.command_due.specs.CommandsDue.{Outcome, bad_script}
use Rattle.compile.specs.Written.{ReadsWritten}
use Rattle.compile.specs.declared.read_text.ProgramTextFault.{ProgramTextFault}
use Rattle.compile.specs.declared.read_text.ProgramTextFault.TheVariants as text_fault
use Rattle.command_due.specs.ReplayDue.{IsJudged, IsRecordedFor, IsReplayDue, replay_faulty, replay_bad_script, replay_judged}
use Rattle.command_answers.specs.declared.act.PreparedCall.{PreparedCall}
use Rattle.command_answers.specs.declared.status.Status.TheVariants as status
use Rattle.command_answers.specs.Acts.{outcome_of}
use Rattle.command_answers.specs.declared.prepare_error.PrepareError.{PrepareError}
use Rattle.command_answers.specs.declared.prepare_error.PrepareError.TheVariants as unready
use Rattle.command_answers.specs.Acting.{IsQuiet, puts}
use Rattle.command_answers.specs.Prepared.{Failed, IsReadError, Prepares}
use Rattle.command_answers.proofs.Coming.{outcome_of_puts, put_comes_to}
use Rattle.command_answers.proofs.Held.{acted, of_held, rose_since}
use Rattle.replay.specs.Scripted.{IsLaterError, IsReplayed, IsScriptFor, judged, misspelled}

pub faulty_replay : (why : ProgramTextFault) (number : ℕ) (place : Place) → why ≡ text_fault.Text number place → (text : List ℕ) (script log : Option (List ℕ)) → ReadsWritten text (Err why)
    → IsReplayDue (Some text) script log (outcome_of (puts status.Text (fault_line number place)))
faulty_replay why number place is text script log answer =
    replay_faulty text number place refl (subst (λ (w : ProgramTextFault). ReadsWritten text (Err w)) is answer) (outcome_of_puts status.Text (fault_line number place))

pub stops : (tells : Bool) (held script log : Option (List ℕ)) (P : List ℕ → Type 0) (outcome : Outcome) → OnTrue tells (IsSomeAnd held P)
    → ((text : List ℕ) → P text → IsReplayDue (Some text) script log outcome) → OnTrue tells (IsReplayDue held script log outcome)
stops true (Some text) script log P outcome is due = due text is
stops true None script log P outcome is due = absurd is
stops false held script log P outcome is due = tt

-- a script ends within ten digits
pub soon_ended : (names : ImageNames) (lines : List ScriptLine) (end : ℕ) → (text : List ℕ) × IsScript names text lines end → end < 2 ^ 61
soon_ended names lines end (text, is) = omega (arith, is.form)

-- ---- the script, and the log where it is one

module _ (tells : Bool) (g : Prog Place) (names : ImageNames) (same : names ≡ names_of (plain g)) (script log : List ℕ) (before mid now : FilesState) (P : List ℕ → Type 0) where
  is_for : (text : List ℕ) (lines : List ScriptLine) (end : ℕ) → IsScript names text lines end → IsScript (names_of (plain g)) text lines end
  is_for text lines end is = subst (λ (n : ImageNames). IsScript n text lines end) same is

  on_log : (t : Bool) (held other later : Option (List ℕ)) (lines : List ScriptLine) (end : ℕ) (outcome : Outcome) → OnTrue t (IsSomeAnd held P)
      → ((text : List ℕ) → P text → IsScript names text lines end) → OnTrue t (IsSomeAnd later (λ text. IsJudged g lines end text outcome)) → later ≡ other
      → OnTrue t (IsReplayed g held other outcome)
  on_log true (Some text) other later lines end outcome is right due stays = by other (subst (λ (o : Option (List ℕ)). IsSomeAnd o (λ x. IsJudged g lines end x outcome)) stays due)
    where
      by : (o : Option (List ℕ)) → IsSomeAnd o (λ x. IsJudged g lines end x outcome) → IsReplayed g (Some text) o outcome
      by (Some x) due = judged text lines end x refl (is_for text lines end (right text is)) refl due
      by None due = absurd due
  on_log true None other later lines end outcome is right due stays = absurd is
  on_log false held other later lines end outcome is right due stays = tt

  pub log_due : (lines : List ScriptLine) (end : ℕ) (result : Result PreparedCall PrepareError) → OnTrue tells (IsSomeAnd (before.held script) P)
      → ((text : List ℕ) → P text → IsScript names text lines end) → AllStay before.held mid.held
      → IfOk result (λ act. OnTrue tells (IsSomeAnd (mid.held log) (λ text. IsJudged g lines end text (outcome_of act))))
      → IfOk result (λ act. OnTrue tells (IsReplayed g (before.held script) (before.held log) (outcome_of act)))
  log_due lines end (Ok act) is right stays due = on_log tells (before.held script) (before.held log) (mid.held log) lines end (outcome_of act) is right due (stays log)
  log_due lines end (Err why) is right stays due = tt

  log_error : (lines : List ScriptLine) (end : ℕ) (why : PrepareError) → OnTrue tells (IsSomeAnd (before.held script) P) → ((text : List ℕ) → P text → IsScript names text lines end)
      → NoneFell before.read_faults mid.read_faults → IsReadError log mid now why → IsLaterError tells g before now script log why
  log_error lines end (unready.Unread name) is right fell (at, failed) = (
    subst (Failed before now) (sym at) (rose_since (before.read_faults log) (mid.read_faults log) (now.read_faults log) (fell log) failed),
    inr (at, of_held tells (before.held script) P (IsScriptFor g) is (λ text p. (lines, end, is_for text lines end (right text p)))),
  )
  log_error lines end (unready.Memory _) is right fell failed = tt

  pub log_failed : (lines : List ScriptLine) (end : ℕ) (result : Result PreparedCall PrepareError) → OnTrue tells (IsSomeAnd (before.held script) P)
      → ((text : List ℕ) → P text → IsScript names text lines end) → NoneFell before.read_faults mid.read_faults
      → IfErr result (IsReadError log mid now) → IfErr result (IsLaterError tells g before now script log)
  log_failed lines end (Ok act) is right fell failed = tt
  log_failed lines end (Err why) is right fell failed = log_error lines end why is right fell failed

  bad : (t : Bool) (held other : Option (List ℕ)) (why : ScriptFault) (outcome : Outcome) → OnTrue t (IsSomeAnd held P)
      → ((text : List ℕ) → P text → (why ≡ fault.Memory refused) ⊎ IsFault names text why) → why ≢ fault.Memory refused → outcome ≡ bad_script why
      → OnTrue t (IsReplayed g held other outcome)
  bad true (Some text) other why outcome is wrong right_fault comes = elim (wrong text is) [
    | inl memory ↦ absurd (right_fault memory)
    | inr f ↦ misspelled text why refl (subst (λ (n : ImageNames). IsFault n text why) same f) right_fault comes
  ]
  bad true None other why outcome is wrong right_fault comes = absurd is
  bad false held other why outcome is wrong right_fault comes = tt

  pub script_bad : (why : ScriptFault) (act : PreparedCall) → OnTrue tells (IsSomeAnd (before.held script) P)
      → ((text : List ℕ) → P text → (why ≡ fault.Memory refused) ⊎ IsFault names text why) → why ≢ fault.Memory refused → act ≡ puts status.Script (script_fault_line why)
      → OnTrue tells (IsReplayed g (before.held script) (before.held log) (outcome_of act))
  script_bad why act is wrong right_fault made =
      bad tells (before.held script) (before.held log) why (outcome_of act) is wrong right_fault (put_comes_to status.Script (script_fault_line why) act made)

-- ---- the program

module _ (tells : Bool) (program script log : List ℕ) (before mid now : FilesState) (P : List ℕ → Type 0) where
  of_replayed : (text : List ℕ) (g : Prog Place) (held other : Option (List ℕ)) (outcome : Outcome) → IsWritten text g → IsReplayed g held other outcome → IsReplayDue (Some text) held other outcome
  of_replayed text g held other outcome w (misspelled x why is wrong right_fault same) = replay_bad_script text x g why refl w is wrong right_fault same
  of_replayed text g held other outcome w (judged x lines end y is right there due) =
      replay_judged g lines end y (record { text = text; is_held = refl; written = w; other = x; script_held = is; script_written = right }) there due

  due_of : (t : Bool) (held a b c d : Option (List ℕ)) (g : Prog Place) (outcome : Outcome) → OnTrue t (IsSomeAnd held P) → ((text : List ℕ) → P text → IsWritten text g)
      → OnTrue t (IsReplayed g a b outcome) → a ≡ c → b ≡ d → OnTrue t (IsReplayDue held c d outcome)
  due_of true (Some text) a b c d g outcome is written due one two =
      of_replayed text g c d outcome (written text is) (subst (λ (y : Option (List ℕ)). IsReplayed g c y outcome) two (subst (λ (x : Option (List ℕ)). IsReplayed g x b outcome) one due))
  due_of true None a b c d g outcome is written due one two = absurd is
  due_of false held a b c d g outcome is written due one two = tt

  recorded : (t : Bool) (held a c : Option (List ℕ)) (g : Prog Place) → OnTrue t (IsSomeAnd held P) → ((text : List ℕ) → P text → IsWritten text g)
      → OnTrue t (IsSomeAnd a (IsScriptFor g)) → a ≡ c → OnTrue t (IsRecordedFor held c)
  recorded true (Some text) a c g is written right same = by c (subst (λ (o : Option (List ℕ)). IsSomeAnd o (IsScriptFor g)) same right)
    where
      by : (o : Option (List ℕ)) → IsSomeAnd o (IsScriptFor g) → IsRecordedFor (Some text) o
      by (Some x) for = (g, for.0, for.1, record { text = text; is_held = refl; written = written text is; other = x; script_held = refl; script_written = for.2 })
      by None for = absurd for
  recorded true None a c g is written right same = absurd is
  recorded false held a c g is written right same = tt

  later_failed : (g : Prog Place) (why : PrepareError) → OnTrue tells (IsSomeAnd (before.held program) P) → ((text : List ℕ) → P text → IsWritten text g)
      → AllStay before.held mid.held → NoneFell before.read_faults mid.read_faults → IsLaterError tells g mid now script log why
      → Prepares tells (call.replay program script log) before now (Err why)
  later_failed g (unready.Unread name) is written stays fell (failed, of) = (
    rose_since (before.read_faults name.now) (mid.read_faults name.now) (now.read_faults name.now) (fell name.now) failed,
    elim of [
      | inl at ↦ inr (inl (
        ap (λ (n : List ℕ). Some n) (sym at),
        of_held tells (before.held program) P (λ text. (h : Prog Place) × IsWritten text h) is (λ text p. (g, written text p)),
      ))
      | inr (at, right) ↦ inr (inr (
        ap (λ (n : List ℕ). Some n) (sym at),
        recorded tells (before.held program) (mid.held script) (before.held script) g is written right (stays script),
      ))
    ],
  )
  later_failed g (unready.Memory _) is written stays fell error = tt

  pub replay_prepares : (g : Prog Place) (result : Result PreparedCall PrepareError) → OnTrue tells (IsSomeAnd (before.held program) P) → ((text : List ℕ) → P text → IsWritten text g)
      → AllStay before.held mid.held → NoneFell before.read_faults mid.read_faults
      → IfOk result (λ act. OnTrue tells (IsReplayed g (mid.held script) (mid.held log) (outcome_of act))) → IfOk result IsQuiet
      → IfErr result (IsLaterError tells g mid now script log) → Prepares tells (call.replay program script log) before now result
  replay_prepares g (Ok act) is written stays fell due quiet failed =
      acted tells (call.replay program script log) before act (quiet None)
      (due_of tells (before.held program) (mid.held script) (mid.held log) (before.held script) (before.held log) g (outcome_of act) is written due (stays script) (stays log))
  replay_prepares g (Err why) is written stays fell due quiet failed = later_failed g why is written stays fell failed
