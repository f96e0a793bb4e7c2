-- What is due of programs, by what files hold.
use Rattle.std.proofs.Common.{◌≡◌, ℕ, List, Option, Some, None, Bool, true, false, Ok, Err, refl, subst, ap, ◌∙◌}
use Rattle.std.specs.Prelude.{Result, IfErr, IfOk, IsSomeAnd}
use Rattle.std.specs.Bool.{OnTrue}
use Rattle.image.specs.Raw.{named_of}
use Rattle.image.specs.Named.{NamedImage}
use Rattle.outside.specs.Outside.{FilesState, AllStay, NoneFell}
use Rattle.sched_table.specs.Report.{report_text}
use Rattle.sched_table.specs.Json.{report_json}
use Rattle.command_words.specs.Calls as call
use Rattle.compile.specs.declared.built.Built.{Built}
use Rattle.command_due.specs.Source.{IsTimelyText}
use Rattle.command_due.specs.CommandsDue.{Outcome, IsRefused, IsReportDue, IsGoDue, go_refused, go_bad_script, went}
use Rattle.compile.specs.Compile.{IsImageOf}
use Rattle.command_answers.specs.declared.act.PreparedCall.{PreparedCall}
use Rattle.command_answers.specs.Acts.{outcome_of}
use Rattle.command_answers.specs.declared.prepare_error.PrepareError.{PrepareError}
use Rattle.command_programs.specs.declared.programs.Format.{Format}
use Rattle.command_programs.specs.declared.programs.Format.TheVariants as format
use Rattle.command_answers.specs.Acting.{CanBeDone, IsQuiet}
use Rattle.command_programs.specs.Formats.{report_call, shown}
use Rattle.command_answers.specs.Prepared.{IsPrepared, IsReadError, Prepares}
use Rattle.command_answers.specs.Scripted as scripted
use Rattle.command_programs.specs.Scripted.{IsBuiltRunDue, bytes_for}
use Rattle.command_answers.proofs.Held.{of_held, acted, first_unread, script_unread}

pub reported : (tells : Bool) (format : Format) (program : List ℕ) (over : ℕ) (before : FilesState) (act : PreparedCall) (P : List ℕ → Type 0)
    → IsQuiet act → OnTrue tells (IsSomeAnd (before.held program) P) → ((text : List ℕ) → P text → IsReportDue (shown format) over text (outcome_of act))
    → IsPrepared tells (report_call format program over) before act
reported tells format.Text program over before act P quiet is due =
    acted tells (call.check program over) before act (quiet None) (of_held tells (before.held program) P (λ text. IsReportDue report_text over text (outcome_of act)) is due)
reported tells format.Json program over before act P quiet is due =
    acted tells (call.json program over) before act (quiet None) (of_held tells (before.held program) P (λ text. IsReportDue report_json over text (outcome_of act)) is due)

pub report_unread : (tells : Bool) (format : Format) (program : List ℕ) (over : ℕ) (before now : FilesState) (why : PrepareError)
    → IsReadError program before now why → Prepares tells (report_call format program over) before now (Err why)
report_unread tells format.Text program over before now why error = first_unread tells (call.check program over) program before now why refl error
report_unread tells format.Json program over before now why error = first_unread tells (call.json program over) program before now why refl error

-- ---- `go`

go_over : (over : ℕ) (text other : List ℕ) (b : Built) (outcome : Outcome) → IsImageOf over text b → IsBuiltRunDue b other outcome → IsGoDue over (Some text) (Some other) outcome
go_over over text other b outcome image (scripted.misspelled fault wrong is) = go_bad_script text other (named_of b.image) fault refl image.timely refl wrong is
go_over over text other b outcome image (scripted.is_run lines end script is) =
    went text other (named_of b.image) lines end refl image.timely refl script
    (is ∙ ap (λ (front : List ℕ). scripted.ran front (bytes_for b) (named_of b.image) lines end) (image.report report_text))

go_due : (tells : Bool) (over : ℕ) (held script mid : Option (List ℕ)) (P : List ℕ → Type 0) (b : Built) (outcome : Outcome)
    → OnTrue tells (IsSomeAnd held P) → ((text : List ℕ) → P text → IsImageOf over text b)
    → OnTrue tells (IsSomeAnd mid (λ other. IsBuiltRunDue b other outcome)) → mid ≡ script → OnTrue tells (IsGoDue over held script outcome)
go_due true over (Some text) script mid P b outcome is compiles due stays = by script (subst (λ (o : Option (List ℕ)). IsSomeAnd o (λ other. IsBuiltRunDue b other outcome)) stays due)
  where
    by : (o : Option (List ℕ)) → IsSomeAnd o (λ other. IsBuiltRunDue b other outcome) → IsGoDue over (Some text) o outcome
    by (Some other) due = go_over over text other b outcome (compiles text is) due
    by None due = absurd due
go_due true over None script mid P b outcome is compiles due stays = absurd is
go_due false over held script mid P b outcome is compiles due stays = tt

pub go_stops : (tells : Bool) (over : ℕ) (held script : Option (List ℕ)) (P : List ℕ → Type 0) (outcome : Outcome)
    → OnTrue tells (IsSomeAnd held P) → ((text : List ℕ) → P text → IsRefused report_text over text outcome) → OnTrue tells (IsGoDue over held script outcome)
go_stops true over (Some text) script P outcome is refused = go_refused text refl (refused text is)
go_stops true over None script P outcome is refused = absurd is
go_stops false over held script P outcome is refused = tt

timely : (over : ℕ) (text : List ℕ) (b : Built) → IsImageOf over text b → (n : NamedImage) × IsTimelyText over text n
timely over text b image = (named_of b.image, image.timely)

pub go_prepares : (tells : Bool) (program image script : List ℕ) (over : ℕ) (before mid now : FilesState) (P : List ℕ → Type 0) (b : Built) (result : Result PreparedCall PrepareError)
    → OnTrue tells (IsSomeAnd (before.held program) P) → ((text : List ℕ) → P text → IsImageOf over text b) → AllStay before.held mid.held → NoneFell before.read_faults mid.read_faults
    → IfOk result (λ act. OnTrue tells (IsSomeAnd (mid.held script) (λ other. IsBuiltRunDue b other (outcome_of act)))) → IfOk result (CanBeDone (Some image))
    → IfErr result (IsReadError script mid now) → Prepares tells (call.go program image script over) before now result
go_prepares tells program image script over before mid now P b (Ok act) is compiles stays fell due can failed =
    acted tells (call.go program image script over) before act can
    (go_due tells over (before.held program) (before.held script) (mid.held script) P b (outcome_of act) is compiles due (stays script))
go_prepares tells program image script over before mid now P b (Err why) is compiles stays fell due can failed =
    script_unread tells (call.go program image script over) script before mid now fell why refl
    (of_held tells (before.held program) P (λ text. (n : NamedImage) × IsTimelyText over text n) is (λ text p. timely over text b (compiles text p))) failed
