-- What is due of texts, by what was answered of them.
use Rattle.std.proofs.Common.{◌≡◌, ℕ, List, [], ◌++◌, Option, Some, Ok, Err, subst, ap, ◌∙◌}
use Rattle.std.specs.Prelude.{Result, IfOk}
use Rattle.std.proofs.lemmas.List.{append-nil}
use Rattle.syntax_tree.specs.declared.place.Place.{Place}
use Rattle.syntax_tree.specs.Placed.{Prog}
use Rattle.syntax_tree.specs.Bare.{bare}
use Rattle.image.specs.Raw.{named_of}
use Rattle.syntax_printer.specs.Canonical.{canonical}
use Rattle.sched_table.specs.Report.{report_text}
use Rattle.compile.specs.declared.built.Built.{Built}
use Rattle.compile.specs.declared.built.LateProgram.{LateProgram}
use Rattle.command_due.specs.Source.{Style, IsWritten, IsTextFault, fault_line}
use Rattle.command_due.specs.CommandsDue.{Outcome, told, IsRefused, faulty, late, IsReportDue, report_refused, report_timely, IsPrintDue, print_faulty, printed, IsCompileDue, compile_refused, compiled, stored}
use Rattle.command_due.specs.SpareDue.{IsSlackDue, slack_refused, slack_told}
use Rattle.command_due.specs.Lines.{IsSlackText}
use Rattle.compile.specs.Compile.{Compiles, IsImageOf, IsLateWith}
use Rattle.compile.specs.declared.compiling.CompileFault.{CompileFault}
use Rattle.compile.specs.declared.compiling.CompileFault.TheVariants as compile_fault
use Rattle.compile.specs.Written.{ReadsWritten}
use Rattle.compile.specs.declared.read_text.ProgramTextFault.{ProgramTextFault}
use Rattle.compile.specs.declared.read_text.ProgramTextFault.TheVariants as text_fault
use Rattle.command_answers.specs.declared.act.PreparedCall.{PreparedCall}
use Rattle.command_answers.specs.declared.status.Status.TheVariants as status
use Rattle.command_answers.specs.Acts.{outcome_of}
use Rattle.command_answers.specs.Acting.{puts}
use Rattle.command_answers.proofs.Coming.{outcome_of_puts}

abbrev comes_to : ℕ → List ℕ → Option (List ℕ) → Outcome
comes_to status text image = record { status = status; text = text; image = image }

-- ---- texts

pub faulty_text : (show : Style) (why : CompileFault) (number : ℕ) (place : Place) → why ≡ compile_fault.Text number place → (over : ℕ) (text : List ℕ) → Compiles over text (Err why)
    → IsRefused show over text (outcome_of (puts status.Text (fault_line number place)))
faulty_text show why number place is over text answer =
    faulty number place (subst (λ (w : CompileFault). Compiles over text (Err w)) is answer) (outcome_of_puts status.Text (fault_line number place))

pub late_text : (show : Style) (why : CompileFault) (l : LateProgram) → why ≡ compile_fault.Untimely l → (over : ℕ) (text : List ℕ) → Compiles over text (Err why)
    → IsRefused show over text (outcome_of (puts status.Late (show l.names l.program l.table)))
late_text show why l is over text answer =
    let told_late : IsLateWith over text l = subst (λ (w : CompileFault). Compiles over text (Err w)) is answer in
    late (show l.names l.program l.table) (told_late.late show) (outcome_of_puts status.Late (show l.names l.program l.table))

pub timely_report : (show : Style) (over : ℕ) (text : List ℕ) (b : Built) → IsImageOf over text b
    → IsReportDue show over text (outcome_of (puts status.Done (show b.image.names b.image.program b.table)))
timely_report show over text b image =
    report_timely (named_of b.image) image.timely (outcome_of_puts status.Done (show b.image.names b.image.program b.table) ∙ ap (told 0) (image.report show))

pub refused_report : {E : Type 0} (show : Style) (over : ℕ) (why : CompileFault) (P : List ℕ → Type 0) (made : Result PreparedCall E) → ((text : List ℕ) → P text → Compiles over text (Err why))
    → IfOk made (λ act. (k : ℕ) (text : List ℕ) → Compiles k text (Err why) → IsRefused show k text (outcome_of act))
    → IfOk made (λ act. (text : List ℕ) → P text → IsReportDue show over text (outcome_of act))
refused_report show over why P (Ok act) answer due = λ text p. report_refused (due over text (answer text p))
refused_report show over why P (Err e) answer due = tt

pub told_slack : (over : ℕ) (text : List ℕ) (b : Built) (lines : List ℕ) → IsImageOf over text b → IsSlackText (named_of b.image) lines → IsSlackDue over text (outcome_of (puts status.Done lines))
told_slack over text b lines image is = slack_told (named_of b.image) lines image.timely is (outcome_of_puts status.Done lines)

pub told_over : {E : Type 0} (over : ℕ) (b : Built) (P : List ℕ → Type 0) (made : Result PreparedCall E) → ((text : List ℕ) → P text → IsImageOf over text b)
    → IfOk made (λ act. (k : ℕ) (text : List ℕ) → IsImageOf k text b → IsSlackDue k text (outcome_of act))
    → IfOk made (λ act. (text : List ℕ) → P text → IsSlackDue over text (outcome_of act))
told_over over b P (Ok act) image due = λ text p. due over text (image text p)
told_over over b P (Err e) image due = tt

pub refused_slack : {E : Type 0} (over : ℕ) (why : CompileFault) (P : List ℕ → Type 0) (made : Result PreparedCall E) → ((text : List ℕ) → P text → Compiles over text (Err why))
    → IfOk made (λ act. (k : ℕ) (text : List ℕ) → Compiles k text (Err why) → IsRefused report_text k text (outcome_of act))
    → IfOk made (λ act. (text : List ℕ) → P text → IsSlackDue over text (outcome_of act))
refused_slack over why P (Ok act) answer due = λ text p. slack_refused (due over text (answer text p))
refused_slack over why P (Err e) answer due = tt

faulty_print : (text : List ℕ) (number : ℕ) (place : Place) → IsTextFault text number place → IsPrintDue text (outcome_of (puts status.Text (fault_line number place)))
faulty_print text number place is = print_faulty number place is (outcome_of_puts status.Text (fault_line number place))

pub faulty_read : (why : ProgramTextFault) (number : ℕ) (place : Place) → why ≡ text_fault.Text number place → (text : List ℕ) → ReadsWritten text (Err why)
    → IsPrintDue text (outcome_of (puts status.Text (fault_line number place)))
faulty_read why number place is text answer = faulty_print text number place (subst (λ (w : ProgramTextFault). ReadsWritten text (Err w)) is answer)

pub written_print : (text : List ℕ) (g : Prog Place) → IsWritten text g → IsPrintDue text (outcome_of (puts status.Done (canonical (bare g))))
written_print text g is = printed g is (outcome_of_puts status.Done (canonical (bare g)))

pub stored_outcome : (text report bytes kept : List ℕ) → text ≡ report → bytes ≡ kept → comes_to 0 (text ++ []) (Some bytes) ≡ comes_to 0 report (Some kept)
stored_outcome text report bytes kept text_is bytes_are =
    ap (λ (t : List ℕ). comes_to 0 t (Some bytes)) (append-nil text ∙ text_is) ∙ ap (λ (b : List ℕ). comes_to 0 report (Some b)) bytes_are

pub stored_compile : {E : Type 0} (over : ℕ) (b : Built) (P : List ℕ → Type 0) (made : Result PreparedCall E) → ((text : List ℕ) → P text → IsImageOf over text b)
    → IfOk made (λ act. (k : ℕ) (text : List ℕ) → IsImageOf k text b → IsCompileDue k text (outcome_of act))
    → IfOk made (λ act. (text : List ℕ) → P text → IsCompileDue over text (outcome_of act))
stored_compile over b P (Ok act) image due = λ text p. due over text (image text p)
stored_compile over b P (Err e) image due = tt

pub compiled_text : (over : ℕ) (text : List ℕ) (b : Built) (outcome : Outcome) → IsImageOf over text b
    → outcome ≡ comes_to 0 (report_text b.image.names b.image.program b.table) (Some (stored (named_of b.image))) → IsCompileDue over text outcome
compiled_text over text b outcome image is =
    compiled (named_of b.image) image.timely (is ∙ ap (λ (shown : List ℕ). comes_to 0 shown (Some (stored (named_of b.image)))) (image.report report_text))

pub refused_compile : {E : Type 0} (over : ℕ) (why : CompileFault) (P : List ℕ → Type 0) (made : Result PreparedCall E) → ((text : List ℕ) → P text → Compiles over text (Err why))
    → IfOk made (λ act. (k : ℕ) (text : List ℕ) → Compiles k text (Err why) → IsRefused report_text k text (outcome_of act))
    → IfOk made (λ act. (text : List ℕ) → P text → IsCompileDue over text (outcome_of act))
refused_compile over why P (Ok act) answer due = λ text p. compile_refused (due over text (answer text p))
refused_compile over why P (Err e) answer due = tt
