-- Calls on the text that `print` has put.
use Rattle.std.proofs.Common.{◌≡◌, ◌≤◌, ◌∙◌, ℕ, List, Option, Some, length, refl, sym, subst, ap, arith}
use Rattle.syntax.specs.Tokens.{longest_text}
use Rattle.syntax_tree.specs.declared.place.Place.{Place}
use Rattle.syntax_tree.specs.Placed.{Prog, plain}
use Rattle.syntax_tree.specs.Plain as plain_of
use Rattle.syntax_tree.specs.Bare.{bare}
use Rattle.syntax_printer.specs.Canonical.{canonical}
use Rattle.image.specs.Named.{NamedImage}
use Rattle.built_image.specs.Built.{IsBuilt, IsLate}
use Rattle.built_image.specs.Shown.{IsTableOf}
use Rattle.command_due.specs.Source.{IsLateText, IsTimelyText, IsWritten, Style, late_report}
use Rattle.command_due.specs.CommandsDue.{IsCompileDue, IsGoDue, IsPrintDue, IsRefused, IsReportDue, Outcome, compile_refused, compiled, faulty, go_bad_script, go_refused, late, print_faulty, printed, report_refused, report_timely, told, went}
use Rattle.command_due_law.specs.DueOnce.{PrintIsOne, WrittenOnce, WrittenOrFaulty}
use Rattle.command_due_law.proofs.DueOnceScripts.{text_once}
use Rattle.sched_table.specs.Report.{report_text}
use Rattle.printed_law.specs.Printed.{PrintedTreesAreWritten}
use Rattle.printed_law.proofs.Printed.{same_plain}
use Rattle.calls_law.specs.Printed.{HaveOneProgram, PrintThenCompileIsTheSame, PrintThenGoIsTheSame, PrintThenPrintKeeps, PrintThenReportIsTheSame, PrintedTextsHaveTheProgram}

-- the program that is printed
record Source (text other : List ℕ) : Type 0 where
  g : Prog Place
  written : IsWritten text g
  is : other ≡ canonical (bare g)

source : (text other : List ℕ) → IsPrintDue text (told 0 other) → Source text other
source text other (print_faulty number place fault same) = let two : 0 ≡ 2 = ap (λ (x : Outcome). x.status) same in absurd (omega (arith, two))
source text other (printed g written same) = record { g = g; written = written; is = ap (λ (x : Outcome). x.text) same }

pub has_program : PrintedTreesAreWritten → PrintedTextsHaveTheProgram
has_program law text other p =
    let s = source text other p.prints in
    let short : length (canonical (bare s.g)) ≤ longest_text = subst (λ (x : List ℕ). length x ≤ longest_text) s.is p.short in
    let again = law text s.g s.written short in
    record { one = s.g; two = again.tree; of_one = s.written; of_two = subst (λ (x : List ℕ). IsWritten x again.tree) (sym s.is) again.written; same = sym again.same }

turned : (text other : List ℕ) → HaveOneProgram text other → HaveOneProgram other text
turned text other x = record { one = x.two; two = x.one; of_one = x.of_two; of_two = x.of_one; same = sym x.same }

module _ (once : WrittenOnce) (sound : WrittenOrFaulty) where
  module _ (text other : List ℕ) (x : HaveOneProgram text other) where
    same_program : (g : Prog Place) → IsWritten text g → plain g ≡ plain x.two
    same_program g written = ap plain (once text g x.one written x.of_one) ∙ same_plain x.one x.two x.same

    timely_too : (over : ℕ) (n : NamedImage) → IsTimelyText over text n → IsTimelyText over other n
    timely_too over n t = record { tree = x.two; written = x.of_two; built = subst (λ (p : plain_of.Program). IsBuilt p over n) (same_program t.tree t.written) t.built }

    late_too : (show : Style) (over : ℕ) (report : List ℕ) → IsLateText show over text report → IsLateText show over other report
    late_too show over report l =
        let same = same_program l.tree l.written in
        record {
          tree = x.two;
          written = x.of_two;
          late = subst (λ (p : plain_of.Program). IsLate p over) same l.late;
          table = l.table;
          tabled = subst (λ (p : plain_of.Program). IsTableOf p over l.table) same l.tabled;
          shown = l.shown ∙ ap (λ (p : plain_of.Program). late_report show p l.table) same;
        }

    refusals : (show : Style) (over : ℕ) (outcome : Outcome) → IsRefused show over text outcome → IsRefused show over other outcome
    refusals show over outcome (faulty number place fault same) = absurd (sound text x.one number place x.of_one fault)
    refusals show over outcome (late report l same) = late report (late_too show over report l) same

    reports : (show : Style) (over : ℕ) (outcome : Outcome) → IsReportDue show over text outcome → IsReportDue show over other outcome
    reports show over outcome (report_refused refused) = report_refused (refusals show over outcome refused)
    reports show over outcome (report_timely n t same) = report_timely n (timely_too over n t) same

    compiles : (over : ℕ) (outcome : Outcome) → IsCompileDue over text outcome → IsCompileDue over other outcome
    compiles over outcome (compile_refused refused) = compile_refused (refusals report_text over outcome refused)
    compiles over outcome (compiled n t same) = compiled n (timely_too over n t) same

    -- what is held of the text
    held_is : (t : List ℕ) → Some text ≡ Some t → t ≡ text
    held_is t held = text_once (Some text) t text held refl

    goes : (over : ℕ) (script : Option (List ℕ)) (outcome : Outcome) → IsGoDue over (Some text) script outcome → IsGoDue over (Some other) script outcome
    goes over script outcome (go_refused t held refused) =
        go_refused other refl (refusals report_text over outcome (subst (λ (y : List ℕ). IsRefused report_text over y outcome) (held_is t held) refused))
    goes over script outcome (go_bad_script t s n fault held timely there bad same) =
        go_bad_script other s n fault refl (timely_too over n (subst (λ (y : List ℕ). IsTimelyText over y n) (held_is t held) timely)) there bad same
    goes over script outcome (went t s n lines end held timely there says same) =
        went other s n lines end refl (timely_too over n (subst (λ (y : List ℕ). IsTimelyText over y n) (held_is t held) timely)) there says same

  module _ (programs : PrintedTextsHaveTheProgram) where
    pub report_is_same : PrintThenReportIsTheSame
    report_is_same show over text other outcome p =
        let x = programs text other p in
        (reports text other x show over outcome, reports other text (turned text other x) show over outcome)

    pub compile_is_same : PrintThenCompileIsTheSame
    compile_is_same over text other outcome p =
        let x = programs text other p in
        (compiles text other x over outcome, compiles other text (turned text other x) over outcome)

    pub go_is_same : PrintThenGoIsTheSame
    go_is_same over text other script outcome p =
        let x = programs text other p in
        (goes text other x over script outcome, goes other text (turned text other x) over script outcome)

    pub print_again : PrintIsOne → PrintThenPrintKeeps
    print_again only text other p =
        let x = programs text other p in
        let s = source text other p.prints in
        let same : other ≡ canonical (bare x.two) = s.is ∙ ap (λ (g : Prog Place). canonical (bare g)) (once text s.g x.one s.written x.of_one) ∙ ap canonical x.same in
        let own : IsPrintDue other (told 0 other) = printed x.two x.of_two (ap (told 0) same) in
        record { is = own; only = λ another also. only other another (told 0 other) also own }
