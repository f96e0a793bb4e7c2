use Rattle.std.proofs.Common.{ℕ, List, sym, subst, ap, ◌∙◌}
use Rattle.std.proofs.lemmas.Result.{IfOk-weaker}
use Rattle.syntax_tree.specs.declared.decl.Program.{Program}
use Rattle.syntax_tree.specs.Placed.{placed}
use Rattle.syntax_tree.specs.Bare.{bare}
use Rattle.syntax_printer.specs.Canonical.{canonical}
use Rattle.command_due.specs.CommandsDue.{IsPrintDue}
use Rattle.command_due.specs.Source.{fault_line}
use Rattle.syntax.specs.Tokens.{longest_text}
use Rattle.command_answers.specs.declared.act.PreparedCall.{PreparedCall}
use Rattle.command_answers.specs.declared.status.Status.TheVariants as status
use Rattle.command_answers.specs.Acts.{number_of, outcome_of}
use Rattle.command_answers.specs.Acting.{puts}
use Rattle.command_answers.specs.Contents.{IsContent}
use Rattle.command_programs.proofs.Refused.{faulty_read, written_print}
use Rattle.command_answers.proofs.Judged.{of_made}
use Rattle.command_programs.proofs.programs.print_act.Goals as goal

pub returns-in_ok-print-in-Ok-clause-due : goal.returns-in_ok-print-in-Ok-clause-due
returns-in_ok-print-in-Ok-clause-due c =
    λ text is. subst (λ (act : PreparedCall). IsPrintDue text (outcome_of act))
    (sym (c.put.ensures ∙ ap (puts status.Done) (c.in_ok-print-in-Ok.ensures ∙ ap (λ (p : Program). canonical (bare (placed p))) c.prog.ensures.tree)))
    (written_print text (placed c.in-Ok.program) (c.in-Ok.ensures text is))

pub returns-in-Err-Text-clause-due : goal.returns-in-Err-Text-clause-due
returns-in-Err-Text-clause-due c =
    of_made c.refuse_text.result (puts status.Text (fault_line c.in-Err-Text.number c.in-Err-Text.place))
    (λ act. (text : List ℕ) → IsContent longest_text c.args.content.now text → IsPrintDue text (outcome_of act))
    c.refuse_text.ensures.act (λ text is. faulty_read c.in-Err-Text.field-0 c.in-Err-Text.number c.in-Err-Text.place c.in-Err-Text.field-0-is text (c.in-Err-Text.ensures text is))

pub returns-in_ok-print-in-Ok-clause-told : goal.returns-in_ok-print-in-Ok-clause-told
returns-in_ok-print-in-Ok-clause-told c = λ text is refused. absurd (refused (ap (λ (act : PreparedCall). number_of act.status) c.put.ensures))

pub returns-in-Err-Text-clause-told : goal.returns-in-Err-Text-clause-told
returns-in-Err-Text-clause-told c = IfOk-weaker c.refuse_text.result _ _ (λ act told. λ text is refused. told text is) c.refuse_text.ensures.told
