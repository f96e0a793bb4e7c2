use Rattle.std.proofs.Common.{ℕ, List, Err, inl, sym, subst, ap, ◌∙◌}
use Rattle.std.proofs.lemmas.Result.{IfOk-weaker}
use Rattle.command_due.specs.CommandsDue.{IsRefused}
use Rattle.command_due.specs.Source.{fault_line}
use Rattle.compile.specs.Compile.{Compiles}
use Rattle.command_answers.specs.declared.act.PreparedCall.{PreparedCall}
use Rattle.command_answers.specs.declared.status.Status.TheVariants as status
use Rattle.command_answers.specs.Acts.{outcome_of}
use Rattle.command_answers.specs.Acting.{puts}
use Rattle.command_programs.specs.Formats.{shown}
use Rattle.command_programs.proofs.Refused.{faulty_text, late_text}
use Rattle.command_answers.proofs.Judged.{of_made}
use Rattle.command_programs.proofs.Explained.{late_told}
use Rattle.command_programs.proofs.programs.refuse.Goals as goal

pub returns-in-Text-clause-due : goal.returns-in-Text-clause-due
returns-in-Text-clause-due c =
    of_made c.refuse_text.result (puts status.Text (fault_line c.in-Text.number c.in-Text.place))
    (λ act. (over : ℕ) (text : List ℕ) → Compiles over text (Err c.args.fault) → IsRefused (shown c.args.format) over text (outcome_of act))
    c.refuse_text.ensures.act (faulty_text (shown c.args.format) c.args.fault c.in-Text.number c.in-Text.place c.in-Text.is)

pub returns-in_ok-text-in-Untimely-clause-due : goal.returns-in_ok-text-in-Untimely-clause-due
returns-in_ok-text-in-Untimely-clause-due c =
    λ over text answer. subst (λ (act : PreparedCall). IsRefused (shown c.args.format) over text (outcome_of act))
    (sym (c.put.ensures ∙ ap (puts status.Late) c.in_ok-text-in-Untimely.ensures))
    (late_text (shown c.args.format) c.args.fault c.in-Untimely.late c.in-Untimely.is over text answer)

pub returns-in-Text-clause-told : goal.returns-in-Text-clause-told
returns-in-Text-clause-told c = IfOk-weaker c.refuse_text.result _ _ (λ act told. λ text is answer. inl (told text is)) c.refuse_text.ensures.told

pub returns-in_ok-text-in-Untimely-clause-told : goal.returns-in_ok-text-in-Untimely-clause-told
returns-in_ok-text-in-Untimely-clause-told c =
    λ text is answer. late_told c.args.file.now c.args.over text c.args.fault c.in-Untimely.late c.put.result _ _ c.in-Untimely.is answer c.put.ensures c.in_ok-message-in-Untimely.ensures
