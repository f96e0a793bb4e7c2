use Rattle.std.proofs.Common.{List, ℕ, ap}
use Rattle.std.proofs.lemmas.Result.{IfOk-weaker}
use Rattle.command_due.specs.CommandsDue.{IsReportDue}
use Rattle.syntax.specs.Tokens.{longest_text}
use Rattle.command_answers.specs.declared.act.PreparedCall.{PreparedCall}
use Rattle.command_answers.specs.declared.status.Status.TheVariants as status
use Rattle.command_answers.specs.Acts.{number_of, outcome_of}
use Rattle.command_answers.specs.Acting.{puts}
use Rattle.command_answers.specs.Contents.{IsContent}
use Rattle.command_programs.specs.Formats.{shown}
use Rattle.command_answers.proofs.Judged.{of_made}
use Rattle.command_programs.proofs.Refused.{refused_report, timely_report}
use Rattle.command_programs.proofs.programs.report_act.Goals as goal

pub returns-in-Ok-clause-due : goal.returns-in-Ok-clause-due
returns-in-Ok-clause-due c =
    of_made c.put_report.result (puts status.Done (shown c.args.format c.in-Ok.built.image.names c.in-Ok.built.image.program c.in-Ok.built.table))
    (λ act. (text : List ℕ) → IsContent longest_text c.args.content.now text → IsReportDue (shown c.args.format) c.args.over text (outcome_of act))
    c.put_report.ensures (λ text is. timely_report (shown c.args.format) c.args.over text c.in-Ok.built (c.in-Ok.ensures.compiles text is))

pub returns-in-Err-clause-due : goal.returns-in-Err-clause-due
returns-in-Err-clause-due c =
    refused_report (shown c.args.format) c.args.over c.in-Err.fault (IsContent longest_text c.args.content.now) c.refuse.result c.in-Err.ensures.compiles c.refuse.ensures.due

pub returns-in-Ok-clause-told : goal.returns-in-Ok-clause-told
returns-in-Ok-clause-told c =
    IfOk-weaker c.put_report.result _ _ (λ act put. λ text is refused. absurd (refused (ap (λ (it : PreparedCall). number_of it.status) put))) c.put_report.ensures

pub returns-in-Err-clause-told : goal.returns-in-Err-clause-told
returns-in-Err-clause-told c = IfOk-weaker c.refuse.result _ _ (λ act told. λ text is refused. told text is (c.in-Err.ensures.compiles text is)) c.refuse.ensures.told
