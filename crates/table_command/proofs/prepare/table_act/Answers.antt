use Rattle.std.proofs.Common.{ap}
use Rattle.std.proofs.lemmas.Result.{IfOk-weaker}
use Rattle.command_answers.specs.Contents.{IsContent}
use Rattle.command_due.specs.CommandsDue.{Outcome}
use Rattle.table_format.specs.Rules.{longest_text}
use Rattle.table_command.proofs.Told.{refused_table, tabled_text}
use Rattle.table_command.proofs.prepare.table_act.Goals as goal

pub returns-in-Ok-clause-due : goal.returns-in-Ok-clause-due
returns-in-Ok-clause-due c = tabled_text c.in-Ok.table (IsContent longest_text c.args.content.now) c.store_program.result c.in-Ok.ensures c.store_program.ensures.outcome

-- the text is stored with status 0
pub returns-in-Ok-clause-told : goal.returns-in-Ok-clause-told
returns-in-Ok-clause-told c =
    IfOk-weaker c.store_program.result _ _ (λ act stores text is refused. absurd (refused (ap (λ (o : Outcome). o.status) stores))) c.store_program.ensures.outcome

pub returns-in-Err-clause-due : goal.returns-in-Err-clause-due
returns-in-Err-clause-due c = refused_table c.in-Err.fault (IsContent longest_text c.args.content.now) c.refuse.result c.in-Err.ensures c.refuse.ensures.due

pub returns-in-Err-clause-told : goal.returns-in-Err-clause-told
returns-in-Err-clause-told c = IfOk-weaker c.refuse.result _ _ (λ act told text is refused. told text is) c.refuse.ensures.told
