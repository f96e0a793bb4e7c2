use Rattle.std.proofs.lemmas.Result.{IfOk-weaker}
use Rattle.syntax.specs.Tokens.{longest_text}
use Rattle.command_answers.specs.Contents.{IsContent}
use Rattle.command_programs.proofs.Refused.{refused_slack, told_over}
use Rattle.command_programs.proofs.programs.slack_act.Goals as goal

pub returns-in-Ok-clause-due : goal.returns-in-Ok-clause-due
returns-in-Ok-clause-due c = told_over c.args.over c.in-Ok.built (IsContent longest_text c.args.content.now) c.put_slack.result c.in-Ok.ensures.compiles c.put_slack.ensures.due

pub returns-in-Err-clause-due : goal.returns-in-Err-clause-due
returns-in-Err-clause-due c = refused_slack c.args.over c.in-Err.fault (IsContent longest_text c.args.content.now) c.refuse.result c.in-Err.ensures.compiles c.refuse.ensures.due

pub returns-in-Ok-clause-told : goal.returns-in-Ok-clause-told
returns-in-Ok-clause-told c = IfOk-weaker c.put_slack.result _ _ (λ act zero. λ text is refused. absurd (refused zero)) c.put_slack.ensures.succeeds

pub returns-in-Err-clause-told : goal.returns-in-Err-clause-told
returns-in-Err-clause-told c = IfOk-weaker c.refuse.result _ _ (λ act told. λ text is refused. told text is (c.in-Err.ensures.compiles text is)) c.refuse.ensures.told
