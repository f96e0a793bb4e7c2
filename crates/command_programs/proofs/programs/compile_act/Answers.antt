use Rattle.std.proofs.lemmas.Result.{IfOk-weaker}
use Rattle.syntax.specs.Tokens.{longest_text}
use Rattle.command_answers.specs.Contents.{IsContent}
use Rattle.command_programs.proofs.Refused.{refused_compile, stored_compile}
use Rattle.command_programs.proofs.programs.compile_act.Goals as goal

pub returns-in-Ok-clause-due : goal.returns-in-Ok-clause-due
returns-in-Ok-clause-due c = stored_compile c.args.over c.in-Ok.built (IsContent longest_text c.args.content.now) c.store_built.result c.in-Ok.ensures.compiles c.store_built.ensures.due

pub returns-in-Err-clause-due : goal.returns-in-Err-clause-due
returns-in-Err-clause-due c = refused_compile c.args.over c.in-Err.fault (IsContent longest_text c.args.content.now) c.refuse.result c.in-Err.ensures.compiles c.refuse.ensures.due

pub returns-in-Ok-clause-told : goal.returns-in-Ok-clause-told
returns-in-Ok-clause-told c = IfOk-weaker c.store_built.result _ _ (λ act zero. λ text is refused. absurd (refused zero)) c.store_built.ensures.succeeds

pub returns-in-Err-clause-told : goal.returns-in-Err-clause-told
returns-in-Err-clause-told c = IfOk-weaker c.refuse.result _ _ (λ act told. λ text is refused. told text is (c.in-Err.ensures.compiles text is)) c.refuse.ensures.told
