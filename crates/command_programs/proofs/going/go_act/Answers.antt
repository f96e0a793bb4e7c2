use Rattle.std.proofs.Common.{ap}
use Rattle.std.proofs.lemmas.Result.{IfOk-weaker}
use Rattle.image.specs.Raw.{named_of}
use Rattle.script.specs.Scripts.{longest_text}
use Rattle.command_due.specs.CommandsDue.{Outcome}
use Rattle.command_answers.specs.Contents.{IsContent}
use Rattle.command_programs.specs.Scripted.{bytes_for, report_on}
use Rattle.command_answers.proofs.Judged.{can_run, bad_over, ran_over}
use Rattle.command_programs.proofs.going.go_act.Goals as goal

pub run_built-requires-clause-runs : goal.run_built-requires-clause-runs
run_built-requires-clause-runs c = can_run (named_of c.args.built.image) c.in-Ok.lines c.requires.image c.in-Ok.ensures.some

pub returns-in-Ok-clause-due : goal.returns-in-Ok-clause-due
returns-in-Ok-clause-due c =
    ran_over (report_on c.args.built) (bytes_for c.args.built) (named_of c.args.built.image) c.in-Ok.lines (IsContent longest_text c.args.content.now) c.run_built.result
    c.in-Ok.ensures.script c.run_built.ensures.outcome

pub returns-clause-due : goal.returns-clause-due
returns-clause-due c =
    bad_over (report_on c.args.built) (bytes_for c.args.built) (named_of c.args.built.image) c.in-Err.fault (IsContent longest_text c.args.content.now) c.refuse_script.result
    c.in-Err.ensures.fault c.refuse_script.ensures.act c.refuse_script.ensures.is_fault

pub returns-in-Ok-clause-told : goal.returns-in-Ok-clause-told
returns-in-Ok-clause-told c =
    IfOk-weaker c.run_built.result _ _ (λ act ran. λ text is refused. absurd (refused (ap (λ (o : Outcome). o.status) ran))) c.run_built.ensures.outcome

pub returns-clause-told : goal.returns-clause-told
returns-clause-told c = IfOk-weaker c.refuse_script.result _ _ (λ act told. λ text is refused. told text is) c.refuse_script.ensures.told
