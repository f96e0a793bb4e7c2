use Rattle.std.proofs.Common.{[], None}
use Rattle.script.specs.Scripts.{longest_text}
use Rattle.command_answers.specs.Contents.{IsContent}
use Rattle.command_answers.proofs.Judged.{bad_over}
use Rattle.command_answers.specs.Scripted.{is_run}
use Rattle.command_images.proofs.running.run_act.Goals as goal

pub returns-in-Ok-clause-due : goal.returns-in-Ok-clause-due
returns-in-Ok-clause-due c = λ text is. is_run c.in-Ok.script.lines c.in-Ok.script.end (c.in-Ok.ensures.script text is) c.run_image.ensures.outcome

pub returns-clause-due : goal.returns-clause-due
returns-clause-due c =
    bad_over [] None c.args.image c.in-Err.fault (IsContent longest_text c.args.content.now) c.refuse_script.result
    c.in-Err.ensures.fault c.refuse_script.ensures.act c.refuse_script.ensures.is_fault
