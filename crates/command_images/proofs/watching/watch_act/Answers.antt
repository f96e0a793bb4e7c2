use Rattle.script.specs.Scripts.{longest_text}
use Rattle.command_answers.specs.Contents.{IsContent}
use Rattle.command_images.proofs.Watched.{bad_seen, seen_over}
use Rattle.command_images.proofs.watching.watch_act.Goals as goal

pub returns-in-Ok-clause-due : goal.returns-in-Ok-clause-due
returns-in-Ok-clause-due c =
    seen_over c.args.stop c.args.image.now c.in-Ok.script (IsContent longest_text c.args.content.now) c.put_seen.result c.in-Ok.ensures.script c.put_seen.ensures.told

pub returns-in-Err-clause-due : goal.returns-in-Err-clause-due
returns-in-Err-clause-due c =
    bad_seen c.args.stop c.args.image.now c.in-Err.fault (IsContent longest_text c.args.content.now) c.refuse_script.result
    c.in-Err.ensures.fault c.refuse_script.ensures.act c.refuse_script.ensures.is_fault
