use Rattle.script.specs.Scripts.{longest_text}
use Rattle.command_answers.specs.Contents.{IsContent}
use Rattle.command_images.proofs.Charted.{bad_drawn, drawn_over}
use Rattle.command_images.proofs.charting.chart_act.Goals as goal

pub returns-in-Ok-clause-due : goal.returns-in-Ok-clause-due
returns-in-Ok-clause-due c =
    drawn_over c.args.first c.args.end c.args.image.now c.in-Ok.script (IsContent longest_text c.args.content.now) c.put_drawn.result c.in-Ok.ensures.script c.put_drawn.ensures.told

pub returns-in-Err-clause-due : goal.returns-in-Err-clause-due
returns-in-Err-clause-due c =
    bad_drawn c.args.first c.args.end c.args.image.now c.in-Err.fault (IsContent longest_text c.args.content.now) c.refuse_script.result
    c.in-Err.ensures.fault c.refuse_script.ensures.act c.refuse_script.ensures.is_fault
