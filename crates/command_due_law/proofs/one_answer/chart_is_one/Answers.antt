use Rattle.command_due_law.proofs.Commands.{chart_is_one}
use Rattle.command_due_law.proofs.one_answer.chart_is_one.Goals as goal

pub returns : goal.returns
returns c =
    chart_is_one c.images_held_are_one.ensures c.image_files_are_not_refused.ensures c.image_refusals_are_one.ensures
    c.one_script.ensures.text c.one_answer.ensures.script c.one_answer.ensures.fault
