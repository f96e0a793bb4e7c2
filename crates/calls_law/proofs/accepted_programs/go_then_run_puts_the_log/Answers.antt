use Rattle.calls_law.proofs.Accepted.{go_then_run}
use Rattle.calls_law.proofs.accepted_programs.go_then_run_puts_the_log.Goals as goal

pub returns : goal.returns
returns c = go_then_run c.timely_texts_have_one_image.ensures c.built_images_are_held.ensures c.run_is_one.ensures
