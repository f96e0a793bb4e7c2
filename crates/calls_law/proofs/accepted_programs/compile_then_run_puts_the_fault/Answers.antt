use Rattle.calls_law.proofs.Accepted.{compile_then_fault}
use Rattle.calls_law.proofs.accepted_programs.compile_then_run_puts_the_fault.Goals as goal

pub returns : goal.returns
returns c = compile_then_fault c.timely_texts_have_one_image.ensures c.built_images_are_held.ensures c.run_is_one.ensures
