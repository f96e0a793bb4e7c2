use Rattle.command_answers.proofs.ValidImages.{runnable}
use Rattle.command_answers.proofs.runnable_images.valid_images_can_be_run.Goals as goal

pub returns : goal.returns
returns c = runnable c.valid_images_read_are_ready.ensures c.images_read_can_be_written.ensures c.scripts_suit.ensures.held c.args.image.now c.is_valid.ensures
