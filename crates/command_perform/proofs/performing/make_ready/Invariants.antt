use Rattle.command_answers.specs.Acts.{image_in}
use Rattle.command_perform.proofs.performing.make_ready.Given as goal

abbrev pub ghost-new : goal.ghost-new
ghost-new a = (image_in a.run.now.image).image
