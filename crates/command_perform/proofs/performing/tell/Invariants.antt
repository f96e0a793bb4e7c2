use Rattle.command_answers.specs.Acts.{image_in}
use Rattle.command_perform.proofs.performing.tell.Given as goal

abbrev pub ghost-put_log : goal.ghost-put_log
ghost-put_log g a = (image_in a.self.now.run.now.image).image
