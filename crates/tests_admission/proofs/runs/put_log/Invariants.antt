use Rattle.command_answers.specs.Acts.{image_in}
use Rattle.tests_admission.proofs.runs.put_log.Given as goal

abbrev pub ghost-new : goal.ghost-new
ghost-new a = (image_in a.run.now.image).image

abbrev pub ghost-put_log : goal.ghost-put_log
ghost-put_log a = (image_in a.self.now.run.now.image).image
