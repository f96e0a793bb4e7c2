use Rattle.command_due_law.proofs.DueOnceImages.{image_files_are_not_refused}
use Rattle.command_due_law.proofs.one_answer.image_files_are_not_refused.Goals as goal

pub returns : goal.returns
returns c = image_files_are_not_refused c.valid_is_without_fault.ensures
