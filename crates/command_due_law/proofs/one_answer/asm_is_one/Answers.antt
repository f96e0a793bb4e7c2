use Rattle.command_due_law.proofs.Told.{asm_is_one}
use Rattle.command_due_law.proofs.one_answer.asm_is_one.Goals as goal

pub returns : goal.returns
returns c =
    asm_is_one c.texts_are_of_one_image.ensures c.texts_of_images_have_no_fault.ensures c.texts_have_one_fault.ensures
    c.valid_is_without_fault.ensures
