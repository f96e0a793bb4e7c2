use Rattle.command_due_law.proofs.Due.{due_once}
use Rattle.command_due_law.proofs.one_edf_answer.edf_is_one.Goals as goal

pub returns : goal.returns
returns c =
    due_once c.edf_images_are_one.ensures c.answers_are_one.ensures c.written_once.ensures c.written_or_faulty.ensures c.texts_have_one_fault.ensures c.one_script.ensures.text c.one_answer.ensures.script c.one_answer.ensures.fault
