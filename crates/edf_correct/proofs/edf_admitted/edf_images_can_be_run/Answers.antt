use Rattle.edf_correct.proofs.Admitted.{edf_images_can_be_run}
use Rattle.edf_correct.proofs.edf_admitted.edf_images_can_be_run.Goals as goal

pub returns : goal.returns
returns c = edf_images_can_be_run c.checked_programs_are_ready.ensures c.generated_code_is_code.ensures c.names_of_texts_are_short.ensures c.edf_images_are_shapes.ensures
