use Rattle.edf_correct.proofs.Admitted.{waitless_images_have_no_wait}
use Rattle.edf_correct.proofs.edf_admitted.waitless_images_have_no_wait.Goals as goal

pub returns : goal.returns
returns c = waitless_images_have_no_wait c.checked_programs_are_ready.ensures c.generated_code_is_code.ensures
