use Rattle.edf_correct.proofs.Admitted.{edf_images_are_admitted}
use Rattle.edf_correct.proofs.edf_admitted.edf_images_are_admitted.Goals as goal

pub returns : goal.returns
returns c = edf_images_are_admitted c.waitless_images_have_no_wait.ensures
