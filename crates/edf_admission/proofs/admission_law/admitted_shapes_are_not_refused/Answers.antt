use Rattle.edf_admission.proofs.Once.{admitted_shapes_are_not_refused}
use Rattle.edf_admission.proofs.admission_law.admitted_shapes_are_not_refused.Goals as goal

pub returns : goal.returns
returns c = admitted_shapes_are_not_refused c.each_shape_has_one_answer.ensures
