use Rattle.edf_admission.proofs.Once.{each_shape_has_one_answer}
use Rattle.edf_admission.proofs.admission_law.each_shape_has_one_answer.Goals as goal

pub returns : goal.returns
returns c = each_shape_has_one_answer
