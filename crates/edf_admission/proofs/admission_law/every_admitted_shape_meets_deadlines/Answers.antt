use Rattle.edf_admission.proofs.EdfAdmitRuns.{every_admitted_shape_meets_deadlines}
use Rattle.edf_admission.proofs.admission_law.every_admitted_shape_meets_deadlines.Goals as goal

pub returns : goal.returns
returns c = every_admitted_shape_meets_deadlines
