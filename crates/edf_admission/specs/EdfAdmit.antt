-- The laws of the answers.
use Rattle.std.specs.Prelude.{◌≡◌, Err}
use Rattle.out_of_memory.specs.Refused.{refused}
use Rattle.image.specs.Named.{NamedImage}
use Rattle.image_loaded.specs.Shape.{IsShape}
use Rattle.sched_demand.specs.declared.judging.Judgement.{Judgement}
use Rattle.command_due.specs.Tasks.{IsAnswer}
use Rattle.edf_admission.specs.Admitted.{IsAdmitted}
use Rattle.edf_admission.specs.EdfAnswers.{Admits}
use Rattle.edf_admission.specs.declared.edf_fault.EdfFault.{EdfFault}
use Rattle.edf_admission.specs.declared.edf_fault.EdfFault.TheVariants as fault

-- The law: the test of the demand says one thing of a shape, and no other.
abbrev pub EachShapeHasOneAnswer : Type 0
EachShapeHasOneAnswer = (shape : NamedImage) (one other : Judgement) → IsShape shape → IsAnswer shape.image one → IsAnswer shape.image other → one ≡ other

-- The law: so a shape that is admitted is refused for want of memory alone.
abbrev pub AdmittedShapesAreNotRefused : Type 0
AdmittedShapesAreNotRefused = (shape : NamedImage) (why : EdfFault) → IsShape shape → IsAdmitted shape.image → Admits shape (Err why) → why ≡ fault.Memory refused
