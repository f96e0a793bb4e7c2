-- What `EdfImage::admit` answers.
use Rattle.std.specs.Prelude.{◌≡◌, ℕ, Result, Ok, Err}
use Rattle.image.specs.Named.{NamedImage}
use Rattle.machine_semantics.specs.Image.{Image}
use Rattle.sched_demand.specs.declared.judging.Judgement.{Judgement}
use Rattle.sched_demand.specs.declared.judging.Judgement.TheVariants as verdict
use Rattle.command_due.specs.Tasks.{IsAnswer}
use Rattle.edf_admission.specs.Admitted.{HasNoWait, IsAdmitted, IsFirstWait}
use Rattle.edf_admission.specs.declared.edf_fault.EdfFault.{EdfFault}
use Rattle.edf_admission.specs.declared.edf_fault.EdfFault.TheVariants as fault

-- the image waits nowhere, and this is its overhead, which is not 0
pub record HasOverhead (m : Image) (over : ℕ) : Type 0 where
  pub waitless : HasNoWait m
  pub is : over ≡ m.over
  pub some : m.over ≡ 0 → ⊥

-- the image waits nowhere and has no overhead, and this is what the test of its demand says, which
-- is not that it is feasible
pub record IsUnfit (m : Image) (answer : Judgement) : Type 0 where
  pub waitless : HasNoWait m
  pub over : m.over ≡ 0
  pub answered : IsAnswer m answer
  pub unfit : (points : ℕ) → answer ≡ verdict.Feasible points → ⊥

-- Ok exactly of the same image, which is admitted; each refusal with its cause; where memory is
-- wanting, it is for the test of the demand
abbrev pub Admits : NamedImage → Result NamedImage EdfFault → Type 0
Admits shape (Ok image) = (image ≡ shape) × IsAdmitted image.image
Admits shape (Err (fault.Waits at)) = IsFirstWait shape.image at
Admits shape (Err (fault.Overhead over)) = HasOverhead shape.image over
Admits shape (Err (fault.Unfit answer)) = IsUnfit shape.image answer
Admits shape (Err (fault.Memory _)) = HasNoWait shape.image × (shape.image.over ≡ 0)
