-- Which admitted images can be run.
use Rattle.image.specs.Named.{NamedImage}
use Rattle.vm_plan.specs.HasPlan.{HasPlan}
use Rattle.vm_law.specs.Logged.{AreNamesOf}

-- what a run asks of an image beside that it is admitted: it has a plan, and its names are those of
-- its parts
pub record CanBeRun (n : NamedImage) : Type 0 where
  pub plan : HasPlan n.image
  pub names : AreNamesOf n.names n.image
