-- The image of a run that can be made has a plan, and is the one of its dispatch.
use Rattle.std.proofs.Common.{◌≡◌, ◌∙◌, ap, sym}
use Rattle.command_answers.specs.declared.act.RunnableImage.{RunnableImage}
use Rattle.command_answers.specs.declared.act.RunnableImage.TheVariants as by
use Rattle.command_answers.specs.declared.act.PreparedRun.{PreparedRun}
use Rattle.command_answers.specs.Acts.{CanRun, CanRunBy, image_in}
use Rattle.image.specs.declared.names.ImageNames.{ImageNames}
use Rattle.image.specs.Named.{NamedImage}
use Rattle.script.specs.declared.script.Script.{Script}
use Rattle.vm_plan.specs.HasPlan.{HasPlan}

has_plan_by : (image : RunnableImage) (script : Script) → CanRunBy image script → HasPlan (image_in image).image
has_plan_by (by.Ranks n) script can = can.plan
has_plan_by (by.Deadlines n) script can = can.plan

pub has_plan : (run : PreparedRun) → CanRun run → HasPlan (image_in run.image).image
has_plan run can = has_plan_by run.image run.script can

pub of_ranks : (image : RunnableImage) (n : NamedImage) → image ≡ by.Ranks n → image ≡ by.Ranks (image_in image)
of_ranks image n is = is ∙ ap (λ (i : RunnableImage). by.Ranks (image_in i)) (sym is)

pub of_deadlines : (image : RunnableImage) (n : NamedImage) → image ≡ by.Deadlines n → image ≡ by.Deadlines (image_in image)
of_deadlines image n is = is ∙ ap (λ (i : RunnableImage). by.Deadlines (image_in i)) (sym is)

-- the names are those of the image
pub called : {names : ImageNames} {seen own : NamedImage} → names ≡ seen.names → seen ≡ own → names ≡ own.names
called same is = same ∙ ap (λ (n : NamedImage). n.names) is
