use Rattle.std.proofs.Common.{sym, subst}
use Rattle.image.specs.Named.{NamedImage}
use Rattle.machine_semantics.specs.Image.{Image}
use Rattle.vm_plan.specs.HasPlan.{HasPlan}
use Rattle.vm_state.specs.Plan.{IsOf}
use Rattle.command_perform.proofs.Plans.{has_plan}
use Rattle.command_perform.proofs.ready.Ready.new.Goals as goal

pub plan_of-requires : goal.plan_of-requires
plan_of-requires g c = subst (λ (n : NamedImage). HasPlan n.image) (sym c.image.ensures) (has_plan c.args.run.now c.requires.1)

pub new-requires : goal.new-requires
new-requires g c = (
  c.requires.0,
  (subst (λ (image : Image). IsOf image c.in_ok-plan.plan) (sym c.requires.0) (subst (λ (n : NamedImage). IsOf n.image c.in_ok-plan.plan) c.image.ensures c.in_ok-plan.ensures), c.requires.1),
)

pub returns-clause-ready : goal.returns-clause-ready
returns-clause-ready g c = record {
  plan = subst (λ (n : NamedImage). IsOf n.image c.in_ok-plan.plan) c.image.ensures c.in_ok-plan.ensures;
  course = c.in_ok-course.ensures;
}
