use Rattle.std.proofs.Common.{arith, sym}
use Rattle.vm_plan.proofs.PlanPlanning.{called_is}
use Rattle.vm_plan.proofs.plan.plan_of.Goals as goal

pub returns : goal.returns
returns c = record {
  code = record {
    code_is = sym c.in_ok-instructions.ensures;
    routine_is = called_is c.args.image.now.image c.in_ok-routines.field-0.items c.requires c.in_ok-routines.ensures;
  };
  numbers = c.requires.numbers;
  processes = c.in_ok-processes.ensures;
  few = c.requires.few;
  conditions = sym c.in_ok-conditions.ensures;
  ceilings = sym c.in_ok-ceilings.ensures;
  shared = sym c.words.ensures;
  devices = sym c.devices.ensures;
  dispatch_ticks = omega (arith, c.overhead.ensures, c.from.ensures);
}
