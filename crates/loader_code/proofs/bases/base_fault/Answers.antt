use Rattle.std.proofs.Common.{arith}
use Rattle.loader_code.proofs.Following.{at_first, on, stops, at_last}
use Rattle.loader_code.proofs.bases.base_fault.Goals as goal

pub loop-m-init : goal.loop-m-init
loop-m-init c = at_first c.args.monitors.now

pub returns-then-base-due : goal.returns-then-base-due
returns-then-base-due c = stops c.args.monitors.now c.loop-m.due c.loop-m.m c.loop-m.invariant c.loop-m-test.true (λ same. c.if-base-due.true same)

pub loop-m-preserved : goal.loop-m-preserved
loop-m-preserved c = on c.args.monitors.now c.loop-m.due c.loop-m.m c.loop-m.invariant c.loop-m-test.true c.if-base-due.false

pub returns : goal.returns
returns c = at_last c.args.monitors.now c.loop-m.due c.loop-m.m c.loop-m.invariant (omega (arith, c.loop-m-test.false))
