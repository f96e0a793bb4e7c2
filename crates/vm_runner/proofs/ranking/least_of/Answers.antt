use Rattle.std.proofs.Common.{arith}
use Rattle.vm_runner.proofs.Foremost.{least_all, least_low}
use Rattle.vm_runner.proofs.ranking.least_of.Goals as goal

pub loop-precedence-init : goal.loop-precedence-init
loop-precedence-init c = let low = least_low c.args.precedences.now in record { so_far = omega (arith, low); low = omega arith }

pub returns : goal.returns
returns c = least_all c.args.precedences.now c.loop-precedence.precedence-index c.loop-precedence.least (omega (arith, c.loop-precedence-test.false)) c.loop-precedence.invariant.low c.loop-precedence.invariant.so_far
