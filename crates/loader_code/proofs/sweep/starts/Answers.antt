use Rattle.std.proofs.Common.{arith, ap, length}
use Rattle.loader_code.proofs.Sweeping.{starts_all}
use Rattle.loader_code.proofs.sweep.starts.Goals as goal

pub returns : goal.returns
returns c = starts_all c.args.image.now c.loop-process.all.items c.loop-process.process-index (omega (arith, c.loop-process-test.false, ap (λ xs. length xs) c.as_slice-process-items.ensures)) c.loop-process.invariant
