use Rattle.std.proofs.Common.{arith, get_or}
use Rattle.std.specs.Int.{IsInRange}
use Rattle.script.proofs.OnePass.{number_front, read_next, up_to}
use Rattle.script.proofs.quick.number_to.Goals as goal

pub returns-then-byte-lt48-clause-found : goal.returns-then-byte-lt48-clause-found
returns-then-byte-lt48-clause-found c =
    number_front c.args.bytes.now c.loop-at.at c.loop-at.number c.args.stop (omega arith) (omega arith) c.loop-at.invariant.digits c.loop-at.invariant.read
    (c.is_spelled.ensures.some c.if-not-is_spelled.false) (c.is_spelled.ensures.first c.if-not-is_spelled.false) (omega arith)

pub loop-at-preserved : goal.loop-at-preserved
loop-at-preserved c = record {
  small = omega arith;
  digits = up_to (λ k. IsInRange 48 57 (get_or c.args.bytes.now k 0)) c.loop-at.at c.loop-at.invariant.digits (omega arith, omega arith);
  read = read_next c.args.bytes.now c.loop-at.at c.loop-at.number c.from.result (omega arith) (omega arith) c.loop-at.invariant.read;
}
