use Rattle.std.proofs.Common.{◌<◌, arith}
use Rattle.image_bytes.specs.Standing.{numbers_in}
use Rattle.image_bytes.proofs.ManyNumbers.{never, none_left, splits}
use Rattle.image_bytes.proofs.numbers.HandlerNumbers.split_first.Goals as goal

pub returns-then-self-eq0 : goal.returns-then-self-eq0
unfolding numbers_in
returns-then-self-eq0 c = none_left c.args.self.count c.args.self.bytes.now c.if-self-eq0.true

pub invariant_of-result : goal.invariant_of-result
invariant_of-result c =
    let pos : 0 < c.args.self.count = omega (arith, c.if-self-eq0.false) in
    record { are_read = (splits c.args.self.count c.args.self.bytes.now c.in-Ok.number c.in-Ok.bytes.now pos c.in-Ok.ensures c.args.self.are_read).rest_read }

pub unreachable-requires : goal.unreachable-requires
unreachable-requires c =
    let pos : 0 < c.args.self.count = omega (arith, c.if-self-eq0.false) in
    never c.in-Err.field-0 c.args.self.count c.args.self.bytes.now pos c.in-Err.ensures c.args.self.are_read

pub returns : goal.returns
unfolding numbers_in
returns c =
    let pos : 0 < c.args.self.count = omega (arith, c.if-self-eq0.false) in
    (splits c.args.self.count c.args.self.bytes.now c.in-Ok.number c.in-Ok.bytes.now pos c.in-Ok.ensures c.args.self.are_read).numbers
