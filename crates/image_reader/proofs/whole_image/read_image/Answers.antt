use Rattle.std.proofs.Common.{arith}
use Rattle.image_reader.proofs.Ends.{held, too_long}
use Rattle.image_reader.proofs.whole_image.read_image.Goals as goal

pub returns-then-bytes-gt-LONGEST : goal.returns-then-bytes-gt-LONGEST
returns-then-bytes-gt-LONGEST c = too_long c.args.bytes.now (omega (arith, c.if-bytes-gt-LONGEST.true))

pub returns-in-Ok : goal.returns-in-Ok
returns-in-Ok c = held c.args.bytes.now c.in-Ok._has_deadlines c.in-Ok.image (omega (arith, c.if-bytes-gt-LONGEST.false)) c.in-Ok.ensures.read c.in-Ok.ensures.image
