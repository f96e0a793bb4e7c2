use Rattle.std.proofs.Common.{arith}
use Rattle.compile_image.proofs.Counted.{place-most}
use Rattle.compile_image.proofs.releases.event_number.Goals as goal

pub overflow_cast-result : goal.overflow_cast-result
overflow_cast-result c = omega (arith, c.requires, c.number-place.ensures, place-most c.args.event.now c.args.events.now)
