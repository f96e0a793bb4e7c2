use Rattle.std.proofs.Common.{arith}
use Rattle.vm_chart.proofs.course.Course.go_to.Goals as goal

pub row-requires : goal.row-requires
row-requires g c = (
  c.requires.0,
  (
    c.requires.1.0,
    (
      c.requires.1.1.0,
      (c.requires.1.1.1.0, (c.requires.1.1.1.1.0, (c.loop-self.invariant.follows, (c.requires.1.1.1.1.1.1.0, (c.requires.1.1.1.1.1.1.1.0, (omega (arith, c.tick.ensures, c.loop-self-test.true), c.requires.1.1.1.1.1.1.1.1.1)))))),
    ),
  ),
)
