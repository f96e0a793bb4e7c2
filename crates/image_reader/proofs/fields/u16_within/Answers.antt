use Rattle.std.proofs.Common.{refl}
use Rattle.std.proofs.lemmas.Bool.{le-leb, lt-leb}
use Rattle.image_reader.proofs.fields.u16_within.Goals as goal
use Rattle.image_reader.proofs.fields.u16_within.Goals.{else-low-number-via-then-low-number+else-number-high, else-low-number-via-else-low-number}

pub returns-then-number-high : goal.returns-then-number-high
returns-then-number-high c =
    let n = c.in-Ok.it.0 in
    rw (c.in-Ok.ensures, le-leb c.args.low n c.if-low-number.true, le-leb n c.args.high c.if-number-high.true) refl

pub returns-else-low-number : goal.returns-else-low-number
returns-else-low-number c =
    let n = c.in-Ok.it.0 in
    elim c.else-low-number.branch [
      | else-low-number-via-then-low-number+else-number-high w ↦ rw (c.in-Ok.ensures, le-leb c.args.low n w.if-low-number.true, lt-leb n c.args.high w.if-number-high.false) refl
      | else-low-number-via-else-low-number w ↦ rw (c.in-Ok.ensures, lt-leb c.args.low n w.if-low-number.false) refl
    ]
