use Rattle.std.proofs.Common.{refl}
use Rattle.std.proofs.lemmas.Bool.{le-leb, lt-leb}
use Rattle.image_reader.proofs.instr.number_at.Goals as goal
use Rattle.image_reader.proofs.instr.number_at.Goals.{else-number-ge1-via-then-number-ge1+else-number-le48, else-number-ge1-via-else-number-ge1}

pub returns-then-number-le48 : goal.returns-then-number-le48
returns-then-number-le48 c =
    let n = c.in-Ok.it.0 in
    rw (c.in-Ok.ensures, le-leb 1 n c.if-number-ge1.true, le-leb n 48 c.if-number-le48.true) refl

pub returns-else-number-ge1 : goal.returns-else-number-ge1
returns-else-number-ge1 c =
    let n = c.in-Ok.it.0 in
    elim c.else-number-ge1.branch [
      | else-number-ge1-via-then-number-ge1+else-number-le48 w ↦ rw (c.in-Ok.ensures, le-leb 1 n w.if-number-ge1.true, lt-leb n 48 w.if-number-le48.false) refl
      | else-number-ge1-via-else-number-ge1 w ↦ rw (c.in-Ok.ensures, lt-leb 1 n w.if-number-ge1.false) refl
    ]
