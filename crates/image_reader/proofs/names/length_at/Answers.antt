use Rattle.std.proofs.Common.{refl, arith}
use Rattle.std.proofs.lemmas.Bool.{le-leb, lt-leb}
use Rattle.image_reader.proofs.names.length_at.Goals as goal

pub returns-then-length-le63 : goal.returns-then-length-le63
returns-then-length-le63 c =
    let n = c.in-Ok.it.0 in
    rw (c.in-Ok.ensures, le-leb 0 n (omega arith), le-leb n 63 c.if-length-le63.true) refl

pub returns-else-length-le63 : goal.returns-else-length-le63
returns-else-length-le63 c =
    let n = c.in-Ok.it.0 in
    rw (c.in-Ok.ensures, le-leb 0 n (omega arith), lt-leb n 63 c.if-length-le63.false) refl
