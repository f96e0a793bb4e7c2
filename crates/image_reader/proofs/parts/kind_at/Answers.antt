use Rattle.std.proofs.Common.{refl}
use Rattle.std.proofs.lemmas.Bool.{le-leb, lt-leb}
use Rattle.image_reader.proofs.parts.kind_at.Goals as goal

pub returns-then-kind-last : goal.returns-then-kind-last
returns-then-kind-last c = rw (c.in-Ok.ensures, le-leb c.in-Ok.it.0 c.args.last c.if-kind-last.true) refl

pub returns-else-kind-last : goal.returns-else-kind-last
returns-else-kind-last c = rw (c.in-Ok.ensures, lt-leb c.in-Ok.it.0 c.args.last c.if-kind-last.false) refl
