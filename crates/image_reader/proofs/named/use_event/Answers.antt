use Rattle.std.proofs.Common.{append-nil, sym}
use Rattle.std.proofs.lemmas.Bool.{eq-eqb, ne_eqb}
use Rattle.image_reader.proofs.named.use_event.Goals as goal

pub returns-then-kind-eq0 : goal.returns-then-kind-eq0
returns-then-kind-eq0 c = rw (eq-eqb c.args.kind 0 c.if-kind-eq0.true) (sym (append-nil c.args.used.now))

pub returns-else-kind-eq0 : goal.returns-else-kind-eq0
returns-else-kind-eq0 c = rw (ne_eqb c.args.kind 0 c.if-kind-eq0.false) c.push.ensures.ok
