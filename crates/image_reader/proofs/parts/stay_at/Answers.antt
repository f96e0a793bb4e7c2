use Rattle.std.proofs.Common.{inl, inr, refl}
use Rattle.std.proofs.lemmas.Bool.{eq-eqb, ne_eqb}
use Rattle.image_reader.proofs.parts.stay_at.Goals as goal

pub returns-then-stay-eq0 : goal.returns-then-stay-eq0
returns-then-stay-eq0 c = elim c.if-stay-eq0.either [
  | inl is_entry ↦ rw (c.in-Ok.ensures, eq-eqb c.args.kind 2 is_entry) refl
  | inr other ↦ rw (c.in-Ok.ensures, ne_eqb c.args.kind 2 other.0, eq-eqb c.in-Ok.it.0 0 other.1) refl
]

pub returns-else-stay-eq0 : goal.returns-else-stay-eq0
returns-else-stay-eq0 c = rw (c.in-Ok.ensures, ne_eqb c.args.kind 2 c.if-stay-eq0.false.0, ne_eqb c.in-Ok.it.0 0 c.if-stay-eq0.false.1) refl
