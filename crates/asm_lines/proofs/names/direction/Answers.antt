use Rattle.std.proofs.Common.{◌∙◌, refl, sym}
use Rattle.asm_lines.proofs.names.direction.Goals as goal

pub returns-then-begins_with : goal.returns-then-begins_with
returns-then-begins_with c = rw (sym c.begins_with.ensures ∙ c.if-begins_with.true, c.in_ok-at.ensures) refl

pub returns : goal.returns
returns c = rw (sym c.begins_with.ensures ∙ c.if-begins_with.false, c.in_ok-at-2.ensures) refl
