-- The bounds of what is drawn.
use Rattle.std.proofs.Common.{◌<◌, ◌/◌, ◌^◌, ℕ, suc}
use Rattle.std.proofs.lemmas.Nat.{mod_below}
use Rattle.load.specs.Draws.{state, below, draw}

pub draw_below : (key number bound : ℕ) → 0 < bound → draw key number bound < bound
unfolding draw below
draw_below key number bound some = mod_below (state key (suc number) / 2 ^ 33) bound some
