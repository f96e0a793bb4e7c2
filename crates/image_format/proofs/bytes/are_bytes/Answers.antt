use Rattle.std.proofs.Common.{◌<◌, ℕ, suc, List, [], ◌∷◌, get_or}
use Rattle.std.proofs.Math.Facts.{Fits-lt-pow}
use Rattle.image_format.specs.FormatLaw.{AreBytes}
use Rattle.image_format.proofs.bytes.are_bytes.Goals as goal

all_below : (bytes : List ℕ) → ((i : ℕ) → get_or bytes i 0 < 256) → AreBytes bytes
all_below [] below = tt
all_below (b ∷ bs) below = (below 0, all_below bs (λ i. below (suc i)))

pub returns : goal.returns
returns c = all_below c.args.bytes.now (λ i. Fits-lt-pow (c.type_inv.bytes i))
