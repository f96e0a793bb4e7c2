use Rattle.std.proofs.Common.{◌≡◌, ◌<◌, ℕ, suc, true, List, [], ◌∷◌, get_or, refl}
use Rattle.std.proofs.Math.Facts.{Fits-lt-pow}
use Rattle.std.proofs.lemmas.Bool.{lt-ltb}
use Rattle.image_format.specs.Format.{u16}
use Rattle.image_format.proofs.Booleans.{together}
use Rattle.image_bytes.specs.Fields.{are_short}
use Rattle.image_bytes.proofs.processes.numbers_fit.Goals as goal

all_short : (numbers : List ℕ) → ((i : ℕ) → get_or numbers i 0 < 65536) → are_short numbers ≡ true
all_short [] below = refl
all_short (n ∷ ns) below = together (u16.is n) (are_short ns) (lt-ltb n 65536 (below 0)) (all_short ns (λ i. below (suc i)))

pub returns : goal.returns
returns c = all_short c.args.numbers.now (λ i. Fits-lt-pow (c.type_inv.numbers i))
