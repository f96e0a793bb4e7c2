-- Events with their frames keep their names.
use Rattle.std.proofs.Common.{◌≡◌, ◌+◌, ℕ, List, [], ◌∷◌, map, refl, ap}
use Rattle.machine_semantics.specs.Image.{Process}
use Rattle.image_reader.specs.File.{framed}

pub names_framed : (at : ℕ) (events : List (List ℕ)) (processes : List Process) → map (λ e. e.name) (framed at events processes) ≡ events
names_framed at [] processes = refl
names_framed at (e ∷ es) processes = ap (λ (more : List (List ℕ)). e ∷ more) (names_framed (at + 1) es processes)
