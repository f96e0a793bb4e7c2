-- What comes of a walk, wherever it ends.
use Rattle.std.proofs.Common.{◌≡◌, Option, Some, None, refl}
use Rattle.static_declarations.specs.Parts.{Part}
use Rattle.static_parts.specs.Visits.{come_to}

-- it is the same, whether the walk ended at a part or went on
pub same-end : {Found : Type 0} (end : Option Part) (found : Found) → come_to (λ part. found) end found ≡ found
same-end None found = refl
same-end (Some part) found = refl
