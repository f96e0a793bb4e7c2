-- Images of files.
use Rattle.std.proofs.Common.{ℕ, List, subst}
use Rattle.image.specs.Named.{NamedImage}
use Rattle.valid_image.specs.Valid.{IsValid}
use Rattle.image_loaded.specs.Shape.{AreOfValid}
use Rattle.command_due.specs.CommandsDue.{IsImageFile}

pub image_file : (bytes : List ℕ) (n : NamedImage) (file : AreOfValid bytes n) → IsImageFile bytes file.file.raw
image_file bytes n file = record { held = file.file.held; valid = subst (λ (x : NamedImage). IsValid x.image) file.file.image file.valid }
