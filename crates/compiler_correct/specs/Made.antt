-- An image that is made of a checked program, with its names.
use Rattle.std.specs.Prelude.{◌≡◌}
use Rattle.syntax_tree.specs.Placed.{Prog, plain}
use Rattle.syntax_tree.specs.declared.place.Place.{Place}
use Rattle.image.specs.Named.{NamedImage}
use Rattle.valid_image.specs.Valid.{HasLimits}
use Rattle.static_semantics.specs.Static.{IsChecked}
use Rattle.built_image_law.specs.Ready.{IsImageMade}
use Rattle.built_image.specs.Named.{names_of}
use Rattle.command_due.specs.Runs.{IsFaithful}

-- The law: where it has the names of the program and is in its limits, it is faithful to the
-- program.
abbrev pub MadeImagesAreFaithful : Type 0
MadeImagesAreFaithful = (g : Prog Place) (n : NamedImage) → IsChecked g → n.names ≡ names_of (plain g)
    → IsImageMade (plain g) n.image → HasLimits n.image → IsFaithful (plain g) n
