-- The image that is built of a checked program is made of it.
use Rattle.std.specs.Prelude.{◌≡◌, ◌≤◌, ℕ, Some, slice_get}
use Rattle.syntax_tree.specs.Placed as placed
use Rattle.syntax_tree.specs.Placed.{plain}
use Rattle.syntax_tree.specs.Plain.{Program}
use Rattle.syntax_tree.specs.declared.place.Place.{Place}
use Rattle.machine_semantics.specs.Image.{Image, Process}
use Rattle.image.specs.Named.{NamedImage}
use Rattle.valid_image.specs.Sizes.{words_over_all}
use Rattle.code_spec.specs.Compiled.{IsCodeOf}
use Rattle.static_semantics.specs.WellFormed.{IsWellFormed}
use Rattle.code_measures.specs.Whole.{HasRanks, IsBound}
use Rattle.built_image_law.specs.Ready.{IsImageMade}
use Rattle.built_image_law.specs.Runs.{IsSmallEnough}
use Rattle.built_image.specs.Built.{HasLeastBounds, IsBuilt}

-- The law: least bounds are bounds, where ranks go by deadlines.
abbrev pub LeastBoundsAreBounds : Type 0
LeastBoundsAreBounds = (m : Image) → HasRanks m → HasLeastBounds m
    → (k : ℕ) (p : Process) → slice_get m.processes k ≡ Some p → IsBound m p

-- The law: the image of a well-formed program has few words.
abbrev pub WordsAreFew : Type 0
WordsAreFew = (g : Program) (m : Image) → IsWellFormed g → IsCodeOf g m → words_over_all m ≤ 1048576

-- The law: what is built of a checked program that is small enough is made of it.
abbrev pub BuiltImagesAreMade : Type 0
BuiltImagesAreMade = (g : placed.Prog Place) (over : ℕ) (n : NamedImage) → IsSmallEnough g
    → IsBuilt (plain g) over n → IsImageMade (plain g) n.image
