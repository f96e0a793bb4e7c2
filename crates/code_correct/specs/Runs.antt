-- What is made of a checked program, in an image.
use Rattle.std.specs.Prelude.{ℕ}
use Rattle.syntax_tree.specs.Plain.{Name}
use Rattle.syntax_tree.specs.Placed.{Prog}
use Rattle.syntax_tree.specs.declared.place.Place.{Place}
use Rattle.machine_semantics.specs.Image as image
use Rattle.code_spec.specs.Boundary.{Compiled, IsFaithful}
use Rattle.code_correct.specs.Process.{FreeHolds, RestHolds, StandsFor}
use Rattle.codegen_law.specs.Ruled.{runs_of}
use Rattle.built_image_law.specs.Runs.{HoldsMade, IsProcessOf, IsSmallEnough}

-- The law: the code of each process does, step by step, what the meaning of programs says.
abbrev pub CheckedCodeIsFaithful : Type 0
CheckedCodeIsFaithful = (g : Prog Place) (m : image.Image) (c : Compiled)
    → IsSmallEnough g → HoldsMade g m → IsProcessOf g m c
    → (level : Name → ℕ)
    × IsFaithful c (λ o v. StandsFor c (record { level = level; runs = runs_of c.program c.text }) o v)
    (λ k shared vars. FreeHolds c k shared vars) (λ owned vars. RestHolds c owned vars)
