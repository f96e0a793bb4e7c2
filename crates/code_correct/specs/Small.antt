-- A checked program that keeps the rules of size is small enough for the generator.
use Rattle.std.specs.Prelude.{ℕ}
use Rattle.syntax_tree.specs.Plain.{Name}
use Rattle.syntax_tree.specs.Placed.{Prog}
use Rattle.syntax_tree.specs.declared.place.Place.{Place}
use Rattle.machine_semantics.specs.Image as image
use Rattle.static_semantics.specs.Static.{IsChecked}
use Rattle.code_spec.specs.Boundary.{Compiled, IsFaithful}
use Rattle.code_correct.specs.Process.{FreeHolds, RestHolds, StandsFor}
use Rattle.codegen_law.specs.Ruled.{runs_of}
use Rattle.built_image_law.specs.Runs.{HoldsMade, IsProcessOf}
use Rattle.built_image_law.specs.Small.{KeepsSizes}

-- The law: in it the code of each process does, step by step, what the meaning of programs says.
abbrev pub GeneratedCodeIsFaithful : Type 0
GeneratedCodeIsFaithful = (g : Prog Place) (m : image.Image) (c : Compiled)
    → IsChecked g → KeepsSizes g → HoldsMade g m → IsProcessOf g m c
    → (level : Name → ℕ)
    × IsFaithful c (λ o v. StandsFor c (record { level = level; runs = runs_of c.program c.text }) o v)
    (λ k shared vars. FreeHolds c k shared vars) (λ owned vars. RestHolds c owned vars)
