-- A program is judged by its text: what its image says of time the text says.
use Rattle.std.specs.Prelude.{◌≡◌, ◌↔◌, ℕ, Some, slice_get}
use Rattle.syntax_tree.specs.Placed.{Prog, plain}
use Rattle.syntax_tree.specs.declared.place.Place.{Place}
use Rattle.machine_semantics.specs.Image.{Image, Process}
use Rattle.image.specs.Named.{NamedImage}
use Rattle.static_semantics.specs.Static.{IsChecked}
use Rattle.built_image_law.specs.Small.{KeepsSizes}
use Rattle.built_image.specs.Built.{IsShaped, IsBuilt, IsTimely, IsLate}
use Rattle.sched_program.specs.Tasks.{IsInTime, IsNotInTime, IsBoundOf}

-- The law: a timely program is in time.
abbrev pub TimelyIsInTime : Type 0
TimelyIsInTime = (g : Prog Place) (over : ℕ) → IsChecked g → KeepsSizes g → IsTimely (plain g) over → IsInTime (plain g) over

-- The law: a late one is not.
abbrev pub LateIsNotInTime : Type 0
LateIsNotInTime = (g : Prog Place) (over : ℕ) → IsChecked g → KeepsSizes g → IsLate (plain g) over → IsNotInTime (plain g) over

-- The law: and the other way round, where there is an image of its shape.
pub record IsJudgedAlike (g : Prog Place) (over : ℕ) : Type 0 where
  pub timely : IsTimely (plain g) over ↔ IsInTime (plain g) over
  pub late : IsLate (plain g) over ↔ IsNotInTime (plain g) over

abbrev pub ShapesAreJudgedAlike : Type 0
ShapesAreJudgedAlike = (g : Prog Place) (over : ℕ) (m : Image) → IsChecked g → KeepsSizes g → IsShaped (plain g) over m → IsJudgedAlike g over

-- The law: a program that has an image with bounds is in time, and never not.
pub record IsInTimeAlone (g : Prog Place) (over : ℕ) : Type 0 where
  pub is : IsInTime (plain g) over
  pub never : IsNotInTime (plain g) over → ⊥

abbrev pub BuiltIsInTime : Type 0
BuiltIsInTime = (g : Prog Place) (over : ℕ) (n : NamedImage) → IsChecked g → KeepsSizes g → IsBuilt (plain g) over n → IsInTimeAlone g over

-- The law: the bound that its image declares of a process is that of the text.
abbrev pub BoundsAreOfTheText : Type 0
BoundsAreOfTheText = (g : Prog Place) (over : ℕ) (n : NamedImage) → IsChecked g → KeepsSizes g → IsBuilt (plain g) over n
    → (k : ℕ) (p : Process) → slice_get n.image.processes k ≡ Some p → IsBoundOf (plain g) over k p.bound
