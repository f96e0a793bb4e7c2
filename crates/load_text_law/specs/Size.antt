-- The program of the load, and the number of its instructions.
use Rattle.std.specs.Prelude.{◌≡◌, ◌≤◌, ◌+◌, ◌*◌, ◌/◌, ℕ}
use Rattle.syntax_tree.specs.declared.place.Place.{Place}
use Rattle.syntax_tree.specs.Placed.{Prog, plain}
use Rattle.syntax_tree.specs.Bare.{bare}
use Rattle.code_cost_spec.specs.Levels.{code_length}
use Rattle.code_cost.specs.Rules.{CodeTooLong}
use Rattle.load.specs.Program.{load_program}

abbrev pub HasLength : Type 0
HasLength = (key count : ℕ) → code_length (plain (load_program key count)) ≡ 11 + 24 * count + count / 2

-- a tree that is that of the load apart from places is the same program
abbrev pub IsSameProgram : Type 0
IsSameProgram = (key count : ℕ) (g : Prog Place) → bare g ≡ load_program key count → plain g ≡ plain (load_program key count)

-- with 64 processes at most, it has not too many instructions
abbrev pub IsShortCode : Type 0
IsShortCode = (key count : ℕ) → count ≤ 64 → (g : Prog Place) → bare g ≡ load_program key count → (place : Place) → ¬ CodeTooLong g place
