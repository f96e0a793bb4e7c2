-- The program of the load keeps to all rules: so does each tree that is that of the load apart from
-- places.
use Rattle.std.specs.Prelude.{◌≡◌, ◌≤◌, ◌⊎◌, ℕ}
use Rattle.syntax_tree.specs.declared.place.Place.{Place}
use Rattle.syntax_tree.specs.Placed.{Prog}
use Rattle.syntax_tree.specs.Bare.{bare}
use Rattle.static_names.specs.Resolved.{IsRead, IsNamed}
use Rattle.static_types.specs.Rules.{StatementFails}
use Rattle.static_semantics.specs.Static.{IsChecked}
use Rattle.code_cost.specs.Rules.{RoutineTooLarge, ProcessTooLarge, SizeFails}
use Rattle.load.specs.Program.{load_program}

-- each name that is used is declared, once in its reach and of the kind that is wanted, and each
-- closing name is the opening one
abbrev pub KeepsNames : Type 0
KeepsNames = (key count : ℕ) → count ≤ 64 → (g : Prog Place) → bare g ≡ load_program key count → IsNamed g

-- of a tree that is read: types fit, each statement may stand where it does, and devices are used in
-- their direction
abbrev pub KeepsTypes : Type 0
KeepsTypes =
    (key count : ℕ) → count ≤ 64 → (g : Prog Place) → IsRead g → IsNamed g → bare g ≡ load_program key count
    → (number : ℕ) (place : Place) → (number ≡ 30) ⊎ ((number ≡ 34) ⊎ (number ≡ 38)) → ¬ StatementFails g number place

-- no routine and no process takes too many words of stack
abbrev pub KeepsStacks : Type 0
KeepsStacks =
    (key count : ℕ) → count ≤ 64 → (g : Prog Place) → bare g ≡ load_program key count
    → (place : Place) → ¬ (RoutineTooLarge g place ⊎ ProcessTooLarge g place)

-- a tree that is read keeps to the rules for names, and to all static rules
abbrev pub KeepsRules : Type 0
KeepsRules = (key count : ℕ) → 1 ≤ count → count ≤ 64 → (g : Prog Place) → IsRead g → bare g ≡ load_program key count → IsChecked g

-- and to those of size
abbrev pub KeepsSizes : Type 0
KeepsSizes =
    (key count : ℕ) → count ≤ 64 → (g : Prog Place) → bare g ≡ load_program key count
    → (number : ℕ) (place : Place) → ¬ SizeFails g number place
