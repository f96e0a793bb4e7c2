-- The tree of the text of the load.
use Rattle.std.specs.Prelude.{◌≡◌, ◌≤◌, ℕ, length}
use Rattle.syntax_tree.specs.declared.place.Place.{Place}
use Rattle.syntax_tree.specs.Placed.{Prog}
use Rattle.syntax_tree.specs.Bare.{bare}
use Rattle.syntax.specs.Tokens.{longest_text}
use Rattle.front_end.specs.Source.{IsTreeOf}
use Rattle.load.specs.Program.{load_program, program_text}

abbrev pub IsShortText : Type 0
IsShortText = (key count : ℕ) → count ≤ 64 → length (program_text key count) ≤ longest_text

-- a tree of the text, which is that of the load apart from places
pub record LoadTree (key count : ℕ) : Type 0 where
  pub tree : Prog Place
  pub grown : IsTreeOf (program_text key count) tree
  pub same : bare tree ≡ load_program key count

abbrev pub HasLoadTree : Type 0
HasLoadTree = (key count : ℕ) → count ≤ 64 → LoadTree key count

-- no other tree is that of the text
abbrev pub KeepsLoadTree : Type 0
KeepsLoadTree = (key count : ℕ) → count ≤ 64 → (g : Prog Place) → IsTreeOf (program_text key count) g → bare g ≡ load_program key count
