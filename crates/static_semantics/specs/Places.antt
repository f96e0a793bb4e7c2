-- Each name of a program has a place of its own, and each use its declaration.
use Rattle.std.specs.Prelude.{◌≡◌, ℕ, ◌≤◌, Bool, true, false, List, Option, Some, count_by, Contains}
use Rattle.syntax_tree.specs.Plain.{Name}
use Rattle.syntax_tree.specs.Placed.{Prog}
use Rattle.syntax_tree.specs.declared.place.Place.{Place}
use Rattle.static_names.specs.declared.kind.Declared.{Declared}
use Rattle.static_names.specs.declared.kind.NameUse.{NameUse}
use Rattle.syntax_tree.specs.Parts.{same_place}
use Rattle.static_names.specs.Reach.{suits}
use Rattle.static_names.specs.Occurrences.{Occurrence, declares, used, names, declared_at}
use Rattle.static_names.specs.Rules.{place_of}

-- how many of the names stand at the place
abbrev pub count_at : Place → List Occurrence → ℕ
count_at q os = count_by (λ o. same_place (place_of o) q) os

-- at each place stands at most one name of the program
abbrev pub StandApart : Prog Place → Type 0
StandApart g = (q : Place) → count_at q (names g) ≤ 1

-- where and as what a name is declared that is used at a place
pub record IsFound (g : Prog Place) (place : Place) (want : NameUse) (means : Option Declared) : Type 0 where
  pub declared : Declared
  pub meant : means ≡ Some declared
  pub suited : suits want declared.kind ≡ true
  pub found : declared_at (names g) place ≡ Some declared.place

-- each use has its declaration, which is of the kind that the use asks for, and no declared name is
-- in reach before
pub record NamesFound (g : Prog Place) : Type 0 where
  pub uses : (name : Name) (place : Place) (want : NameUse) (means : Option Declared) → Contains (names g) (used name place want means) → IsFound g place want means
  pub free : (name : Name) (place : Place) (taken : Bool) → Contains (names g) (declares name place taken) → taken ≡ false
