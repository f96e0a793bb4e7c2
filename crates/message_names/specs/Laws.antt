-- How what is told of names agrees with the rules for names.
use Rattle.std.specs.Prelude.{◌≡◌, ℕ, Bool, false, ◌↔◌, true, IsSome, is_some, Option, Some, option_map, Contains, count_by}
use Rattle.syntax_tree.specs.Plain.{Name}
use Rattle.syntax_tree.specs.Placed.{Prog}
use Rattle.syntax_tree.specs.Parts.{same_place}
use Rattle.syntax_tree.specs.declared.place.Place.{Place}
use Rattle.static_names.specs.declared.kind.Declared.{Declared}
use Rattle.static_names.specs.declared.kind.NameUse.{NameUse}
use Rattle.static_names.specs.declared.kind.NameUse.TheVariants as want_is
use Rattle.static_names.specs.Occurrences.{closes, declares, names, used}
use Rattle.static_names.specs.Resolved.{IsRead}
use Rattle.static_names.specs.Rules.{Fails, Stands, place_of}
use Rattle.message_names.specs.Mentions.{mention, mentions, uses}
use Rattle.message_names.specs.Reach.{meaning, mention_at}
use Rattle.message_names.specs.declared.role.Reach.{Reach}
use Rattle.message_names.specs.declared.role.Role.TheVariants as role_is
use Rattle.message_names.specs.declared.role.Wanted.{Wanted}
use Rattle.message_names.specs.Told.{misclosed, name_sentence}

-- at each place stand as many of the names that are told as of those that the rules are about
abbrev pub ListsEachName : Type 0
ListsEachName = (g : Prog Place) (place : Place) → count_by (λ m. same_place m.place place) (mentions g) ≡ count_by (λ o. same_place (place_of o) place) (names g)

-- a sentence is there exactly where a name stands
abbrev pub TellsOfNames : Type 0
TellsOfNames = (g : Prog Place) (number : ℕ) (place : Place) → IsSome (name_sentence g number place) ↔ Stands (λ o. true) g place

-- a sentence is there wherever one of the rules fails
abbrev pub TellsOfFailures : Type 0
TellsOfFailures = (g : Prog Place) (number : ℕ) (place : Place) → Fails g number place → IsSome (name_sentence g number place)

-- of a closing name is told that the name is wanted which it has to repeat
abbrev pub TellsOfClosing : Type 0
TellsOfClosing = (g : Prog Place) → IsRead g → (name : Name) (place : Place) (opening : Name) → Contains (names g) (closes name place opening) → name_sentence g 23 place ≡ Some (misclosed name opening)

-- a name that is used with no full stop and monitor before it
abbrev pub stands_alone : NameUse → Bool
stands_alone want_is.Entry = false
stands_alone want = true

-- the use is told that stands at the place, and what it means is the declaration that the rules say, or none where they say none
pub record IsTold (g : Prog Place) (name : Name) (place : Place) (means : Option Declared) : Type 0 where
  pub wanted : Wanted
  pub stands : mention_at place (mentions g) ≡ Some (uses wanted name place)
  pub meant : option_map (λ m. m.place) (meaning (mentions g) (uses wanted name place)) ≡ option_map (λ d. d.place) means

-- each use that stands alone is told so
abbrev pub TellsOfUses : Type 0
TellsOfUses = (g : Prog Place) → IsRead g → (name : Name) (place : Place) (want : NameUse) (means : Option Declared) → Contains (names g) (used name place want means) → stands_alone want ≡ true → IsTold g name place means

-- the declaration is told that stands at the place, and another of its name is found in reach exactly where the rules say that
-- it is taken
pub record IsToldDeclared (g : Prog Place) (name : Name) (place : Place) (taken : Bool) : Type 0 where
  pub reach : Reach
  pub stands : mention_at place (mentions g) ≡ Some (mention name place (role_is.Declares reach))
  pub other : is_some (meaning (mentions g) (mention name place (role_is.Declares reach))) ≡ taken

-- each declaration is told so
abbrev pub TellsOfDeclarations : Type 0
TellsOfDeclarations = (g : Prog Place) → IsRead g → (name : Name) (place : Place) (taken : Bool) → Contains (names g) (declares name place taken) → IsToldDeclared g name place taken
