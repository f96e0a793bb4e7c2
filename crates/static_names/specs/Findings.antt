-- What the walk over a tree keeps of the names that it meets: the first rule that fails, and where
-- each used name is declared.
use Rattle.std.specs.Prelude.{ℕ, Bool, ◌&&◌, List, [], ◌∷◌, Option, Some, None, if◌then◌else◌, nat_eq}
use Rattle.indexmap.specs.IndexMap.{insert_entry}
use Rattle.syntax_tree.specs.declared.place.Place.{Place}
use Rattle.static_rule.specs.declared.violation.Violation.{Violation}
use Rattle.static_rule.specs.First.{sooner}
use Rattle.static_names.specs.declared.kind.Declared.{Declared}
use Rattle.static_names.specs.declared.kind.NameUse.{NameUse}
use Rattle.static_names.specs.Reach.{same, suits}
use Rattle.static_names.specs.Occurrences.{Occurrence, declares, closes, used}

abbrev pub Key : Type 0
Key = ℕ × ℕ

abbrev pub same_key : Key → Key → Bool
same_key x y = nat_eq x.0 y.0 && nat_eq x.1 y.1

abbrev pub key_of : Place → Key
key_of p = (p.line, p.col)

pub record Found : Type 0 where
  pub first : Option Violation
  pub ties : List (Key × Place)

abbrev pub blame : Found → ℕ → Place → Found
blame f number place = record f { first = sooner (Some (record { number = number; place = place })) f.first }

abbrev pub tie : Found → Place → Place → Found
tie f place declared = record f { ties = insert_entry same_key f.ties (key_of place) declared }

abbrev pub note_use : Found → Place → NameUse → Option Declared → Found
note_use f place want None = blame f 20 place
note_use f place want (Some d) = if suits want d.kind then tie f place d.place else blame f 22 place

abbrev pub note_declaration : Found → Place → Bool → Found
note_declaration f place taken = if taken then blame f 21 place else f

abbrev pub note : Found → Occurrence → Found
note f (declares name place taken) = note_declaration f place taken
note f (closes name place opening) = if same name opening then f else blame f 23 place
note f (used name place want means) = note_use f place want means

abbrev pub noted : Found → List Occurrence → Found
noted f [] = f
noted f (o ∷ os) = noted (note f o) os
