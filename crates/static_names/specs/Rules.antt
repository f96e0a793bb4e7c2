-- The rules for names, each as a predicate on a program and a place.
use Rattle.std.specs.Prelude.{◌≡◌, ℕ, Bool, true, false, not, ◌⊎◌, List, [], ◌∷◌, Some, None}
use Rattle.syntax_tree.specs.Placed.{Prog}
use Rattle.syntax_tree.specs.declared.place.Place.{Place}
use Rattle.static_names.specs.Reach.{same, suits}
use Rattle.static_names.specs.Occurrences.{Occurrence, declares, closes, used, names}

-- some of the names are so
abbrev pub Among : (Occurrence → Type 0) → List Occurrence → Type 0
Among P [] = ⊥
Among P (o ∷ os) = P o ⊎ Among P os

abbrev pub place_of : Occurrence → Place
place_of (declares name place taken) = place
place_of (closes name place opening) = place
place_of (used name place want means) = place

-- a name that is used is declared nowhere in reach
abbrev pub undeclared : Occurrence → Bool
undeclared (used name place want None) = true
undeclared o = false

-- a name is declared where the same name is in reach
abbrev pub shadows : Occurrence → Bool
shadows (declares name place taken) = taken
shadows o = false

-- a name is of the wrong kind for its use
abbrev pub misused : Occurrence → Bool
misused (used name place want (Some d)) = not (suits want d.kind)
misused o = false

-- a closing name differs from the opening one
abbrev pub misclosed : Occurrence → Bool
misclosed (closes name place opening) = not (same name opening)
misclosed o = false

-- a name of the program that stands at the place passes the test
abbrev pub Stands : (Occurrence → Bool) → Prog Place → Place → Type 0
Stands test g place = Among (λ o. (place_of o ≡ place) × (test o ≡ true)) (names g)

-- the rule of that number fails at the place
abbrev pub Fails : Prog Place → ℕ → Place → Type 0
Fails g number place = ((number ≡ 20) × Stands undeclared g place) ⊎ (((number ≡ 21) × Stands shadows g place) ⊎ (((number ≡ 22) × Stands misused g place) ⊎ ((number ≡ 23) × Stands misclosed g place)))

-- a name is used at the place, and it is declared at the other
abbrev pub Means : Place → Occurrence → Type 0
Means declared (used name place want None) = ⊥
Means declared (used name place want (Some d)) = d.place ≡ declared
Means declared (declares name place taken) = ⊥
Means declared (closes name place opening) = ⊥

abbrev pub IsUse : Occurrence → Type 0
IsUse (used name place want means) = Unit {0}
IsUse (declares name place taken) = ⊥
IsUse (closes name place opening) = ⊥

abbrev pub NamesAt : Prog Place → Place → Place → Type 0
NamesAt g place declared = Among (λ o. (place_of o ≡ place) × Means declared o) (names g)

-- a name is used at the place
abbrev pub UsedAt : Prog Place → Place → Type 0
UsedAt g place = Among (λ o. (place_of o ≡ place) × IsUse o) (names g)
