-- The first of a name in a list of names, and what the code's table says of it.
use Rattle.std.specs.Prelude.{◌≡◌, ℕ, suc, cond, List, [], ◌∷◌, map, Option, Some, None, option_map, bytes_eq, if◌then◌else◌}
use Rattle.std.specs.Map.{lookup}
use Rattle.std.specs.Borrow.{Bor}
use Rattle.syntax_tree.specs.Plain.{Name}
use Rattle.source_semantics.specs.Run.{or_else}

-- the index of the first of that name, from 0
abbrev pub index_of : Name → List Name → Option ℕ
index_of n [] = None
index_of n (m ∷ ms) = cond (bytes_eq m n) (Some 0) (option_map (λ k. suc k) (index_of n ms))

-- what contracts see of borrowed names
abbrev pub names_of : List (Bor Name) → List Name
names_of ns = map (λ n. n.now) ns

-- the index that the table has for a name
abbrev pub first_index : List (Bor Name × ℕ) → Name → Option ℕ
first_index entries n = lookup (λ k. bytes_eq n k.now) entries

-- once the index of one more name is kept, unless that name has one
abbrev pub with_first : (Name → Option ℕ) → Name → ℕ → Name → Option ℕ
with_first known m i = λ n. or_else (known n) (if bytes_eq n m then Some i else None)

-- once more names are kept, whose indexes begin with this one
abbrev pub with_names : (Name → Option ℕ) → ℕ → List Name → Name → Option ℕ
with_names known i [] = known
with_names known i (m ∷ ms) = with_names (with_first known m i) (suc i) ms

abbrev pub nothing : Name → Option ℕ
nothing n = None

-- the table has the index of the first of each name
pub record FindsFirst (entries : List (Bor Name × ℕ)) (names : List Name) : Type 0 where
  pub finds : first_index entries ≡ with_names nothing 0 names
