-- What files in memory hold, which names have been kept, and how often.
use Rattle.std.specs.Prelude.{ℕ, List, Option, count_by, map, Vec, String, string_bytes}
use Rattle.std.specs.Global.{Global}
use Rattle.std.specs.Option.{option_map}
use Rattle.std.specs.Str.{bytes_eq}
use Rattle.std.specs.BTreeMap.{BTreeMap, get_by_text}

-- names with the bytes under them
abbrev pub Store : Type 0
Store = BTreeMap (String Global) (Vec ℕ Global)

-- the bytes under a name, if it is there
abbrev pub held_in : Store → List ℕ → Option (List ℕ)
held_in store name = option_map (λ v. v.items) (get_by_text store name)

-- the names, each by its bytes
abbrev pub names_in : List (String Global) → List (List ℕ)
names_in names = map string_bytes names

-- how many of the names are this one
abbrev pub count_of : List (String Global) → List ℕ → ℕ
count_of names name = count_by (λ s. bytes_eq (string_bytes s) name) names
