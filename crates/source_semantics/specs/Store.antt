-- Variables by name, with the range and the bounds of their declaration.
use Rattle.std.specs.Prelude.{ℕ, suc, Bool, true, cond, ◌&&◌, List, [], ◌∷◌, Option, Some, None, ℤ, pos, negsuc, ◌-ℤ◌, int_le, replicate, slice_get, slice_set, length, nat_lt, bytes_eq, option_map}
use Rattle.syntax_tree.specs.Plain.{Name, Scalar, int, boolean, subrange, Kind, scalar, array, Var, Program}
use Rattle.source_semantics.specs.Names.{named, constant_value}
use Rattle.base.specs.Words.{Answer, word, raised}

pub record Range : Type 0 where
  pub low : ℤ
  pub high : ℤ

-- one word, or the words of an array from its lower bound on
pub data Held : Type 0 where
  one : ℤ → Held
  many : (low : ℤ) → List ℤ → Held

-- a variable: the range that its values keep to, if any, and what it holds
pub record Slot : Type 0 where
  pub name : Name
  pub range : Option Range
  pub held : Held

abbrev pub Vars : Type 0
Vars = List Slot

abbrev pub range_of : Program → Scalar → Option Range
range_of g int = None
range_of g boolean = None
range_of g (subrange low high) = Some (record { low = constant_value g low; high = constant_value g high })

abbrev pub in_range : Option Range → ℤ → Bool
in_range None v = true
in_range (Some r) v = int_le r.low v && int_le v r.high

-- the value where it keeps to the range
abbrev pub checked : Option Range → ℤ → Answer
checked r v = cond (in_range r v) (word v) (raised 3)

abbrev pub up_to : ℤ → ℕ
up_to (pos n) = suc n
up_to (negsuc n) = 0

-- a variable as it starts: 0 or false in each word
abbrev pub fresh_held : Program → Kind → Held
fresh_held g (scalar k) = one (pos 0)
fresh_held g (array low high k) = many (constant_value g low) (replicate (up_to (constant_value g high -ℤ constant_value g low)) (pos 0))

abbrev pub kind_range : Program → Kind → Option Range
kind_range g (scalar k) = range_of g k
kind_range g (array low high k) = range_of g k

abbrev pub fresh : Program → Var → Slot
fresh g v = record { name = v.name; range = kind_range g v.kind; held = fresh_held g v.kind }

abbrev pub slot_named : Name → Vars → Option Slot
slot_named x vs = named (λ s. s.name) x vs

-- the variable of that name holds this now
abbrev pub replaced : Name → Held → Vars → Vars
replaced x h [] = []
replaced x h (s ∷ ss) = cond (bytes_eq s.name x) (record { name = s.name; range = s.range; held = h } ∷ ss) (s ∷ replaced x h ss)

-- the place of an index in an array
abbrev pub place_in : ℤ → List ℤ → ℤ → Option ℕ
place_in low ws (pos k) = cond (nat_lt k (length ws)) (Some k) None
place_in low ws (negsuc k) = None

abbrev pub place_at : ℤ → List ℤ → ℤ → Option ℕ
place_at low ws i = place_in low ws (i -ℤ low)

abbrev pub element_at : List ℤ → Option ℕ → Answer
element_at ws None = raised 3
element_at ws (Some k) = elim (slice_get ws k) [ Some v ↦ word v | None ↦ raised 3 ]

-- what a variable holds, or an element of it
abbrev pub read : Held → Answer
read (one v) = word v
read (many low ws) = word (pos 0)

abbrev pub read_at : Held → ℤ → Answer
read_at (one v) i = word v
read_at (many low ws) i = element_at ws (place_at low ws i)

-- what a variable holds after a store; None where the index is out of bounds
abbrev pub stored : Held → Option ℤ → ℤ → Option Held
stored (one w) index v = Some (one v)
stored (many low ws) None v = Some (many low ws)
stored (many low ws) (Some i) v = option_map (λ k. many low (slice_set ws k v)) (place_at low ws i)
