-- Variables at a place of a list.
use Rattle.std.specs.Prelude.{◌≡◌, ◌<◌, ℕ, List, Option, Some, None, length, slice_get, slice_set}
use Rattle.syntax_tree.specs.Plain.{Name}
use Rattle.source_semantics.specs.Store.{Held, Slot, Vars, slot_named, replaced}

-- the thing at a place is changed, where there is one
abbrev pub at_place : {A : Type 0} → (A → A) → ℕ → List A → List A
at_place f k xs = elim (slice_get xs k) [ None ↦ xs | Some x ↦ slice_set xs k (f x) ]

abbrev pub with_held : Held → Slot → Slot
with_held h s = record { name = s.name; range = s.range; held = h }

-- the place is that of the first variable of the name
abbrev pub IsPlace : Name → Vars → Option ℕ → Type 0
IsPlace x vs None = slot_named x vs ≡ None
IsPlace x vs (Some k) = (k < length vs) × (slot_named x vs ≡ slice_get vs k) × ((h : Held) → replaced x h vs ≡ at_place (with_held h) k vs)
