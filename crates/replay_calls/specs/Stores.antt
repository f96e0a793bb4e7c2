-- What a store to one of a list of variables comes to.
use Rattle.std.specs.Prelude.{◌≡◌, ℕ, Bool, true, false, cond, Option, Some, None, ℤ, slice_get, option_map}
use Rattle.syntax_tree.specs.Plain.{Name}
use Rattle.source_semantics.specs.Store.{Held, Slot, Vars, in_range, slot_named, replaced, stored}
use Rattle.source_semantics.specs.Run as run
use Rattle.replay_calls.specs.Places.{at_place, with_held}
use Rattle.replay_calls.specs.declared.storing.StoreResult.{StoreResult}
use Rattle.replay_calls.specs.declared.storing.StoreResult.TheVariants as stored_is

-- a change that may be refused was made, or nothing was changed
abbrev pub IsTried : {A : Type 0} → Option A → (old : A) → Bool → (new : A) → Type 0
IsTried expected old true new = expected ≡ Some new
IsTried expected old false new = (expected ≡ None) × (new ≡ old)

-- what a variable holds after a store; None where the value is out of its range, or the index out
-- of its bounds
abbrev pub put : Option ℤ → ℤ → Slot → Option Held
put index v s = cond (in_range s.range v) (stored s.held index v) None

abbrev pub put_slot : Option ℤ → ℤ → Slot → Option Slot
put_slot index v s = option_map (λ h. with_held h s) (put index v s)

-- the variables after a store to the first of that name; None where there is none of that name
abbrev pub put_found : Name → Option ℤ → ℤ → Vars → Option Slot → Option (Option Vars)
put_found x index v vs None = None
put_found x index v vs (Some s) = Some (option_map (λ h. replaced x h vs) (put index v s))

abbrev pub put_named : Name → Option ℤ → ℤ → Vars → Option (Option Vars)
put_named x index v vs = put_found x index v vs (slot_named x vs)

abbrev pub IsStored : Option (Option Vars) → (old : Vars) → StoreResult → (new : Vars) → Type 0
IsStored expected old stored_is.Absent new = (expected ≡ None) × (new ≡ old)
IsStored expected old stored_is.Refused new = (expected ≡ Some None) × (new ≡ old)
IsStored expected old stored_is.Done new = expected ≡ Some (Some new)

abbrev pub tried : Bool → StoreResult
tried true = stored_is.Done
tried false = stored_is.Refused

-- the same of the variable at a place, where that is the first of its name
abbrev pub IsStoredAt : Vars → ℕ → Option ℤ → ℤ → Bool → Vars → Type 0
IsStoredAt old at index v done new =
    (x : Name) → slot_named x old ≡ slice_get old at → ((held : Held) → replaced x held old ≡ at_place (with_held held) at old)
    → IsStored (put_named x index v old) old (tried done) new

-- a store to no variable of the list is no fault
abbrev pub accepted : StoreResult → Bool
accepted stored_is.Refused = false
accepted _ = true

-- what a store comes to
abbrev pub store_run : Bool → run.Memory → run.Run
store_run true m = run.goes m
store_run false m = run.fails 3 m
