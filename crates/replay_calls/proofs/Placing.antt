-- A store to the variable at a place, and the variable of an argument.
use Rattle.std.specs.Prelude.{◌≡◌, ℕ, zero, suc, Bool, true, false, List, [], ◌∷◌, Option, Some, None, ℤ, option_map, map, slice_get, slice_set}
use Rattle.std.proofs.Common.{refl, sym, ◌∙◌, ap}
use Rattle.syntax_tree.specs.Plain.{Name}
use Rattle.source_semantics.specs.Store.{Held, Slot, Vars, slot_named, replaced}
use Rattle.replay_calls.specs.Places.{at_place, with_held}
use Rattle.replay_calls.specs.Stores.{IsTried, IsStored, put, put_slot, put_found, put_named, tried}

pub mapped_set : {A B : Type 0} (f : A → B) (xs : List A) (k : ℕ) (x : A) → map f (slice_set xs k x) ≡ slice_set (map f xs) k (f x)
mapped_set f [] k x = refl
mapped_set f (y ∷ xs) zero x = refl
mapped_set f (y ∷ xs) (suc k) x = ap (λ l. f y ∷ l) (mapped_set f xs k x)

set_same : (vs : Vars) (k : ℕ) (s : Slot) → slice_get vs k ≡ Some s → slice_set vs k s ≡ vs
set_same [] k s h = refl
set_same (x ∷ xs) zero s h = let is : x ≡ s = cc in ap (λ y. y ∷ xs) (sym is)
set_same (x ∷ xs) (suc k) s h = ap (λ l. x ∷ l) (set_same xs k s h)

put_done : (x : Name) (old : Vars) (k : ℕ) (s t : Slot) (p : Option Held) → ((held : Held) → replaced x held old ≡ at_place (with_held held) k old) → slice_get old k ≡ Some s → option_map (λ h. with_held h s) p ≡ Some t
    → option_map (λ h. replaced x h old) p ≡ Some (slice_set old k t)
put_done x old k s t None over got done = absurd cc
put_done x old k s t (Some h) over got done =
    let is : with_held h s ≡ t = cc in
    ap (λ l. Some l) (over h ∙ (ap (λ o. elim o [ None ↦ old | Some b ↦ slice_set old k (with_held h b) ]) got ∙ ap (slice_set old k) is))

put_past : (x : Name) (old : Vars) (s : Slot) (p : Option Held) → option_map (λ h. with_held h s) p ≡ None → option_map (λ h. replaced x h old) p ≡ None
put_past x old s None past = refl
put_past x old s (Some h) past = absurd cc

pub stored_at : (x : Name) (i : Option ℤ) (v : ℤ) (old new : Vars) (k : ℕ) (s t : Slot) (b : Bool)
    → slot_named x old ≡ slice_get old k → ((held : Held) → replaced x held old ≡ at_place (with_held held) k old) → slice_get old k ≡ Some s → new ≡ slice_set old k t
    → IsTried (put_slot i v s) s b t → IsStored (put_named x i v old) old (tried b) new
stored_at x i v old new k s t true named over got is done =
    ap (put_found x i v old) (named ∙ got) ∙ ap (λ o. Some o) (put_done x old k s t (put i v s) over got done ∙ ap (λ l. Some l) (sym is))
stored_at x i v old new k s t false named over got is done = (
  ap (put_found x i v old) (named ∙ got) ∙ ap (λ o. Some o) (put_past x old s (put i v s) done.0),
  is ∙ (ap (slice_set old k) done.1 ∙ set_same old k s got),
)
