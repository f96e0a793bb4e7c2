-- The place of the first variable of a name.
use Rattle.std.specs.Prelude.{◌≡◌, ◌+◌, ℕ, suc, true, false, cond, ◌∷◌, Option, Some, None, option_map, slice_get, slice_set, bytes_eq}
use Rattle.std.proofs.Common.{refl, ◌∙◌, ap, arith, subst}
use Rattle.syntax_tree.specs.Plain.{Name}
use Rattle.source_semantics.specs.Store.{Held, Slot, Vars, slot_named, replaced}
use Rattle.replay_calls.specs.Places.{IsPlace, with_held}

pub place_here : (x : Name) (s : Slot) (ss : Vars) → bytes_eq s.name x ≡ true → IsPlace x (s ∷ ss) (Some 0)
place_here x s ss e = (omega arith, ap (λ b. cond b (Some s) (slot_named x ss)) e, (λ h. ap (λ b. cond b (with_held h s ∷ ss) (s ∷ replaced x h ss)) e))

pub place_next : (x : Name) (s : Slot) (ss : Vars) (o : Option ℕ) → bytes_eq s.name x ≡ false → IsPlace x ss o → IsPlace x (s ∷ ss) (option_map suc o)
place_next x s ss None e h = ap (λ b. cond b (Some s) (slot_named x ss)) e ∙ h
place_next x s ss (Some k) e h = (
  omega (arith, h.0),
  ap (λ b. cond b (Some s) (slot_named x ss)) e ∙ h.1,
  (λ held. ap (λ b. cond b (with_held held s ∷ ss) (s ∷ replaced x held ss)) e ∙ (ap (λ l. s ∷ l) (h.2 held) ∙ moved held (slice_get ss k))),
)
  where
    moved : (held : Held) (o : Option Slot) → s ∷ elim o [ None ↦ ss | Some b ↦ slice_set ss k (with_held held b) ] ≡ elim o [ None ↦ s ∷ ss | Some b ↦ s ∷ slice_set ss k (with_held held b) ]
    moved held None = refl
    moved held (Some b) = refl

pub place_on : (x : Name) (vs : Vars) (at : ℕ) (o : Option ℕ) → IsPlace x vs (option_map (λ k. at + k) (option_map suc o)) → IsPlace x vs (option_map (λ k. at + 1 + k) o)
place_on x vs at None h = h
place_on x vs at (Some k) h = let e : at + suc k ≡ at + 1 + k = omega arith in subst (λ n. IsPlace x vs (Some n)) e h
