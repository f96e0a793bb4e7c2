-- Elements of lists, and how many there are.
use Rattle.std.proofs.Common.{◌≡◌, ◌⊎◌, inl, inr, ℕ, zero, suc, List, [], ◌∷◌, Some, arith, refl, ap}
use Rattle.std.specs.Prelude.{slice_get, slice_set}
use Rattle.vm_state.specs.declared.threads.ControlBlock.{ControlBlock}
use Rattle.vm_state.specs.Threads.{thread_of, threads_of}

pub at_set : {X : Type 0} (xs : List X) (k : ℕ) (x : X) (j : ℕ) (y : X) → slice_get (slice_set xs k x) j ≡ Some y → ((k ≡ j) × (x ≡ y)) ⊎ ((k ≡ j → ⊥) × (slice_get xs j ≡ Some y))
at_set [] k x j y at = absurd cc
at_set (z ∷ zs) zero x zero y at = inl (refl, cc)
at_set (z ∷ zs) zero x (suc j) y at = inr (λ e. absurd (omega (arith, e)), at)
at_set (z ∷ zs) (suc k) x zero y at = inr (λ e. absurd (omega (arith, e)), at)
at_set (z ∷ zs) (suc k) x (suc j) y at = elim (at_set zs k x j y at) [ inl h ↦ inl (ap suc h.0, h.1) | inr h ↦ inr (λ e. h.0 (omega (arith, e)), h.1) ]

-- ---- processes, and cells of a board

pub thread_at : (cs : List ControlBlock) (k : ℕ) (c : ControlBlock) → slice_get cs k ≡ Some c → slice_get (threads_of cs) k ≡ Some (thread_of c)
thread_at [] k c at = absurd cc
thread_at (d ∷ cs) zero c at = let e : d ≡ c = cc in ap (λ (x : ControlBlock). Some (thread_of x)) e
thread_at (d ∷ cs) (suc k) c at = thread_at cs k c at
