-- The search for the block of the last process with a deadline.
use Rattle.std.proofs.Common.{◌≡◌, ◌≤◌, ◌<◌, ◌+◌, ◌∙◌, inl, inr, ℕ, Some, length, refl, sym, ap, arith}
use Rattle.std.specs.Prelude.{slice_get}
use Rattle.std.proofs.lemmas.Bool.{cases_lt}
use Rattle.std.proofs.lemmas.Option.{slice_get_within}
use Rattle.machine_semantics.specs.Image.{Image, Process}
use Rattle.edf_admission.specs.Steps.{IsLastBlock, IsLastSoFar}

-- at the start it is the process itself
pub first_last : (m : Image) (k : ℕ) (p : Process) → slice_get m.processes k ≡ Some p → IsLastSoFar m p.deadline 0 p.rank p.block
first_last m k p at = record { k = k; q = p; at = at; of = refl; ranks = refl; is = refl; last = λ j x low. absurd (omega (arith, low)) }

module _ (m : Image) (d n rank block : ℕ) (p : Process) (at : slice_get m.processes n ≡ Some p) (s : IsLastSoFar m d n rank block) where
  same_place : (j : ℕ) (x : Process) → j ≡ n → slice_get m.processes j ≡ Some x → x ≡ p
  same_place j x is there = let e : Some x ≡ Some p = sym there ∙ (ap (λ i. slice_get m.processes i) is ∙ at) in cc

  -- the next one is the last so far
  pub next_is_last : p.deadline ≡ d → rank < p.rank → IsLastSoFar m d (n + 1) p.rank p.block
  next_is_last of up = record {
    k = n;
    q = p;
    at = at;
    of = of;
    ranks = refl;
    is = refl;
    last = λ j x low there due. elim (cases_lt j n) [
      | inl less ↦ (let l = s.last j x less there due in omega (arith, l, up))
      | inr here ↦ (let e = ap (λ (y : Process). y.rank) (same_place j x (omega (arith, here, low)) there) in omega (arith, e))
    ];
  }

  -- the next one is not
  pub next_is_not : (p.deadline ≡ d → p.rank ≤ rank) → IsLastSoFar m d (n + 1) rank block
  next_is_not not_above = record {
    k = s.k;
    q = s.q;
    at = s.at;
    of = s.of;
    ranks = s.ranks;
    is = s.is;
    last = λ j x low there due. elim (cases_lt j n) [
      | inl less ↦ s.last j x less there due
      | inr here ↦ (let same = same_place j x (omega (arith, here, low)) there in
          let l = not_above (sym (ap (λ (y : Process). y.deadline) same) ∙ due) in
          let e = ap (λ (y : Process). y.rank) same in
          omega (arith, l, e))
    ];
  }

-- past all processes it is the last of all
pub last_is : (m : Image) (d n rank block : ℕ) → length m.processes ≤ n → IsLastSoFar m d n rank block → IsLastBlock m d block
last_is m d n rank block past s = record {
  k = s.k;
  q = s.q;
  at = s.at;
  of = s.of;
  last = λ j x there same. (let l = s.last j x (omega (arith, past, slice_get_within m.processes j x there)) there (same ∙ s.of) in omega (arith, l, s.ranks));
  is = s.is;
}
