-- The releases of a periodic process.
use Rattle.std.specs.Prelude.{◌≡◌, ℕ, ◌+◌, ◌-◌, ◌*◌, ◌/◌, ◌%◌, ◌≤◌, ◌<◌, Bool, true, false, ◌&&◌, nat_eq, nat_le}
use Rattle.std.specs.Int.{div_ceil}
use Rattle.std.proofs.Common.{refl, ◌∙◌, ap, inl, inr, arith, subst}
use Rattle.std.proofs.lemmas.Bool.{cases_lt}
use Rattle.std.proofs.lemmas.Bool.Decides.{nat_tests}
use Rattle.std.proofs.lemmas.Grind.{div_ceil_times}
use Rattle.std.proofs.lemmas.Nat.{div-add-mod'}
use Rattle.std.proofs.Math.Nat.{mul-mod_left, mul-le-mul_right}
use Rattle.replay_due_events.specs.NextDue.{release_from}

-- a release is due at this tick
abbrev pub falls : (first frame t : ℕ) → Bool
falls first frame t = nat_le first t && nat_eq ((t - first) % frame) 0

times_one_more : (a f : ℕ) → (a + 1) * f ≡ a * f + f
times_one_more a f = grind arith

-- between two multiples that follow one another there is none
apart : (a b f : ℕ) → a * f < b * f → b * f < a * f + f → ⊥
apart a b f low high =
    elim (cases_lt a b) [
      | inl lt ↦
          let more : (a + 1) * f ≤ b * f = mul-le-mul_right f (let h : a + 1 ≤ b = omega arith in h) in
          let split : (a + 1) * f ≡ a * f + f = times_one_more a f in
          omega (arith, more, split, high)
      | inr ge ↦ let less : b * f ≤ a * f = mul-le-mul_right f ge in omega (arith, less, low)
    ]

-- what falls is the first activation and a multiple of the frame after it
pub falls_multiple : (first frame t : ℕ) → falls first frame t ≡ true → t ≡ first + (t - first) / frame * frame
falls_multiple first frame t h =
    let low : first ≤ t = grind (arith, nat_tests) in
    let zero : (t - first) % frame ≡ 0 = grind (arith, nat_tests) in
    let split : (t - first) / frame * frame + (t - first) % frame ≡ t - first = div-add-mod' (t - first) frame in
    omega (arith, low, zero, split)

pub multiple_falls : (first frame n : ℕ) → falls first frame (first + n * frame) ≡ true
multiple_falls first frame n =
    let rest : first + n * frame - first ≡ n * frame = omega arith in
    let zero : (first + n * frame - first) % frame ≡ 0 = ap (λ k. k % frame) rest ∙ mul-mod_left n frame in
    let low : nat_le first (first + n * frame) ≡ true = grind (arith, nat_tests) in
    let none : nat_eq ((first + n * frame - first) % frame) 0 ≡ true = ap (λ k. nat_eq k 0) zero in
    rw (low, none) refl

pub from_low : (first frame from : ℕ) → 0 < frame → from ≤ release_from first frame from
from_low first frame from pos = let h = div_ceil_times (from - first) frame pos in omega (arith, h.0)

pub from_falls : (first frame from : ℕ) → falls first frame (release_from first frame from) ≡ true
from_falls first frame from = multiple_falls first frame (div_ceil (from - first) frame)

-- no tick before it falls
pub none_before : (first frame from u : ℕ) → 0 < frame → from ≤ u → u < release_from first frame from → falls first frame u ≡ false
none_before first frame from u pos low high = by_case (falls first frame u) refl
  where
    by_case : (b : Bool) → falls first frame u ≡ b → falls first frame u ≡ false
    by_case false e = e
    by_case true e =
        let is : u ≡ first + (u - first) / frame * frame = falls_multiple first frame u e in
        let h = div_ceil_times (from - first) frame pos in
        let m : ℕ = (u - first) / frame in
        let n : ℕ = div_ceil (from - first) frame in
        absurd (apart m n frame (omega (arith, is, high)) (omega (arith, is, h.1, low)))

-- and none between one that falls and a frame later
pub none_between : (first frame t u : ℕ) → falls first frame t ≡ true → t < u → u < t + frame → falls first frame u ≡ false
none_between first frame t u at low high = by_case (falls first frame u) refl
  where
    by_case : (b : Bool) → falls first frame u ≡ b → falls first frame u ≡ false
    by_case false e = e
    by_case true e =
        let is_u : u ≡ first + (u - first) / frame * frame = falls_multiple first frame u e in
        let is_t : t ≡ first + (t - first) / frame * frame = falls_multiple first frame t at in
        absurd (apart ((t - first) / frame) ((u - first) / frame) frame (omega (arith, is_u, is_t, low)) (omega (arith, is_u, is_t, high)))

-- a frame after one that falls the next one does
pub next_falls : (first frame t : ℕ) → falls first frame t ≡ true → falls first frame (t + frame) ≡ true
next_falls first frame t at =
    let is_t : t ≡ first + (t - first) / frame * frame = falls_multiple first frame t at in
    let more : ((t - first) / frame + 1) * frame ≡ (t - first) / frame * frame + frame = times_one_more ((t - first) / frame) frame in
    let e : first + ((t - first) / frame + 1) * frame ≡ t + frame = omega (arith, is_t, more) in
    subst (λ k. falls first frame k ≡ true) e (multiple_falls first frame ((t - first) / frame + 1))
