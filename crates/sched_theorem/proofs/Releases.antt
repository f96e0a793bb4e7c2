-- How many releases there are in so many ticks.
use Rattle.std.proofs.Common.{◌≡◌, ℕ, zero, suc, ◌+◌, ◌*◌, ◌/◌, ◌-◌, ◌<◌, ◌≤◌, ◌⊎◌, inl, inr, refl, arith, ap, ◌∙◌}
use Rattle.std.specs.Prelude.{Bool, true}
use Rattle.std.specs.Int.{div_ceil}
use Rattle.std.proofs.lemmas.Bool.{cases_lt, cases_Bool}
use Rattle.std.proofs.lemmas.Nat.{le-div}
use Rattle.std.proofs.lemmas.Grind.{div_ceil_times}
use Rattle.std.proofs.Math.Nat.{mul-le-mul_right}
use Rattle.sched_theorem.specs.Stretches.{flag, Spaced, releases}

-- the last release of some: the others stand at least a frame apart before it
pub record Last (frame start ticks : ℕ) (released : ℕ → Bool) : Type 0 where
  pub place : ℕ
  pub within : place < ticks
  pub is_release : released (start + place) ≡ true
  pub far : releases released start ticks * frame ≤ place + frame

-- in so many ticks there is no release, or a last one
pub last_release : (frame end : ℕ) (released : ℕ → Bool) (start : ℕ) → Spaced frame end released → (ticks : ℕ) → start + ticks ≤ end → (releases released start ticks ≡ 0) ⊎ Last frame start ticks released
last_release frame end released start spaced zero within = inl refl
last_release frame end released start spaced (suc ticks) within =
    let was = last_release frame end released start spaced ticks (omega arith) in
    elim (cases_Bool (released (start + ticks))) [
      | inl here ↦
          let one : flag (released (start + ticks)) ≡ 1 = ap flag here in
          inr (record {
            place = ticks;
            within = omega arith;
            is_release = here;
            far =
                let split : (releases released start ticks + flag (released (start + ticks))) * frame ≡ releases released start ticks * frame + frame = next (releases released start ticks) (flag (released (start + ticks))) frame one in
                elim was [
                  | inl none ↦
                      let z : releases released start ticks * frame ≡ 0 = ap (λ n. n * frame) none ∙ omega arith in
                      omega arith
                  | inr l ↦
                      let apart : (start + l.place) + frame ≤ start + ticks = spaced (start + l.place) (start + ticks) (omega (arith, l.within)) (omega arith) l.is_release here in
                      omega (arith, l.far)
                ];
          })
      | inr none ↦
          let same : releases released start ticks + flag (released (start + ticks)) ≡ releases released start ticks = omega (arith, ap flag none) in
          elim was [
            | inl empty ↦ inl (omega arith)
            | inr l ↦ inr (record {
              place = l.place;
              within = omega (arith, l.within);
              is_release = l.is_release;
              far = let e : (releases released start ticks + flag (released (start + ticks))) * frame ≡ releases released start ticks * frame = ap (λ n. n * frame) same in omega (arith, l.far);
            })
          ]
    ]
  where
    next : (n f frame : ℕ) → f ≡ 1 → (n + f) * frame ≡ n * frame + frame
    next n f frame e = ap (λ k. (n + k) * frame) e ∙ grind arith

-- a number of frames below some ticks
below_ceil : (n frame ticks place : ℕ) → 0 < frame → place < ticks → n * frame ≤ place + frame → n ≤ div_ceil ticks frame
below_ceil n frame ticks place pos below far = elim (cases_lt (div_ceil ticks frame) n) [
  | inr le ↦ le
  | inl lt ↦
      let times = div_ceil_times ticks frame pos in
      let more : (div_ceil ticks frame + 1) * frame ≤ n * frame = mul-le-mul_right frame (let h : div_ceil ticks frame + 1 ≤ n = omega arith in h) in
      let split : (div_ceil ticks frame + 1) * frame ≡ div_ceil ticks frame * frame + frame = grind arith in
      absurd (omega (arith, times.0))
]

-- releases at least a frame apart are at most the ticks by the frame, rounded up
pub releases_ceil : (frame end : ℕ) (released : ℕ → Bool) (start ticks : ℕ) → 0 < frame → Spaced frame end released → start + ticks ≤ end → releases released start ticks ≤ div_ceil ticks frame
releases_ceil frame end released start ticks pos spaced within = elim (last_release frame end released start spaced ticks within) [
  | inl none ↦ omega arith
  | inr l ↦ below_ceil (releases released start ticks) frame ticks l.place pos l.within l.far
]

-- and those up to a place at most one more than the place by the frame
pub releases_until : (frame end : ℕ) (released : ℕ → Bool) (start ticks place : ℕ) → 0 < frame → Spaced frame end released → start + ticks ≤ end → ((k : ℕ) → k < ticks → released (start + k) ≡ true → k ≤ place) → releases released start ticks ≤ place / frame + 1
releases_until frame end released start ticks place pos spaced within until = elim (last_release frame end released start spaced ticks within) [
  | inl none ↦ omega arith
  | inr l ↦
      let n = releases released start ticks in
      let soon : l.place ≤ place = until l.place l.within l.is_release in
      elim (cases_lt 0 n) [
        | inr none ↦ omega arith
        | inl some ↦
            let e : n ≡ (n - 1) + 1 = omega arith in
            let split : ((n - 1) + 1) * frame ≡ (n - 1) * frame + frame = grind arith in
            let same : n * frame ≡ ((n - 1) + 1) * frame = ap (λ k. k * frame) e in
            let far : (n - 1) * frame ≤ place = omega (arith, l.far) in
            let h : n - 1 ≤ place / frame = le-div (n - 1) place frame pos far in
            omega arith
      ]
]

pub no_releases : (released : ℕ → Bool) (start ticks : ℕ) → ((k : ℕ) → k < ticks → released (start + k) ≡ true → ⊥) → releases released start ticks ≡ 0
no_releases released start zero none = refl
no_releases released start (suc ticks) none = elim (cases_Bool (released (start + ticks))) [
  | inl here ↦ absurd (none ticks (omega arith) here)
  | inr not_here ↦
      let rest = no_releases released start ticks (λ k below is. none k (omega arith) is) in
      let e : flag (released (start + ticks)) ≡ 0 = ap flag not_here in
      omega arith
]
