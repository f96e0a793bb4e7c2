-- What is asked for, and the points, rise with the ticks; and so there is one reach.
use Rattle.std.proofs.Common.{◌≡◌, ◌≤◌, ◌<◌, ◌+◌, ◌-◌, ◌*◌, ◌/◌, inl, inr, ℕ, suc, List, [], ◌∷◌, arith}
use Rattle.std.specs.Prelude.{sum_by, All}
use Rattle.std.specs.Int.{div_ceil}
use Rattle.std.proofs.lemmas.Bool.{cases_lt}
use Rattle.std.proofs.lemmas.Nat.{le-div, div_below}
use Rattle.std.proofs.lemmas.List.Sums.{sum_by-cons}
use Rattle.std.proofs.Math.Nat.{mul-le-mul_right}
use Rattle.sched_demand.specs.declared.tasks.DemandTask.{DemandTask}
use Rattle.sched_demand.specs.Demand.{IsTask, AreTasks, due_by, asked, points, points_of, IsReach, NoneCovers, IsMost}
use Rattle.sched_response.proofs.Rising.{div_ceil_mono}
use Rattle.sched_demand.proofs.Demanding.{due_none, due_some}

-- a sum of larger terms
sum_mono : (f g : DemandTask → ℕ) (ts : List DemandTask) → All IsTask ts → ((x : DemandTask) → IsTask x → f x ≤ g x) → sum_by f ts ≤ sum_by g ts
sum_mono f g [] all le = omega arith
sum_mono f g (t ∷ ts) all le =
    let here = le t (all 0 t (omega arith)) in
    let rest = sum_mono f g ts (λ k d below. all (suc k) d (omega arith)) le in
    let e = sum_by-cons f t ts in
    let h = sum_by-cons g t ts in
    omega arith

pub asked_mono : (ts : List DemandTask) (r s : ℕ) → AreTasks ts → r ≤ s → asked ts r ≤ asked ts s
asked_mono ts r s are le = sum_mono (λ x. div_ceil r x.frame * x.cost) (λ x. div_ceil s x.frame * x.cost) ts are.each (λ x is. mul-le-mul_right x.cost (div_ceil_mono r s x.frame (omega (arith, is.frame_low)) le))

due_mono : (r s : ℕ) (x : DemandTask) → IsTask x → r ≤ s → due_by r x ≤ due_by s x
due_mono r s x is le = elim (cases_lt r x.deadline) [
  | inl late ↦ let e = due_none r x late in omega arith
  | inr soon ↦
      let pos : 0 < x.frame = omega (arith, is.frame_low) in
      let e = due_some r x soon in
      let f = due_some s x (omega arith) in
      let h : (r - x.deadline) / x.frame ≤ (s - x.deadline) / x.frame = div_mono (r - x.deadline) (s - x.deadline) x.frame pos (omega arith) in
      omega arith
]
  where
    div_mono : (a b n : ℕ) → 0 < n → a ≤ b → a / n ≤ b / n
    div_mono a b n pos le = elim (cases_lt (b / n) (a / n)) [
      | inr ge ↦ ge
      | inl lt ↦ absurd (
          let q : a / n < a / n = (elim (cases_lt b (a / n * n)) [
            | inl less ↦ div_below a n (a / n) pos (omega arith)
            | inr more ↦ absurd (let h : a / n ≤ b / n = le-div (a / n) b n pos more in omega arith)
          ]) in
          omega arith)
    ]

pub points_mono : (ts : List DemandTask) (r s : ℕ) → AreTasks ts → r ≤ s → points ts r ≤ points ts s
points_mono ts r s are le = sum_mono (points_of r) (points_of s) ts are.each (λ x is. due_mono r s x is le)

-- from an iterate to the next
pub none_up : (ts : List DemandTask) (block reach next : ℕ) → AreTasks ts → IsMost ts block → NoneCovers ts reach → next ≤ block + asked ts reach → NoneCovers ts next
none_up ts block reach next are most none low r above below covers = elim (cases_lt r reach) [
  | inl less ↦ none r above less covers
  | inr more ↦
      let up = asked_mono ts reach r are more in
      let h = covers most.level most.of_these in
      omega (arith, most.here)
]

-- an iterate is not above the reach
pub reach_above : (ts : List DemandTask) (low reach : ℕ) → low ≤ 1000000000 → NoneCovers ts low → IsReach ts reach → low ≤ reach
reach_above ts low reach within none is = elim (cases_lt reach low) [
  | inr le ↦ le
  | inl lt ↦ absurd (none reach is.above lt (is.covers (omega arith)))
]

-- there is one reach at most
pub one_reach : (ts : List DemandTask) (r s : ℕ) → IsReach ts r → IsReach ts s → r ≡ s
one_reach ts r s is_r is_s =
    let a = reach_above ts r s is_r.within is_r.least is_s in
    let b = reach_above ts s r is_s.within is_s.least is_r in
    omega arith
