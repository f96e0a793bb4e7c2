-- Every activation ends within its bound, and no release finds its process unfinished.
use Rattle.std.proofs.Common.{◌≡◌, ℕ, zero, suc, ◌+◌, ◌*◌, ◌-◌, ◌<◌, ◌≤◌, ◌⊎◌, inl, inr, List, length, arith, ap, sym, subst, ◌∙◌}
use Rattle.std.specs.Prelude.{true}
use Rattle.std.specs.Int.{div_ceil}
use Rattle.std.proofs.lemmas.Bool.{cases_lt}
use Rattle.sched_response.specs.declared.tasks.Task.{Task}
use Rattle.sched_response.specs.Demand.{IsTask, Solves, task_at, deadline_at}
use Rattle.sched_theorem.specs.Limited.{AreLimited}
use Rattle.sched_theorem.specs.Charges.{ChargedCost}
use Rattle.sched_theorem.specs.Stretches.{flag, NoneActive, SomeActive, Trace, IsRun, AreCharged, releases, IsStretch}
use Rattle.sched_theorem.specs.Ranked.{cost_at, IsRanked, EndsAt, EndsWithin}
use Rattle.sched_theorem.specs.InTime.{AreBounds, IsInTime, MeetsDeadlines}
use Rattle.sched_theorem.proofs.Releases.{releases_ceil}
use Rattle.sched_theorem.proofs.Stretches.{cleared, no_longer, began, cases_active, not_both}
use Rattle.sched_theorem.proofs.Demands.{task_is, one_frame, solution_covers}

-- a run of all ranks is one of those up to a level
run_below : (n m : ℕ) (cost : ℕ → ChargedCost) (end : ℕ) (t : Trace) → m ≤ n → IsRun n cost end t → IsRun m cost end t
run_below n m cost end t le run = record {
  whole = λ k j within below. run.whole k j within (omega arith);
  opens = λ k j within below. run.opens k j within (omega arith);
  acts = λ k j within below. run.acts k j within (omega arith);
}

-- at most as many releases as frames begin
few_releases : (ts : List Task) (end : ℕ) (t : Trace) (stay : ℕ → ℕ → ℕ) (start ticks n : ℕ) → AreLimited ts → IsRanked ts end t stay → n ≤ length ts → start + ticks ≤ end → (j : ℕ) → j < n → releases (λ k. t.released k j) start ticks ≤ div_ceil ticks (task_at ts j).frame
few_releases ts end t stay start ticks n are ranked le within j below =
    let is : IsTask (task_at ts j) = task_is ts j are (omega arith) in
    releases_ceil (task_at ts j).frame end (λ k. t.released k j) start ticks (omega (arith, is.frame_low)) (ranked.spaced j (omega arith)) within

-- what each level of the run has
record Level (ts : List Task) (end : ℕ) (t : Trace) (stay : ℕ → ℕ → ℕ) (level : ℕ) : Type 0 where
  run : IsRun (suc level) (cost_at ts) end t
  charged : AreCharged (suc level) (task_at ts level).block end t (stay level)
  clear : NoneActive (suc level) (t.before 0)

at_level : (ts : List Task) (end : ℕ) (t : Trace) (stay : ℕ → ℕ → ℕ) (level : ℕ) → IsRanked ts end t stay → level < length ts → Level ts end t stay level
at_level ts end t stay level ranked below = record {
  run = run_below (length ts) (suc level) (cost_at ts) end t (omega arith) ranked.run;
  charged = ranked.charged level below;
  clear = λ j low. ranked.idle_first j (omega arith);
}

-- no stretch of a level is longer than a solution
pub stretch_within : (ts : List Task) (end : ℕ) (t : Trace) (stay : ℕ → ℕ → ℕ) (level bound start ticks : ℕ) → AreLimited ts → IsRanked ts end t stay → level < length ts → Solves ts level bound → IsStretch (suc level) t start ticks → start + ticks ≤ end → ticks ≤ bound
stretch_within ts end t stay level bound start ticks are ranked below solves stretch within =
    let l = at_level ts end t stay level ranked below in
    no_longer (suc level) (cost_at ts) (task_at ts level).block end t (stay level) start ticks bound (λ j. div_ceil bound (task_at ts j).frame) l.run l.charged stretch within solves.above (λ sooner. few_releases ts end t stay start bound (suc level) are ranked (omega arith) sooner) (solution_covers ts level bound are below solves)

-- what is left of an idle process's next activations comes from releases
from_releases : (n : ℕ) (cost : ℕ → ChargedCost) (end : ℕ) (t : Trace) (j start : ℕ) → IsRun n cost end t → j < n → (t.before start j).run_left ≡ 0 → (ticks : ℕ) → start + ticks ≤ end → (t.before (start + ticks) j).run_left ≤ releases (λ k. t.released k j) start ticks * (cost j).run
from_releases n cost end t j start run below idle zero within =
    let e : start ≡ start + 0 = omega arith in
    let P : ℕ → Type 0 = λ k. (t.before k j).run_left ≡ 0 in
    let h : (t.before (start + 0) j).run_left ≡ 0 = subst P e idle in
    omega arith
from_releases n cost end t j start run below idle (suc ticks) within =
    let was = from_releases n cost end t j start run below idle ticks (omega arith) in
    let opens = run.opens (start + ticks) j (omega arith) below in
    let acts = run.acts (start + ticks) j (omega arith) below in
    let split : (releases (λ k. t.released k j) start ticks + flag (t.released (start + ticks) j)) * (cost j).run ≡ releases (λ k. t.released k j) start ticks * (cost j).run + flag (t.released (start + ticks) j) * (cost j).run = grind arith in
    let e : suc (start + ticks) ≡ start + suc ticks = omega arith in
    let P : ℕ → Type 0 = λ k. (t.before k j).run_left ≤ (releases (λ k. t.released k j) start ticks + flag (t.released (start + ticks) j)) * (cost j).run in
    subst P e (omega (arith, opens.run, acts.run))

-- no release finds its process unfinished
pub no_overrun : (ts : List Task) (end : ℕ) (t : Trace) (stay : ℕ → ℕ → ℕ) (j bound tick : ℕ) → AreLimited ts → IsRanked ts end t stay → j < length ts → Solves ts j bound → tick < end → t.released tick j ≡ true → (t.before tick j).run_left ≡ 0
no_overrun ts end t stay j bound tick are ranked below solves within released = elim (cases_lt 0 (t.before tick j).run_left) [
  | inr none ↦ omega arith
  | inl active ↦
      let l = at_level ts end t stay j ranked below in
      let opens = l.run.opens tick j within (omega arith) in
      let busy : SomeActive (suc j) (t.after tick) = (j, omega arith, opens.goes_on active) in
      let b = began (suc j) (cost_at ts) end t l.run l.clear tick within busy in
      let short : suc b.ticks ≤ bound = stretch_within ts end t stay j bound b.start (suc b.ticks) are ranked below solves b.stretch (omega (arith, b.here)) in
      let few : releases (λ k. t.released k j) b.start (suc b.ticks) ≤ div_ceil (suc b.ticks) (task_at ts j).frame = few_releases ts end t stay b.start (suc b.ticks) (suc j) are ranked (omega arith) (omega (arith, b.here)) j (omega arith) in
      let one : div_ceil (suc b.ticks) (task_at ts j).frame ≡ 1 = one_frame (suc b.ticks) (task_at ts j).frame (omega arith) (omega (arith, solves.within, (task_is ts j are below).deadline_high)) in
      let e : tick ≡ b.start + b.ticks = sym b.here in
      let P : ℕ → Type 0 = λ k. flag (t.released k j) ≡ 1 in
      let last : flag (t.released (b.start + b.ticks) j) ≡ 1 = subst P e (ap flag released) in
      let none : releases (λ k. t.released k j) b.start b.ticks ≡ 0 = omega arith in
      let idle : (t.before b.start j).run_left ≡ 0 = b.stretch.clear j (omega arith) in
      let bounded = from_releases (suc j) (cost_at ts) end t j b.start l.run (omega arith) idle b.ticks (omega (arith, b.here)) in
      let zero : releases (λ k. t.released k j) b.start b.ticks * (cost_at ts j).run ≡ 0 = ap (λ k. k * (cost_at ts j).run) none ∙ omega arith in
      let Q : ℕ → Type 0 = λ k. 1 ≤ (t.before k j).run_left in
      let still : 1 ≤ (t.before (b.start + b.ticks) j).run_left = subst Q e active in
      absurd (omega arith)
]

-- nobody of the ranks is active before one of these ticks, or somebody is before each
clear_or_busy : (n : ℕ) (t : Trace) (start ticks : ℕ) → ((k : ℕ) × (0 < k) × (k < ticks) × NoneActive n (t.before (start + k))) ⊎ ((k : ℕ) → 0 < k → k < ticks → SomeActive n (t.before (start + k)))
clear_or_busy n t start zero = inr (λ k pos low. absurd (omega arith))
clear_or_busy n t start (suc ticks) = elim (clear_or_busy n t start ticks) [
  | inl found ↦ inl (found.0, found.1, omega (arith, found.2), found.3)
  | inr busy ↦ elim (cases_lt 0 ticks) [
    | inr none ↦ inr (λ k pos low. absurd (omega arith))
    | inl some ↦ elim (cases_active n (t.before (start + ticks))) [
      | inr clear ↦ inl (ticks, some, omega arith, clear)
      | inl active ↦ inr (λ k pos low. elim (cases_lt k ticks) [
        | inl less ↦ busy k pos less
        | inr more ↦ let e : ticks ≡ k = omega arith in let P : ℕ → Type 0 = λ i. SomeActive n (t.before (start + i)) in subst P e active
      ])
    ]
  ]
]

-- a stretch has ended after as many ticks as a solution
ends_by : (ts : List Task) (end : ℕ) (t : Trace) (stay : ℕ → ℕ → ℕ) (level bound start : ℕ) → AreLimited ts → IsRanked ts end t stay → level < length ts → Solves ts level bound → IsStretch (suc level) t start 1 → start + bound ≤ end → (k : ℕ) × (0 < k) × (k ≤ bound) × NoneActive (suc level) (t.before (start + k))
ends_by ts end t stay level bound start are ranked below solves stretch within = elim (clear_or_busy (suc level) t start bound) [
  | inl found ↦ (found.0, found.1, omega (arith, found.2), found.3)
  | inr busy ↦
      let l = at_level ts end t stay level ranked below in
      let whole : IsStretch (suc level) t start bound = record { some = solves.above; clear = stretch.clear; busy = stretch.busy; goes_on = busy } in
      (bound, solves.above, omega arith, cleared (suc level) (cost_at ts) (task_at ts level).block end t (stay level) start bound (λ j. div_ceil bound (task_at ts j).frame) l.run l.charged whole within (few_releases ts end t stay start bound (suc level) are ranked (omega arith) within) (solution_covers ts level bound are below solves))
]

-- between a tick in which a process is active and a later one before which it is idle, there is one in which it ends first
record FirstEnd (t : Trace) (j release ticks : ℕ) : Type 0 where
  place : ℕ
  soon : place ≤ ticks
  ends : EndsAt t j (release + place)
  goes_on : (k : ℕ) → release < k → k ≤ release + place → 1 ≤ (t.before k j).run_left

-- so far it has ended, or it is active
end_or_active : (n : ℕ) (cost : ℕ → ChargedCost) (end : ℕ) (t : Trace) (j release : ℕ) → IsRun n cost end t → j < n → 1 ≤ (t.after release j).run_left → (ticks : ℕ) → release + ticks < end → FirstEnd t j release ticks ⊎ ((k : ℕ) → release < k → k ≤ suc (release + ticks) → 1 ≤ (t.before k j).run_left)
end_or_active n cost end t j release run below active zero within =
    let e : release ≡ release + 0 = omega arith in
    let P : ℕ → Type 0 = λ k. 1 ≤ (t.after k j).run_left in
    elim (cases_lt 0 (t.before (suc release) j).run_left) [
      | inl more ↦ inr (λ k low high. let same : suc release ≡ k = omega arith in let Q : ℕ → Type 0 = λ i. 1 ≤ (t.before i j).run_left in subst Q same more)
      | inr none ↦
          let Q : ℕ → Type 0 = λ i. EndsAt t j i in
          inl (record {
            place = 0;
            soon = omega arith;
            ends = subst Q e (record { active = active; idle = omega arith });
            goes_on = λ k low high. absurd (omega arith);
          })
    ]
end_or_active n cost end t j release run below active (suc ticks) within = elim (end_or_active n cost end t j release run below active ticks (omega arith)) [
  | inl found ↦ inl (record { place = found.place; soon = omega (arith, found.soon); ends = found.ends; goes_on = found.goes_on })
  | inr so_far ↦
      let here : ℕ = suc (release + ticks) in
      let last : 1 ≤ (t.before (suc (release + ticks)) j).run_left = so_far (suc (release + ticks)) (omega arith) (omega arith) in
      let opens = run.opens (suc (release + ticks)) j (omega arith) below in
      let open_here : 1 ≤ (t.after (suc (release + ticks)) j).run_left = opens.goes_on last in
      let e : suc (release + ticks) ≡ release + suc ticks = omega arith in
      elim (cases_lt 0 (t.before (suc (suc (release + ticks))) j).run_left) [
        | inl more ↦ inr (λ k low high. elim (cases_lt k (suc (suc (release + ticks)))) [
          | inl less ↦ so_far k low (omega arith)
          | inr most ↦ let same : suc (suc (release + ticks)) ≡ k = omega arith in let Q : ℕ → Type 0 = λ i. 1 ≤ (t.before i j).run_left in subst Q same more
        ])
        | inr none ↦
            let Q : ℕ → Type 0 = λ i. EndsAt t j i in
            inl (record {
              place = suc ticks;
              soon = omega arith;
              ends = subst Q e (record { active = open_here; idle = omega arith });
              goes_on = λ k low high. so_far k low (omega arith);
            })
      ]
]

-- every activation ends within its bound
pub ends_within : (ts : List Task) (end : ℕ) (t : Trace) (stay : ℕ → ℕ → ℕ) (j bound tick : ℕ) → AreLimited ts → IsRanked ts end t stay → j < length ts → Solves ts j bound → t.released tick j ≡ true → tick + bound ≤ end → EndsWithin t j tick bound
ends_within ts end t stay j bound tick are ranked below solves released within =
    let l = at_level ts end t stay j ranked below in
    let pos : 1 ≤ bound = solves.above in
    let opens = l.run.opens tick j (omega arith) (omega arith) in
    let active : 1 ≤ (t.after tick j).run_left = opens.starts released in
    let b = began (suc j) (cost_at ts) end t l.run l.clear tick (omega arith) (j, omega arith, active) in
    let first : IsStretch (suc j) t b.start 1 = record { some = omega arith; clear = b.stretch.clear; busy = b.stretch.busy; goes_on = λ k some low. absurd (omega arith) } in
    let done = ends_by ts end t stay j bound b.start are ranked below solves first (omega (arith, b.here)) in
    elim (end_or_active (suc j) (cost_at ts) end t j tick l.run (omega arith) active (bound - 1) (omega arith)) [
      | inl found ↦ record { tick = tick + found.place; since = omega arith; soon = omega (arith, found.soon); ends = found.ends; goes_on = found.goes_on }
      | inr never ↦ elim (cases_lt b.ticks done.0) [
        | inl later ↦
            let idle : (t.before (b.start + done.0) j).run_left ≡ 0 = done.3 j (omega arith) in
            let still = never (b.start + done.0) (omega (arith, b.here)) (omega (arith, b.here, done.2)) in
            absurd (omega arith)
        | inr early ↦ absurd (not_both (suc j) (t.before (b.start + done.0)) (b.stretch.goes_on done.0 done.1 (omega arith)) done.3)
      ]
    ]

pub in_time : (ts : List Task) (bounds : ℕ → ℕ) (end : ℕ) (t : Trace) (stay : ℕ → ℕ → ℕ) → AreLimited ts → AreBounds ts bounds → IsRanked ts end t stay → IsInTime ts bounds end t
in_time ts bounds end t stay are solve ranked = record {
  stretches = λ level start ticks below stretch within. stretch_within ts end t stay level (bounds level) start ticks are ranked below (solve level below) stretch within;
  idle = λ k j below within released. no_overrun ts end t stay j (bounds j) k are ranked below (solve j below) within released;
  ends = λ k j below within released. ends_within ts end t stay j (bounds j) k are ranked below (solve j below) released within;
}

-- who ends within so many ticks ends within more
pub ends_sooner : (t : Trace) (j release bound deadline : ℕ) → bound ≤ deadline → EndsWithin t j release bound → EndsWithin t j release deadline
ends_sooner t j release bound deadline low soon = record { tick = soon.tick; since = soon.since; soon = omega (arith, soon.soon); ends = soon.ends; goes_on = soon.goes_on }

pub meets_deadlines : (ts : List Task) (bounds : ℕ → ℕ) (end : ℕ) (t : Trace) → AreBounds ts bounds → IsInTime ts bounds end t → MeetsDeadlines ts bounds end t
meets_deadlines ts bounds end t solve is k j below within released = ends_sooner t j k (bounds j) (deadline_at ts j) (solve j below).within (is.ends k j below within released)
