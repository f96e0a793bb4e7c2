-- A missed deadline passes the demand at a point; so where the demand is met at each point, none is missed.
use Rattle.std.proofs.Common.{◌≡◌, ℕ, zero, suc, ◌+◌, ◌-◌, ◌*◌, ◌<◌, ◌≤◌, ◌⊎◌, inl, inr, List, length, refl, arith, ap, sym, subst, ◌∙◌}
use Rattle.std.specs.Prelude.{true}
use Rattle.std.specs.Int.{div_ceil}
use Rattle.std.proofs.lemmas.Bool.{cases_lt}
use Rattle.sched_demand.specs.declared.tasks.DemandTask.{DemandTask}
use Rattle.sched_demand.specs.Demand.{task_at, AreTasks, due_by, dbf, demand_at, asked, IsReach, IsPoint, IsFeasible}
use Rattle.sched_theorem.specs.Charges.{total, claim, claims}
use Rattle.sched_theorem.specs.Stretches.{SomeActive, Spaced}
use Rattle.sched_theorem.specs.Deadlines.{due_in, IsDueBy}
use Rattle.sched_theorem.specs.Placed.{AreRanks}
use Rattle.sched_theorem.proofs.Releases.{releases_ceil}
use Rattle.sched_theorem.proofs.Stretches.{no_longer, not_both}
use Rattle.sched_theorem.proofs.Deadlines.{missed_asks_more}
use Rattle.sched_demand.specs.Earliest.{Run, IsEarliest, deadline_at, EndsWithin, MeetsDeadlines}
use Rattle.sched_demand.proofs.Stacking.{opened}
use Rattle.sched_demand.proofs.Dues.{due_life, is_due, released_due, moved, stack_before, due_trace, cost_at, due_run}
use Rattle.sched_demand.proofs.Rows.{due_of, IsLevel}
use Rattle.sched_demand.proofs.Charging.{LastRow, last_row, busy_row, due_row, shifted, shifted_run, shifted_stretch, row_stay, row_charged}
use Rattle.sched_demand.proofs.Demanding.{sum_is, is_task, level_of, level_block, passes_at_point}

-- the level of the last row
row_level : (ts : List DemandTask) (rank place : ℕ → ℕ) (end due : ℕ) (r : Run) → AreTasks ts → AreRanks (length ts) rank place → IsEarliest ts rank end r → due ≤ end → (l : LastRow ts place due r) → (level : ℕ) × IsLevel (length ts) (λ i. (task_at ts i).deadline) l.ticks level
row_level ts rank place end due r tasks are run within l =
    let some = due_of ts rank place due (r.after (l.start + 0)) are (busy_row ts rank place end due r are run within l 0 l.stretch.some) in
    let row = due_row ts rank place end due r are run within l 0 l.stretch.some in
    let since = row.soon some.place some.of_these some.active some.soon in
    level_of ts l.ticks (rank some.place) tasks (are.rank_below some.place some.of_these) (omega (arith, l.here, some.soon))

-- the releases of the last row that count stand a frame apart
row_spaced : (ts : List DemandTask) (rank place : ℕ → ℕ) (end due : ℕ) (r : Run) → AreRanks (length ts) rank place → IsEarliest ts rank end r → due ≤ end → (l : LastRow ts place due r) → (j : ℕ) → j < length ts → Spaced (task_at ts j).frame l.ticks (λ k. (shifted l.start (due_trace ts place due r)).released k j)
row_spaced ts rank place end due r are run within l j below k m less low is_k is_m =
    let a = released_due due (task_at ts j).deadline (l.start + k) (r.released (l.start + k) (place j)) is_k in
    let b = released_due due (task_at ts j).deadline (l.start + m) (r.released (l.start + m) (place j)) is_m in
    let e : (task_at ts (rank (place j))).frame ≡ (task_at ts j).frame = ap (λ i. (task_at ts i).frame) (are.there j below) in
    let h = run.spaced (place j) (are.place_below j below) (l.start + k) (l.start + m) (omega arith) (omega (arith, l.here)) a.0 b.0 in
    omega arith

row_due_by : (ts : List DemandTask) (rank place : ℕ → ℕ) (end due : ℕ) (r : Run) → AreTasks ts → AreRanks (length ts) rank place → IsEarliest ts rank end r → due ≤ end → (l : LastRow ts place due r) → IsDueBy (length ts) (λ j. (task_at ts j).frame) (λ j. (task_at ts j).deadline) l.ticks l.ticks (shifted l.start (due_trace ts place due r))
row_due_by ts rank place end due r tasks are run within l = record {
  framed = λ j below. let x = is_task ts j tasks below in omega (arith, x.frame_low);
  spaced = λ j below. row_spaced ts rank place end due r are run within l j below;
  dated = λ k j below is. let a = released_due due (task_at ts j).deadline (l.start + k) (r.released (l.start + k) (place j)) is in omega (arith, l.here, a.1);
}

-- without waits and suspension an activation claims its cost
claims_of : (ts : List DemandTask) (count : ℕ → ℕ) (most : ℕ) → claims (length ts) count (cost_at ts) most ≡ total (length ts) (λ j. count j * (task_at ts j).cost)
claims_of ts count most = same (length ts)
  where
    one : (c m : ℕ) → c + 0 + 0 * m ≡ c
    one c m = omega arith

    same : (n : ℕ) → claims n count (cost_at ts) most ≡ total n (λ j. count j * (task_at ts j).cost)
    same zero = refl
    same (suc n) =
        let rest = same n in
        let here : count n * claim most (cost_at ts n) ≡ count n * (task_at ts n).cost = ap (λ x. count n * x) (one (task_at ts n).cost most) in
        omega arith

-- the demand of the last row passes its length
row_asks : (ts : List DemandTask) (rank place : ℕ → ℕ) (end due level : ℕ) (r : Run) → AreTasks ts → AreRanks (length ts) rank place → IsEarliest ts rank end r → due ≤ end → SomeActive (length ts) ((due_trace ts place due r).before due) → (l : LastRow ts place due r) → IsLevel (length ts) (λ i. (task_at ts i).deadline) l.ticks level → l.ticks < demand_at ts l.ticks
row_asks ts rank place end due level r tasks are run within late l is =
    let of_due = due_run ts rank place end due r are run in
    let own = shifted_run (length ts) (cost_at ts) end (due_trace ts place due r) l.start l.ticks of_due (omega (arith, l.here)) in
    let charged = row_charged ts rank place end due level r are run within l is in
    let stretch = shifted_stretch (length ts) (due_trace ts place due r) l.start l.ticks l.stretch in
    let P : ℕ → Type 0 = λ k. SomeActive (length ts) ((due_trace ts place due r).before k) in
    let late_row : SomeActive (length ts) ((shifted l.start (due_trace ts place due r)).before l.ticks) = subst P (sym l.here) late in
    let a = missed_asks_more (length ts) (cost_at ts) (λ j. (task_at ts j).frame) (λ j. (task_at ts j).deadline) (task_at ts level).block l.ticks l.ticks (shifted l.start (due_trace ts place due r)) (row_stay ts place r l.start level) own charged (row_due_by ts rank place end due r tasks are run within l) stretch.clear (omega arith) late_row in
    elim (cases_lt 0 a.start) [
      | inl some ↦ absurd (not_both (length ts) ((shifted l.start (due_trace ts place due r)).before a.start) (l.stretch.goes_on a.start some (omega (arith, a.here, a.stretch.some))) a.stretch.clear)
      | inr none ↦
          let e : a.ticks ≡ l.ticks = omega (arith, a.here) in
          let Q : ℕ → Type 0 = λ k. k < (task_at ts level).block + claims (length ts) (λ j. due_in k (task_at ts j).frame (task_at ts j).deadline) (cost_at ts) (task_at ts level).block in
          let more : l.ticks < (task_at ts level).block + claims (length ts) (λ j. due_in l.ticks (task_at ts j).frame (task_at ts j).deadline) (cost_at ts) (task_at ts level).block = subst Q e a.more in
          let f = claims_of ts (λ j. due_in l.ticks (task_at ts j).frame (task_at ts j).deadline) (task_at ts level).block in
          let g : dbf ts l.ticks ≡ total (length ts) (λ j. due_in l.ticks (task_at ts j).frame (task_at ts j).deadline * (task_at ts j).cost) = sum_is (λ x. due_by l.ticks x * x.cost) ts in
          let h = level_block ts l.ticks level is in
          omega arith
    ]

-- and the last row is no longer than the reach
row_short : (ts : List DemandTask) (rank place : ℕ → ℕ) (end due level reach : ℕ) (r : Run) → AreTasks ts → AreRanks (length ts) rank place → IsEarliest ts rank end r → due ≤ end → end ≤ 1000000000 → IsReach ts reach → (l : LastRow ts place due r) → IsLevel (length ts) (λ i. (task_at ts i).deadline) l.ticks level → l.ticks ≤ reach
row_short ts rank place end due level reach r tasks are run within short reaches l is = elim (cases_lt reach 1000000000) [
  | inr top ↦ omega (arith, l.here)
  | inl below_top ↦
      let of_due = due_run ts rank place end due r are run in
      let own = shifted_run (length ts) (cost_at ts) end (due_trace ts place due r) l.start l.ticks of_due (omega (arith, l.here)) in
      let charged = row_charged ts rank place end due level r are run within l is in
      let stretch = shifted_stretch (length ts) (due_trace ts place due r) l.start l.ticks l.stretch in
      let covers : (task_at ts level).block + asked ts reach ≤ reach = reaches.covers below_top level is.of_these in
      let e = sum_is (λ x. div_ceil reach x.frame * x.cost) ts in
      let f = claims_of ts (λ j. div_ceil reach (task_at ts j).frame) (task_at ts level).block in
      no_longer (length ts) (cost_at ts) (task_at ts level).block l.ticks (shifted l.start (due_trace ts place due r)) (row_stay ts place r l.start level) 0 l.ticks reach (λ j. div_ceil reach (task_at ts j).frame) own charged stretch (omega arith) reaches.above
      (λ sooner j below. let x = is_task ts j tasks below in releases_ceil (task_at ts j).frame l.ticks (λ k. (shifted l.start (due_trace ts place due r)).released k j) 0 reach (omega (arith, x.frame_low)) (row_spaced ts rank place end due r are run within l j below) sooner)
      (omega arith)
]

-- a missed deadline passes the demand at a point
pub missed_passes : (ts : List DemandTask) (rank place : ℕ → ℕ) (end due reach : ℕ) (r : Run) → AreTasks ts → AreRanks (length ts) rank place → IsEarliest ts rank end r → end ≤ 1000000000 → IsReach ts reach → due ≤ end → (p : ℕ) → p < length ts → 1 ≤ (r.before due p).left → (r.before due p).release + deadline_at ts rank p ≤ due → (t : ℕ) × IsPoint ts reach t × (t < demand_at ts t)
missed_passes ts rank place end due reach r tasks are run short reaches within p below active missed =
    let back = are.back p below in
    let e = is_due due (deadline_at ts rank p) (r.before due p) missed in
    let P : ℕ → Type 0 = λ i. 1 ≤ (due_life due (deadline_at ts rank p) (r.before due i)).run_left in
    let late : SomeActive (length ts) ((due_trace ts place due r).before due) = (rank p, are.rank_below p below, subst P (sym back) (omega arith)) in
    let l = last_row ts rank place end due r are run within late in
    let level = row_level ts rank place end due r tasks are run within l in
    passes_at_point ts reach l.ticks level.0 tasks level.1 (row_short ts rank place end due level.0 reach r tasks are run within short reaches l level.1) (row_asks ts rank place end due level.0 r tasks are run within late l level.1)

-- ---- where none is missed

-- no activation is there before the tick of its deadline
abbrev pub NoneLate : List DemandTask → (ℕ → ℕ) → ℕ → Run → Type 0
NoneLate ts rank end r = (due p : ℕ) → due ≤ end → p < length ts → 1 ≤ (r.before due p).left → due < (r.before due p).release + deadline_at ts rank p

pub none_late : (ts : List DemandTask) (rank place : ℕ → ℕ) (end reach : ℕ) (r : Run) → AreTasks ts → AreRanks (length ts) rank place → IsEarliest ts rank end r → end ≤ 1000000000 → IsReach ts reach → IsFeasible ts reach → NoneLate ts rank end r
none_late ts rank place end reach r tasks are run short reaches feasible due p within below active = elim (cases_lt due ((r.before due p).release + deadline_at ts rank p)) [
  | inl soon ↦ soon
  | inr late ↦
      let h = missed_passes ts rank place end due reach r tasks are run short reaches within p below active late in
      absurd (let g = feasible h.0 h.1 in omega (arith, h.2))
]

-- an activation that is there was released when it says
real : (ts : List DemandTask) (rank : ℕ → ℕ) (end : ℕ) (r : Run) → IsEarliest ts rank end r → (k p : ℕ) → k ≤ end → p < length ts → 1 ≤ (r.before k p).left → r.released (r.before k p).release p ≡ true
real ts rank end r run zero p within below active = absurd (let z = run.idle_first p below in omega arith)
real ts rank end r run (suc k) p within below active =
    let m = moved (length ts) (r.picked k) (r.after k) (r.before (suc k)) (run.acts k (omega arith)) p below in
    let same : (r.before (suc k) p).release ≡ (r.after k p).release = m.1 active in
    let P : ℕ → Type 0 = λ i. r.released i p ≡ true in
    elim (opened k (task_at ts (rank p)).cost (r.released k p) (r.before k p) (r.after k p) (run.opens k p (omega arith) below) (omega (arith, m.0))) [
      | inl was ↦
          let e : (r.after k p).release ≡ (r.before k p).release = ap (λ x. x.release) was.1 in
          subst P (sym (same ∙ e)) (real ts rank end r run k p (omega arith) below was.0)
      | inr new ↦ subst P (sym (same ∙ new.2)) new.0
    ]

idle_at : (ts : List DemandTask) (rank place : ℕ → ℕ) (end : ℕ) (r : Run) → AreTasks ts → AreRanks (length ts) rank place → IsEarliest ts rank end r → NoneLate ts rank end r → (k p : ℕ) → p < length ts → k < end → r.released k p ≡ true → (r.before k p).left ≡ 0
idle_at ts rank place end r tasks are run none k p below within is = elim (cases_lt 0 (r.before k p).left) [
  | inr idle ↦ omega arith
  | inl active ↦
      let stack = stack_before ts rank place end r are run k (omega arith) in
      let past = stack.past p below active in
      let was = real ts rank end r run k p (omega arith) below active in
      let apart = run.spaced p below (r.before k p).release k past within was is in
      let x = is_task ts (rank p) tasks (are.rank_below p below) in
      let soon = none k p (omega arith) below active in
      absurd (omega (arith, x.deadline_high))
]

-- so far it has ended, or it goes on
record FirstEnd (r : Run) (p release ticks : ℕ) : Type 0 where
  place : ℕ
  soon : place ≤ ticks
  active : 1 ≤ (r.after (release + place) p).left
  idle : (r.before (suc (release + place)) p).left ≡ 0
  goes_on : (k : ℕ) → release < k → k ≤ release + place → 1 ≤ (r.before k p).left

record GoesOn (r : Run) (p release ticks : ℕ) : Type 0 where
  same : (r.before (suc (release + ticks)) p).release ≡ release
  active : (k : ℕ) → release < k → k ≤ suc (release + ticks) → 1 ≤ (r.before k p).left

ended_or_not : (ts : List DemandTask) (rank : ℕ → ℕ) (end : ℕ) (r : Run) → IsEarliest ts rank end r → (p release : ℕ) → p < length ts → 1 ≤ (r.after release p).left → (r.after release p).release ≡ release → (ticks : ℕ) → release + ticks < end → FirstEnd r p release ticks ⊎ GoesOn r p release ticks
ended_or_not ts rank end r run p release below active since zero within =
    let e : release ≡ release + 0 = omega arith in
    let m = moved (length ts) (r.picked release) (r.after release) (r.before (suc release)) (run.acts release (omega arith)) p below in
    elim (cases_lt 0 (r.before (suc release) p).left) [
      | inl more ↦
          let P : ℕ → Type 0 = λ i. (r.before (suc i) p).release ≡ release in
          inr (record {
            same = subst P e (m.1 more ∙ since);
            active = λ k low high. let f : suc release ≡ k = omega arith in let Q : ℕ → Type 0 = λ i. 1 ≤ (r.before i p).left in subst Q f more;
          })
      | inr none ↦ inl (record {
        place = 0;
        soon = omega arith;
        active = let P : ℕ → Type 0 = λ i. 1 ≤ (r.after i p).left in subst P e active;
        idle = let P : ℕ → Type 0 = λ i. (r.before (suc i) p).left ≡ 0 in subst P e (omega arith);
        goes_on = λ k low high. absurd (omega arith);
      })
    ]
ended_or_not ts rank end r run p release below active since (suc ticks) within = elim (ended_or_not ts rank end r run p release below active since ticks (omega arith)) [
  | inl f ↦ inl (record { place = f.place; soon = omega (arith, f.soon); active = f.active; idle = f.idle; goes_on = f.goes_on })
  | inr so_far ↦
      let e : suc (release + ticks) ≡ release + suc ticks = omega arith in
      let now : ℕ = suc (release + ticks) in
      let last : 1 ≤ (r.before (suc (release + ticks)) p).left = so_far.active (suc (release + ticks)) (omega arith) (omega arith) in
      let kept = (run.opens (suc (release + ticks)) p (omega arith) below).keeps last in
      let m = moved (length ts) (r.picked (suc (release + ticks))) (r.after (suc (release + ticks))) (r.before (suc (suc (release + ticks)))) (run.acts (suc (release + ticks)) (omega arith)) p below in
      let open_now : 1 ≤ (r.after (suc (release + ticks)) p).left = subst (λ x. 1 ≤ x.left) (sym kept) last in
      elim (cases_lt 0 (r.before (suc (suc (release + ticks))) p).left) [
        | inl more ↦
            let same : (r.before (suc (suc (release + ticks))) p).release ≡ release = m.1 more ∙ ap (λ x. x.release) kept ∙ so_far.same in
            let P : ℕ → Type 0 = λ i. (r.before (suc i) p).release ≡ release in
            inr (record {
              same = subst P e same;
              active = λ k low high. elim (cases_lt k (suc (suc (release + ticks)))) [
                | inl less ↦ so_far.active k low (omega arith)
                | inr most ↦ let f : suc (suc (release + ticks)) ≡ k = omega arith in let Q : ℕ → Type 0 = λ i. 1 ≤ (r.before i p).left in subst Q f more
              ];
            })
        | inr none ↦ inl (record {
          place = suc ticks;
          soon = omega arith;
          active = let P : ℕ → Type 0 = λ i. 1 ≤ (r.after i p).left in subst P e open_now;
          idle = let P : ℕ → Type 0 = λ i. (r.before (suc i) p).left ≡ 0 in subst P e (omega arith);
          goes_on = λ k low high. so_far.active k low (omega arith);
        })
      ]
]

ends_at : (ts : List DemandTask) (rank place : ℕ → ℕ) (end : ℕ) (r : Run) → AreTasks ts → AreRanks (length ts) rank place → IsEarliest ts rank end r → NoneLate ts rank end r → (k p : ℕ) → p < length ts → k + deadline_at ts rank p ≤ end → r.released k p ≡ true → EndsWithin r p k (deadline_at ts rank p)
ends_at ts rank place end r tasks are run none k p below within is =
    let x = is_task ts (rank p) tasks (are.rank_below p below) in
    let pos : 10 ≤ deadline_at ts rank p = x.deadline_low in
    let idle = idle_at ts rank place end r tasks are run none k p below (omega arith) is in
    let opens = run.opens k p (omega arith) below in
    elim (ended_or_not ts rank end r run p k below (opens.starts idle is) (opens.since idle is) (deadline_at ts rank p - 1) (omega arith)) [
      | inl f ↦ record { tick = k + f.place; since = omega arith; soon = omega (arith, f.soon); active = f.active; idle = f.idle; goes_on = f.goes_on }
      | inr on ↦
          let last : 1 ≤ (r.before (suc (k + (deadline_at ts rank p - 1))) p).left = on.active (suc (k + (deadline_at ts rank p - 1))) (omega arith) (omega arith) in
          let soon = none (suc (k + (deadline_at ts rank p - 1))) p (omega arith) below last in
          absurd (omega (arith, on.same))
    ]

-- where the demand is met at each point, no deadline is missed
pub meets : (ts : List DemandTask) (rank place : ℕ → ℕ) (end reach : ℕ) (r : Run) → AreTasks ts → AreRanks (length ts) rank place → IsEarliest ts rank end r → end ≤ 1000000000 → IsReach ts reach → IsFeasible ts reach → MeetsDeadlines ts rank end r
meets ts rank place end reach r tasks are run short reaches feasible =
    let none = none_late ts rank place end reach r tasks are run short reaches feasible in
    record {
      idle = λ k p below within is. idle_at ts rank place end r tasks are run none k p below within is;
      ends = λ k p below within is. ends_at ts rank place end r tasks are run none k p below within is;
    }
