-- The turns of a task, and the next point after some ticks.
use Rattle.std.proofs.Common.{◌≡◌, ℕ, suc, ◌+◌, ◌-◌, ◌*◌, ◌/◌, ◌<◌, ◌≤◌, inl, inr, List, length, refl, arith, ap, subst, ◌∙◌}
use Rattle.std.specs.Prelude.{cond}
use Rattle.std.proofs.lemmas.Bool.{cases_lt, lt-ltb, le-ltb}
use Rattle.std.proofs.lemmas.Nat.{le-div, div_below}
use Rattle.std.proofs.Math.Nat.{mul-le-mul_right}
use Rattle.sched_demand.specs.declared.tasks.DemandTask.{DemandTask}
use Rattle.sched_demand.specs.Demand.{task_at, IsTask, AreTasks, due_by, block_of, IsNext}
use Rattle.sched_demand.proofs.Demanding.{is_task, due_none, due_some}

-- the turn after the last that is due is later
pub turn_after : (t : ℕ) (x : DemandTask) → IsTask x → t < x.deadline + due_by t x * x.frame
turn_after t x is = elim (cases_lt t x.deadline) [
  | inl late ↦ omega arith
  | inr soon ↦
      let e : due_by t x ≡ (t - x.deadline) / x.frame + 1 = due_some t x soon in
      let same : due_by t x * x.frame ≡ ((t - x.deadline) / x.frame + 1) * x.frame = ap (λ n. n * x.frame) e in
      elim (cases_lt (t - x.deadline) (((t - x.deadline) / x.frame + 1) * x.frame)) [
        | inl lt ↦ omega arith
        | inr le ↦ absurd (let h : (t - x.deadline) / x.frame + 1 ≤ (t - x.deadline) / x.frame = le-div ((t - x.deadline) / x.frame + 1) (t - x.deadline) x.frame (omega (arith, is.frame_low)) le in omega arith)
      ]
]

-- and no turn after these ticks is sooner
pub turn_least : (t : ℕ) (x : DemandTask) (m : ℕ) → IsTask x → t < x.deadline + m * x.frame → x.deadline + due_by t x * x.frame ≤ x.deadline + m * x.frame
turn_least t x m is after =
    let few : due_by t x ≤ m = elim (cases_lt t x.deadline) [
      | inl late ↦ let e = due_none t x late in omega arith
      | inr soon ↦
          let e = due_some t x soon in
          let h = div_below (t - x.deadline) x.frame m (omega (arith, is.frame_low)) (omega arith) in
          omega arith
    ] in
    let g = mul-le-mul_right x.frame few in
    omega arith

next_i : (i : ℕ) → i + 1 ≡ suc i
next_i i = omega arith

-- one more task, whose turn is sooner or is not
pub next_sooner : (ts : List DemandTask) (t i next turns : ℕ) → AreTasks ts → i < length ts → IsNext ts t i next → turns ≡ due_by t (task_at ts i) → (task_at ts i).deadline + turns * (task_at ts i).frame < next → IsNext ts t (i + 1) ((task_at ts i).deadline + turns * (task_at ts i).frame)
next_sooner ts t i next turns are below old is sooner =
    let x = is_task ts i are below in
    let same : turns * (task_at ts i).frame ≡ due_by t (task_at ts i) * (task_at ts i).frame = ap (λ n. n * (task_at ts i).frame) is in
    record {
      level = i;
      of_these = below;
      turn = turns;
      here = refl;
      after = let h = turn_after t (task_at ts i) x in omega arith;
      least = λ j m low after. elim (cases_lt j i) [
        | inl less ↦ let h = old.least j m less after in omega arith
        | inr more ↦
            let e : i ≡ j = omega arith in
            let P : ℕ → Type 0 = λ k. t < (task_at ts k).deadline + m * (task_at ts k).frame → (task_at ts i).deadline + turns * (task_at ts i).frame ≤ (task_at ts k).deadline + m * (task_at ts k).frame in
            subst P e (λ h. let g = turn_least t (task_at ts i) m x h in omega arith) after
      ];
    }

pub next_kept : (ts : List DemandTask) (t i next turns : ℕ) → AreTasks ts → i < length ts → IsNext ts t i next → turns ≡ due_by t (task_at ts i) → next ≤ (task_at ts i).deadline + turns * (task_at ts i).frame → IsNext ts t (i + 1) next
next_kept ts t i next turns are below old is later =
    let x = is_task ts i are below in
    let same : turns * (task_at ts i).frame ≡ due_by t (task_at ts i) * (task_at ts i).frame = ap (λ n. n * (task_at ts i).frame) is in
    record {
      level = old.level;
      of_these = old.of_these;
      turn = old.turn;
      here = old.here;
      after = old.after;
      least = λ j m low after. elim (cases_lt j i) [
        | inl less ↦ old.least j m less after
        | inr more ↦
            let e : i ≡ j = omega arith in
            let P : ℕ → Type 0 = λ k. t < (task_at ts k).deadline + m * (task_at ts k).frame → next ≤ (task_at ts k).deadline + m * (task_at ts k).frame in
            subst P e (λ h. let g = turn_least t (task_at ts i) m x h in omega arith) after
      ];
    }

-- the block with one more task
pub block_some : (ts : List DemandTask) (t i turns : ℕ) → turns ≡ due_by t (task_at ts i) → 0 < turns → block_of ts t (i + 1) ≡ (task_at ts i).block
block_some ts t i turns is some = elim (cases_lt t (task_at ts i).deadline) [
  | inl late ↦ absurd (let e = due_none t (task_at ts i) late in omega arith)
  | inr soon ↦ ap (block_of ts t) (next_i i) ∙ ap (λ b. cond b (block_of ts t i) (task_at ts i).block) (le-ltb t (task_at ts i).deadline soon)
]

pub block_none : (ts : List DemandTask) (t i turns : ℕ) → turns ≡ due_by t (task_at ts i) → turns ≤ 0 → block_of ts t (i + 1) ≡ block_of ts t i
block_none ts t i turns is none = elim (cases_lt t (task_at ts i).deadline) [
  | inl late ↦ ap (block_of ts t) (next_i i) ∙ ap (λ b. cond b (block_of ts t i) (task_at ts i).block) (lt-ltb t (task_at ts i).deadline late)
  | inr soon ↦ absurd (let e = due_some t (task_at ts i) soon in omega arith)
]
