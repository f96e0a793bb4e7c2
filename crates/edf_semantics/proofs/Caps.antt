-- Where the demand is met at each point, no cost and no block of a task is above the limit, so that none was capped.
use Rattle.std.proofs.Common.{◌≡◌, ◌≤◌, ◌<◌, ◌-◌, ◌*◌, inl, inr, ℕ, List, Some, length, arith, ap, ◌∙◌, Bool}
use Rattle.std.specs.Prelude.{slice_get}
use Rattle.std.specs.Int.{div_ceil}
use Rattle.std.proofs.lemmas.Bool.{cases_lt}
use Rattle.std.proofs.lemmas.Grind.{div_ceil_times}
use Rattle.std.proofs.Math.Nat.{mul-le-mul_right}
use Rattle.machine_semantics.specs.Image.{Monitor, Process}
use Rattle.machine_semantics.specs.Walk.{Where}
use Rattle.machine_semantics.specs.Safe.{Parts, part_of}
use Rattle.machine_semantics.specs.Work.{worst_of, activation}
use Rattle.machine_semantics.specs.Waits.{IsRanked}
use Rattle.sched_theorem.specs.Placed.{AreRanks}
use Rattle.sched_theorem.proofs.Totals.{total_term}
use Rattle.sched_demand.specs.declared.tasks.DemandTask.{DemandTask}
use Rattle.sched_demand.specs.Demand.{task_at, AreTasks, due_by, demand_at, IsReach, IsPoint, IsFeasible}
use Rattle.sched_demand.proofs.Demanding.{sum_is, is_task, sorted, level_of, level_block, due_some}
use Rattle.edf_semantics.specs.InTime.{IsTaskOf, rank_from_zero, AreDemandsOf}

-- at least one release in some ticks
starts_once : (r frame : ℕ) → 1 ≤ r → 0 < frame → 1 ≤ div_ceil r frame
starts_once r frame low pos = elim (cases_lt 0 (div_ceil r frame)) [
  | inl some ↦ some
  | inr none ↦
      let times = div_ceil_times r frame pos in
      let e : div_ceil r frame ≡ 0 = omega arith in
      let f : div_ceil r frame * frame ≡ 0 = ap (λ d. d * frame) e ∙ omega arith in
      absurd (omega (arith, times.0))
]

-- the cost and the block of a task are within the limit
record IsSmall (t : DemandTask) : Type 0 where
  cost : t.cost ≤ 1000000000
  block : t.block ≤ 1000000000

small : (ts : List DemandTask) (reach j : ℕ) → AreTasks ts → IsReach ts reach → IsFeasible ts reach → j < length ts → IsSmall (task_at ts j)
small ts reach j are reaches feasible below =
    let x = is_task ts j are below in
    elim (cases_lt reach 1000000000) [
      | inl under ↦
          let covers = reaches.covers under j below in
          let e = sum_is (λ t. div_ceil reach t.frame * t.cost) ts in
          let term = total_term (length ts) j (λ i. div_ceil reach (task_at ts i).frame * (task_at ts i).cost) below in
          let once : 1 ≤ div_ceil reach (task_at ts j).frame = starts_once reach (task_at ts j).frame reaches.above (omega (arith, x.frame_low)) in
          let one : 1 * (task_at ts j).cost ≤ div_ceil reach (task_at ts j).frame * (task_at ts j).cost = mul-le-mul_right (task_at ts j).cost once in
          record { cost = omega arith; block = omega arith }
      | inr top ↦
          let d : ℕ = (task_at ts j).deadline in
          let point : IsPoint ts reach (task_at ts j).deadline = record { level = j; of_these = below; turn = 0; here = omega arith; within = omega (arith, x.deadline_high, x.frame_high) } in
          let met : demand_at ts (task_at ts j).deadline ≤ (task_at ts j).deadline = feasible (task_at ts j).deadline point in
          let e = sum_is (λ t. due_by (task_at ts j).deadline t * t.cost) ts in
          let term = total_term (length ts) j (λ i. due_by (task_at ts j).deadline (task_at ts i) * (task_at ts i).cost) below in
          let some = due_some (task_at ts j).deadline (task_at ts j) (omega arith) in
          let once : 1 ≤ due_by (task_at ts j).deadline (task_at ts j) = omega arith in
          let one : 1 * (task_at ts j).cost ≤ due_by (task_at ts j).deadline (task_at ts j) * (task_at ts j).cost = mul-le-mul_right (task_at ts j).cost once in
          let l = level_of ts (task_at ts j).deadline j are below (omega arith) in
          let block = level_block ts (task_at ts j).deadline l.0 l.1 in
          let above : j ≤ l.0 = elim (cases_lt l.0 j) [
            | inr le ↦ le
            | inl lt ↦ absurd (let h = l.1.beyond j lt below in omega arith)
          ] in
          let near = l.1.within l.0 (omega arith) in
          let far = sorted ts j l.0 are above l.1.of_these in
          let same = are.ordered.one_block j l.0 below l.1.of_these (omega arith) in
          let high = x.deadline_high in
          let frame = x.frame_high in
          record { cost = omega arith; block = omega arith }
    ]

-- the premise with numbers that were not capped
pub record IsUncapped (e : Where) (ps : ℕ → Parts) (ts : List DemandTask) (place : ℕ → ℕ) (reach : ℕ) : Type 0 where
  pub tasks : AreTasks ts
  pub many : length ts ≡ length e.image.processes
  pub task : (k : ℕ) (p : Process) → slice_get e.image.processes k ≡ Some p → IsTaskOf p (task_at ts (p.rank - 1))
  pub ranks : AreRanks (length ts) (rank_from_zero e.image) place
  pub covered : (k : ℕ) (p : Process) → slice_get e.image.processes k ≡ Some p → activation e.image.over (worst_of (ps k)) ≤ p.run
  pub blocks : (j k m : ℕ) (p q : Process) (monitor : Monitor) (h : Bool)
      → slice_get e.image.processes j ≡ Some p → slice_get e.image.processes k ≡ Some q → slice_get e.image.monitors m ≡ Some monitor
      → p.deadline < q.deadline → monitor.ceiling ≤ p.rank → (part_of (ps k) h).stays m ≤ (task_at ts (p.rank - 1)).block
  pub reaches : IsReach ts reach
  pub feasible : IsFeasible ts reach

pub uncapped : (e : Where) (ps : ℕ → Parts) (ts : List DemandTask) (place : ℕ → ℕ) (reach : ℕ) → IsRanked e.image → AreDemandsOf e ps ts place → IsReach ts reach → IsFeasible ts reach → IsUncapped e ps ts place reach
uncapped e ps ts place reach ranked d reaches feasible = record {
  tasks = d.tasks;
  many = d.many;
  task = d.task;
  ranks = d.ranks;
  covered = λ k p process. let c = d.covered k p process in let s = (own k p process).cost in let same = (d.task k p process).cost in omega arith;
  blocks = λ j k m p q monitor h at_j at_k there later low. let c = d.blocks j k m p q monitor h at_j at_k there later low in let s = (own j p at_j).block in omega arith;
  reaches = reaches;
  feasible = feasible;
}
  where
    own : (k : ℕ) (p : Process) → slice_get e.image.processes k ≡ Some p → IsSmall (task_at ts (p.rank - 1))
    own k p process =
        let r = ranked k p process in
        small ts reach (p.rank - 1) d.tasks reaches feasible (omega (arith, r.0, r.1, d.many))
