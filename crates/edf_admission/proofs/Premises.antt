-- An admitted shape meets what the laws of earliest deadline first ask for.
use Rattle.std.proofs.Common.{◌≡◌, ◌≤◌, ◌<◌, ◌+◌, ◌*◌, ◌-◌, ◌∙◌, inl, inr, ℕ, Bool, true, false, suc, List, length, Option, Some, None, sym, ap, subst, arith}
use Rattle.std.specs.Prelude.{slice_get}
use Rattle.std.proofs.lemmas.Bool.{cases_lt}
use Rattle.std.proofs.lemmas.Option.{slice_get_within}
use Rattle.base.proofs.Lists.{some_at}
use Rattle.base.specs.Capped.{cap}
use Rattle.base.specs.declared.capped.Cost.{Cost}
use Rattle.machine_semantics.specs.Image.{Image, Monitor, Process}
use Rattle.machine_semantics.specs.Trees.{Segs}
use Rattle.machine_semantics.specs.Safe.{ImageFits, Parts, part_of}
use Rattle.machine_semantics.specs.Work.{activation, worst_of}
use Rattle.sched_theorem.specs.Placed.{AreRanks}
use Rattle.valid_image.specs.Tasks.{process_at}
use Rattle.valid_image.specs.Found.{Found}
use Rattle.valid_image.specs.Tables.{body_found, found_or_nothing, handler_found, handler_start, known, nothing_found, stay_of_process}
use Rattle.valid_image.specs.Valid.{HasLimits}
use Rattle.valid_image_law.proofs.Exact.{IsWithin, itself, part_same}
use Rattle.valid_image_law.proofs.Parts.{no_part, stay_by, where_in}
use Rattle.valid_image_law.proofs.Processes.{exact_body, exact_handler, image_fits, parts_in, parts_some}
use Rattle.valid_image_law.proofs.Ranking.{blocks, one_each, ranked, within_rank}
use Rattle.valid_image_law.proofs.Rows.{alike, exact, process_costs}
use Rattle.valid_image_law.proofs.Shapes.{process_shaped}
use Rattle.loader.proofs.Order.{HasNoFaultBefore}
use Rattle.sched_demand.specs.declared.tasks.DemandTask.{DemandTask}
use Rattle.sched_demand.specs.Demand.{task_at, AreTasks}
use Rattle.edf_semantics.specs.Safe.{IsWaitless, rank_of_some}
use Rattle.edf_semantics.specs.InTime as timed
use Rattle.command_due.specs.Tasks.{AreDemands}
use Rattle.edf_admission.specs.Admitted.{HasNoWait}
use Rattle.edf_admission.proofs.Once.{last_there}
use Rattle.edf_admission.proofs.Ranks.{each_rank_is_had, in_order}
use Rattle.edf_admission.proofs.Still.{body_still}
use Rattle.valid_image_law.proofs.Timing.{search}

-- ---- the search for a rank

module _ (m : Image) (none : HasNoFaultBefore m) (limits : HasLimits m) (over : m.over ≡ 0) (waitless : HasNoWait m) where
  pub fits : ImageFits (where_in m no_part) (parts_in m)
  fits = image_fits m none.operands none.shape none.handlers none.costs none.sizes limits.owners (λ k p at. (let l = limits.processes k p at in (l.stack, l.handler, within_rank m none.ranks k p at)))

  pub is_waitless : IsWaitless (where_in m no_part) (parts_in m)
  is_waitless = record {
    ranked = ranked m none.ranks;
    one_each = one_each m none.ranks;
    no_waits = λ k p at. ap (λ o. (parts_some m k o).body_cost.waits) at ∙ body_still m waitless none.shape none.costs k p at;
  }

  -- ---- declared costs cover the exact ones

  body_within : (k : ℕ) (p : Process) → slice_get m.processes k ≡ Some p → IsWithin (exact_body m p).cost (found_or_nothing (body_found m p)).cost
  body_within k p at =
      let s = process_shaped m none.shape k p at in
      let e = part_same m.code (known m) (exact m) (alike m none.shape none.costs) p.body p.start s.f s.body in
      let x : found_or_nothing (body_found m p) ≡ s.f = ap (λ o. found_or_nothing o) s.body in
      let y : exact_body m p ≡ e.g = ap (λ o. found_or_nothing o) e.is in
      subst (λ (f : Found). IsWithin f.cost (found_or_nothing (body_found m p)).cost) (sym y) (subst (λ (f : Found). IsWithin e.g.cost f.cost) (sym x) e.cost)

  handler_within : (p : Process) (o : Option Segs) (g : Found) → handler_found m p o ≡ Some g → IsWithin (exact_handler m p o).cost (found_or_nothing (handler_found m p o)).cost
  handler_within p None g is = itself nothing_found.cost
  handler_within p (Some tree) g is =
      let e = part_same m.code (known m) (exact m) (alike m none.shape none.costs) tree (handler_start p) g is in
      let x : found_or_nothing (handler_found m p (Some tree)) ≡ g = ap (λ o. found_or_nothing o) is in
      let y : exact_handler m p (Some tree) ≡ e.g = ap (λ o. found_or_nothing o) e.is in
      subst (λ (f : Found). IsWithin f.cost (found_or_nothing (handler_found m p (Some tree))).cost) (sym y) (subst (λ (f : Found). IsWithin e.g.cost f.cost) (sym x) e.cost)

  covered : (k : ℕ) (p : Process) → slice_get m.processes k ≡ Some p → cap (activation m.over (worst_of (parts_in m k))) ≤ p.run
  covered k p at =
      let s = process_shaped m none.shape k p at in
      let b = body_within k p at in
      let h = handler_within p p.handler_tree s.g s.handler in
      let c = process_costs m none.costs k p at in
      let x : Cost = (exact_body m p).cost in
      let y : Cost = (exact_handler m p p.handler_tree).cost in
      let no_dispatch : 2 * m.over * (1 + x.waits) ≡ 0 = ap (λ (n : ℕ). 2 * n * (1 + x.waits)) over ∙ omega arith in
      let run : cap ((x.run + y.run + 4) + 2 * m.over * (1 + x.waits)) ≤ p.run = omega (arith, b.run, h.run, no_dispatch, c.run) in
      subst (λ (ps : Parts). cap (activation m.over (worst_of ps)) ≤ p.run) (sym (ap (λ o. parts_some m k o) at)) run

  -- ---- the numbering of processes by ranks

  rank_is : (k : ℕ) (p : Process) → slice_get m.processes k ≡ Some p → timed.rank_from_zero m k ≡ p.rank - 1
  rank_is k p at = ap (λ (o : Option Process). rank_of_some o - 1) at

  found_at : (level k : ℕ) (p : Process) → slice_get m.processes k ≡ Some p → p.rank ≡ suc level → process_at m level ≡ k
  found_at level k p at is = search (suc level) 0 k m.processes p at is (λ j q there of. one_each m none.ranks j k q p there at (of ∙ sym is)) ∙ omega arith

  record At (level : ℕ) : Type 0 where
    k : ℕ
    p : Process
    at : slice_get m.processes k ≡ Some p
    is : p.rank ≡ suc level
    place : process_at m level ≡ k

  at_level : (level : ℕ) → level < length m.processes → At level
  at_level level low =
      let had = each_rank_is_had m none.ranks level low in
      let is : had.1.p.rank ≡ suc level = omega (arith, had.1.is) in
      record { k = had.0; p = had.1.p; at = had.1.at; is = is; place = found_at level had.0 had.1.p had.1.at is }

  module _ (ts : List DemandTask) (asked : AreDemands m ts) (are : AreTasks ts) where
    are_ranks : AreRanks (length ts) (timed.rank_from_zero m) (process_at m)
    are_ranks = record {
      rank_below = λ k low.
          (let p = some_at m.processes k (omega (arith, low, asked.many)) in
          let r = ranked m none.ranks k p.0 p.1 in
          omega (arith, rank_is k p.0 p.1, r.0, r.1, asked.many));
      place_below = λ level low.
          (let a = at_level level (omega (arith, low, asked.many)) in omega (arith, a.place, slice_get_within m.processes a.k a.p a.at, asked.many));
      there = λ level low.
          (let a = at_level level (omega (arith, low, asked.many)) in ap (λ (k : ℕ). timed.rank_from_zero m k) a.place ∙ (rank_is a.k a.p a.at ∙ omega (arith, a.is)));
      back = λ k low.
          (let p = some_at m.processes k (omega (arith, low, asked.many)) in
          let r = ranked m none.ranks k p.0 p.1 in
          found_at (timed.rank_from_zero m k) k p.0 p.1 (omega (arith, rank_is k p.0 p.1, r.0)));
    }

    -- ---- blocks

    stays_are : (k i : ℕ) (q : Process) (h : Bool) → slice_get m.processes k ≡ Some q → (part_of (parts_in m k) h).stays i ≡ stay_by m (stay_of_process m k i)
    stays_are k i q true at = ap (λ o. (part_of (parts_some m k o) true).stays i) at
    stays_are k i q false at = ap (λ o. (part_of (parts_some m k o) false).stays i) at

    -- who has a later deadline has a lower rank
    ranks_after : (j k : ℕ) (p q : Process) → slice_get m.processes j ≡ Some p → slice_get m.processes k ≡ Some q → p.deadline < q.deadline → p.rank < q.rank
    ranks_after j k p q at_j at_k later = elim (cases_lt p.rank q.rank) [
      | inl less ↦ less
      | inr more ↦ absurd (let up = in_order m none.ranks k j q p at_k at_j more in omega (arith, up, later))
    ]

    block_covers : (j k i : ℕ) (p q : Process) (x : Monitor) (h : Bool) → slice_get m.processes j ≡ Some p → slice_get m.processes k ≡ Some q → slice_get m.monitors i ≡ Some x
        → p.deadline < q.deadline → x.ceiling ≤ p.rank → cap ((part_of (parts_in m k) h).stays i) ≤ (task_at ts (p.rank - 1)).block
    block_covers j k i p q x h at_j at_k there later low =
        let l = (last_there m j p at_j).1 in
        let high : p.rank ≤ l.q.rank = l.last j p at_j (sym l.of) in
        let is : (task_at ts (p.rank - 1)).block ≡ l.q.block = asked.block j l.k p l.q at_j l.at (sym l.of) l.last in
        let after : l.q.rank < q.rank = ranks_after l.k k l.q q l.at at_k (omega (arith, l.of, later)) in
        let covers : cap (stay_by m (stay_of_process m k i)) ≤ l.q.block = blocks m none.ranks l.k k i l.q q x l.at at_k there after (omega (arith, low, high)) in
        omega (arith, covers, is, stays_are k i q h at_k)

    pub are_demands : timed.AreDemandsOf (where_in m no_part) (parts_in m) ts (process_at m)
    are_demands = record {
      tasks = are;
      many = asked.many;
      task = λ k p at. record { frame = asked.frame k p at; deadline = asked.deadline k p at; cost = asked.cost k p at };
      ranks = are_ranks;
      covered = covered;
      blocks = block_covers;
    }
