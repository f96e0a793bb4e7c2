-- What the processes ask for, in the order of ranks, is what the image asks for, and a set of tasks.
use Rattle.std.proofs.Common.{◌≡◌, ◌<◌, ◌+◌, ◌-◌, ◌∙◌, ℕ, List, length, Some, None, refl, sym, ap, subst, arith}
use Rattle.std.specs.Prelude.{slice_get}
use Rattle.std.proofs.lemmas.List.Elements.{All-from_get_or}
use Rattle.std.proofs.lemmas.List.Sorted.{IsNonDecreasingBy-from_default}
use Rattle.machine_semantics.specs.Image.{Image, Process}
use Rattle.valid_image.specs.Times.{rank_fault}
use Rattle.valid_image.specs.Valid.{HasLimits, IsInLimits}
use Rattle.valid_image_law.proofs.Ranking.{ranked, one_each}
use Rattle.sched_demand.specs.declared.tasks.DemandTask.{DemandTask}
use Rattle.sched_demand.specs.Demand.{task_at, AreTasks, IsTask}
use Rattle.command_due.specs.Tasks.{AreDemands}
use Rattle.edf_admission.specs.Steps.{AreAsked, IsAsked, IsLastBlock}
use Rattle.edf_admission.proofs.Ranks.{in_order}

abbrev pub no_demand : DemandTask
no_demand = record { frame = 0; deadline = 0; cost = 0; block = 0 }

-- ---- the first tasks

abbrev pub FirstAreAsked : Image → (many : ℕ) → List DemandTask → Type 0
FirstAreAsked m many ts = (length ts ≡ many) × ((level : ℕ) → level < many → IsAsked m (level + 1) (task_at ts level))

-- ---- all tasks

module _ (m : Image) (none : rank_fault m ≡ None) where
  same_process : (j k : ℕ) (p q : Process) → slice_get m.processes j ≡ Some p → slice_get m.processes k ≡ Some q → p.rank ≡ q.rank → p ≡ q
  same_process j k p q at_j at_k same =
      let here : j ≡ k = one_each m none j k p q at_j at_k same in
      let e : Some p ≡ Some q = sym at_j ∙ (ap (λ i. slice_get m.processes i) here ∙ at_k) in
      cc

  -- a deadline has one block
  same_block : (d b c : ℕ) → IsLastBlock m d b → IsLastBlock m d c → b ≡ c
  same_block d b c one two =
      let high = one.last two.k two.q two.at (two.of ∙ sym one.of) in
      let low = two.last one.k one.q one.at (one.of ∙ sym two.of) in
      let same : one.q ≡ two.q = same_process one.k two.k one.q two.q one.at two.at (omega (arith, high, low)) in
      sym one.is ∙ (ap (λ (q : Process). q.block) same ∙ two.is)

  module _ (ts : List DemandTask) (asked : AreAsked m ts) where
    -- the task of a process
    record Own (p : Process) : Type 0 where
      asks : IsAsked m (p.rank - 1 + 1) (task_at ts (p.rank - 1))
      is : asks.has.p ≡ p

    own : (k : ℕ) (p : Process) → slice_get m.processes k ≡ Some p → Own p
    own k p at =
        let r = ranked m none k p at in
        let a = asked.each (p.rank - 1) (omega (arith, r.0, r.1, asked.many)) in
        record { asks = a; is = same_process a.k k a.has.p p a.has.at at (omega (arith, a.has.is, r.0)) }

    pub are_demands : AreDemands m ts
    are_demands = record {
      many = asked.many;
      frame = λ k p at. (let o = own k p at in o.asks.frame ∙ ap (λ (x : Process). x.frame) o.is);
      deadline = λ k p at. (let o = own k p at in o.asks.deadline ∙ ap (λ (x : Process). x.deadline) o.is);
      cost = λ k p at. (let o = own k p at in o.asks.cost ∙ ap (λ (x : Process). x.run) o.is);
      block = λ j k p q at_p at_q same last. (let o = own j p at_p in
          same_block q.deadline _ q.block (subst (λ (d : ℕ). IsLastBlock m d (task_at ts (p.rank - 1)).block) (ap (λ (x : Process). x.deadline) o.is ∙ same) o.asks.block)
          (record { k = k; q = q; at = at_q; of = refl; last = last; is = refl }));
    }

    module _ (limits : HasLimits m) where
      a_task : (rank : ℕ) (t : DemandTask) → IsAsked m rank t → IsTask t
      a_task rank t a =
          let l : IsInLimits a.has.p = limits.processes a.k a.has.p a.has.at in
          let b : IsInLimits a.block.q = limits.processes a.block.k a.block.q a.block.at in
          record {
            frame_low = omega (arith, a.frame, l.frame_low);
            frame_high = omega (arith, a.frame, l.frame_high);
            deadline_low = omega (arith, a.deadline, l.deadline_low);
            deadline_high = omega (arith, a.deadline, a.frame, l.deadline_high);
            cost = omega (arith, a.cost, l.run);
            block = omega (arith, a.block.is, b.block);
          }

      pub are_a_set : AreTasks ts
      are_a_set = record {
        some = omega (arith, asked.many, limits.some);
        few = omega (arith, asked.many, limits.few);
        each = All-from_get_or IsTask ts no_demand (λ level low. a_task (level + 1) (task_at ts level) (asked.each level low));
        ordered = record {
          ascending = IsNonDecreasingBy-from_default (λ (t : DemandTask). t.deadline) ts no_demand (λ i j le low.
              let a = asked.each i (omega (arith, le, low)) in
              let b = asked.each j low in
              let up = in_order m none a.k b.k a.has.p b.has.p a.has.at b.has.at (omega (arith, a.has.is, b.has.is, le)) in
              omega (arith, a.deadline, b.deadline, up));
          one_block = λ i j low_i low_j same.
              (let a = asked.each i low_i in
              let b = asked.each j low_j in
              let due : a.has.p.deadline ≡ b.has.p.deadline = omega (arith, a.deadline, b.deadline, same) in
              same_block b.has.p.deadline _ _ (subst (λ (d : ℕ). IsLastBlock m d (task_at ts i).block) due a.block) b.block);
        };
      }
