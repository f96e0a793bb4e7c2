-- The image of two processes meets the premise.
use Rattle.std.proofs.Common.{◌≡◌, ◌≤◌, ◌<◌, ◌+◌, ◌-◌, ◌⊎◌, ℕ, zero, suc, Some, arith, refl, subst}
use Rattle.std.specs.Prelude.{slice_get, slice_index_or, pos, true}
use Rattle.std.proofs.Math.Dec.{leb, ltb}
use Rattle.std.proofs.lemmas.Bool.{leb-true, ltb-true}
use Rattle.machine_isa.specs.declared.instr.Instr.TheVariants as i
use Rattle.machine_semantics.specs.Image.{Process, Script, Occurs}
use Rattle.machine_semantics.specs.Safe.{ProcessFits, ImageFits}
use Rattle.machine_semantics.specs.Work.{worst_of, activation}
use Rattle.machine_safety.specs.Example.{cost}
use Rattle.machine_safety.proofs.Building.{exact, own_fits}
use Rattle.sched_timing.specs.Timed.{RespectsFrames}
use Rattle.sched_demand.specs.declared.tasks.DemandTask.{DemandTask}
use Rattle.sched_demand.specs.Demand.{task_at, IsTask, AreTasks, asked, demand_at, IsReach, IsFeasible, IsJudged}
use Rattle.edf_semantics.specs.Safe.{IsWaitless}
use Rattle.edf_semantics.specs.Example.{two}
use Rattle.edf_semantics.specs.InTime.{IsTaskOf, rank_from_zero, AreDemandsOf, IsJudgedFeasible}
use Rattle.base.specs.Capped.{cap}
use Rattle.sched_demand.specs.declared.judging.Judgement.TheVariants as judgement
use Rattle.sched_demand.proofs.Rising.{one_reach}
use Rattle.edf_semantics.specs.ExampleInTime.{two_place, two_parts, two_tasks, TwoMeetPremise, TwoMeetDeadlines}
use Rattle.edf_semantics.proofs.Meeting.{every_run_meets_deadlines}
use Rattle.machine_safety.specs.SmallImages.{alone}
use Rattle.machine_semantics.specs.Trees.{Line, Nil, Cons}
use Rattle.sched_theorem.proofs.Meeting.{two as two_of, all_at}

abbrev first_process : Process
first_process = record (alone 30 15 0 1 (Cons (Line 2) Nil)) { bound = 30 }

abbrev second_process : Process
second_process = record (alone 52 26 0 1 (Cons (Line 4) Nil)) { bound = 52; rank = 2; start = 3 }

-- a fact of both processes
both : (P : ℕ → Process → Type 0) → P 0 first_process → P 1 second_process → (k : ℕ) (p : Process) → slice_get two.processes k ≡ Some p → P k p
both P one other zero p at = let is : first_process ≡ p = cc in subst (λ (x : Process). P 0 x) is one
both P one other (suc zero) p at = let is : second_process ≡ p = cc in subst (λ (x : Process). P 1 x) is other
both P one other (suc (suc k)) p at = absurd cc

first_fits : ProcessFits two_place first_process (two_parts 0)
first_fits = record {
  body = own_fits 1 0 0 first_process refl refl (omega arith) (omega arith);
  code = record {
    mid = 2;
    between = 0;
    first = cost 11 0 0;
    later = cost 0 0 0;
    here = (
      refl,
      record {
        instr = i.Push (pos 1);
        here = refl;
        plain = tt;
        kept = 0;
        taken = refl;
        room = omega arith;
        later = cost 10 0 0;
        more = record { instr = i.Out (pos 0); here = refl; plain = (0, refl, omega arith); kept = 0; taken = refl; room = omega arith; later = cost 0 0 0; more = (refl, refl); covers = exact };
        covers = exact;
      },
    );
    more = (refl, refl);
    covers = exact;
  };
  ends = refl;
  handler = own_fits 1 0 0 first_process refl refl (omega arith) (omega arith);
  handles = λ number listed. absurd cc;
  no_susp = refl;
  no_waits = refl;
}

second_fits : ProcessFits two_place second_process (two_parts 1)
second_fits = record {
  body = own_fits 1 0 0 second_process refl refl (omega arith) (omega arith);
  code = record {
    mid = 7;
    between = 0;
    first = cost 22 0 0;
    later = cost 0 0 0;
    here = (
      refl,
      record {
        instr = i.Push (pos 2);
        here = refl;
        plain = tt;
        kept = 0;
        taken = refl;
        room = omega arith;
        later = cost 21 0 0;
        more = record {
          instr = i.Out (pos 0);
          here = refl;
          plain = (0, refl, omega arith);
          kept = 0;
          taken = refl;
          room = omega arith;
          later = cost 11 0 0;
          more = record {
            instr = i.Push (pos 3);
            here = refl;
            plain = tt;
            kept = 0;
            taken = refl;
            room = omega arith;
            later = cost 10 0 0;
            more = record { instr = i.Out (pos 0); here = refl; plain = (0, refl, omega arith); kept = 0; taken = refl; room = omega arith; later = cost 0 0 0; more = (refl, refl); covers = exact };
            covers = exact;
          };
          covers = exact;
        };
        covers = exact;
      },
    );
    more = (refl, refl);
    covers = exact;
  };
  ends = refl;
  handler = own_fits 1 0 0 second_process refl refl (omega arith) (omega arith);
  handles = λ number listed. absurd cc;
  no_susp = refl;
  no_waits = refl;
}

fits : ImageFits two_place two_parts
fits = record {
  routines = λ r routine at. absurd cc;
  bases = λ m monitor at. absurd cc;
  processes = both (λ k p. ProcessFits two_place p (two_parts k)) first_fits second_fits;
}

waitless : IsWaitless two_place two_parts
waitless = record {
  ranked = both (λ k p. (1 ≤ p.rank) × (p.rank ≤ 2)) (omega arith, omega arith) (omega arith, omega arith);
  one_each = λ j k p q at_j at_k. both (λ a x. (b : ℕ) (y : Process) → slice_get two.processes b ≡ Some y → x.rank ≡ y.rank → a ≡ b)
      (both (λ b y. 1 ≡ y.rank → 0 ≡ b) (λ same. refl) (λ same. absurd (omega arith)))
      (both (λ b y. 2 ≡ y.rank → 1 ≡ b) (λ same. absurd (omega arith)) (λ same. refl)) j p at_j k q at_k;
  no_waits = λ k p at. refl;
}

-- ---- the test, which computes

tasks : AreTasks two_tasks
tasks = record {
  some = omega arith;
  few = omega arith;
  each = λ k d below. two_of (λ j. IsTask (slice_index_or two_tasks j d))
      (record { frame_low = omega arith; frame_high = omega arith; deadline_low = omega arith; deadline_high = omega arith; cost = omega arith; block = omega arith })
      (record { frame_low = omega arith; frame_high = omega arith; deadline_low = omega arith; deadline_high = omega arith; cost = omega arith; block = omega arith }) k below;
  ordered = record {
    ascending = λ j k d le below. ordered j k d le below;
    one_block = λ j k j_below k_below same. two_of (λ a. (task_at two_tasks a).block ≡ (task_at two_tasks k).block)
        (two_of (λ b. 0 ≡ (task_at two_tasks b).block) refl refl k k_below) (two_of (λ b. 0 ≡ (task_at two_tasks b).block) refl refl k k_below) j j_below;
  };
}
  where
    ordered : (j k : ℕ) (d : DemandTask) → j ≤ k → k < 2 → (slice_index_or two_tasks j d).deadline ≤ (slice_index_or two_tasks k d).deadline
    ordered zero zero d le below = omega arith
    ordered zero (suc zero) d le below = omega arith
    ordered (suc zero) (suc zero) d le below = omega arith
    ordered (suc zero) zero d le below = absurd (omega arith)
    ordered (suc (suc j)) k d le below = absurd (omega arith)
    ordered j (suc (suc k)) d le below = absurd (omega arith)

reaches : IsReach two_tasks 780
reaches = record {
  above = omega arith;
  within = omega arith;
  covers = λ less j below. two_of (λ a. (task_at two_tasks a).block + asked two_tasks 780 ≤ 780) (leb-true _ _ refl) (leb-true _ _ refl) j below;
  least = λ r above below covers.
      let h : ltb (suc (r - 1)) (asked two_tasks (suc (r - 1))) ≡ true = all_at 779 (λ n. ltb (suc n) (asked two_tasks (suc n))) refl (r - 1) (omega arith) in
      let e : suc (r - 1) ≡ r = omega arith in
      let more : r < asked two_tasks r = subst (λ n. n < asked two_tasks n) e (ltb-true _ _ h) in
      let met : 0 + asked two_tasks r ≤ r = covers 0 (omega arith) in
      absurd (omega arith);
}

feasible : IsFeasible two_tasks 780
feasible t point = leb-true _ _ (all_at 781 (λ n. leb (demand_at two_tasks n) n) refl t (omega (arith, point.within)))

demands : AreDemandsOf two_place two_parts two_tasks (λ j. j)
demands = record {
  tasks = tasks;
  many = refl;
  task = both (λ k p. IsTaskOf p (task_at two_tasks (p.rank - 1))) (record { frame = refl; deadline = refl; cost = refl }) (record { frame = refl; deadline = refl; cost = refl });
  ranks = record {
    rank_below = two_of (λ p. rank_from_zero two p < 2) (omega arith) (omega arith);
    place_below = λ j below. below;
    there = two_of (λ j. rank_from_zero two j ≡ j) refl refl;
    back = two_of (λ j. rank_from_zero two j ≡ j) refl refl;
  };
  covered = both (λ k p. cap (activation 0 (worst_of (two_parts k))) ≤ p.run) (omega arith) (omega arith);
  blocks = λ j k m p q monitor h at_j at_k there. absurd cc;
}

judged : IsJudgedFeasible two_tasks 41
judged reach is =
    let same : 780 ≡ reach = one_reach two_tasks 780 reach reaches is in
    subst (λ r. IsJudged two_tasks r (judgement.Feasible 41)) same (refl, omega arith, feasible)

respects : (script : Script) → RespectsFrames two script
respects script = both (λ k p. p.kind ≡ 1 → (a b t u : ℕ) → (a ≡ b → ⊥) → slice_get script.lines a ≡ Some (Occurs t p.event) → slice_get script.lines b ≡ Some (Occurs u p.event) → (t + p.frame ≤ u) ⊎ (u + p.frame ≤ t))
    (λ kind. absurd (omega arith)) (λ kind. absurd (omega arith))

pub premise : TwoMeetPremise
premise = record { fits = fits; waitless = waitless; demands = demands; judged = judged }

pub deadlines : TwoMeetDeadlines
deadlines script short = every_run_meets_deadlines two_place two_parts script two_tasks (λ j. j) 41 fits waitless demands judged (respects script) short
