use Rattle.std.proofs.Common.{◌≡◌, ◌+◌, ◌-◌, ◌*◌, ◌≤◌, ◌∙◌, inl, inr, ℕ, List, length, ap, subst, sym, refl, arith}
use Rattle.sched_response.specs.declared.tasks.Task.{Task}
use Rattle.sched_response.specs.Demand.{deadline_at, task_at}
use Rattle.sched_sensitivity.specs.Slack.{evaluations, evaluations_at, IsSpareFrom, IsTimely}
use Rattle.sched_sensitivity.proofs.More.{run_within_deadline, spare_at_first}
use Rattle.sched_sensitivity.proofs.Paid.{Paid, paid_first, paid_last, paid_many, paid_one}
use Rattle.sched_sensitivity.proofs.spare.least_extra.Goals as goal

pub overflow_sub-least : goal.overflow_sub-least
overflow_sub-least g c =
    let held = run_within_deadline c.args.set.now c.args.level c.requires.level (omega (arith, c.limit.ensures.value, c.limit.ensures.high)) c.requires.timely in
    omega (arith, held, c.limit.ensures.value, c.run.ensures.value)

pub loop-other-init : goal.loop-other-init
loop-other-init g c =
    let set = c.args.set.now in
    let level = c.args.level in
    let low : deadline_at set level ≤ 1000000000 = omega (arith, c.limit.ensures.value, c.limit.ensures.high) in
    let held = run_within_deadline set level c.requires.level low c.requires.timely in
    let extra = c.limit.result - c.run.result in
    let full : deadline_at set level ≡ (task_at set level).run + extra = omega (arith, held, c.limit.ensures.value, c.run.ensures.value) in
    record {
      kept = refl;
      room = omega (arith, full, low);
      on = omega (arith, c.requires.level, c.levels-other.ensures.value);
      from = subst (λ (n : ℕ). IsSpareFrom set level n (record { extra = extra; fails = level })) (sym c.levels-other.ensures.value) (spare_at_first set level extra c.requires.level low full c.requires.timely);
      paid = subst (λ (n : ℕ). Paid set n level c.args.steps.now (c.args.steps.now + 31 * evaluations set (length set))) (sym c.levels-other.ensures.value) (paid_first set level c.args.steps.now c.requires.level);
    }

pub loop-other-preserved : goal.loop-other-preserved
loop-other-preserved g c =
    let set = c.args.set.now in
    let most = c.args.steps.now + 31 * evaluations set (length set) in
    let old = c.loop-other.invariant in
    let fails = c.loop-other.least.fails in
    let other = c.loop-other.other - 1 in
    let next : c.loop-other.other ≡ other + 1 = omega (arith, c.loop-other-test.true) in
    let same : evaluations_at c.loop-other.set other ≡ evaluations_at set other = ap (λ (us : List Task). evaluations_at us other) old.kept in
    let paid : Paid set (other + 1) fails c.loop-other.steps most = subst (λ (n : ℕ). Paid set n fails c.loop-other.steps most) next old.paid in
    record {
      kept = c.lessened-least.ensures.kept ∙ old.kept;
      room = omega (arith, old.room, c.lessened-least.ensures.less);
      on = omega (arith, c.loop-other-test.true);
      from = subst (λ (us : List Task). IsSpareFrom us c.args.level other c.lessened-least.result) old.kept c.lessened-least.ensures.from;
      paid = elim c.lessened-least.ensures.cost [
        | inl one ↦ subst (λ (f : ℕ). Paid set other f c.lessened-least.new.steps most) (sym one.0)
            (paid_one set other fails c.loop-other.steps c.lessened-least.new.steps most paid (omega (arith, same, one.1)))
        | inr many ↦ subst (λ (f : ℕ). Paid set other f c.lessened-least.new.steps most) (sym many.0)
            (paid_many set other fails c.loop-other.steps c.lessened-least.new.steps most paid (omega (arith, same, many.1)))
      ];
    }

pub lessened-least-requires-clause-timely : goal.lessened-least-requires-clause-timely
lessened-least-requires-clause-timely g c = subst (λ (us : List Task). IsTimely us) (sym c.loop-other.invariant.kept) c.requires.timely

pub returns-clause-from : goal.returns-clause-from
returns-clause-from g c =
    let at : c.loop-other.other ≡ c.args.level = omega (arith, c.loop-other.invariant.on, c.loop-other-test.false) in
    subst (λ (n : ℕ). IsSpareFrom c.args.set.now c.args.level n c.loop-other.least) at c.loop-other.invariant.from

pub returns-clause-cost : goal.returns-clause-cost
returns-clause-cost g c =
    paid_last c.args.set.now c.loop-other.other c.loop-other.least.fails c.loop-other.steps (c.args.steps.now + 31 * evaluations c.args.set.now (length c.args.set.now)) c.loop-other.invariant.paid
