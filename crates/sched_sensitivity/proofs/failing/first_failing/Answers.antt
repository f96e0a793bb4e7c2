use Rattle.std.proofs.Common.{◌≡◌, ◌≤◌, ◌+◌, inl, inr, ℕ, length, subst, arith}
use Rattle.std.proofs.lemmas.Bool.{cases_lt}
use Rattle.sched_response.specs.Demand.{Solves}
use Rattle.sched_sensitivity.specs.Slack.{evaluations}
use Rattle.sched_sensitivity.proofs.Lighter.{evaluations_more, evaluations_up}
use Rattle.sched_sensitivity.proofs.failing.first_failing.Goals as goal

pub loop-level-preserved : goal.loop-level-preserved
loop-level-preserved g c =
    let level = c.loop-level.level in
    let more = evaluations_more c.args.set.now level in
    record {
      solved = λ other below. elim (cases_lt other level) [
        | inl lt ↦ c.loop-level.invariant.solved other lt
        | inr ge ↦
            let e : level ≡ other = omega arith in
            let P : ℕ → Type 0 = λ n. (r : ℕ) × Solves c.args.set.now n r in
            subst P e (c.in-Some._response, c.in-Some.ensures.some.solves)
      ];
      cost = omega (arith, more, c.bound.ensures.cost, c.loop-level.invariant.cost);
    }

pub returns-in_default-clause-cost : goal.returns-in_default-clause-cost
returns-in_default-clause-cost g c =
    let set = c.args.set.now in
    let level = c.loop-level.level in
    let more = evaluations_more set level in
    let up : evaluations set (level + 1) ≤ evaluations set (length set) = evaluations_up set (level + 1) (length set) (omega (arith, c.loop-level-test.true, c.levels-level-end.ensures.value)) in
    omega (arith, more, up, c.bound.ensures.cost, c.loop-level.invariant.cost)
