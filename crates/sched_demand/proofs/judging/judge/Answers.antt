use Rattle.std.proofs.Common.{◌≡◌, subst}
use Rattle.sched_demand.specs.Demand.{IsJudged}
use Rattle.sched_demand.specs.Reaching.{IsSpan}
use Rattle.sched_demand.proofs.Rising.{one_reach}
use Rattle.sched_demand.proofs.judging.judge.Goals as goal

pub returns-in-Some : goal.returns-in-Some
returns-in-Some c = λ reach is.
    let span = c.in-Some.ensures.some in
    let same : c.tasks-tasks.result.now ≡ c.args.set.now = c.tasks-tasks.ensures.value in
    let here : IsSpan c.args.set.now c.in-Some.row = subst (λ ts. IsSpan ts c.in-Some.row) same span in
    let judged : IsJudged c.args.set.now c.in-Some.row.reach c.judge_row.result = subst (λ ts. IsJudged ts c.in-Some.row.reach c.judge_row.result) same c.judge_row.ensures in
    subst (λ r. IsJudged c.args.set.now r c.judge_row.result) (one_reach c.args.set.now c.in-Some.row.reach reach here.is_reach is) judged
