use Rattle.std.proofs.Common.{◌≡◌, ◌+◌, ◌<◌, ◌≤◌, ◌∙◌, inl, inr, ℕ, List, length, ap, subst, sym, refl, arith}
use Rattle.std.proofs.lemmas.Bool.{cases_eq}
use Rattle.sched_response.specs.declared.tasks.Task.{Task}
use Rattle.sched_sensitivity.specs.Slack.{evaluations, evaluations_at, with_more, Responds}
use Rattle.sched_sensitivity.proofs.Lighter.{evaluations_more, evaluations_up}
use Rattle.sched_sensitivity.proofs.More.{fails_below, first_is}
use Rattle.sched_sensitivity.proofs.spare.first_with_more.Goals as goal

pub loop-other-init : goal.loop-other-init
loop-other-init g c = record { kept = refl; before = λ k from less. absurd (omega (arith, from, less)); cost = omega arith }

pub loop-other-preserved : goal.loop-other-preserved
loop-other-preserved g c =
    let set = c.args.set.now in
    let x = c.args.least.extra + 1 in
    let old = c.loop-other.invariant in
    let other = c.loop-other.other in
    let same : evaluations_at c.loop-other.set other ≡ evaluations_at set other = ap (λ (us : List Task). evaluations_at us other) old.kept in
    let more : evaluations set (other + 1) ≡ evaluations set other + evaluations_at set other = evaluations_more set other in
    record {
      kept = c.bound_with.ensures.kept ∙ old.kept;
      before = λ k from less. elim (cases_eq k other) [
        | inl e ↦ subst (λ (n : ℕ). Responds (with_more set c.args.level x) n) (sym e)
            (subst (λ (us : List Task). Responds (with_more us c.args.level x) other) old.kept (c.in-Some._bound, c.in-Some.ensures.some.solves))
        | inr differs ↦ old.before k from (omega (arith, less, differs))
      ];
      cost = omega (arith, same, more, old.cost, c.bound_with.ensures.cost);
    }

pub returns-in_default-clause-first : goal.returns-in_default-clause-first
returns-in_default-clause-first g c =
    let set = c.args.set.now in
    let x = c.args.least.extra + 1 in
    let old = c.loop-other.invariant in
    let other = c.loop-other.other in
    first_is set c.args.level x other c.requires.level c.requires.timely (omega (arith, c.requires.from.within, c.loop-other-test.true))
    (subst (λ (us : List Task). ¬ Responds (with_more us c.args.level x) other) old.kept c.in_default.ensures.none) old.before

pub returns-in_default-clause-cost : goal.returns-in_default-clause-cost
returns-in_default-clause-cost g c =
    let set = c.args.set.now in
    let old = c.loop-other.invariant in
    let other = c.loop-other.other in
    let same : evaluations_at c.loop-other.set other ≡ evaluations_at set other = ap (λ (us : List Task). evaluations_at us other) old.kept in
    let more : evaluations set (other + 1) ≡ evaluations set other + evaluations_at set other = evaluations_more set other in
    let up : evaluations set (other + 1) ≤ evaluations set c.args.least.fails = evaluations_up set (other + 1) c.args.least.fails (omega (arith, c.loop-other-test.true)) in
    omega (arith, same, more, up, old.cost, c.bound_with.ensures.cost)

pub returns-clause-first : goal.returns-clause-first
returns-clause-first g c =
    let set = c.args.set.now in
    let old = c.loop-other.invariant in
    first_is set c.args.level (c.args.least.extra + 1) c.args.least.fails c.requires.level c.requires.timely c.requires.from.within c.requires.from.fails
    (λ k from less. old.before k from (omega (arith, less, c.loop-other-test.false)))

pub returns-clause-cost : goal.returns-clause-cost
returns-clause-cost g c =
    let set = c.args.set.now in
    let low = fails_below set c.args.level c.args.least c.requires.level c.requires.timely c.requires.from in
    let past : evaluations set c.loop-other.other ≤ evaluations set c.args.least.fails = evaluations_up set c.loop-other.other c.args.least.fails (omega (arith, low)) in
    omega (arith, past, c.loop-other.invariant.cost)
