use Rattle.std.proofs.Common.{◌≡◌, ◌+◌, IfNone, IfSome, ℕ, List, length, ap, subst, sym, ◌∙◌, arith}
use Rattle.sched_response.specs.declared.tasks.Task.{Task}
use Rattle.sched_response.specs.Demand.{with_run, IsBound}
use Rattle.sched_sensitivity.specs.Slack.{evaluations_at, with_more, Responds}
use Rattle.sched_sensitivity.proofs.Answered.{not_responding}
use Rattle.sched_sensitivity.proofs.More.{evaluations_at_same, length_more, put_back}
use Rattle.sched_sensitivity.proofs.failing.bound_with.Goals as goal

pub bound-found-requires : goal.bound-found-requires
bound-found-requires g c =
    let set = c.args.set.now in
    let level = c.args.level in
    let moved : c.set_run.new.self ≡ with_more set level c.args.more = c.set_run.ensures ∙ ap (λ (n : ℕ). with_run set level (n + c.args.more)) c.run-run.ensures.value in
    omega (arith, c.requires.other, length_more set level c.args.more, ap (λ (us : List Task). length us) moved)

pub returns-clause-kept : goal.returns-clause-kept
returns-clause-kept g c =
    let set = c.args.set.now in
    let level = c.args.level in
    let moved : c.set_run.new.self ≡ with_more set level c.args.more = c.set_run.ensures ∙ ap (λ (n : ℕ). with_run set level (n + c.args.more)) c.run-run.ensures.value in
    c.set_run-2.ensures
    ∙ ap (λ (us : List Task). with_run us level c.run-run.result) moved
    ∙ ap (λ (n : ℕ). with_run (with_more set level c.args.more) level n) c.run-run.ensures.value
    ∙ put_back set level c.args.more c.requires.level

pub returns-clause-some : goal.returns-clause-some
returns-clause-some g c =
    let set = c.args.set.now in
    let level = c.args.level in
    let moved : c.set_run.new.self ≡ with_more set level c.args.more = c.set_run.ensures ∙ ap (λ (n : ℕ). with_run set level (n + c.args.more)) c.run-run.ensures.value in
    subst (λ (us : List Task). IfSome c.bound-found.result (IsBound us c.args.other)) moved c.bound-found.ensures.some

pub returns-clause-none : goal.returns-clause-none
returns-clause-none g c =
    let set = c.args.set.now in
    let level = c.args.level in
    let moved : c.set_run.new.self ≡ with_more set level c.args.more = c.set_run.ensures ∙ ap (λ (n : ℕ). with_run set level (n + c.args.more)) c.run-run.ensures.value in
    subst (λ (us : List Task). IfNone c.bound-found.result (¬ Responds us c.args.other)) moved (not_responding c.set_run.new.self c.args.other c.bound-found.result c.bound-found.ensures.none)

pub returns-clause-cost : goal.returns-clause-cost
returns-clause-cost g c =
    let set = c.args.set.now in
    let level = c.args.level in
    let moved : c.set_run.new.self ≡ with_more set level c.args.more = c.set_run.ensures ∙ ap (λ (n : ℕ). with_run set level (n + c.args.more)) c.run-run.ensures.value in
    let same : evaluations_at c.set_run.new.self c.args.other ≡ evaluations_at set c.args.other =
    ap (λ (us : List Task). evaluations_at us c.args.other) moved ∙ evaluations_at_same set level c.args.more c.args.other c.requires.level c.requires.other in
    omega (arith, same, c.bound-found.ensures.cost)
