use Rattle.std.specs.Prelude.{[], ◌∷◌, ◌++◌, List}
use Rattle.std.proofs.Common.{◌≡◌, ◌∙◌, ap, sym, arith}
use Rattle.source_semantics.specs.Run as run
use Rattle.replay_calls.specs.Reach.{memory_of, site_of}
use Rattle.replay_next.specs.Driving.{Others, callers_run, others_of, rest_of, then_items}
use Rattle.replay_next.specs.Remains.{step_of}
use Rattle.replay_next.specs.Weights.{costs, items_weight}
use Rattle.replay_next.proofs.Stack.{items_pushed, last_popped}
use Rattle.replay_next.proofs.Stepping.{rest_pushed}
use Rattle.replay_next.proofs.driving.goes_on.Goals as goal

pub returns-in_ok-part_met-in-Some-clause-run : goal.returns-in_ok-part_met-in-Some-clause-run
returns-in_ok-part_met-in-Some-clause-run c =
    let s = c.args.scope.now in
    let p = c.args.running.now in
    let site = site_of s p.home p.depth in
    let m = memory_of c.args.memory.now in
    let left = c.pop.new.self.items in
    let item = c.in-Some.item in
    let all : p.rest.items ≡ left ++ item ∷ [] = last_popped p.rest.items left c.pop.result item c.pop.ensures.items c.in-Some.is in
    let items = ap rest_of all ∙ rest_pushed left item in
    let h = c.in_ok-step-in-Some in
    c.in_ok-part_met-in-Some.ensures.run
    ∙ (ap (λ (o : Others). callers_run s p.callers.items o (then_items site (rest_of c.begin_item.new.rest.items) (step_of site h.step (memory_of c.begin_item.new.memory)))) h.ensures.others
    ∙ ap (callers_run s p.callers.items (others_of p.kept c.args.memory.now)) (h.ensures.run ∙ sym (ap (λ (l : List run.Item). then_items site l (run.goes m)) items)))

pub returns-in_ok-part_met-in-Some-clause-falls : goal.returns-in_ok-part_met-in-Some-clause-falls
returns-in_ok-part_met-in-Some-clause-falls c =
    let p = c.args.running.now in
    let k = costs c.args.scope.now p.depth in
    let left = c.pop.new.self.items in
    let item = c.in-Some.item in
    let all : p.rest.items ≡ left ++ item ∷ [] = last_popped p.rest.items left c.pop.result item c.pop.ensures.items c.in-Some.is in
    let weight = ap (items_weight k) all ∙ items_pushed k left item in
    let less = c.in_ok-step-in-Some.ensures.falls in
    let more = c.in_ok-part_met-in-Some.ensures.falls in
    omega (arith, weight, less, more)
