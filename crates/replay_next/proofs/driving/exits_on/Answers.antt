use Rattle.std.specs.Prelude.{[], ◌∷◌, ◌++◌}
use Rattle.std.proofs.Common.{◌≡◌, ◌∙◌, ap, arith}
use Rattle.replay_state.specs.View.{item_of}
use Rattle.replay_next.specs.Weights.{costs, items_weight}
use Rattle.replay_next.proofs.Stack.{items_pushed, last_popped}
use Rattle.replay_next.proofs.Weighing.{item_weighs}
use Rattle.replay_next.proofs.driving.exits_on.Goals as goal

pub returns-in-Some-clause-falls : goal.returns-in-Some-clause-falls
returns-in-Some-clause-falls c =
    let p = c.args.running.now in
    let k = costs c.args.scope.now p.depth in
    let left = c.pop.new.self.items in
    let item = c.in-Some.item in
    let all : p.rest.items ≡ left ++ item ∷ [] = last_popped p.rest.items left c.pop.result item c.pop.ensures.items c.in-Some.is in
    let weight = ap (items_weight k) all ∙ items_pushed k left item in
    let some = item_weighs k (item_of item) in
    let none = c.ran.ensures.falls k in
    omega (arith, weight, some, none)
