use Rattle.std.proofs.Common.{◌≡◌, ◌+◌, ◌++◌, ◌∷◌, drop, get_or, ap, sym, ◌∙◌, arith, add-one, drop-cons}
use Rattle.std.proofs.lemmas.List.{drop_all}
use Rattle.syntax_tree.specs.declared.place.Place.{Place}
use Rattle.static_calls.specs.Tables.{edges_to}
use Rattle.static_calls.proofs.numbers.add_edges.Goals as goal

pub loop-callee-preserved : goal.loop-callee-preserved
loop-callee-preserved c more =
    let calls = c.args.calls.now in
    let i = c.loop-callee.callee-index in
    let none : Place = record { line = 0; col = 0 } in
    let split : drop i calls ≡ get_or calls i none ∷ drop (i + 1) calls = rw add-one (drop-cons calls i none (omega arith)) in
    c.in_ok-add_edge.ensures (edges_to c.args.numbers.now.keys c.args.from (drop (i + 1) calls) more)
    ∙ ap (λ l. c.loop-callee.edges.items ++ edges_to c.args.numbers.now.keys c.args.from l more) (sym split)
    ∙ c.loop-callee.invariant more

pub returns : goal.returns
returns c more =
    ap (λ l. c.loop-callee.edges.items ++ edges_to c.args.numbers.now.keys c.args.from l more) (sym (drop_all c.loop-callee.callee-index c.args.calls.now (omega arith)))
    ∙ c.loop-callee.invariant more
