use Rattle.std.proofs.Common.{◌≡◌, ◌+◌, ◌++◌, ◌∷◌, [], drop, ap, sym, ◌∙◌, arith}
use Rattle.std.proofs.lemmas.List.{drop_more}
use Rattle.syntax_tree.specs.Placed.{placed}
use Rattle.static_calls.specs.Tables.{declared_in, seen_routines, edges_of}
use Rattle.static_calls.proofs.numbers.edges.Goals as goal

pub loop-routine-preserved : goal.loop-routine-preserved
loop-routine-preserved c =
    let declared = declared_in (placed c.args.declarations.now) in
    let keys = c.args.numbers.now.keys in
    let rs = c.args.routines.now in
    let i = c.loop-routine.routine-index in
    let r = c.routine-item.result in
    let split : drop i rs ≡ r ∷ drop (i + 1) rs = drop_more rs i r (omega arith) ∙ ap (λ q. q ∷ drop (i + 1) rs) (sym c.routine-item.is) in
    c.in_ok-add_routine.ensures (edges_of declared keys (seen_routines (drop (i + 1) rs)) [])
    ∙ ap (λ l. c.loop-routine.edges.items ++ edges_of declared keys (seen_routines l) []) (sym split)
    ∙ c.loop-routine.invariant
