use Rattle.std.proofs.Common.{◌+◌, map, drop, ap, sym, ◌∙◌, arith}
use Rattle.std.proofs.lemmas.List.{drop_all}
use Rattle.syntax_tree.specs.Placed.{placed_decl}
use Rattle.static_names.specs.Occurrences.{others}
use Rattle.static_names.specs.Seen.{meaning, add_all}
use Rattle.static_names.proofs.Walks.{drop-item}
use Rattle.static_names.proofs.Programs.{others-cons}
use Rattle.static_names.proofs.program.others.Goals as goal

pub loop-one-preserved : goal.loop-one-preserved
loop-one-preserved c =
    let rest = map placed_decl (drop (c.loop-one.one-index + 1) c.args.list.now) in
    ap (λ r. add_all r (others rest)) c.in-Ok.ensures
    ∙ sym (others-cons (meaning c.loop-one.scope.entries) (placed_decl c.one-item.result) rest)
    ∙ ap (λ l. add_all (meaning c.loop-one.scope.entries) (others (map placed_decl l))) (sym (drop-item c.args.list.now c.loop-one.one-index c.one-item.result (omega arith) c.one-item.is))
    ∙ c.loop-one.invariant

pub returns : goal.returns
returns c = ap (λ l. add_all (meaning c.loop-one.scope.entries) (others (map placed_decl l))) (sym (drop_all c.loop-one.one-index c.args.list.now (omega arith))) ∙ c.loop-one.invariant
