use Rattle.std.proofs.Common.{◌+◌, map, drop, ap, sym, ◌∙◌, arith}
use Rattle.std.proofs.lemmas.List.{drop_all}
use Rattle.syntax_tree.specs.Placed.{placed_decl}
use Rattle.static_names.specs.Seen.{entry_meaning, add_monitors}
use Rattle.static_names.proofs.Walks.{drop-item}
use Rattle.static_names.proofs.Programs.{monitors-cons}
use Rattle.static_names.proofs.program.monitors.Goals as goal

pub loop-one-preserved : goal.loop-one-preserved
loop-one-preserved c =
    let rest = map placed_decl (drop (c.loop-one.one-index + 1) c.args.list.now) in
    ap (λ r. add_monitors r rest) c.in-Ok.ensures
    ∙ sym (monitors-cons (entry_meaning c.loop-one.all.entries) (placed_decl c.one-item.result) rest)
    ∙ ap (λ l. add_monitors (entry_meaning c.loop-one.all.entries) (map placed_decl l)) (sym (drop-item c.args.list.now c.loop-one.one-index c.one-item.result (omega arith) c.one-item.is))
    ∙ c.loop-one.invariant

pub returns : goal.returns
returns c = ap (λ l. add_monitors (entry_meaning c.loop-one.all.entries) (map placed_decl l)) (sym (drop_all c.loop-one.one-index c.args.list.now (omega arith))) ∙ c.loop-one.invariant
