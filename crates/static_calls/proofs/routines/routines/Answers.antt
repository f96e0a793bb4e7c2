use Rattle.std.proofs.Common.{◌≡◌, ◌+◌, ◌++◌, ◌∷◌, map, drop, ap, sym, ◌∙◌, arith}
use Rattle.std.proofs.lemmas.List.{append-nil, drop_all}
use Rattle.syntax_tree.specs.Placed.{placed_decl}
use Rattle.syntax_tree.specs.Parts.{routines}
use Rattle.static_names.proofs.Walks.{drop-item}
use Rattle.static_calls.specs.Tables.{seen_routines}
use Rattle.static_calls.proofs.routines.routines.Goals as goal

pub loop-decl-preserved : goal.loop-decl-preserved
loop-decl-preserved c =
    let ds = c.args.decls.now in
    let i = c.loop-decl.decl-index in
    let split : drop i ds ≡ c.decl-item.result ∷ drop (i + 1) ds = drop-item ds i c.decl-item.result (omega arith) c.decl-item.is in
    c.in_ok-list_decl.ensures (map placed_decl (drop (i + 1) ds))
    ∙ ap (λ l. seen_routines c.loop-decl.list.items ++ routines (map placed_decl l)) (sym split)
    ∙ c.loop-decl.invariant

pub returns : goal.returns
returns c =
    sym (append-nil (seen_routines c.loop-decl.list.items))
    ∙ ap (λ l. seen_routines c.loop-decl.list.items ++ routines (map placed_decl l)) (sym (drop_all c.loop-decl.decl-index c.args.decls.now (omega arith)))
    ∙ c.loop-decl.invariant
