use Rattle.std.proofs.Common.{◌+◌, ◌∙◌, ◌∷◌, ◌++◌, ap, sym, map, drop, append-nil}
use Rattle.std.specs.Prelude.{filter_map}
use Rattle.std.proofs.lemmas.List.{drop_all, drop_more}
use Rattle.syntax_tree.specs.Placed.{placed_decl, plain_decl}
use Rattle.source_semantics.specs.Names.{device_in}
use Rattle.code_names.specs.First.{names_of}
use Rattle.code_layout.proofs.tables.device_names.Goals as goal

pub loop-decl-preserved : goal.loop-decl-preserved
loop-decl-preserved c =
    let decls = c.args.decls.now in
    let rest = drop (c.loop-decl.decl-index + 1) decls in
    c.in_ok-list_device.ensures (map plain_decl (map placed_decl rest))
    ∙ ap (λ l. names_of c.loop-decl.names.items ++ filter_map device_in (map plain_decl (map placed_decl l)))
    (ap (λ d. d ∷ rest) c.decl-item.is ∙ sym (drop_more decls c.loop-decl.decl-index c.decl-item.result c.loop-decl-test.true))
    ∙ c.loop-decl.invariant

pub returns : goal.returns
returns c =
    let decls = c.args.decls.now in
    let names = names_of c.loop-decl.names.items in
    c.in_ok-list.ensures ∙ sym (append-nil names)
    ∙ ap (λ l. names ++ filter_map device_in (map plain_decl (map placed_decl l))) (sym (drop_all c.loop-decl.decl-index decls c.loop-decl-test.false))
    ∙ c.loop-decl.invariant
