use Rattle.std.proofs.Common.{◌≡◌, ◌+◌, [], ◌∷◌, map, drop, ap, sym, ◌∙◌, arith}
use Rattle.std.proofs.lemmas.List.{drop_all}
use Rattle.syntax_tree.specs.Placed.{placed_decl}
use Rattle.static_names.specs.Occurrences.{others}
use Rattle.static_names.specs.Findings.{noted}
use Rattle.static_names.specs.Seen.{meaning, entry_meaning, add_all, decls_after}
use Rattle.static_names.proofs.Walks.{drop-item}
use Rattle.static_names.proofs.program.decls.Goals as goal

pub loop-one-preserved : goal.loop-one-preserved
loop-one-preserved c h =
    let left = c.loop-one.invariant h in
    let e = entry_meaning c.args.entries.now.entries in
    let s = meaning c.loop-one.seen.entries in
    let rest = drop (c.loop-one.one-index + 1) c.args.list.now in
    let split : drop c.loop-one.one-index c.args.list.now ≡ c.one-item.result ∷ rest = drop-item c.args.list.now c.loop-one.one-index c.one-item.result (omega arith) c.one-item.is in
    let one = c.in-Ok.ensures (map placed_decl rest) (left.scope ∙ ap (λ l. add_all s (others (map placed_decl l))) split) in
    record {
      notes = λ more. one.notes more ∙ ap (λ l. noted c.loop-one.findings (decls_after e s (map placed_decl l) more)) (sym split) ∙ left.notes more;
      scope = one.scope;
    }

pub returns : goal.returns
returns c h =
    let left = c.loop-one.invariant h in
    let e = entry_meaning c.args.entries.now.entries in
    let s = meaning c.loop-one.seen.entries in
    let none : drop c.loop-one.one-index c.args.list.now ≡ [] = drop_all c.loop-one.one-index c.args.list.now (omega arith) in
    record {
      notes = λ more. ap (λ l. noted c.loop-one.findings (decls_after e s (map placed_decl l) more)) (sym none) ∙ left.notes more;
      scope = left.scope ∙ ap (λ l. add_all s (others (map placed_decl l))) none;
    }
