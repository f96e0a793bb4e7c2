use Rattle.std.proofs.Common.{map, None, ap, ◌∙◌, arith}
use Rattle.syntax_tree.specs.Placed.{placed, placed_decl}
use Rattle.static_rule.specs.Parts.{noted}
use Rattle.syntax_tree.specs.Parts.{processes}
use Rattle.static_numbers.specs.Rules.{process_rules}
use Rattle.static_numbers.proofs.Walks.{finish, first-noted}
use Rattle.static_numbers.proofs.activations.first_broken.Goals as goal

pub returns : goal.returns
returns c =
    let rules = process_rules (placed c.args.declarations.now) in
    let list = c.as_slice-one-items.result.now in
    first-noted rules (processes (map placed_decl c.args.declarations.now.decls)) c.loop-one.first
    (finish (λ s xs. noted rules s (processes (map placed_decl xs))) (noted rules None (processes (map placed_decl list))) list c.loop-one.one-index c.loop-one.first (omega arith) c.loop-one.invariant
    ∙ ap (λ l. noted rules None (processes (map placed_decl l))) (c.as_slice-one-items.ensures ∙ ap (λ p. p.decls) c.program.ensures))
