use Rattle.std.proofs.Common.{[], map, None, ap, ◌∙◌}
use Rattle.syntax_tree.specs.Placed.{placed, placed_decl}
use Rattle.static_rule.specs.Parts.{noted}
use Rattle.static_numbers.specs.Types.{decls_bounds}
use Rattle.static_numbers.specs.Rules.{bounds_rules}
use Rattle.static_numbers.proofs.Walks.{first-noted}
use Rattle.static_numbers.proofs.bounds.first_broken.Goals as goal

pub returns : goal.returns
returns c =
    let rules = bounds_rules (placed c.args.declarations.now) in
    first-noted rules (decls_bounds (map placed_decl c.args.declarations.now.decls) []) c.visit_bounds.new.visitor.first
    (c.visit_bounds.ensures [] ∙ ap (λ l. noted rules None (decls_bounds (map placed_decl l) [])) (c.as_slice.ensures ∙ ap (λ p. p.decls) c.program.ensures))
