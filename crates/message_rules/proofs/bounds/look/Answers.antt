use Rattle.std.proofs.Common.{map, [], sym, ap, ◌∙◌}
use Rattle.syntax_tree.specs.Placed.{placed, placed_decl}
use Rattle.static_declarations.specs.Values.{value}
use Rattle.static_numbers.specs.Types.{decls_bounds}
use Rattle.message_rules.specs.Findings.{bounds_findings}
use Rattle.message_rules.specs.Seen.{left}
use Rattle.message_rules.proofs.Walks.{left-nothing}
use Rattle.message_rules.proofs.bounds.look.Goals as goal

pub returns : goal.returns
returns c =
    let of = bounds_findings (value (placed c.args.declarations.now)) in
    let end = c.visit_bounds.new.visitor in
    sym (left-nothing (bounds_findings (value (placed end.declarations.now))) end.broken end.known) ∙ c.visit_bounds.ensures []
    ∙ ap (λ ds. left of c.args.broken c.args.known.now (decls_bounds (map placed_decl ds) [])) (c.as_slice.ensures ∙ ap (λ p. p.decls) c.program.ensures)
