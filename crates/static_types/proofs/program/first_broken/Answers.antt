use Rattle.std.proofs.Common.{◌≡◌, None, option_map, ap, sym, subst, ◌∙◌}
use Rattle.syntax_tree.specs.Placed.{placed}
use Rattle.static_rule.specs.First.{IsFirstOf}
use Rattle.static_rule.specs.Parts.{noted}
use Rattle.static_rule.proofs.Soonest.{noted-is-first}
use Rattle.static_declarations.specs.Parts.{parts}
use Rattle.static_parts.specs.Visits.{part_of}
use Rattle.static_parts.proofs.Ends.{same-end}
use Rattle.static_types.specs.Rules.{statement_rules, StatementFails}
use Rattle.static_types.proofs.program.first_broken.Goals as goal

pub returns : goal.returns
returns c =
    let g = placed c.args.declarations.now in
    let rules = statement_rules g in
    let first = c.visit_parts.new.visitor.first in
    let found : noted rules None (parts g) ≡ first =
    ap (λ p. noted rules None (parts (placed p))) (sym c.program.ensures) ∙ c.visit_parts.ensures
    ∙ same-end (option_map part_of c.visit_parts.result) first in
    subst (IsFirstOf (StatementFails g)) found (noted-is-first rules (parts g))
