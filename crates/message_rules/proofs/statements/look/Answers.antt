use Rattle.std.proofs.Common.{option_map, sym, ap, ◌∙◌}
use Rattle.syntax_tree.specs.Placed.{placed}
use Rattle.static_declarations.specs.Values.{value}
use Rattle.static_declarations.specs.Parts.{parts}
use Rattle.static_parts.specs.Visits.{come_to, part_of}
use Rattle.static_parts.proofs.Ends.{same-end}
use Rattle.message_rules.specs.Findings.{part_findings}
use Rattle.message_rules.specs.Seen.{left}
use Rattle.message_rules.proofs.Walks.{left-nothing}
use Rattle.message_rules.proofs.statements.look.Goals as goal

pub returns : goal.returns
returns c =
    let of = part_findings (value (placed c.args.declarations.now)) in
    let look = c.visit_parts.new.visitor in
    let end = option_map part_of c.visit_parts.result in
    sym (
    ap (λ p. left of c.args.broken c.args.known.now (parts (placed p))) (sym c.program.ensures)
    ∙ c.visit_parts.ensures
    ∙ ap (come_to (λ part. look.known) end) (left-nothing (part_findings (value (placed look.declarations.now))) look.broken look.known)
    ∙ same-end end look.known)
