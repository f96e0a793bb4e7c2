use Rattle.std.proofs.Common.{◌≡◌, None, option_map, subst, ◌∙◌}
use Rattle.syntax_tree.specs.Placed.{placed}
use Rattle.static_rule.specs.First.{IsFirstOf}
use Rattle.static_rule.specs.Parts.{noted}
use Rattle.static_rule.proofs.Soonest.{noted-is-first}
use Rattle.static_declarations.specs.Parts.{parts}
use Rattle.static_parts.specs.Visits.{part_of}
use Rattle.static_parts.proofs.Ends.{same-end}
use Rattle.command_due.specs.Waits.{wait_rules, WaitFails}
use Rattle.edf_command.proofs.Noted.{first_is_wait}
use Rattle.edf_command.proofs.waits.first_wait.Goals as goal

pub returns-in-None : goal.returns-in-None
returns-in-None c =
    let g = placed c.args.program.now in
    let first = c.visit_parts.new.visitor.first in
    let found : noted wait_rules None (parts g) ≡ first = c.visit_parts.ensures ∙ same-end (option_map part_of c.visit_parts.result) first in
    subst (IsFirstOf (WaitFails g)) (found ∙ c.in-None.is) (noted-is-first wait_rules (parts g))

pub returns-in-Some : goal.returns-in-Some
returns-in-Some c =
    let g = placed c.args.program.now in
    let first = c.visit_parts.new.visitor.first in
    let found : noted wait_rules None (parts g) ≡ first = c.visit_parts.ensures ∙ same-end (option_map part_of c.visit_parts.result) first in
    first_is_wait g c.in-Some.broken (subst (IsFirstOf (WaitFails g)) (found ∙ c.in-Some.is) (noted-is-first wait_rules (parts g)))
