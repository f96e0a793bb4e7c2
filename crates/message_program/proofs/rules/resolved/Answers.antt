use Rattle.syntax_tree.specs.Placed.{placed}
use Rattle.message_program.proofs.Faults.{misnamed}
use Rattle.message_program.proofs.rules.resolved.Goals as goal

pub returns-in-Err-Rule-clause-none : goal.returns-in-Err-Rule-clause-none
returns-in-Err-Rule-clause-none c =
    λ none. misnamed (placed c.args.tree) c.in-Err-Rule.field-0 c.in-Err-Rule.field-0-0 c.in-Err-Rule.field-0-1 c.in-Err-Rule.field-0-is c.in-Err-Rule.ensures.fault
