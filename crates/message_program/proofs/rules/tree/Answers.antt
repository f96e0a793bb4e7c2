use Rattle.message_program.proofs.Faults.{no_tree}
use Rattle.message_program.proofs.rules.tree.Goals as goal

pub returns-in-Err-Fault-clause-none : goal.returns-in-Err-Fault-clause-none
returns-in-Err-Fault-clause-none c =
    λ none. no_tree c.args.text.now c.in-Err-Fault.field-0 c.in-Err-Fault.field-0-0 c.in-Err-Fault.field-0-1 c.in-Err-Fault.field-0-is c.in-Err-Fault.ensures.only
