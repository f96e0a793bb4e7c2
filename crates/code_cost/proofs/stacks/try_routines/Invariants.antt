use Rattle.std.proofs.Common.{◌≡◌, List, map, drop}
use Rattle.syntax_tree.specs.Placed.{placed, placed_routine, plain}
use Rattle.static_rule.specs.Parts.{noted}
use Rattle.code_names.specs.Texts.{owner_of}
use Rattle.code_cost.specs.Told.{Part, routine_parts, stack_rules}
use Rattle.code_cost.proofs.stacks.try_routines.Given as goal

abbrev pub invariant-loop-routine : goal.invariant-loop-routine
invariant-loop-routine l =
    let rules = stack_rules (plain (placed l.numbering)) l.measures in
    (more : List Part) → noted rules l.first (routine_parts (owner_of l.owner) (map placed_routine (drop l.routine-index l.routines)) more)
    ≡ noted rules l.fn.first (routine_parts (owner_of l.owner) (map placed_routine l.routines) more)
