use Rattle.std.proofs.Common.{◌≡◌, ◌≤◌, None, map, drop}
use Rattle.syntax_tree.specs.Placed.{placed, placed_decl, plain}
use Rattle.static_rule.specs.Parts.{noted}
use Rattle.code_cost.specs.Told.{parts_from, stack_rules}
use Rattle.code_cost.proofs.stacks.first_large.Given as goal

abbrev pub invariant-loop-decl : goal.invariant-loop-decl
invariant-loop-decl l = record {
  processes : l.processes ≤ l.decl-index;
  monitors : l.monitors ≤ l.decl-index;
  left : noted (stack_rules (plain (placed l.numbering)) l.measures) l.first (parts_from l.processes l.monitors (map placed_decl (drop l.decl-index l.decls)))
      ≡ noted (stack_rules (plain (placed l.numbering)) l.measures) None (parts_from 0 0 (map placed_decl l.decls));
}
