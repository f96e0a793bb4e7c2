use Rattle.std.proofs.Common.{◌≡◌, ◌++◌, List, drop}
use Rattle.syntax_tree.specs.Placed.{placed_stmts, plain_stmts}
use Rattle.code_spec.specs.Numbering.{Called}
use Rattle.code_names.specs.Calls.{calls_told, stmts_called}
use Rattle.code_names.proofs.calls.+stmt.Given as goal

abbrev pub invariant-stmts-loop-s : goal.invariant-stmts-loop-s
invariant-stmts-loop-s l = (more : List Called) → calls_told l.calls.items ++ stmts_called (plain_stmts (placed_stmts (drop l.s-index l.list))) more ≡ calls_told l.fn.calls.items ++ stmts_called (plain_stmts (placed_stmts l.list)) more
