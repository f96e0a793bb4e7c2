use Rattle.std.proofs.Common.{◌≡◌, ◌++◌, drop}
use Rattle.syntax_tree.specs.Placed.{placed_stmts}
use Rattle.message_names.specs.Mentions.{stmts_mentions}
use Rattle.message_names.proofs.statements.+stmt.Given as goal

abbrev pub invariant-stmts-loop-s : goal.invariant-stmts-loop-s
invariant-stmts-loop-s l = l.mentions ++ stmts_mentions (placed_stmts (drop l.s-index l.list)) ≡ l.fn.mentions ++ stmts_mentions (placed_stmts l.list)
