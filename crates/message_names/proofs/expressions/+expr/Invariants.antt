use Rattle.std.proofs.Common.{◌≡◌, ◌++◌, drop}
use Rattle.syntax_tree.specs.Placed.{placed_exprs, placed_operands}
use Rattle.message_names.specs.Mentions.{exprs_mentions, operands_mentions}
use Rattle.message_names.proofs.expressions.+expr.Given as goal

abbrev pub invariant-exprs-loop-e : goal.invariant-exprs-loop-e
invariant-exprs-loop-e l = l.mentions ++ exprs_mentions (placed_exprs (drop l.e-index l.list)) ≡ l.fn.mentions ++ exprs_mentions (placed_exprs l.list)

abbrev pub invariant-operands-loop-operand : goal.invariant-operands-loop-operand
invariant-operands-loop-operand l = l.mentions ++ operands_mentions (placed_operands (drop l.operand-index l.list)) ≡ l.fn.mentions ++ operands_mentions (placed_operands l.list)
