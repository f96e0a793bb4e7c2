use Rattle.std.proofs.Common.{◌≡◌, ◌-◌, ◌+◌, ◌*◌, map, Ok}
use Rattle.syntax_tree.specs.Placed.{placed_expr}
use Rattle.syntax.specs.Words.{COMMA}
use Rattle.syntax_reading.specs.ExprReading.{each, many, is_at, is_some, op_at, operand_at, operands_at, behind_comma, level, factor, expr}
use Rattle.syntax_parser.specs.Reads.{with_front, placed_pair}
use Rattle.syntax_parser.proofs.parser.Parser.+expr.Given as goal

abbrev pub decreases-index : goal.decreases-index
decreases-index l = 64 * l.depth

abbrev pub decreases-args : goal.decreases-args
decreases-args l = 64 * l.depth

abbrev pub decreases-minus : goal.decreases-minus
decreases-minus l = 64 * l.depth

abbrev pub decreases-negation : goal.decreases-negation
decreases-negation l = 64 * l.depth

abbrev pub decreases-paren : goal.decreases-paren
decreases-paren l = 64 * l.depth

abbrev pub decreases-named_factor : goal.decreases-named_factor
decreases-named_factor l = 64 * l.depth + 1

abbrev pub decreases-factor : goal.decreases-factor
decreases-factor l = 64 * l.depth + 2

abbrev pub decreases-level : goal.decreases-level
decreases-level l = 64 * l.depth + (4 * l.height + 3)

abbrev pub decreases-row : goal.decreases-row
decreases-row l = 64 * l.depth + (4 * l.height + 2)

abbrev pub decreases-operands : goal.decreases-operands
decreases-operands l = 64 * l.depth + (4 * l.height + 1)

abbrev pub decreases-operand : goal.decreases-operand
decreases-operand l = 64 * l.depth + 4 * l.height

abbrev pub decreases-more_args : goal.decreases-more_args
decreases-more_args l = 64 * l.depth + 25

abbrev pub decreases-more_arg : goal.decreases-more_arg
decreases-more_arg l = 64 * l.depth + 24

abbrev pub decreases-some_args : goal.decreases-some_args
decreases-some_args l = 64 * l.depth + 26

abbrev pub invariant-more_args-loop-turn : goal.invariant-more_args-loop-turn
invariant-more_args-loop-turn l =
    with_front (map placed_expr l.args) (each (is_at COMMA) (behind_comma (expr l.depth)) (l.turns - l._turn) l.self)
    ≡ with_front (map placed_expr l.fn.args) (many (is_at COMMA) (behind_comma (expr l.depth)) l.fn.self)

abbrev pub invariant-operands-loop-turn : goal.invariant-operands-loop-turn
invariant-operands-loop-turn l =
    with_front (map placed_pair l.rest)
    (each (λ us. is_some (op_at l.height us)) (operand_at l.height (level (factor l.depth) (l.height - 1))) (l.turns - l._turn) l.self)
    ≡ operands_at l.height (level (factor l.depth) (l.height - 1)) l.fn.self

abbrev pub invariant-level-loop-below : goal.invariant-level-loop-below
invariant-level-loop-below l = level (factor l.depth) l.below l.fn.self ≡ Ok (placed_expr l.expr, l.self)
