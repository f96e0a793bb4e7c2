use Rattle.std.proofs.Common.{◌≡◌, ◌-◌, ◌+◌, ◌*◌, map}
use Rattle.syntax_tree.specs.Placed.{placed_stmt}
use Rattle.syntax_reading.specs.ExprReading.{each}
use Rattle.syntax_reading.specs.StmtReading.{begins, stmt, stmts}
use Rattle.syntax_parser.specs.Reads.{with_front}
use Rattle.syntax_parser.proofs.parser.Parser.+stmt.Given as goal

abbrev pub decreases-stmt : goal.decreases-stmt
decreases-stmt l = 8 * l.depth

abbrev pub decreases-stmts : goal.decreases-stmts
decreases-stmts l = 8 * l.depth + 1

abbrev pub decreases-else_stmts : goal.decreases-else_stmts
decreases-else_stmts l = 8 * l.depth + 2

abbrev pub decreases-choice_from : goal.decreases-choice_from
decreases-choice_from l = 8 * l.depth + 3

abbrev pub decreases-choice : goal.decreases-choice
decreases-choice l = 8 * l.depth + 4

abbrev pub decreases-loop_body : goal.decreases-loop_body
decreases-loop_body l = 8 * l.depth + 2

abbrev pub decreases-for_stmt : goal.decreases-for_stmt
decreases-for_stmt l = 8 * l.depth + 3

abbrev pub invariant-stmts-loop-turn : goal.invariant-stmts-loop-turn
invariant-stmts-loop-turn l = with_front (map placed_stmt l.stmts) (each begins (stmt l.depth) (l.turns - l._turn) l.self) ≡ stmts l.depth l.fn.self
