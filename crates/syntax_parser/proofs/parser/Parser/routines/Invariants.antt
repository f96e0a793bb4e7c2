use Rattle.std.proofs.Common.{◌≡◌, ◌-◌, map}
use Rattle.syntax_tree.specs.Placed.{placed_routine}
use Rattle.syntax.specs.Grammar.{MOST_LEVELS}
use Rattle.syntax_reading.specs.ExprReading.{each}
use Rattle.syntax_reading.specs.Reading.{begins_routine, routine_decl, routines}
use Rattle.syntax_parser.specs.Reads.{with_front}
use Rattle.syntax_parser.proofs.parser.Parser.routines.Given as goal

abbrev pub invariant-loop-turn : goal.invariant-loop-turn
invariant-loop-turn l = with_front (map placed_routine l.routines) (each begins_routine (routine_decl MOST_LEVELS) (l.turns - l._turn) l.self) ≡ routines MOST_LEVELS l.fn.self
