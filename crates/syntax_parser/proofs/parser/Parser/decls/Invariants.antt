use Rattle.std.proofs.Common.{◌≡◌, ◌-◌, map}
use Rattle.syntax_tree.specs.Placed.{placed_decl}
use Rattle.syntax.specs.Grammar.{MOST_LEVELS}
use Rattle.syntax_reading.specs.ExprReading.{each}
use Rattle.syntax_reading.specs.Reading.{begins_decl, decl, decls}
use Rattle.syntax_parser.specs.Reads.{with_front}
use Rattle.syntax_parser.proofs.parser.Parser.decls.Given as goal

abbrev pub invariant-loop-turn : goal.invariant-loop-turn
invariant-loop-turn l = with_front (map placed_decl l.decls) (each begins_decl (decl MOST_LEVELS) (l.turns - l._turn) l.self) ≡ decls MOST_LEVELS l.fn.self
