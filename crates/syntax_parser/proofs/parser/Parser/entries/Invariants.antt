use Rattle.std.proofs.Common.{◌≡◌, ◌-◌, map}
use Rattle.syntax_tree.specs.Placed.{placed_routine}
use Rattle.syntax.specs.Words.{ENTRY}
use Rattle.syntax.specs.Grammar.{MOST_LEVELS}
use Rattle.syntax_reading.specs.ExprReading.{each, is_at}
use Rattle.syntax_reading.specs.Reading.{entry_decl, entries}
use Rattle.syntax_parser.specs.Reads.{with_front}
use Rattle.syntax_parser.proofs.parser.Parser.entries.Given as goal

abbrev pub invariant-loop-turn : goal.invariant-loop-turn
invariant-loop-turn l = with_front (map placed_routine l.entries) (each (is_at ENTRY) (entry_decl MOST_LEVELS) (l.turns - l._turn) l.self) ≡ entries MOST_LEVELS l.fn.self
