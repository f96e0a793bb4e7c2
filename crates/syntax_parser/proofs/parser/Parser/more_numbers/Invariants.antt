use Rattle.std.proofs.Common.{◌≡◌, ◌-◌, map}
use Rattle.syntax_tree.specs.Placed.{placed_constant}
use Rattle.syntax.specs.Words.{COMMA}
use Rattle.syntax_reading.specs.ExprReading.{each, many, is_at, behind_comma, constant}
use Rattle.syntax_parser.specs.Reads.{with_front}
use Rattle.syntax_parser.proofs.parser.Parser.more_numbers.Given as goal

abbrev pub invariant-loop-turn : goal.invariant-loop-turn
invariant-loop-turn l = with_front (map placed_constant l.numbers) (each (is_at COMMA) (behind_comma constant) (l.turns - l._turn) l.self) ≡ with_front (map placed_constant l.fn.numbers) (many (is_at COMMA) (behind_comma constant) l.fn.self)
