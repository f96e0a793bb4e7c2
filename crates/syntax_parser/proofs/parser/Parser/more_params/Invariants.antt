use Rattle.std.proofs.Common.{◌≡◌, ◌-◌, map}
use Rattle.syntax_tree.specs.Placed.{placed_param}
use Rattle.syntax.specs.Words.{COMMA}
use Rattle.syntax_reading.specs.ExprReading.{each, many, is_at, behind_comma}
use Rattle.syntax_reading.specs.Reading.{param}
use Rattle.syntax_parser.specs.Reads.{with_front}
use Rattle.syntax_parser.proofs.parser.Parser.more_params.Given as goal

abbrev pub invariant-loop-turn : goal.invariant-loop-turn
invariant-loop-turn l = with_front (map placed_param l.params) (each (is_at COMMA) (behind_comma param) (l.turns - l._turn) l.self) ≡ with_front (map placed_param l.fn.params) (many (is_at COMMA) (behind_comma param) l.fn.self)
