use Rattle.std.proofs.Common.{◌≡◌, ◌-◌, map}
use Rattle.syntax_tree.specs.Placed.{placed_var}
use Rattle.syntax.specs.Words.{VAR}
use Rattle.syntax_reading.specs.ExprReading.{each, is_at}
use Rattle.syntax_reading.specs.Reading.{var, vars}
use Rattle.syntax_parser.specs.Reads.{with_front}
use Rattle.syntax_parser.proofs.parser.Parser.vars.Given as goal

abbrev pub invariant-loop-turn : goal.invariant-loop-turn
invariant-loop-turn l = with_front (map placed_var l.vars) (each (is_at VAR) var (l.turns - l._turn) l.self) ≡ vars l.fn.self
