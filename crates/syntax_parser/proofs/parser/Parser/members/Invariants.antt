use Rattle.std.proofs.Common.{◌≡◌, ◌-◌, map}
use Rattle.syntax_tree.specs.Placed.{placed_member}
use Rattle.syntax_reading.specs.ExprReading.{each}
use Rattle.syntax_reading.specs.Reading.{begins_member, member, members}
use Rattle.syntax_parser.specs.Reads.{with_front}
use Rattle.syntax_parser.proofs.parser.Parser.members.Given as goal

abbrev pub invariant-loop-turn : goal.invariant-loop-turn
invariant-loop-turn l = with_front (map placed_member l.members) (each begins_member member (l.turns - l._turn) l.self) ≡ members l.fn.self
