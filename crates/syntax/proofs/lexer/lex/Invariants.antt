use Rattle.std.proofs.Common.{length, ◌-◌, ◌≤◌}
use Rattle.syntax.specs.Reading.{IsRead}
use Rattle.syntax.specs.Tokens.{longest_text}
use Rattle.syntax.proofs.lexer.lex.Given as goal

abbrev pub invariant-loop-spot : goal.invariant-loop-spot
invariant-loop-spot l = (length l.text ≤ longest_text) × IsRead l.text l.spot l.list

abbrev pub decreases-loop-spot : goal.decreases-loop-spot
decreases-loop-spot l = length l.text - l.spot.at
