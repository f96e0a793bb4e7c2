use Rattle.std.proofs.Common.{take}
use Rattle.static_rule.specs.First.{IsFirstOf}
use Rattle.static_calls.specs.Tables.{seen_routines, OneComesBack}
use Rattle.static_calls.proofs.rounds.first_round.Given as goal

abbrev pub invariant-loop-routine : goal.invariant-loop-routine
invariant-loop-routine l = IsFirstOf (OneComesBack l.numbers.keys l.cycles (seen_routines (take l.routine-index l.routines))) l.first
