use Rattle.std.proofs.Common.{◌<◌, ◌≤◌, ℕ, get_or}
use Rattle.script.specs.Scripts.{tick_of}
use Rattle.replay_script.proofs.Passing.{some_line}
use Rattle.replay_script.proofs.cursor.lines_until.Given as goal

abbrev pub invariant-loop-at : goal.invariant-loop-at
invariant-loop-at l = (i : ℕ) → i < l.at → tick_of (get_or l.lines i some_line) ≤ l.tick
