use Rattle.std.proofs.Common.{◌≡◌, drop}
use Rattle.replay_script.specs.Cursors.{are_in_order}
use Rattle.replay_script.proofs.cursor.is_in_order.Given as goal

abbrev pub invariant-loop-line : goal.invariant-loop-line
invariant-loop-line l = are_in_order l.before (drop l.line-index l.lines) ≡ are_in_order 0 l.lines
