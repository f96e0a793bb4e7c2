use Rattle.std.proofs.Common.{◌≡◌, ◌≤◌, ◌-◌, length}
use Rattle.replay_script.specs.Cursors.{ArePassed}
use Rattle.replay_script.proofs.cursor.pass_lines.Given as goal

abbrev pub invariant-loop-done : goal.invariant-loop-done
invariant-loop-done l = record {
  room : length l.words.items ≡ 65536;
  within : l.done ≤ length l.lines;
  passed : ArePassed l.tick l.done l.lines l.words.items;
}

abbrev pub decreases-loop-done : goal.decreases-loop-done
decreases-loop-done l = length l.lines - l.done
