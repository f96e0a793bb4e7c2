use Rattle.std.proofs.Common.{◌<◌, arith, get_or, sym}
use Rattle.script.specs.Scripts.{tick_of}
use Rattle.replay_script.proofs.Passing.{some_line, until_all, until_stops}
use Rattle.replay_script.proofs.cursor.lines_until.Goals as goal

pub returns-then-tick-tick_of : goal.returns-then-tick-tick_of
returns-then-tick-tick_of c =
    let late : c.args.tick < tick_of (get_or c.args.lines.now c.loop-at.at some_line) = omega (arith, c.tick_of.ensures) in
    sym (until_stops c.args.tick c.loop-at.at c.args.lines.now some_line (omega arith) c.loop-at.invariant late)

pub returns : goal.returns
returns c = sym (until_all c.args.tick c.args.lines.now some_line (λ i h. c.loop-at.invariant i (omega (arith, h))))
