use Rattle.std.proofs.Common.{◌<◌, ◌≤◌, ◌∙◌, arith, get_or, sym}
use Rattle.script.specs.Scripts.{tick_of}
use Rattle.replay_script.proofs.Passing.{order_here, pass_one, some_line, split_at}
use Rattle.replay_script.proofs.cursor.pass_lines.Goals as goal

pub returns-then-tick-tick_of-clause-coming : goal.returns-then-tick-tick_of-clause-coming
returns-then-tick-tick_of-clause-coming c =
    let lines = c.args.lines.now in
    let k = c.loop-done.done in
    let low : c.args.tick ≤ tick_of (get_or lines k some_line) = omega (arith, c.tick_of.ensures) in
    λ on. order_here c.args.tick k (get_or lines k some_line) lines (sym c.requires.order ∙ on) (split_at lines k (omega arith)) low

pub loop-done-preserved : goal.loop-done-preserved
loop-done-preserved c =
    let lines = c.args.lines.now in
    let k = c.loop-done.done in
    let past : tick_of (get_or lines k some_line) < c.args.tick = omega (arith, c.tick_of.ensures) in
    record {
      room = c.keep_word.ensures.room;
      within = omega arith;
      passed = pass_one c.args.tick k lines c.loop-done.words.items c.keep_word.new.words.items (get_or lines k some_line) (split_at lines k (omega arith)) past c.keep_word.ensures.word c.loop-done.invariant.passed;
    }
