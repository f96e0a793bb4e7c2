use Rattle.std.proofs.Common.{None, arith, ap, ◌∙◌}
use Rattle.std.specs.Prelude.{not}
use Rattle.sched_table.proofs.Passed.{passed}
use Rattle.sched_table.proofs.late.late.Goals as goal

pub loop-at-preserved : goal.loop-at-preserved
loop-at-preserved c =
    passed c.args.names.now c.args.rows.now c.loop-at.at (record { frame = 0; deadline = 0; rank = 0; cost = record { run = 0; susp = 0; waits = 0 }; block = 0; bound = None; size = record { words = 0; stack = 0 } }) (omega (arith, c.loop-at-test.true, c.requires)) c.loop-at-test.true (c.is_none.ensures ∙ ap not c.if-is_none.false) c.loop-at.invariant
