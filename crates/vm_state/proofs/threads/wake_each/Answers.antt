-- One more is taken out.
use Rattle.std.proofs.Common.{◌≡◌, ◌∙◌, ap, arith}
use Rattle.vm_state.proofs.Waking.{below_at, waken_more}
use Rattle.vm_state.proofs.threads.wake_each.Goals as goal

pub wake_at-requires : goal.wake_at-requires
wake_at-requires g c = (omega (arith, c.from.ensures, below_at _ c.args.waiting.now c.loop-process.process-index 0 c.requires.0 c.loop-process-test.true), c.requires.1)

pub loop-process-preserved : goal.loop-process-preserved
loop-process-preserved g c = record {
  threads = waken_more g.image c.args.waiting.now c.loop-process.process-index 0 c.from.result _ _ _ c.loop-process-test.true c.from.ensures c.loop-process.invariant.threads c.wake_at.ensures.threads;
  rooms = c.wake_at.ensures.rooms ∙ c.loop-process.invariant.rooms;
  len = c.wake_at.ensures.len ∙ c.loop-process.invariant.len;
}
