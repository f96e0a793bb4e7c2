use Rattle.image.specs.Raw.{monitor_of}
use Rattle.machine_semantics.specs.Image.{Monitor}
use Rattle.compile_schedule.proofs.Listing.{all_made}
use Rattle.compile_schedule.proofs.shown.words.Goals as goal

pub returns : goal.returns
returns c = all_made monitor_of (λ (m : Monitor). m.words) c.args.monitors.now c.loop-monitor.all c.loop-monitor.monitor-index c.loop-monitor-test.false c.loop-monitor.invariant
