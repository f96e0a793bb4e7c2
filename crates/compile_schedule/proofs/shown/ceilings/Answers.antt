use Rattle.image.specs.Raw.{monitor_of}
use Rattle.built_image.specs.Shown.{ceiling_shown}
use Rattle.compile_schedule.proofs.Listing.{all_made}
use Rattle.compile_schedule.proofs.shown.ceilings.Goals as goal

pub returns : goal.returns
returns c = all_made monitor_of ceiling_shown c.args.monitors.now c.loop-monitor.all c.loop-monitor.monitor-index c.loop-monitor-test.false c.loop-monitor.invariant
