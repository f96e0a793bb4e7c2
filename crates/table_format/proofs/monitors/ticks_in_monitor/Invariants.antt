use Rattle.std.proofs.Common.{◌≡◌, take}
use Rattle.table_format.specs.Parts.{seen, ticks_in}
use Rattle.table_format.proofs.monitors.ticks_in_monitor.Given as goal

abbrev pub invariant-loop-stay : goal.invariant-loop-stay
invariant-loop-stay l = l.all.items ≡ ticks_in l.name (seen (take l.stay-index l.stays))
