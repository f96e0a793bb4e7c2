use Rattle.std.proofs.Common.{◌≡◌, take}
use Rattle.table_format.specs.Parts.{monitors_of, seen}
use Rattle.table_format.proofs.monitors.monitor_names.Given as goal

abbrev pub invariant-loop-stay : goal.invariant-loop-stay
invariant-loop-stay l = seen l.all.items ≡ monitors_of (seen (take l.stay-index l.stays))
