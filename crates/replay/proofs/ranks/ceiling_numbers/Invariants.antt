use Rattle.std.proofs.Common.{◌≡◌, ◌++◌, map, drop}
use Rattle.replay.specs.Told.{ceiling_told}
use Rattle.replay.proofs.ranks.ceiling_numbers.Given as goal

abbrev pub invariant-loop-monitor : goal.invariant-loop-monitor
invariant-loop-monitor l =
    l.ceilings.items ++ map (λ m. ceiling_told m.ceiling) (drop l.monitor-index l.monitors) ≡ map (λ m. ceiling_told m.ceiling) l.monitors
