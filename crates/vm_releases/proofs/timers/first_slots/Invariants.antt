use Rattle.vm_releases.proofs.Firsts.{FirstBelow}
use Rattle.vm_releases.proofs.timers.first_slots.Given as goal

abbrev pub invariant-loop-place : goal.invariant-loop-place
invariant-loop-place g l = FirstBelow g.image l.place l.slots
