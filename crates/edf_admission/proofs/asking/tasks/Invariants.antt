use Rattle.edf_admission.proofs.Asked.{FirstAreAsked}
use Rattle.edf_admission.proofs.asking.tasks.Given as goal

abbrev pub invariant-loop-level : goal.invariant-loop-level
invariant-loop-level l = FirstAreAsked l.image.image l.level l.all.items
