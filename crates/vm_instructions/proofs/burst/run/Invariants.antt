use Rattle.std.proofs.Common.{◌≡◌, ◌≤◌, ◌-◌}
use Rattle.vm_instructions.specs.Silent.{job_of, own_of}
use Rattle.vm_stretch.specs.Silent.{Leads}
use Rattle.vm_instructions.proofs.burst.run.Given as goal

abbrev pub invariant-loop-job : goal.invariant-loop-job
invariant-loop-job g l = record {
  within : l.left ≤ l.budget;
  room : l.job.frames.room ≡ l.fn.job.frames.room;
  leads : Leads g.image (own_of l.fn.job l.fn.owned l.fn.shared) (l.budget - l.left) (own_of l.job l.owned l.shared);
}

abbrev pub decreases-loop-job : goal.decreases-loop-job
decreases-loop-job g l = l.left

abbrev pub ghost-run_innermost : goal.ghost-run_innermost
ghost-run_innermost g a = record { image = g.image; job = job_of a.job.now; room = a.job.now.frames.room }
