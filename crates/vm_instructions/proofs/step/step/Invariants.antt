use Rattle.vm_instructions.specs.Silent.{job_of}
use Rattle.vm_instructions.proofs.step.step.Given as goal

abbrev pub ghost-step_innermost : goal.ghost-step_innermost
ghost-step_innermost g a = record { image = g.image; job = job_of a.job.now; room = a.job.now.frames.room }
