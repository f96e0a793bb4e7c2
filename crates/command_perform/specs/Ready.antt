-- Runs made ready.
use Rattle.std.specs.Prelude.{◌≡◌, Option, option_map}
use Rattle.command_answers.specs.declared.act.RunnableImage.TheVariants as by
use Rattle.command_answers.specs.declared.act.PreparedRun.{PreparedRun}
use Rattle.command_answers.specs.Acts.{CanRunByDeadlines, CanRunByRanks, image_in}
use Rattle.edf_machine.specs.declared.deadlines.Deadlines.{Deadlines}
use Rattle.edf_machine.specs.Standing as edf
use Rattle.vm_runner.specs.declared.machine.Machine.{Machine}
use Rattle.vm_runner.specs.declared.ranking.Ranking.{Ranking}
use Rattle.vm_runner.specs.Standing as ranked
use Rattle.vm_releases.specs.Begin.{script_of}
use Rattle.vm_state.specs.Plan.{IsOf}
use Rattle.command_perform.specs.declared.any_machine.AnyMachine.{AnyMachine}
use Rattle.command_perform.specs.declared.any_machine.AnyMachine.TheVariants as course
use Rattle.command_perform.specs.declared.ready.Ready.{Ready}

-- the machine stands before tick 0 of a run by ranks that it can make
pub record IsByRanks (run : PreparedRun) (machine : Machine Ranking) : Type 0 where
  pub dispatch : run.image ≡ by.Ranks (image_in run.image)
  pub can : CanRunByRanks (image_in run.image) run.script
  pub start : machine.tick ≡ 0
  pub stands : ranked.StandsIn (image_in run.image).image (script_of run.script) machine

-- likewise under earliest deadline first
pub record IsByDeadlines (run : PreparedRun) (machine : Machine Deadlines) : Type 0 where
  pub dispatch : run.image ≡ by.Deadlines (image_in run.image)
  pub can : CanRunByDeadlines (image_in run.image) run.script
  pub start : machine.tick ≡ 0
  pub stands : edf.StandsIn (image_in run.image).image (script_of run.script) machine

-- the machine is the one of the run's dispatch
abbrev pub IsCourseOf : PreparedRun → AnyMachine → Type 0
IsCourseOf run (course.Ranks machine) = IsByRanks run machine
IsCourseOf run (course.Deadlines machine) = IsByDeadlines run machine

-- the machine is ready for the run, and the plan is that of the run's image
pub record IsReady (ready : Ready) : Type 0 where
  pub plan : IsOf (image_in ready.run.now.image).image ready.plan
  pub course : IsCourseOf ready.run.now ready.course

-- the run, if there is one
abbrev pub run_of : Option Ready → Option PreparedRun
run_of ready = option_map (λ (r : Ready). r.run.now) ready
