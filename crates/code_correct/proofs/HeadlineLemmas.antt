-- The law, from those of whole runs and of time.
use Rattle.code_lifting.specs.Compiled.{script_of}
use Rattle.machine_safety.proofs.Meeting.{code}
use Rattle.sched_timing.specs.Timed.{IsInTime}
use Rattle.sched_timing.proofs.Whole.{every_run_is_in_time}
use Rattle.code_lifting.proofs.Runs.{runs_are_source_runs}
use Rattle.code_correct.specs.Headline.{WellFormedCodeIsRight, WellFormedProgramsRun, ProperCodeIsRight, ProgramsRunRightAndInTime, RunsAreRightAndInTime}
use Rattle.code_lifting.specs.Image.{FreeHolds, RestHolds, compiled_of, whole}
use Rattle.code_spec.proofs.Following.{faithful_is_right}
use Rattle.code_correct.specs.Process.{StandsFor}
use Rattle.code_correct.proofs.Emitted.{code_is_emitted}
use Rattle.code_correct.proofs.Assembled.{program_is_faithful}
use Rattle.code_correct.proofs.FaithfulLemmas.{emitted_is_faithful}

pub runs_are_right_and_in_time : RunsAreRightAndInTime
runs_are_right_and_in_time e ps g script fits timed is right ordered respects =
    let in_time : IsInTime e.image (script_of script) = every_run_is_in_time e ps (script_of script) fits timed respects in
    (runs_are_source_runs e ps g script fits is right ordered in_time.no_overrun, in_time)

pub proper_code_is_right : ProperCodeIsRight
proper_code_is_right w orders is proper k p text a b at_p at_text emits =
    faithful_is_right (compiled_of w k p text) (λ o v. StandsFor (compiled_of w k p text) (orders k) o v) (FreeHolds w) (RestHolds w k)
    (emitted_is_faithful (compiled_of w k p text) (orders k) (code_is_emitted (compiled_of w k p text) (orders k) is.code proper.names at_text at_p (proper.rules k p text at_p at_text)))

pub programs_run_right_and_in_time : ProgramsRunRightAndInTime
programs_run_right_and_in_time e ps g orders script fits timed is proper ordered respects =
    runs_are_right_and_in_time e ps g script fits timed is (proper_code_is_right (whole e.image g) orders is proper) ordered respects

pub well_formed_code_is_right : WellFormedCodeIsRight
well_formed_code_is_right w is well apart k p text a b at_p at_text emits =
    faithful_is_right (compiled_of w k p text) _ (FreeHolds w) (RestHolds w k) (program_is_faithful (compiled_of w k p text) well apart is.code at_text at_p).1

pub well_formed_programs_run : WellFormedProgramsRun
well_formed_programs_run e ps g script fits timed is well apart ordered respects =
    runs_are_right_and_in_time e ps g script fits timed is (well_formed_code_is_right (whole e.image g) is well apart) ordered respects
