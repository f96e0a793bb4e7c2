-- By the laws of safety, of queues and of time.
use Rattle.std.proofs.Common.{◌≤◌, ◌<◌, ℕ, arith, subst}
use Rattle.std.specs.Prelude.{◌^◌}
use Rattle.machine_semantics.specs.Image.{Image, Script}
use Rattle.machine_semantics.specs.Run.{state_at}
use Rattle.vm_runner.specs.Runnable.{IsRunnable}
use Rattle.machine_safety.proofs.Queueing.{run_keeps_queues, tick_keeps_queues}
use Rattle.machine_safety.proofs.Running.{state_fits}
use Rattle.vm_law.proofs.Valid.{valid_runs_are_safe}
use Rattle.machine_semantics.specs.Safe.{Parts, ImageFits}
use Rattle.machine_semantics.specs.Walk.{Where}
use Rattle.vm_stretch.specs.StretchDue.{AreInOrder}
use Rattle.sched_timing.specs.Timed.{ImageIsTimed, RespectsFrames}
use Rattle.sched_timing.proofs.Whole.{every_run_is_in_time}
use Rattle.valid_image_law.specs.ValidLaw.{MeetsPremises}
use Rattle.valid_image_law.proofs.Whole.{valid_meets_premises}
use Rattle.vm_law.specs.RunnerLaws.{ValidRunsAreRunnable}

runnable : (e : Where) (ps : ℕ → Parts) (script : Script) → ImageFits e ps → ImageIsTimed e ps → AreInOrder script.lines → script.end_tick < 2 ^ 63 → RespectsFrames e.image script → IsRunnable e.image script
runnable e ps script fits timed order short respects = record {
  safe = valid_runs_are_safe e ps script fits;
  calm = (every_run_is_in_time e ps script fits timed respects).no_overrun;
  queued = λ t. run_keeps_queues e ps script t fits;
  still_queued = λ t. (tick_keeps_queues e ps script t (state_at e.image script t) fits (state_fits e ps script t fits) (run_keeps_queues e ps script t fits)).0;
  ranks = record {
    from = λ k p at. (timed.ranked k p at).0;
    to = λ k p at. (timed.ranked k p at).1;
    own = timed.one_each;
  };
  order = order;
  fits = λ t before k p at kind. (let high : p.frame ≤ 1000000000 = (timed.limits k p at).frame_high in omega (arith, before, short, high));
  short = short;
}

pub valid_runs_are_runnable : ValidRunsAreRunnable
valid_runs_are_runnable image script limits valid respects order short =
    let m : MeetsPremises image = valid_meets_premises image limits valid in
    subst (λ (x : Image). RespectsFrames x script → IsRunnable x script) m.of (runnable m.e m.ps script m.fits m.timed order short) respects
