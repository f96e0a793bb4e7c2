-- By the laws of safety and of waits.
use Rattle.std.proofs.Common.{ℕ, arith}
use Rattle.std.proofs.lemmas.Option.{slice_get_within}
use Rattle.base.proofs.Lists.{some_at}
use Rattle.machine_semantics.specs.Image.{Script}
use Rattle.machine_semantics.specs.State.{Ready}
use Rattle.machine_semantics.specs.Walk.{Where}
use Rattle.machine_semantics.specs.Safe.{Parts, ImageFits}
use Rattle.machine_semantics.specs.Whole.{StateFits}
use Rattle.machine_safety.proofs.Starting.{starts_keep}
use Rattle.edf_semantics.specs.Run.{state_at}
use Rattle.edf_semantics.specs.Safe.{EveryRunIsSafe, IsWaitless}
use Rattle.edf_semantics.proofs.Keeping.{kept}
use Rattle.edf_semantics.specs.Runs.{WaitlessRunsAreAwake}
use Rattle.edf_semantics.specs.Rows.{IsSafeRun}
use Rattle.edf_semantics.specs.Turn.{begun}
use Rattle.edf_machine.specs.EdfRunnable.{WaitlessRunsAreRunnable}
use Rattle.vm_law.proofs.Valid.{in_stack}

pub during_fits : (e : Where) (ps : ℕ → Parts) (script : Script) (fits : ImageFits e ps) (waitless : IsWaitless e ps) (u : ℕ) → StateFits e ps (begun e.image script u)
during_fits e ps script fits waitless u = starts_keep e ps fits script u (state_at e.image script u).state (kept e ps fits waitless script u).fits

safe_run : EveryRunIsSafe → (e : Where) (ps : ℕ → Parts) (script : Script) → ImageFits e ps → IsWaitless e ps → IsSafeRun e.image script
safe_run safe e ps script fits waitless = record {
  unstuck = λ u. (safe e ps script u fits waitless).0;
  stack = λ u k p th at_p at_th. in_stack p th ((safe e ps script u fits waitless).1 k p th at_p at_th);
  early = λ u k job instr at_job at_instr.
      let s : StateFits e ps (begun e.image script u) = during_fits e ps script fits waitless u in
      let some = some_at e.image.processes k (omega (arith, s.many, slice_get_within (begun e.image script u).threads k (Ready job) at_job)) in
      (s.threads k some.0 (Ready job) some.1 at_job).1.early instr at_instr;
}

pub waitless_runs_are_runnable : EveryRunIsSafe → WaitlessRunsAreAwake → WaitlessRunsAreRunnable
waitless_runs_are_runnable safe awake e ps script fits waitless frames calm order short = record {
  safe = safe_run safe e ps script fits waitless;
  calm = calm;
  queued = λ t. (awake e ps script t fits waitless).queued;
  still_queued = λ t. (awake e ps script t fits waitless).queued_started;
  ranks = record {
    from = λ k p at. (waitless.ranked k p at).0;
    to = λ k p at. (waitless.ranked k p at).1;
    own = waitless.one_each;
  };
  order = order;
  fits = λ t before k p at kind. omega (arith, before, short, frames k p at);
  short = short;
}
