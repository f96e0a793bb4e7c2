-- By the safety law.
use Rattle.std.proofs.Common.{◌+◌, ◌⊎◌, inl, inr, Option, None, arith, ap, sym, subst, ◌∙◌}
use Rattle.std.proofs.lemmas.Option.{slice_get_within}
use Rattle.base.proofs.Lists.{some_at}
use Rattle.machine_isa.specs.declared.instr.Instr.{Instr}
use Rattle.machine_isa.specs.Ticks.{ticks}
use Rattle.machine_semantics.specs.Image.{Image, Process, Script}
use Rattle.machine_semantics.specs.State.{Job, Thread, Idle, Ready, Waiting, State}
use Rattle.machine_semantics.specs.Starts.{starts}
use Rattle.machine_semantics.specs.Tick.{owned_of}
use Rattle.machine_semantics.specs.Run.{state_at}
use Rattle.machine_semantics.specs.Walk.{Where, At}
use Rattle.machine_semantics.specs.Safe.{Parts, ImageFits, ReadyFits}
use Rattle.machine_semantics.specs.Whole.{StateFits, StackFits, ThreadFits}
use Rattle.machine_safety.proofs.Running.{every_run_is_safe, state_fits}
use Rattle.machine_safety.proofs.Starting.{starts_keep}
use Rattle.vm_stretch.specs.RowLaws.{IsInStack, IsSafeRun, begun}
use Rattle.vm_law.specs.SafeRun.{ValidRunsAreSafe}

pub in_stack : (p : Process) (th : Thread) → StackFits p th → IsInStack p th
in_stack p Idle fits = tt
in_stack p (Ready job) fits = fits
in_stack p (Waiting c due n job) fits = fits

pub valid_runs_are_safe : ValidRunsAreSafe
valid_runs_are_safe e ps script fits = record {
  unstuck = λ u. (every_run_is_safe e ps script u fits).0;
  stack = λ u k p th at_p at_th. in_stack p th ((every_run_is_safe e ps script u fits).1 k p th at_p at_th);
  early = λ u k job instr at_job at_instr.
      let s : StateFits e ps (begun e.image script u) = starts_keep e ps fits script u (state_at e.image script u) (state_fits e ps script u fits) in
      let some = some_at e.image.processes k (omega (arith, s.many, slice_get_within (begun e.image script u).threads k (Ready job) at_job)) in
      (s.threads k some.0 (Ready job) some.1 at_job).1.early instr at_instr;
}
