use Rattle.std.proofs.Common.{◌≡◌, ◌∙◌, Option, Some, ℕ, ap, sym, arith}
use Rattle.std.specs.Prelude.{slice_get}
use Rattle.vm_state.specs.declared.threads.SchedulingState.{SchedulingState}
use Rattle.vm_state.specs.Threads.{thread_by, threads_of}
use Rattle.machine_semantics.specs.State.{Ready, Thread, Waiting}
use Rattle.vm_instructions.specs.Silent.{job_of}
use Rattle.vm_stretch.specs.declared.view.View.TheVariants as view
use Rattle.vm_stretch.specs.View.{view_by}
use Rattle.vm_watch.proofs.Looking.{thread_at}
use Rattle.vm_watch.proofs.processes.view_on.Goals as goal

pub returns-in-Ready : goal.returns-in-Ready
returns-in-Ready g c =
    let cell = c.index-cell.result.now in
    let there : slice_get (threads_of c.args.board.now.cells.items) c.args.process ≡ Some (Ready (job_of cell.job)) =
    thread_at c.args.board.now.cells.items c.args.process cell (Ready (job_of cell.job)) (omega (arith, c.requires.1, c.args.board.now.cells.ok.0)) c.index-cell.ensures
    (ap (λ (stand : SchedulingState). thread_by stand cell.job) c.in-Ready.is) in
    ap (λ (n : ℕ). view.Ready cell.job.place n cell.job.inside) (c.left.ensures g.image (job_of cell.job) c.requires.0 there)
    ∙ sym (ap (λ (o : Option Thread). view_by g.image o) there)

pub returns-in-Waiting : goal.returns-in-Waiting
returns-in-Waiting g c =
    let cell = c.index-cell.result.now in
    let at = c.in-Waiting in
    let there : slice_get (threads_of c.args.board.now.cells.items) c.args.process ≡ Some (Waiting at.condition at.due at.number (job_of cell.job)) =
    thread_at c.args.board.now.cells.items c.args.process cell (Waiting at.condition at.due at.number (job_of cell.job)) (omega (arith, c.requires.1, c.args.board.now.cells.ok.0)) c.index-cell.ensures
    (ap (λ (stand : SchedulingState). thread_by stand cell.job) at.is) in
    sym (ap (λ (o : Option Thread). view_by g.image o) there)
