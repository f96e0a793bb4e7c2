use Rattle.std.proofs.Common.{◌≡◌, ◌∙◌, ap, sym}
use Rattle.machine_semantics.specs.Run.{state_at}
use Rattle.machine_semantics.specs.State.{State}
use Rattle.vm_state.specs.declared.machine_state.MachineState.{MachineState}
use Rattle.vm_state.specs.Board.{state_of}
use Rattle.vm_stretch.specs.View.{occupant}
use Rattle.vm_watch.proofs.Occupying.{free_has_none}
use Rattle.vm_watch.proofs.monitors.occupant.Goals as goal

pub returns-clause-free : goal.returns-clause-free
returns-clause-free g c =
    let s = state_at g.run.image g.run.script c.args.machine.now.tick in
    let is : c.occupant_on.result ≡ occupant s c.args.monitor =
    c.occupant_on.ensures ∙ ap (λ (b : MachineState). occupant (state_of b) c.args.monitor) c.board.ensures ∙ ap (λ (x : State). occupant x c.args.monitor) c.requires.state in
    let both = free_has_none c.args.monitor s.threads in
    (λ none. both.0 (sym is ∙ none), λ free. is ∙ both.1 free)
