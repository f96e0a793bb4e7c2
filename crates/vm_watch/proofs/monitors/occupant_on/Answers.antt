use Rattle.std.proofs.Common.{◌∙◌, List, ap}
use Rattle.std.specs.List.{position}
use Rattle.vm_state.specs.declared.threads.ControlBlock.{ControlBlock}
use Rattle.vm_state.specs.Threads.{thread_of}
use Rattle.machine_semantics.specs.State.{thread_inside}
use Rattle.vm_watch.proofs.Occupying.{same_position}
use Rattle.vm_watch.proofs.monitors.occupant_on.Goals as goal

pub returns : goal.returns
returns c =
    c.first_inside.ensures
    ∙ ap (λ (cells : List ControlBlock). position (λ cell. thread_inside c.args.monitor (thread_of cell)) cells) c.deref.ensures.value
    ∙ same_position thread_of (thread_inside c.args.monitor) c.args.board.now.cells.items
