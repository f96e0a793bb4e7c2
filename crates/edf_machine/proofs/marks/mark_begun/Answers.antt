use Rattle.edf_machine.proofs.Marking.{one_begins}
use Rattle.edf_machine.proofs.marks.mark_begun.Goals as goal
use Rattle.vm_turn.proofs.Turning.{read_at}

pub returns : goal.returns
returns c image ms are = one_begins image c.args.marks.now.items ms c.args.place c.index_mut.result.now are (read_at c.args.marks.now.items c.args.place c.index_mut.result.now c.requires c.index_mut.ensures.value)
