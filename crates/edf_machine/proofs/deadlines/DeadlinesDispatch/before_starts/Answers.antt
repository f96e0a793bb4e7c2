use Rattle.std.proofs.Common.{◌∙◌, length, arith, ap, subst, sym}
use Rattle.machine_semantics.specs.State.{State}
use Rattle.vm_releases.proofs.Boards.{cells_count}
use Rattle.vm_releases.proofs.Joining.{threads_count}
use Rattle.edf_machine.specs.Marks.{AreNoted}
use Rattle.edf_machine.proofs.deadlines.DeadlinesDispatch.before_starts.Goals as goal

pub note_idle-requires : goal.note_idle-requires
note_idle-requires c =
    let it = c.requires.sees.1 in
    let marks = it.knows.many in
    omega (arith, cells_count (c.requires.sees.0).image c.args.board.now.cells.items it.board.rooms, marks)

pub returns : goal.returns
returns c at it = record {
  marks = c.note_idle.ensures.marks at.image _ it.knows;
  noted = subst (λ (s : State). AreNoted s.threads c.note_idle.new.marks.items) it.state c.note_idle.ensures.noted;
  all = sym (ap (λ (s : State). length s.threads) it.state) ∙ threads_count c.args.board.now.cells.items ∙ cells_count at.image c.args.board.now.cells.items it.board.rooms;
}
