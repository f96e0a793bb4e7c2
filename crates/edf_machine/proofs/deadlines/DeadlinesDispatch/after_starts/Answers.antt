use Rattle.std.proofs.Common.{ℕ, arith, subst, sym}
use Rattle.machine_semantics.specs.State.{State}
use Rattle.vm_releases.proofs.Boards.{cells_count}
use Rattle.edf_semantics.specs.Run.{Marked, marks_of, state_at}
use Rattle.edf_semantics.specs.Turn.{begun, marked}
use Rattle.edf_machine.specs.Marks.{AreMarks}
use Rattle.edf_machine.proofs.deadlines.DeadlinesDispatch.after_starts.Goals as goal

pub mark_releases-requires-clause-cells : goal.mark_releases-requires-clause-cells
mark_releases-requires-clause-cells c =
    let it = c.requires.sees.1 in
    let marks = it.knows.marks.many in
    omega (arith, cells_count (c.requires.sees.0).image c.args.board.now.cells.items it.board.rooms, marks)

pub returns : goal.returns
returns c at same it =
    let old : Marked = state_at at.image at.script at.tick in
    let new = c.mark_releases.new.marks.items in
    let releases = c.mark_releases.ensures at.image old.marks old.state.threads it.knows.marks it.knows.noted it.knows.all in
    subst (λ (u : ℕ). AreMarks at.image new (marked at.image at.script u)) same
    (subst (λ (u : ℕ). AreMarks at.image new (marks_of u old.state.threads (begun at.image at.script at.tick).threads old.marks)) (sym same)
    (subst (λ (s : State). AreMarks at.image new (marks_of c.args.tick old.state.threads s.threads old.marks)) it.state releases))
