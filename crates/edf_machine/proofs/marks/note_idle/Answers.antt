use Rattle.std.proofs.Common.{◌<◌, length, arith}
use Rattle.vm_state.specs.Threads.{thread_of, threads_of}
use Rattle.edf_machine.proofs.Lists.{thread_at}
use Rattle.edf_machine.proofs.Marking.{note_one, noted_all}
use Rattle.edf_machine.proofs.marks.note_idle.Goals as goal
use Rattle.vm_turn.proofs.Turning.{read_at}

pub loop-place-preserved : goal.loop-place-preserved
loop-place-preserved c =
    let k = c.loop-place.place in
    let cells = c.args.board.now.cells.items in
    let many = c.loop-place.invariant.many in
    let below : k < length cells = omega (arith, c.loop-place-test.true, c.len-place-end.ensures, c.args.board.now.cells.ok.0) in
    let here : k < length c.loop-place.marks.items = omega (arith, below, c.requires, many) in
    note_one c.args.marks.now.items c.loop-place.marks.items (threads_of cells) k c.index_mut.result.now c.note.new.mark (thread_of c.index.result.now) c.loop-place.invariant
    (read_at c.loop-place.marks.items k c.index_mut.result.now here c.index_mut.ensures.value)
    (thread_at cells k c.index.result.now (read_at cells k c.index.result.now below c.index.ensures))
    c.note.ensures

pub returns-clause-noted : goal.returns-clause-noted
returns-clause-noted c =
    let cells = c.args.board.now.cells.items in
    let many = c.loop-place.invariant.many in
    noted_all c.args.marks.now.items c.loop-place.marks.items (threads_of cells) c.loop-place.place c.loop-place.invariant
    (omega (arith, c.loop-place-test.false, c.len-place-end.ensures, c.requires, many, c.args.board.now.cells.ok.0))
