use Rattle.std.proofs.Common.{ℕ, arith, ap, refl, ◌∙◌, length, None}
use Rattle.std.proofs.lemmas.Option.{none-some}
use Rattle.std.proofs.lemmas.List.{length-set}
use Rattle.std.specs.Prelude.{slice_set}
use Rattle.machine_semantics.specs.Starts.{queue_of, without}
use Rattle.vm_state.specs.Threads.{thread_of}
use Rattle.vm_state.specs.Board.{state_of}
use Rattle.vm_releases.proofs.Boards.{as_many, cells_count, did_wait, expired_is, planned, rooms_set, threads_are, wait_has_queue}
use Rattle.vm_releases.proofs.time_out.time_out.Goals as goal
use Rattle.vm_state.proofs.Waking.{thread_at}

pub index-requires : goal.index-requires
index-requires g c = omega (arith, as_many g.image.processes c.args.plan.now.processes.items c.requires.0.processes, c.args.plan.now.processes.ok.0)

pub leave-requires : goal.leave-requires
leave-requires g c =
    let count = cells_count g.image c.args.board.now.cells.items c.requires.1.0.rooms in
    let there = thread_at c.args.board.now.cells.items c.args.place c.index_mut.result.now (omega (arith, count, c.requires.1.1.0)) c.index_mut.ensures.value in
    let has = wait_has_queue c.index.result.now c.args.plan.now.dispatch_ticks c.args.place (state_of c.args.board.now) (thread_of c.index_mut.result.now) (thread_of c.time_out_cell-waited.new.cell) c.in-Some.field-0
    c.requires.1.1.1.0 there c.in-Some.ensures.timed_out in
    omega (arith, has, c.from.ensures)

pub returns-in-Some-clause-started : goal.returns-in-Some-clause-started
returns-in-Some-clause-started g c =
    let s = state_of c.args.board.now in
    let p = planned g.image.processes c.args.plan.now.processes.items c.args.place c.index.result.now c.requires.0.processes c.requires.1.1.0 c.index.ensures in
    let count = cells_count g.image c.args.board.now.cells.items c.requires.1.0.rooms in
    let there = thread_at c.args.board.now.cells.items c.args.place c.index_mut.result.now (omega (arith, count, c.requires.1.1.0)) c.index_mut.ensures.value in
    let left = c.leave.ensures ∙ ap (λ (n : ℕ). slice_set c.args.board.now.queues n (without c.args.place (queue_of c.args.board.now.queues n))) c.from.ensures in
    expired_is g.image c.args.tick c.args.place c.args.plan.now.dispatch_ticks p.whole c.index.result.now s c.args.fired.now.items _ _ _ (thread_of c.index_mut.result.now) (thread_of c.time_out_cell-waited.new.cell) c.in-Some.field-0
    p.there p.is c.requires.0.dispatch_ticks there c.requires.1.1.1.1.0 c.in-Some.ensures.timed_out (threads_are c.args.board.now.cells.items c.args.place c.time_out_cell-waited.new.cell _ refl) left c.tell.ensures.events

pub returns-in-Some-clause-board : goal.returns-in-Some-clause-board
returns-in-Some-clause-board g c = record {
  rooms = rooms_set c.args.board.now.cells.items c.args.place c.index_mut.result.now c.time_out_cell-waited.new.cell c.index_mut.ensures.value c.in-Some.ensures.room ∙ c.requires.1.0.rooms;
  owned = c.requires.1.0.owned;
  queues = ap length c.leave.ensures ∙ length-set _ _ _ ∙ c.requires.1.0.queues;
  devices = c.requires.1.0.devices;
}

pub returns-in_default-clause-started : goal.returns-in_default-clause-started
returns-in_default-clause-started g c =
    let count = cells_count g.image c.args.board.now.cells.items c.requires.1.0.rooms in
    let there = thread_at c.args.board.now.cells.items c.args.place c.index_mut.result.now (omega (arith, count, c.requires.1.1.0)) c.index_mut.ensures.value in
    absurd (did_wait c.index.result.now c.args.plan.now.dispatch_ticks c.args.tick c.args.place (state_of c.args.board.now) (thread_of c.index_mut.result.now) (thread_of c.time_out_cell-waited.new.cell) None
    (λ w is. none-some w is) there c.requires.1.1.1.1.0 c.in_default.ensures.timed_out)

pub returns-in_default-clause-board : goal.returns-in_default-clause-board
returns-in_default-clause-board g c =
    let count = cells_count g.image c.args.board.now.cells.items c.requires.1.0.rooms in
    let there = thread_at c.args.board.now.cells.items c.args.place c.index_mut.result.now (omega (arith, count, c.requires.1.1.0)) c.index_mut.ensures.value in
    absurd (did_wait c.index.result.now c.args.plan.now.dispatch_ticks c.args.tick c.args.place (state_of c.args.board.now) (thread_of c.index_mut.result.now) (thread_of c.time_out_cell-waited.new.cell) None
    (λ w is. none-some w is) there c.requires.1.1.1.1.0 c.in_default.ensures.timed_out)
