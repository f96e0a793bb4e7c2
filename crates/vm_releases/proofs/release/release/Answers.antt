use Rattle.std.proofs.Common.{arith, ◌∙◌}
use Rattle.vm_state.specs.Board.{state_of}
use Rattle.vm_releases.proofs.Boards.{as_many, cells_count, planned, released_is, room_is, rooms_set, threads_are}
use Rattle.vm_releases.proofs.release.release.Goals as goal
use Rattle.vm_state.proofs.Waking.{thread_at}

pub index-requires : goal.index-requires
index-requires g c = omega (arith, as_many g.image.processes c.args.plan.now.processes.items c.requires.0.processes, c.args.plan.now.processes.ok.0)

pub release_cell-requires : goal.release_cell-requires
release_cell-requires g c =
    let p = planned g.image.processes c.args.plan.now.processes.items c.args.place c.index.result.now c.requires.0.processes c.requires.1.1.0 c.index.ensures in
    let room = room_is c.args.board.now.cells.items g.image.processes c.args.place c.index_mut.result.now p.whole c.requires.1.0.rooms p.there c.index_mut.ensures.value in
    omega (arith, room, p.is.stack, p.is.fits)

pub returns-clause-started : goal.returns-clause-started
returns-clause-started g c =
    let p = planned g.image.processes c.args.plan.now.processes.items c.args.place c.index.result.now c.requires.0.processes c.requires.1.1.0 c.index.ensures in
    let count = cells_count g.image c.args.board.now.cells.items c.requires.1.0.rooms in
    let there = thread_at c.args.board.now.cells.items c.args.place c.index_mut.result.now (omega (arith, count, c.requires.1.1.0)) c.index_mut.ensures.value in
    let new = c.release_cell.ensures.released g.image p.whole p.is.start p.is.locals c.requires.0.dispatch_ticks in
    released_is g.image c.args.tick c.args.place p.whole (state_of c.args.board.now) c.args.fired.now.items _ _ _ p.there there c.requires.1.1.1.0
    (threads_are c.args.board.now.cells.items c.args.place c.release_cell.new.cell _ new) c.tell.ensures.events

pub returns-clause-board : goal.returns-clause-board
returns-clause-board g c = record {
  rooms = rooms_set c.args.board.now.cells.items c.args.place c.index_mut.result.now c.release_cell.new.cell c.index_mut.ensures.value c.release_cell.ensures.room ∙ c.requires.1.0.rooms;
  owned = c.requires.1.0.owned;
  queues = c.requires.1.0.queues;
  devices = c.requires.1.0.devices;
}
