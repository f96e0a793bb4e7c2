-- The others stay.
use Rattle.std.proofs.Common.{arith}
use Rattle.vm_state.proofs.Waking.{rooms_at, woken_at}
use Rattle.vm_state.proofs.threads.wake_at.Goals as goal

pub returns-clause-threads : goal.returns-clause-threads
returns-clause-threads g c = woken_at g.image c.args.cells.now.items c.args.place c.index_mut.result.now c.wake_cell.new.cell (omega arith) c.index_mut.ensures.value (c.wake_cell.ensures.woken g.image c.requires.1)

pub returns-clause-rooms : goal.returns-clause-rooms
returns-clause-rooms g c = rooms_at c.args.cells.now.items c.args.place c.index_mut.result.now c.wake_cell.new.cell (omega arith) c.index_mut.ensures.value c.wake_cell.ensures.room
