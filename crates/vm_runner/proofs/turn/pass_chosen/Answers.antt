use Rattle.std.proofs.Common.{arith}
use Rattle.vm_state.specs.Board.{state_of}
use Rattle.vm_releases.proofs.Joining.{threads_count}
use Rattle.vm_runner.proofs.Going.{below}
use Rattle.vm_runner.proofs.turn.pass_chosen.Goals as goal

pub burns-requires : goal.burns-requires
burns-requires g c =
    let can = c.requires.0 in
    let there = below g.course can.goes c.args.tick c.args.who (state_of c.args.board.now) can.begun can.chosen in
    omega (arith, there, threads_count c.args.board.now.cells.items, c.args.board.now.cells.ok.0)
