-- The foremost of them is picked.
use Rattle.std.proofs.Common.{◌≡◌, ◌<◌, ◌≤◌, ◌∙◌, Some, length, refl, arith}
use Rattle.std.proofs.lemmas.List.{length-map}
use Rattle.vm_stretch.specs.Pick.{entry_of}
use Rattle.vm_state.specs.Threads.{thread_of, threads_of}
use Rattle.vm_turn.proofs.Choosing.{found, one_more}
use Rattle.vm_turn.proofs.Turning.{many, read_at}
use Rattle.vm_turn.proofs.choice.choose.Goals as goal

pub loop-k-init : goal.loop-k-init
loop-k-init c image is = refl

pub loop-k-preserved : goal.loop-k-preserved
loop-k-preserved c image is =
    let below : c.loop-k.k < length c.args.board.now.cells.items = omega (arith, c.loop-k-test.true, c.len-k-end.ensures, c.args.board.now.cells.ok.0) in
    let known : c.loop-k.k < length c.args.plan.now.processes.items = omega (arith, below, c.requires, c.args.board.now.cells.ok.0, c.args.plan.now.processes.ok.0) in
    one_more image c.args.plan.now c.args.board.now.cells.items c.loop-k.k _ _ c.standing_of-standing.result (entry_of c.loop-k.best) (entry_of c.foremost_with-best.result) is
    (read_at c.args.plan.now.processes.items c.loop-k.k c.index.result.now known c.index.ensures)
    (read_at c.args.board.now.cells.items c.loop-k.k c.index-in-loop-k.result.now below c.index-in-loop-k.ensures)
    c.standing_of-standing.ensures c.foremost_with-best.ensures (c.loop-k.invariant image is)

pub returns : goal.returns
returns c image is board =
    let cells = c.args.board.now.cells.items in
    let threads : length (threads_of cells) ≡ length cells = length-map cells thread_of in
    let all : length cells ≤ c.loop-k.k = omega (arith, c.loop-k-test.false, c.len-k-end.ensures, c.args.board.now.cells.ok.0) in
    c.place_found.ensures
    ∙ found image (threads_of cells) c.loop-k.k (entry_of c.loop-k.best)
    (omega (arith, threads, many image.processes c.args.plan.now.processes.items is.processes, c.requires, c.args.board.now.cells.ok.0, c.args.plan.now.processes.ok.0))
    (omega (arith, threads, all))
    (c.loop-k.invariant image is)
