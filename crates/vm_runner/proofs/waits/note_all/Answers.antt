use Rattle.std.proofs.Common.{◌∙◌, ◌≡◌, length, arith}
use Rattle.vm_releases.proofs.Boards.{cells_count}
use Rattle.vm_runner.proofs.Turning.{note_one}
use Rattle.vm_runner.proofs.waits.note_all.Goals as goal

pub loop-place-preserved : goal.loop-place-preserved
loop-place-preserved g c =
    let cells = c.args.board.now.cells.items in
    let count : length cells ≡ length g.image.processes = cells_count g.image cells c.requires.1.0.rooms in
    let one = note_one (length g.image.processes) c.loop-place.place cells c.index.result.now c.args.agenda.now.slots c.loop-place.agenda.slots c.set_time_out.new.self.slots c.time_out.result
    (omega (arith, count, c.args.board.now.cells.ok.0, c.len-place-end.ensures, c.loop-place-test.true))
    (omega (arith, c.args.board.now.cells.ok.0, c.len-place-end.ensures, c.loop-place-test.true))
    c.index.ensures c.time_out.ensures c.requires.1.1 c.loop-place.invariant.others c.loop-place.invariant.waits c.set_time_out.ensures.slots in
    record {
      waits = one.waits;
      others = one.others;
      done = c.set_time_out.ensures.done ∙ c.loop-place.invariant.done;
      order = c.set_time_out.ensures.order ∙ c.loop-place.invariant.order;
    }
