use Rattle.std.proofs.Common.{◌<◌, ◌∙◌, List, length, arith, ap}
use Rattle.base.proofs.Lists.{some_at}
use Rattle.vm_releases.proofs.Boards.{as_many, cells_count}
use Rattle.vm_releases.proofs.Joining.{threads_count}
use Rattle.vm_state.proofs.Waking.{thread_at}
use Rattle.vm_state.specs.Board.{state_of}
use Rattle.vm_turn.proofs.Turning.{process_is, read_at}
use Rattle.vm_runner.specs.declared.ranking.Precedence.{Precedence}
use Rattle.vm_runner.specs.Ranking.{least_of}
use Rattle.vm_runner.proofs.Foremost.{one_first}
use Rattle.vm_runner.proofs.ranking.Ranking.note_all.Goals as goal

pub index-requires : goal.index-requires
index-requires c =
    omega (arith, c.loop-k-test.true, c.len-k-end.ensures, as_many (c.requires.0).processes c.args.plan.now.processes.items c.requires.1.processes, cells_count c.requires.0 c.args.board.now.cells.items c.requires.2.rooms, c.args.plan.now.processes.ok.0, c.args.board.now.cells.ok.0)

pub precedence_of-requires : goal.precedence_of-requires
precedence_of-requires c =
    let few = c.requires.1.few in
    omega (arith, c.loop-k-test.true, c.len-k-end.ensures, cells_count c.requires.0 c.args.board.now.cells.items c.requires.2.rooms, c.args.board.now.cells.ok.0, few)

pub push-requires : goal.push-requires
push-requires c =
    let few = c.requires.1.few in
    omega (arith, c.loop-k-test.true, c.len-k-end.ensures, c.loop-k.invariant.count, cells_count c.requires.0 c.args.board.now.cells.items c.requires.2.rooms, c.args.board.now.cells.ok.0, few)

pub loop-k-preserved : goal.loop-k-preserved
loop-k-preserved c = record {
  count = omega (arith, c.push.ensures.len, c.loop-k.invariant.count);
  numbers = λ image plan board. (
      let k = c.loop-k.k in
      let cells = c.args.board.now.cells.items in
      let count = cells_count image cells board.rooms in
      let all = as_many image.processes c.args.plan.now.processes.items plan.processes in
      let below : k < length cells = omega (arith, c.loop-k-test.true, c.len-k-end.ensures, c.args.board.now.cells.ok.0) in
      let known = read_at c.args.plan.now.processes.items k c.index.result.now (omega (arith, below, count, all)) c.index.ensures in
      let whole = some_at image.processes k (omega (arith, below, count)) in
      let thread = thread_at cells k c.index-in-loop-k.result.now below c.index-in-loop-k.ensures in
      let is = process_is image.processes c.args.plan.now.processes.items k whole.0 c.index.result.now plan.processes whole.1 known in
      one_first image (state_of c.args.board.now).threads c.loop-k.self.precedences.items c.push.new.self.items k c.precedence_of.result whole.0 _ (c.loop-k.invariant.numbers image plan board) c.loop-k.invariant.count c.push.ensures.items whole.1 thread (c.precedence_of.ensures image whole.0 plan is));
}

pub returns : goal.returns
returns c image plan board =
    let cells = c.args.board.now.cells.items in
    let count = cells_count image cells board.rooms in
    let all = threads_count cells in
    record {
      few = plan.few;
      all = all ∙ count;
      count = omega (arith, c.loop-k.invariant.count, c.loop-k-test.false, c.len-k-end.ensures, c.loop-k.auto.k-end, count, c.args.board.now.cells.ok.0);
      numbers = c.loop-k.invariant.numbers image plan board;
      least = c.least_of-self.ensures ∙ ap (λ (es : List Precedence). least_of es) c.as_slice.ensures.value;
    }
