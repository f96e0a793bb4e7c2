use Rattle.std.proofs.Common.{◌∙◌, ◌≡◌, ◌<◌, length, arith}
use Rattle.std.proofs.lemmas.List.{length-set}
use Rattle.vm_state.specs.Threads.{threads_of, thread_of}
use Rattle.edf_machine.proofs.Lists.{thread_at}
use Rattle.edf_machine.proofs.Marking.{release_all, release_one}
use Rattle.edf_machine.proofs.marks.mark_releases.Goals as goal
use Rattle.vm_turn.proofs.Turning.{read_at}
use Rattle.vm_releases.proofs.Joining.{threads_count}

pub loop-place-init : goal.loop-place-init
loop-place-init c = record {
  many = omega arith;
  released = λ image ms before are noted. record {
    many = are.many;
    done = λ j p kept o n m below at_p at_k at_o at_n at_m. absurd (omega (arith, below));
    coming = λ j p kept o m above at_p at_k at_o at_m. (are.each j p kept m at_p at_k at_m, noted j o kept at_o at_k);
  };
}

pub loop-place-preserved : goal.loop-place-preserved
loop-place-preserved c =
    let k = c.loop-place.place in
    let cells = c.args.board.now.cells.items in
    let below : k < length cells = omega (arith, c.loop-place-test.true, c.len-place-end.ensures, c.args.board.now.cells.ok.0) in
    let here : k < length c.loop-place.marks.items = omega (arith, below, c.requires.cells, c.loop-place.invariant.many) in
    record {
      many = length-set c.loop-place.marks.items k c.release.new.mark ∙ c.loop-place.invariant.many;
      released = λ image ms before are noted.
          release_one c.args.tick image before (threads_of cells) c.loop-place.marks.items ms k c.index_mut.result.now c.release.new.mark (thread_of c.index.result.now) (c.loop-place.invariant.released image ms before are noted)
          (read_at c.loop-place.marks.items k c.index_mut.result.now here c.index_mut.ensures.value)
          (thread_at cells k c.index.result.now (read_at cells k c.index.result.now below c.index.ensures))
          c.release.ensures;
    }

pub returns : goal.returns
returns c image ms before are noted count =
    let cells = c.args.board.now.cells.items in
    let many : length cells ≡ length image.processes = omega (arith, c.requires.cells, are.many) in
    release_all c.args.tick image before (threads_of cells) c.loop-place.marks.items ms c.loop-place.place (c.loop-place.invariant.released image ms before are noted)
    (omega (arith, c.loop-place-test.false, c.len-place-end.ensures, many, c.args.board.now.cells.ok.0)) count (threads_count cells ∙ many) are.count
