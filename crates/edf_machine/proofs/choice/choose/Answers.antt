use Rattle.std.proofs.Common.{◌≡◌, ◌+◌, ◌-◌, ◌<◌, ◌∙◌, ℕ, List, [], length, drop, ap, sym, arith}
use Rattle.std.proofs.lemmas.List.{drop_all}
use Rattle.std.proofs.lemmas.Option.{slice_get-get_or}
use Rattle.base.proofs.Lists.{some_at}
use Rattle.machine_semantics.specs.Image.{Process}
use Rattle.machine_semantics.specs.State.{Thread}
use Rattle.vm_state.specs.Threads.{thread_of, threads_of}
use Rattle.edf_machine.specs.Sights.{Seen, looked, seen_from, seen_of}
use Rattle.edf_machine.proofs.Lists.{thread_at}
use Rattle.edf_machine.proofs.Seeing.{chosen_of, seen_more}
use Rattle.edf_machine.proofs.choice.choose.Goals as goal
use Rattle.vm_turn.proofs.Turning.{many as as_many, process_is, read_at}
use Rattle.vm_releases.proofs.Boards.{cells_count}
use Rattle.vm_releases.proofs.Joining.{threads_count}

pub index-requires : goal.index-requires
index-requires c =
    let many = as_many (c.requires.0).processes c.args.plan.now.processes.items c.requires.2.processes in
    let marks = c.requires.4.many in
    omega (arith, many, marks, c.all.invariant.within, c.all-test.true, c.args.plan.now.processes.ok.0)

pub index-requires-in-all : goal.index-requires-in-all
index-requires-in-all c =
    let cells = cells_count c.requires.0 c.args.board.now.cells.items c.requires.3.rooms in
    let marks = c.requires.4.many in
    omega (arith, cells, marks, c.all.invariant.within, c.all-test.true, c.args.board.now.cells.ok.0)

pub all-init : goal.all-init
all-init c = record {
  within = omega arith;
  seen = λ image ms plan board are. (
      let k = length c.args.marks.now in
      let cells = c.args.board.now.cells.items in
      let ts = threads_of cells in
      let count = threads_count cells ∙ cells_count image cells board.rooms in
      let marks = are.many in
      let ps_none : drop k image.processes ≡ [] = drop_all k image.processes (omega (arith, marks)) in
      let ts_none : drop k ts ≡ [] = drop_all k ts (omega (arith, count, marks)) in
      sym (ap (λ (ps : List Process). seen_from image k ps (drop k ts) (drop k ms)) ps_none ∙ ap (λ (xs : List Thread). seen_from image k [] xs (drop k ms)) ts_none));
}

pub all-preserved : goal.all-preserved
all-preserved c = record {
  within = omega (arith, c.all.invariant.within);
  seen = λ image ms plan board are. (
      let ts = threads_of c.args.board.now.cells.items in
      let k = c.all.place - 1 in
      let many = as_many image.processes c.args.plan.now.processes.items plan.processes in
      let cells = cells_count image c.args.board.now.cells.items board.rooms in
      let marks = are.many in
      let below : k < length image.processes = omega (arith, marks, c.all.invariant.within, c.all-test.true) in
      let next : k + 1 ≡ c.all.place = omega (arith, c.all-test.true) in
      let p = some_at image.processes k below in
      let m = some_at ms k (omega (arith, below, are.count)) in
      let at_p = read_at c.args.plan.now.processes.items k c.index.result.now (omega (arith, below, many)) c.index.ensures in
      let at_c = read_at c.args.board.now.cells.items k c.index-in-all.result.now (omega (arith, below, cells)) c.index-in-all.ensures in
      let seen : seen_of c.look-sight.result ≡ looked image k p.0 (thread_of c.index-in-all.result.now) m.0 (seen_of c.all.sight) =
      c.look-sight.ensures image p.0 m.0 plan (process_is image.processes c.args.plan.now.processes.items k p.0 c.index.result.now plan.processes p.1 at_p)
      (are.each k p.0 _ m.0 p.1 (slice_get-get_or c.args.marks.now k _ (omega (arith, below, are.many))) m.1) in
      seen
      ∙ ap (λ (s : Seen). looked image k p.0 (thread_of c.index-in-all.result.now) m.0 s) (c.all.invariant.seen image ms plan board are ∙ ap (λ (n : ℕ). seen_from image n (drop n image.processes) (drop n ts) (drop n ms)) (sym next))
      ∙ sym (seen_more image k image.processes ts ms p.0 (thread_of c.index-in-all.result.now) m.0 p.1 (thread_at c.args.board.now.cells.items k c.index-in-all.result.now at_c) m.1));
}

pub returns : goal.returns
returns c image ms plan board are =
    let ts = threads_of c.args.board.now.cells.items in
    let none : c.all.place ≡ 0 = omega (arith, c.all-test.false) in
    c.taken.ensures
    ∙ chosen_of image ts ms (seen_of c.all.sight) (c.all.invariant.seen image ms plan board are ∙ ap (λ (n : ℕ). seen_from image n (drop n image.processes) (drop n ts) (drop n ms)) none)
