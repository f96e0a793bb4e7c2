use Rattle.std.proofs.Common.{◌≡◌, ◌<◌, ◌+◌, ℕ, List, [], arith, ap, sym, subst, ◌∙◌, length, drop}
use Rattle.std.proofs.lemmas.List.{drop_all}
use Rattle.base.proofs.Lists.{some_at}
use Rattle.machine_semantics.specs.Image.{Process}
use Rattle.machine_semantics.specs.State.{State}
use Rattle.machine_semantics.specs.Starts.{Started, periodic, unchanged}
use Rattle.vm_state.specs.Board.{state_of}
use Rattle.vm_stretch.proofs.Leading.{left_calm, left_end, left_room, left_same, left_step}
use Rattle.vm_releases.specs.Begin.{MovedBelow, clock_at}
use Rattle.vm_releases.proofs.Boards.{as_many}
use Rattle.vm_releases.proofs.Clocking.{clock_left, moved_more}
use Rattle.vm_releases.proofs.clock.do_releases.Goals as goal

pub clock-requires : goal.clock-requires
clock-requires g c =
    let k = c.loop-place.place in
    let count = as_many g.image.processes c.args.plan.now.processes.items c.requires.0.processes in
    let below : k < length g.image.processes = omega (arith, count, c.args.plan.now.processes.ok.0) in
    let w = some_at g.image.processes k below in
    let go : State → Started = periodic g.image c.args.tick 0 g.image.processes in
    let step : State → Started = clock_at g.image c.args.tick k in
    let rest : State → Started = periodic g.image c.args.tick (k + 1) (drop (k + 1) g.image.processes) in
    let left = clock_left g.image c.args.tick k w.0 go (state_of c.args.board.now) (state_of c.loop-place.board) c.args.fired.now.items c.loop-place.fired.items w.1 c.loop-place.invariant.left in
    let few = left_room go step rest (state_of c.args.board.now) (state_of c.loop-place.board) c.args.fired.now.items c.loop-place.fired.items 64 left c.requires.1.1.1.1.1.1 in (
      c.requires.0,
      (
        c.loop-place.invariant.board,
        (
          below,
          (
            c.loop-place.invariant.moved.count ∙ c.requires.1.1.0,
            (
              λ p tick at slot. c.requires.1.1.1.0 k p tick at (sym (c.loop-place.invariant.moved.others k (omega arith)) ∙ slot),
              (
                c.requires.1.1.1.1.0,
                (left_calm go step rest (state_of c.args.board.now) (state_of c.loop-place.board) c.args.fired.now.items c.loop-place.fired.items left c.requires.1.1.1.1.1.0, omega (arith, few)),
              ),
            ),
          ),
        ),
      ),
    )

pub loop-place-preserved : goal.loop-place-preserved
loop-place-preserved g c =
    let k = c.loop-place.place in
    let count = as_many g.image.processes c.args.plan.now.processes.items c.requires.0.processes in
    let below : k < length g.image.processes = omega (arith, count, c.args.plan.now.processes.ok.0) in
    let w = some_at g.image.processes k below in
    let go : State → Started = periodic g.image c.args.tick 0 g.image.processes in
    let step : State → Started = clock_at g.image c.args.tick k in
    let rest : State → Started = periodic g.image c.args.tick (k + 1) (drop (k + 1) g.image.processes) in
    let left = clock_left g.image c.args.tick k w.0 go (state_of c.args.board.now) (state_of c.loop-place.board) c.args.fired.now.items c.loop-place.fired.items w.1 c.loop-place.invariant.left in
    record {
      board = c.clock.ensures.board;
      left = left_step go step rest (state_of c.args.board.now) (state_of c.loop-place.board) (state_of c.clock.new.board) c.args.fired.now.items c.loop-place.fired.items c.clock.new.fired.items left c.clock.ensures.started;
      moved = moved_more g.image c.args.tick k c.args.slots.now c.loop-place.slots c.clock.new.slots c.loop-place.invariant.moved c.clock.ensures.moved;
    }

pub returns-clause-started : goal.returns-clause-started
returns-clause-started g c =
    let k = c.loop-place.place in
    let count = as_many g.image.processes c.args.plan.now.processes.items c.requires.0.processes in
    let end : drop k g.image.processes ≡ [] = drop_all k g.image.processes (omega (arith, count, c.args.plan.now.processes.ok.0)) in
    let go : State → Started = periodic g.image c.args.tick 0 g.image.processes in
    left_end go (state_of c.args.board.now) (state_of c.loop-place.board) c.args.fired.now.items c.loop-place.fired.items
    (left_same go (periodic g.image c.args.tick k (drop k g.image.processes)) unchanged (state_of c.args.board.now) (state_of c.loop-place.board) c.args.fired.now.items c.loop-place.fired.items c.loop-place.invariant.left
    (ap (λ (ps : List Process). periodic g.image c.args.tick k ps (state_of c.loop-place.board)) end)) c.requires.1.1.1.1.1.0

pub returns-clause-moved : goal.returns-clause-moved
returns-clause-moved g c =
    let count = as_many g.image.processes c.args.plan.now.processes.items c.requires.0.processes in
    let all : c.loop-place.place ≡ length g.image.processes = omega (arith, count, c.args.plan.now.processes.ok.0) in
    subst (λ (n : ℕ). MovedBelow g.image c.args.tick n c.args.slots.now c.loop-place.slots) all c.loop-place.invariant.moved
