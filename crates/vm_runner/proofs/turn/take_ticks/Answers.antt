use Rattle.std.specs.Prelude.{slice_get}
use Rattle.std.proofs.Common.{◌≤◌, ◌+◌, ◌∙◌, ℕ, List, arith, ap, sym, subst}
use Rattle.base.specs.declared.event.Event.{Event}
use Rattle.machine_semantics.specs.State.{State}
use Rattle.vm_state.specs.Board.{state_of}
use Rattle.vm_stretch.specs.StretchDue.{HasSlots, time_out_of}
use Rattle.vm_releases.proofs.Boards.{cells_count}
use Rattle.vm_releases.proofs.Joining.{threads_count}
use Rattle.vm_runner.specs.Waits.{WaitsFrom, is_some_at_queue}
use Rattle.vm_runner.proofs.Turning.{noted_slots, same_waits, still_none}
use Rattle.vm_runner.proofs.Waiting.{come_after, fell_is}
use Rattle.vm_runner.proofs.turn.take_ticks.Goals as goal

-- requires: can, room, slots, clear

pub note_waits-requires : goal.note_waits-requires
note_waits-requires g c =
    let can = c.requires.0 in
    let s = state_of c.args.board.now in
    let s' = state_of c.pass_ticks-ticks.new.board in
    let has = c.pass_ticks-ticks.ensures.passed in
    let fell = come_after c.args.fired.now.items has.fell c.as_slice.result.now c.len-before.result c.len-before.ensures.value (c.as_slice.ensures.value ∙ has.told) in (
      can.plan,
      (
        c.pass_ticks-ticks.ensures.board,
        (
          c.requires.1.1.0.count,
          λ quiet. same_waits g.course.image g.course.script c.args.tick c.args.agenda.now.done s s' c.args.agenda.now.slots c.requires.1.1.0
              (λ j. has.same (sym (ap (λ (xs : List Event). is_some_at_queue xs) fell) ∙ quiet) j ∙ ap (λ (x : State). time_out_of (slice_get x.threads j)) (sym can.begun)),
        ),
      ),
    )

pub returns-clause-slots : goal.returns-clause-slots
returns-clause-slots g c =
    let s = state_of c.args.board.now in
    let s' = state_of c.pass_ticks-ticks.new.board in
    let cells = c.pass_ticks-ticks.new.board.cells.items in
    subst (λ (d : ℕ). HasSlots g.course.image g.course.script c.args.tick d s' c.note_waits.new.agenda.slots) (sym c.note_waits.ensures.done)
    (noted_slots g.course.image g.course.script c.args.tick c.args.agenda.now.done s s' c.args.agenda.now.slots c.note_waits.new.agenda.slots c.requires.1.1.0 c.note_waits.ensures.others c.note_waits.ensures.waits
    (threads_count cells ∙ cells_count g.course.image cells c.pass_ticks-ticks.ensures.board.rooms))

pub returns-clause-clear : goal.returns-clause-clear
returns-clause-clear g c i r at =
    let can = c.requires.0 in
    let s = state_of c.args.board.now in
    let s' = state_of c.pass_ticks-ticks.new.board in
    let n = c.pass_ticks-ticks.result in
    let e = c.pass_ticks-ticks.ensures in
    let low : c.args.tick + n ≤ c.args.tick + c.args.most = omega (arith, e.most) in
    still_none g.course.image g.course.script c.args.tick c.args.agenda.now.done (c.args.tick + n) (c.args.tick + c.args.most) s s' c.args.agenda.now.slots c.note_waits.new.agenda.slots c.requires.1.1.0 c.note_waits.ensures.others c.note_waits.ensures.waits
    c.requires.1.1.1 low (subst (λ (x : State). WaitsFrom (c.args.tick + n) x.threads s'.threads) (sym can.begun) e.passed.waits) i r at

pub returns-clause-still : goal.returns-clause-still
returns-clause-still g c quiet =
    let has = c.pass_ticks-ticks.ensures.passed in
    let all = c.pass_ticks-ticks.new.fired.items in
    let fell = come_after c.args.fired.now.items has.fell c.as_slice.result.now c.len-before.result c.len-before.ensures.value (c.as_slice.ensures.value ∙ has.told) in
    c.note_waits.ensures.still (ap (λ (xs : List Event). is_some_at_queue xs) fell ∙ sym (ap (λ (xs : List Event). is_some_at_queue xs) (fell_is c.args.fired.now.items has.fell all has.told)) ∙ quiet)
