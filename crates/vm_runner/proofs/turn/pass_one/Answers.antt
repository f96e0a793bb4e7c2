use Rattle.std.proofs.Common.{◌∙◌, ◌++◌, ℕ, arith, ap, sym, subst}
use Rattle.machine_semantics.specs.State.{State}
use Rattle.machine_semantics.specs.Tick.{Ticked}
use Rattle.machine_semantics.specs.Queues.{AreQueued}
use Rattle.vm_state.specs.Board.{state_of}
use Rattle.std.specs.Prelude.{Some}
use Rattle.vm_runner.specs.Turn.{HasPassed}
use Rattle.vm_runner.proofs.Going.{can_pass, chosen_turn, turn_is, turn_passes}
use Rattle.vm_runner.proofs.turn.pass_one.Goals as goal

pub pass-requires : goal.pass-requires
pass-requires g c =
    let can = c.requires.0 in
    let s = state_of c.args.board.now in
    let n = c.ticks_left-ticks.result in
    let e = c.ticks_left-ticks.ensures in
    let end = can.end in
    let turn = chosen_turn g.course can.goes c.args.tick n c.args.most c.args.who s can.begun can.chosen e.some e.most e.fits can.quiet in (
      can.plan,
      (
        can.board,
        (
          subst (λ (x : State). AreQueued x) (sym can.begun) (can.goes.still_queued c.args.tick),
          (can_pass g.course can.goes c.args.tick n c.args.who s can.begun can.chosen turn, (omega (arith, e.most, end), c.requires.1)),
        ),
      ),
    )

pub returns-clause-passed : goal.returns-clause-passed
returns-clause-passed g c =
    let can = c.requires.0 in
    let s = state_of c.args.board.now in
    let n = c.ticks_left-ticks.result in
    let e = c.ticks_left-ticks.ensures in
    let turn = chosen_turn g.course can.goes c.args.tick n c.args.most c.args.who s can.begun can.chosen e.some e.most e.fits can.quiet in
    let all = turn_is g.course can.goes c.args.tick n (Some c.args.who) s can.begun can.chosen in
    subst (λ (m : ℕ). HasPassed g.course c.args.tick m (state_of c.pass.new.board) c.args.fired.now.items c.pass.new.fired.items) (sym c.from.ensures)
    (turn_passes g.course can.goes c.args.tick n c.args.who (state_of c.pass.new.board) c.args.fired.now.items c.pass.new.fired.items can.chosen turn
    (c.pass.ensures.state ∙ ap (λ (x : Ticked). x.state) all) (c.pass.ensures.events ∙ ap (λ (x : Ticked). c.args.fired.now.items ++ x.events) all))

pub returns-clause-lasts : goal.returns-clause-lasts
returns-clause-lasts g c = c.from.ensures ∙ c.ticks_left-ticks.ensures.lasts
