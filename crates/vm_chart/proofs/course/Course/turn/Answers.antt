use Rattle.std.proofs.Common.{◌≡◌, ◌≤◌, ◌<◌, ℕ, List, arith, refl, ap, sym, subst, ◌∙◌}
use Rattle.std.specs.Prelude.{All}
use Rattle.base.specs.declared.event.Event.{Event}
use Rattle.machine_semantics.specs.Image.{Script}
use Rattle.vm_runner.specs.Alike.{StayAlike}
use Rattle.vm_runner.specs.Standing.{events_between}
use Rattle.vm_state.specs.Board.{IsBoardOf, state_of}
use Rattle.vm_state.specs.declared.machine_state.MachineState.{MachineState}
use Rattle.vm_stretch.specs.RowLaws.{begun}
use Rattle.vm_chart.specs.Follows.{IsBeforeLastTick, begins}
use Rattle.vm_chart.proofs.Following.{each_alike, each_at, fell_between, few_events, follows_to}
use Rattle.vm_chart.proofs.Tracing.{timely_between}
use Rattle.vm_chart.proofs.course.Course.turn.Goals as goal

pub see_all-requires : goal.see_all-requires
see_all-requires g c =
    let d = g.drawing in
    let from = c.tick-from.result in
    let begun_is = c.begin_turn.ensures.begun in
    let same : c.begin_turn.new.self.tick ≡ from = c.begin_turn.ensures.tick ∙ sym c.tick-from.ensures in (
      c.requires.0,
      (
        subst (λ (b : MachineState). IsBoardOf d.image b) (sym c.board.ensures) begun_is.board,
        (
          ap (λ (b : MachineState). state_of b) c.board.ensures ∙ (begun_is.state ∙ ap (λ (n : ℕ). begun d.image d.script n) same),
          (omega (arith, c.tick-from.ensures, c.requires.1.1.1.1.1.1.1.1.1), (c.requires.1.1.1.1.1.0.count, each_at d from c.args.self.now (sym c.tick-from.ensures) c.requires.1.1.1.1.1.0)),
        ),
      ),
    )

pub end_turn-requires : goal.end_turn-requires
end_turn-requires g c =
    let end : g.drawing.script.end_tick ≡ c.args.script.now.end = ap (λ (x : Script). x.end_tick) c.requires.1.0 in
    (c.requires.0, (c.requires.1.1.0, (c.begin_turn.ensures.begun, (omega (arith, end, c.requires.1.1.1.1.1.1.0), omega (arith, c.begin_turn.ensures.tick, c.requires.1.1.1.1.1.1.1.1.0)))))

pub note_all-requires : goal.note_all-requires
note_all-requires g c =
    let d = g.drawing in
    let from = c.tick-from.result in
    let to = c.tick-to.result in
    let went = c.end_turn.ensures in
    let begin : from ≡ c.begin_turn.new.self.tick = c.tick-from.ensures ∙ sym c.begin_turn.ensures.tick in
    let end : to ≡ c.end_turn.new.self.tick = c.tick-to.ensures in
    let passed : from < to = omega (arith, begin, end, went.passed) in
    let later : from ≤ to = omega (arith, passed) in
    let within : to ≤ d.script.end_tick = omega (arith, end, went.stands.within) in
    let short : to ≤ 1000000000 = omega (arith, end, went.within, c.requires.1.1.1.1.1.1.1.0) in
    let fell : c.events.result.now ≡ events_between d.image d.script from to =
    fell_between d c.begin_turn.new.self.tick c.end_turn.new.self.tick from to c.events.result.now begin end (c.events.ensures ∙ went.fell) in
    let began : begins d ≤ from = omega (arith, c.tick-from.ensures, c.requires.1.1.1.1.1.1.1.1.1) in
    let alike : StayAlike d.image d.script from to =
    subst (λ (n : ℕ). StayAlike d.image d.script n to) (sym begin) (subst (λ (n : ℕ). StayAlike d.image d.script c.begin_turn.new.self.tick n) (sym end) went.alike) in (
      c.requires.1.1.1.1.0,
      (
        fell,
        (
          later,
          (
            few_events d to c.requires.1.1.0.ranks c.requires.0.few short,
            (
              subst (λ (es : List Event). All IsBeforeLastTick es) (sym fell) (timely_between d.image d.script from to later within c.requires.1.1.1.0),
              (each_alike d from to c.see_all.new.traces.items began passed alike c.see_all.ensures.each, refl),
            ),
          ),
        ),
      ),
    )

pub returns-clause-follows : goal.returns-clause-follows
returns-clause-follows g c =
    follows_to g.drawing c.tick-to.result (record { machine = c.end_turn.new.self; traces = c.note_all.new.traces }) (sym c.tick-to.ensures)
    c.end_turn.ensures.stands (c.note_all.ensures.count ∙ (c.see_all.ensures.count ∙ c.requires.1.1.1.1.1.0.count)) c.note_all.ensures.each
