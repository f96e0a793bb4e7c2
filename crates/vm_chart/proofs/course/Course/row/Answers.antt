use Rattle.std.proofs.Common.{◌≡◌, ◌≤◌, List, arith, refl, sym, subst, ◌∙◌}
use Rattle.std.specs.Prelude.{All}
use Rattle.base.specs.declared.event.Event.{Event}
use Rattle.vm_runner.specs.Standing.{events_between}
use Rattle.vm_chart.specs.Follows.{IsBeforeLastTick, begins}
use Rattle.vm_chart.proofs.Following.{each_at, each_unseen, fell_between, few_events, follows_to}
use Rattle.vm_chart.proofs.Tracing.{timely_between}
use Rattle.vm_chart.proofs.course.Course.row.Goals as goal

pub note_all-requires : goal.note_all-requires
note_all-requires g c =
    let d = g.drawing in
    let from = c.tick-from.result in
    let to = c.tick-to.result in
    let old = c.args.self.now in
    let went = c.advance_row_to.ensures in
    let begin : from ≡ old.machine.tick = c.tick-from.ensures in
    let end : to ≡ c.advance_row_to.new.self.tick = c.tick-to.ensures in
    let later : from ≤ to = omega (arith, begin, end, went.passed) in
    let within : to ≤ d.script.end_tick = omega (arith, end, went.stands.within) in
    let short : to ≤ 1000000000 = omega (arith, end, went.within, c.requires.1.1.1.1.1.1.1.0) in
    let fell : c.events.result.now ≡ events_between d.image d.script from to =
    fell_between d old.machine.tick c.advance_row_to.new.self.tick from to c.events.result.now begin end (c.events.ensures ∙ went.events) in
    let early : from ≤ begins d = omega (arith, begin, c.requires.1.1.1.1.1.1.1.1.0, c.requires.1.1.1.1.1.1.1.1.1) in
    let also : to ≤ begins d = omega (arith, end, went.within, c.requires.1.1.1.1.1.1.1.1.1) in (
      c.requires.1.1.1.1.0,
      (
        fell,
        (
          later,
          (
            few_events d to c.requires.1.1.0.ranks c.requires.0.few short,
            (
              subst (λ (es : List Event). All IsBeforeLastTick es) (sym fell) (timely_between d.image d.script from to later within c.requires.1.1.1.0),
              (each_unseen d from to old.traces.items early also (each_at d from old (sym begin) c.requires.1.1.1.1.1.0), refl),
            ),
          ),
        ),
      ),
    )

pub returns-clause-follows : goal.returns-clause-follows
returns-clause-follows g c =
    follows_to g.drawing c.tick-to.result (record { machine = c.advance_row_to.new.self; traces = c.note_all.new.traces }) (sym c.tick-to.ensures)
    c.advance_row_to.ensures.stands (c.note_all.ensures.count ∙ c.requires.1.1.1.1.1.0.count) c.note_all.ensures.each
