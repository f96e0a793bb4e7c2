use Rattle.std.proofs.Common.{◌≡◌, ◌+◌, ◌∙◌, ℕ, [], None, arith, ap, sym}
use Rattle.machine_semantics.specs.Image.{Script}
use Rattle.vm_stretch.proofs.Jumping.{slots_are_quiet}
use Rattle.vm_stretch.proofs.StartLawsMoving.{slots_are_due}
use Rattle.vm_state.specs.Board.{state_of}
use Rattle.vm_runner.specs.Course.{Course, course, events_between}
use Rattle.vm_runner.specs.Dispatching.{At}
use Rattle.vm_runner.proofs.Calm.{told}
use Rattle.vm_runner.proofs.Going.{idle_passes}
use Rattle.vm_runner.proofs.machine.Machine.step.Goals as goal

-- requires: plan, script, runnable, stands, limit, before

pub begin_turn-requires : goal.begin_turn-requires
begin_turn-requires g c = λ κs lives. (
  lives,
  (c.requires.1.0, (c.requires.1.1.0, (c.requires.1.1.1.0, (c.requires.1.1.1.1.0, omega (arith, c.requires.1.1.1.1.1.0, c.requires.1.1.1.1.1.1))))),
)

pub choose-requires : goal.choose-requires
choose-requires g c =
    let b = c.begin_turn.ensures.begun in
    record { sees = (record { image = g.run.image; script = g.run.script; tick = c.begin_turn.new.self.tick }, record { plan = c.requires.1.0; sees = record { board = b.board; state = b.state; knows = b.knows } }) }

pub returns-in_default-clause-stands : goal.returns-in_default-clause-stands
returns-in_default-clause-stands g c =
    let image = g.run.image in
    let script = g.run.script in
    let goes = c.goes_by_steps.ensures.steps image script c.requires.1.1.1.0 in
    let m = c.begin_turn.new.self in
    let s = state_of m.board in
    let b = c.begin_turn.ensures.begun in
    let n = c.span-most.result in
    let span = c.span-most.ensures in
    let at : At = record { image = image; script = script; tick = m.tick } in
    let none : c.choose.result ≡ None = cc in
    let quiet = slots_are_quiet image script m.tick n m.agenda.done s m.agenda.slots b.slots span.clear in
    let passed = idle_passes (course g.D.Dispatch.behaviour image script) goes m.tick n s m.fired.items b.state
    (sym (c.choose.ensures.chosen at (record { plan = c.requires.1.0; sees = record { board = b.board; state = b.state; knows = b.knows } })) ∙ none) span.some quiet in
    let end : script.end_tick ≡ c.args.script.now.end = ap (λ (x : Script). x.end_tick) c.requires.1.1.0 in
    record {
      within = omega (arith, span.within, c.requires.1.1.1.1.1.0, end);
      state = passed.state;
      board = b.board;
      due = slots_are_due image script m.tick (m.tick + n) m.agenda.done s m.agenda.slots b.slots (omega (arith, span.some)) span.clear;
      done = b.done;
      order = b.order;
      knows = c.choose.ensures.idle at (record { plan = c.requires.1.0; sees = record { board = b.board; state = b.state; knows = b.knows } }) c.requires.1.1.1.0 none n passed.step (sym passed.state ∙ b.state);
    }

pub returns-in_default-clause-events : goal.returns-in_default-clause-events
returns-in_default-clause-events g c =
    let image = g.run.image in
    let script = g.run.script in
    let all : Course = course g.D.Dispatch.behaviour image script in
    let goes = c.goes_by_steps.ensures.steps image script c.requires.1.1.1.0 in
    let m = c.begin_turn.new.self in
    let s = state_of m.board in
    let b = c.begin_turn.ensures.begun in
    let n = c.span-most.result in
    let span = c.span-most.ensures in
    let at : At = record { image = image; script = script; tick = m.tick } in
    let none : c.choose.result ≡ None = cc in
    let quiet = slots_are_quiet image script m.tick n m.agenda.done s m.agenda.slots b.slots span.clear in
    let passed = idle_passes all goes m.tick n s m.fired.items b.state
    (sym (c.choose.ensures.chosen at (record { plan = c.requires.1.0; sees = record { board = b.board; state = b.state; knows = b.knows } })) ∙ none) span.some quiet in
    told all m.tick n s m.fired.items m.fired.items passed b.fell
    ∙ ap (λ (u : ℕ). events_between all u (m.tick + n)) c.begin_turn.ensures.tick

pub rows_of-requires : goal.rows_of-requires
rows_of-requires g c =
    let m = c.begin_turn.new.self in
    let b = c.begin_turn.ensures.begun in
    let span = c.span-most.ensures in
    let at : At = record { image = g.run.image; script = g.run.script; tick = m.tick } in
    let end : g.run.script.end_tick ≡ c.args.script.now.end = ap (λ (x : Script). x.end_tick) c.requires.1.1.0 in
    λ κs lives. (
      lives,
      (
        c.requires.1.0,
        (
          c.requires.1.1.1.0,
          (
            record {
              state = b.state;
              board = b.board;
              chosen = sym (c.in-Some.ensures.chosen at (record { plan = c.requires.1.0; sees = record { board = b.board; state = b.state; knows = b.knows } }));
              slots = b.slots;
              done = b.done;
              order = b.order;
              few = b.few;
              knows = c.in-Some.ensures.row at (record { plan = c.requires.1.0; sees = record { board = b.board; state = b.state; knows = b.knows } });
            },
            (span.some, (omega (arith, span.within, c.requires.1.1.1.1.1.0, end), span.clear)),
          ),
        ),
      ),
    )

pub returns-clause-events : goal.returns-clause-events
returns-clause-events g c =
    let all : Course = course g.D.Dispatch.behaviour g.run.image g.run.script in
    c.rows_of.ensures.events [] c.begin_turn.ensures.begun.fell
    ∙ ap (λ (u : ℕ). events_between all u c.rows_of.new.self.tick) c.begin_turn.ensures.tick

pub returns-clause-passed : goal.returns-clause-passed
returns-clause-passed g c = omega (arith, c.rows_of.ensures.passed, c.begin_turn.ensures.tick)

pub returns-clause-within : goal.returns-clause-within
returns-clause-within g c = omega (arith, c.span-most.ensures.within, c.rows_of.ensures.within)
