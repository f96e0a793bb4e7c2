use Rattle.std.proofs.Common.{◌≡◌, ◌+◌, ◌∙◌, ◌++◌, List, None, arith, ap, sym}
use Rattle.std.proofs.lemmas.List.{append-nil}
use Rattle.base.specs.declared.event.Event.{Event}
use Rattle.vm_stretch.proofs.Jumping.{slots_are_quiet}
use Rattle.vm_stretch.proofs.StartLawsMoving.{slots_are_due}
use Rattle.vm_state.specs.Board.{state_of}
use Rattle.vm_runner.specs.Course.{course}
use Rattle.vm_runner.specs.Dispatching.{At, Between, Rests}
use Rattle.vm_runner.proofs.Calm.{is_calm, told_on}
use Rattle.vm_runner.proofs.Going.{idle_passes}
use Rattle.vm_runner.proofs.machine.Machine.row_on.Goals as goal

-- requires: plan, runnable, stands, limit, before, calm, room

pub span-most-requires-clause-later : goal.span-most-requires-clause-later
span-most-requires-clause-later g c = (is_calm g.D.Dispatch.behaviour g.D.Dispatch.Knows g.run.image g.run.script Between c.args.self.now c.requires.1.1.1.0 c.requires.1.1.1.1.1.1.0).later

pub first-requires : goal.first-requires
first-requires g c =
    let stands = c.requires.1.1.1.0 in
    let calm = is_calm g.D.Dispatch.behaviour g.D.Dispatch.Knows g.run.image g.run.script Between c.args.self.now stands c.requires.1.1.1.1.1.1.0 in
    record {
      rests = (
        record { image = g.run.image; script = g.run.script; tick = c.args.self.now.tick },
        record { plans = record { plan = c.requires.1.0; sees = record { board = stands.board; state = stands.state; knows = stands.knows } }; calm = calm.still },
      );
    }

pub returns-in_default-clause-stands : goal.returns-in_default-clause-stands
returns-in_default-clause-stands g c =
    let image = g.run.image in
    let script = g.run.script in
    let goes = c.goes_by_steps.ensures.steps image script c.requires.1.1.0 in
    let stands = c.requires.1.1.1.0 in
    let m = c.args.self.now in
    let s = state_of m.board in
    let n = c.span-most.result in
    let span = c.span-most.ensures in
    let calm = is_calm g.D.Dispatch.behaviour g.D.Dispatch.Knows image script Between m stands c.requires.1.1.1.1.1.1.0 in
    let at : At = record { image = image; script = script; tick = m.tick } in
    let rests : Rests g.D.Dispatch.behaviour g.D.Dispatch.Knows c.args.plan.now m.board m.dispatch at =
    record { plans = record { plan = c.requires.1.0; sees = record { board = stands.board; state = stands.state; knows = stands.knows } }; calm = calm.still } in
    let none : c.first.result ≡ None = cc in
    let quiet = slots_are_quiet image script m.tick n m.agenda.done s m.agenda.slots calm.slots span.clear in
    let passed = idle_passes (course g.D.Dispatch.behaviour image script) goes m.tick n s m.fired.items calm.state (sym (c.first.ensures.chosen at rests) ∙ none) span.some quiet in
    record {
      within = omega (arith, span.within, c.requires.1.1.1.1.0);
      state = passed.state;
      board = stands.board;
      due = slots_are_due image script m.tick (m.tick + n) m.agenda.done s m.agenda.slots calm.slots (omega (arith, span.some)) span.clear;
      done = stands.done;
      order = stands.order;
      knows = c.first.ensures.idle at rests c.requires.1.1.0 none n passed.step (sym passed.state ∙ stands.state);
    }

pub returns-in_default-clause-events : goal.returns-in_default-clause-events
returns-in_default-clause-events g c =
    let image = g.run.image in
    let script = g.run.script in
    let goes = c.goes_by_steps.ensures.steps image script c.requires.1.1.0 in
    let stands = c.requires.1.1.1.0 in
    let m = c.args.self.now in
    let s = state_of m.board in
    let n = c.span-most.result in
    let span = c.span-most.ensures in
    let calm = is_calm g.D.Dispatch.behaviour g.D.Dispatch.Knows image script Between m stands c.requires.1.1.1.1.1.1.0 in
    let at : At = record { image = image; script = script; tick = m.tick } in
    let rests : Rests g.D.Dispatch.behaviour g.D.Dispatch.Knows c.args.plan.now m.board m.dispatch at =
    record { plans = record { plan = c.requires.1.0; sees = record { board = stands.board; state = stands.state; knows = stands.knows } }; calm = calm.still } in
    let none : c.first.result ≡ None = cc in
    let quiet = slots_are_quiet image script m.tick n m.agenda.done s m.agenda.slots calm.slots span.clear in
    let passed = idle_passes (course g.D.Dispatch.behaviour image script) goes m.tick n s m.fired.items calm.state (sym (c.first.ensures.chosen at rests) ∙ none) span.some quiet in
    told_on (course g.D.Dispatch.behaviour image script) m.tick n s m.fired.items m.fired.items passed calm.none

pub rows_of-requires : goal.rows_of-requires
rows_of-requires g c =
    let image = g.run.image in
    let script = g.run.script in
    let stands = c.requires.1.1.1.0 in
    let m = c.args.self.now in
    let span = c.span-most.ensures in
    let calm = is_calm g.D.Dispatch.behaviour g.D.Dispatch.Knows image script Between m stands c.requires.1.1.1.1.1.1.0 in
    let at : At = record { image = image; script = script; tick = m.tick } in
    let rests : Rests g.D.Dispatch.behaviour g.D.Dispatch.Knows c.args.plan.now m.board m.dispatch at =
    record { plans = record { plan = c.requires.1.0; sees = record { board = stands.board; state = stands.state; knows = stands.knows } }; calm = calm.still } in
    λ κs lives. (
      lives,
      (
        c.requires.1.0,
        (
          c.requires.1.1.0,
          (
            record {
              state = calm.state;
              board = stands.board;
              chosen = sym (c.in-Some.ensures.chosen at rests);
              slots = calm.slots;
              done = stands.done;
              order = stands.order;
              few = c.requires.1.1.1.1.1.1.1;
              knows = c.in-Some.ensures.row at rests;
            },
            (span.some, (omega (arith, span.within, c.requires.1.1.1.1.0), span.clear)),
          ),
        ),
      ),
    )

pub returns-clause-events : goal.returns-clause-events
returns-clause-events g c =
    let m = c.args.self.now in
    let calm = is_calm g.D.Dispatch.behaviour g.D.Dispatch.Knows g.run.image g.run.script Between m c.requires.1.1.1.0 c.requires.1.1.1.1.1.1.0 in
    c.rows_of.ensures.events m.fired.items (sym (append-nil m.fired.items) ∙ ap (λ (es : List Event). m.fired.items ++ es) (sym calm.none))

pub returns-clause-within : goal.returns-clause-within
returns-clause-within g c = omega (arith, c.span-most.ensures.within, c.rows_of.ensures.within)
