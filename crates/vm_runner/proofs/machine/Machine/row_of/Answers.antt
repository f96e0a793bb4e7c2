use Rattle.std.proofs.Common.{◌≡◌, ◌<◌, ◌+◌, ◌∙◌, List, Some, false, length, arith, ap, sym, subst}
use Rattle.std.specs.Prelude.{slice_get}
use Rattle.base.specs.declared.event.Event.{Event}
use Rattle.machine_semantics.specs.State.{State}
use Rattle.vm_instructions.specs.Silent.{job_of}
use Rattle.vm_stretch.specs.StretchDue.{NoneBefore}
use Rattle.vm_stretch.proofs.Jumping.{slots_are_quiet}
use Rattle.vm_stretch.proofs.StartLawsMoving.{slots_are_due}
use Rattle.vm_releases.proofs.Boards.{cells_count}
use Rattle.vm_releases.proofs.Joining.{threads_count}
use Rattle.vm_releases.specs.Order.{IsOrderOf}
use Rattle.vm_releases.specs.declared.order.StartOrder.{StartOrder}
use Rattle.vm_state.proofs.Waking.{thread_at}
use Rattle.vm_state.specs.Board.{state_of}
use Rattle.vm_runner.specs.declared.machine.Machine.{Machine}
use Rattle.vm_runner.specs.Course.{Course, course}
use Rattle.vm_runner.specs.Dispatching.{Between, GoesOn, IsAgain, Ticks}
use Rattle.vm_runner.specs.Standing.{Stands}
use Rattle.vm_runner.specs.Waits.{is_some_at_queue}
use Rattle.vm_runner.proofs.Again.{inside_of, one_changes}
use Rattle.vm_runner.proofs.Calm.{IsCalm, calm_at, told_after}
use Rattle.vm_runner.proofs.Going.{below}
use Rattle.vm_runner.proofs.Waiting.{come_after, fell_is}
use Rattle.vm_runner.proofs.machine.Machine.row_of.Goals as goal

one_place : {A : Type 0} {i k : A} → Some i ≡ Some k → i ≡ k
one_place is = cc

-- requires: plan, runnable, chosen, some, end, clear

pub index-requires : goal.index-requires
index-requires g c =
    let is = c.requires.1.1.1.0 in
    let m = c.args.self.now in
    let goes = c.goes_by_steps.ensures.steps g.run.image g.run.script c.requires.1.1.0 in
    let there = below (course g.D.Dispatch.behaviour g.run.image g.run.script) goes m.tick c.args.who (state_of m.board) is.state is.chosen in
    omega (arith, there, threads_count m.board.cells.items, m.board.cells.ok.0)

pub take_ticks-ticks-requires : goal.take_ticks-ticks-requires
take_ticks-ticks-requires g c =
    let is = c.requires.1.1.1.0 in
    let m = c.args.self.now in
    let goes = c.goes_by_steps.ensures.steps g.run.image g.run.script c.requires.1.1.0 in
    let short = goes.short in (
      record {
        goes = goes;
        plan = c.requires.1.0;
        board = is.board;
        begun = is.state;
        chosen = is.chosen;
        quiet = slots_are_quiet g.run.image g.run.script m.tick c.args.most m.agenda.done (state_of m.board) m.agenda.slots is.slots c.requires.1.1.1.1.1.1;
        some = c.requires.1.1.1.1.0;
        end = omega (arith, c.requires.1.1.1.1.1.0, short);
      },
      (is.few, (is.slots, c.requires.1.1.1.1.1.1)),
    )

pub index-requires-then-len-lt-MOST : goal.index-requires-then-len-lt-MOST
index-requires-then-len-lt-MOST g c =
    let is = c.requires.1.1.1.0 in
    let m = c.args.self.now in
    let goes = c.goes_by_steps.ensures.steps g.run.image g.run.script c.requires.1.1.0 in
    let there = below (course g.D.Dispatch.behaviour g.run.image g.run.script) goes m.tick c.args.who (state_of m.board) is.state is.chosen in
    let old = m.board.cells.items in
    let new = c.take_ticks-ticks.new.board.cells.items in
    omega (arith, there, threads_count old, cells_count g.run.image old is.board.rooms, cells_count g.run.image new c.take_ticks-ticks.ensures.board.rooms, c.take_ticks-ticks.new.board.cells.ok.0)

pub returns-then-is_as_before-clause-none : goal.returns-then-is_as_before-clause-none
returns-then-is_as_before-clause-none g c goes_on =
    let image = g.run.image in
    let script = g.run.script in
    let all : Course = course g.D.Dispatch.behaviour image script in
    let is = c.requires.1.1.1.0 in
    let m = c.args.self.now in
    let n = c.take_ticks-ticks.result in
    let most = c.args.most in
    let e = c.take_ticks-ticks.ensures in
    let has = e.passed in
    let some = has.some in
    let s' : State = state_of c.take_ticks-ticks.new.board in
    let stays = c.is_as_before.ensures c.if-is_as_before.true in
    let fell = come_after m.fired.items has.fell c.as_slice.result.now c.len-before.result c.len-before.ensures.value (c.as_slice.ensures.value ∙ has.told) in
    let quiet : is_some_at_queue has.fell ≡ false = sym (ap (λ (xs : List Event). is_some_at_queue xs) fell) ∙ stays.apart in
    let still = e.still (ap (λ (xs : List Event). is_some_at_queue xs) (fell_is m.fired.items has.fell c.take_ticks-ticks.new.fired.items has.told) ∙ quiet) in
    let clear : NoneBefore (m.tick + most) c.take_ticks-ticks.new.agenda.slots = subst (λ (ss : _). NoneBefore (m.tick + most) ss) (sym still) c.requires.1.1.1.1.1.1 in
    let m' : Machine g.row.D.Denot = record { tick = m.tick + n; board = c.take_ticks-ticks.new.board; agenda = c.take_ticks-ticks.new.agenda; fired = c.take_ticks-ticks.new.fired; dispatch = m.dispatch } in
    let stands : Stands g.D.Dispatch.behaviour (λ i sc p d. Unit {0}) image script Between m' = record {
      within = omega (arith, e.most, c.requires.1.1.1.1.1.0);
      state = has.state;
      board = e.board;
      due = slots_are_due image script m.tick (m.tick + n) c.take_ticks-ticks.new.agenda.done s' c.take_ticks-ticks.new.agenda.slots e.slots (omega (arith, some)) e.clear;
      done = (let done = is.done in omega (arith, e.done, done));
      order = subst (λ (o : StartOrder). IsOrderOf image o) (sym e.order) is.order;
      knows = tt;
    } in
    let calm : IsCalm all m' = calm_at g.D.Dispatch.behaviour (λ i sc p d. Unit {0}) image script Between m' stands (λ i r at. (let low = clear i r at in omega (arith, low, c.if-ticks-most.true))) in
    calm.none

pub returns-then-is_as_before-clause-goes_on : goal.returns-then-is_as_before-clause-goes_on
returns-then-is_as_before-clause-goes_on g c goes_on =
    let image = g.run.image in
    let script = g.run.script in
    let all : Course = course g.D.Dispatch.behaviour image script in
    let goes = c.goes_by_steps.ensures.steps image script c.requires.1.1.0 in
    let is = c.requires.1.1.1.0 in
    let m = c.args.self.now in
    let n = c.take_ticks-ticks.result in
    let most = c.args.most in
    let e = c.take_ticks-ticks.ensures in
    let has = e.passed in
    let some = has.some in
    let old = m.board.cells.items in
    let new = c.take_ticks-ticks.new.board.cells.items in
    let s' : State = state_of c.take_ticks-ticks.new.board in
    let stays = c.is_as_before.ensures c.if-is_as_before.true in
    let fell = come_after m.fired.items has.fell c.as_slice.result.now c.len-before.result c.len-before.ensures.value (c.as_slice.ensures.value ∙ has.told) in
    let quiet : is_some_at_queue has.fell ≡ false = sym (ap (λ (xs : List Event). is_some_at_queue xs) fell) ∙ stays.apart in
    let still = e.still (ap (λ (xs : List Event). is_some_at_queue xs) (fell_is m.fired.items has.fell c.take_ticks-ticks.new.fired.items has.told) ∙ quiet) in
    let clear : NoneBefore (m.tick + most) c.take_ticks-ticks.new.agenda.slots = subst (λ (ss : _). NoneBefore (m.tick + most) ss) (sym still) c.requires.1.1.1.1.1.1 in
    let m' : Machine g.row.D.Denot = record { tick = m.tick + n; board = c.take_ticks-ticks.new.board; agenda = c.take_ticks-ticks.new.agenda; fired = c.take_ticks-ticks.new.fired; dispatch = m.dispatch } in
    let stands : Stands g.D.Dispatch.behaviour (λ i sc p d. Unit {0}) image script Between m' = record {
      within = omega (arith, e.most, c.requires.1.1.1.1.1.0);
      state = has.state;
      board = e.board;
      due = slots_are_due image script m.tick (m.tick + n) c.take_ticks-ticks.new.agenda.done s' c.take_ticks-ticks.new.agenda.slots e.slots (omega (arith, some)) e.clear;
      done = (let done = is.done in omega (arith, e.done, done));
      order = subst (λ (o : StartOrder). IsOrderOf image o) (sym e.order) is.order;
      knows = tt;
    } in
    let calm : IsCalm all m' = calm_at g.D.Dispatch.behaviour (λ i sc p d. Unit {0}) image script Between m' stands (λ i r at. (let low = clear i r at in omega (arith, low, c.if-ticks-most.true))) in
    let there = goes.chosen m.tick c.args.who is.chosen in
    let place = below all goes m.tick c.args.who (state_of m.board) is.state is.chosen in
    let below_old : c.args.who < length old = omega (arith, place, threads_count old) in
    let below_new : c.args.who < length new = omega (arith, place, threads_count old, cells_count image old is.board.rooms, cells_count image new e.board.rooms) in
    let was = sym (thread_at old c.args.who c.index.result.now below_old c.index.ensures) ∙ ap (λ (x : State). slice_get x.threads c.args.who) is.state ∙ there.ready in
    let here = thread_at new c.args.who c.index-then-len-lt-MOST.result.now below_new c.index-then-len-lt-MOST.ensures ∙ ap (λ (x : _). Some x) stays.ready in
    let count : length s'.threads ≡ length (state_of m.board).threads = threads_count new ∙ cells_count image new e.board.rooms ∙ sym (threads_count old ∙ cells_count image old is.board.rooms) in
    let on : GoesOn all m.tick n c.args.who = record {
      step = has.step;
      chosen = is.chosen;
      calm = calm.still;
      job = there.job;
      ready = there.ready;
      new = job_of c.index-then-len-lt-MOST.result.now.job;
      inside = stays.same ∙ inside_of c.index.result.now.stand c.index.result.now.job there.job (one_place was);
      threads = ap (λ (x : State). x.threads) (sym has.state)
          ∙ one_changes _ s'.threads c.args.who _ _ (count ∙ ap (λ (x : State). length x.threads) is.state) there.ready here (λ j apart. has.alone quiet j (λ so. apart (sym (one_place (sym is.chosen ∙ so)))));
    } in
    let again : IsAgain g.D.Dispatch.behaviour g.D.Dispatch.Knows (record { image = image; script = script; tick = m.tick; count = n }) c.args.who =
    c.goes_by_steps.ensures.again (record { image = image; script = script; tick = m.tick; count = n }) c.args.who c.requires.1.1.0 on in
    record {
      state = calm.state;
      board = e.board;
      chosen = again.chosen;
      slots = calm.slots;
      done = stands.done;
      order = stands.order;
      few = omega (arith, c.len.ensures.value, c.if-len-lt-MOST.true);
      knows = again.knows m.dispatch is.knows;
    }

pub returns-then-is_as_before-clause-events : goal.returns-then-is_as_before-clause-events
returns-then-is_as_before-clause-events g c =
    told_after (course g.D.Dispatch.behaviour g.run.image g.run.script) c.args.self.now.tick c.take_ticks-ticks.result (state_of c.take_ticks-ticks.new.board) c.args.self.now.fired.items c.take_ticks-ticks.new.fired.items c.take_ticks-ticks.ensures.passed

pub follow-requires-clause-who : goal.follow-requires-clause-who
follow-requires-clause-who g c =
    let is = c.requires.1.1.1.0 in
    let m = c.args.self.now in
    let goes = c.goes_by_steps.ensures.steps g.run.image g.run.script c.requires.1.1.0 in
    let there = below (course g.D.Dispatch.behaviour g.run.image g.run.script) goes m.tick c.args.who (state_of m.board) is.state is.chosen in
    let old = m.board.cells.items in
    let new = c.take_ticks-ticks.new.board.cells.items in
    omega (arith, there, threads_count old, cells_count g.run.image old is.board.rooms, cells_count g.run.image new c.take_ticks-ticks.ensures.board.rooms, c.take_ticks-ticks.new.board.cells.ok.0)

pub follow-requires-clause-gone : goal.follow-requires-clause-gone
follow-requires-clause-gone g c =
    let is = c.requires.1.1.1.0 in
    let m = c.args.self.now in
    let e = c.take_ticks-ticks.ensures in
    let has = e.passed in
    let fell = come_after m.fired.items has.fell c.as_slice.result.now c.len-before.result c.len-before.ensures.value (c.as_slice.ensures.value ∙ has.told) in (
      record { image = g.run.image; script = g.run.script; tick = m.tick; count = c.take_ticks-ticks.result },
      record {
        plan = c.requires.1.0;
        board = e.board;
        state = has.state;
        knows = is.knows;
        step = has.step;
        alone = λ quiet j apart. has.alone (sym (ap (λ (xs : List Event). is_some_at_queue xs) fell) ∙ quiet) j (λ so. apart (sym (one_place (sym is.chosen ∙ so))));
      },
    )

pub returns-clause-stands : goal.returns-clause-stands
returns-clause-stands g c over =
    let image = g.run.image in
    let script = g.run.script in
    let is = c.requires.1.1.1.0 in
    let m = c.args.self.now in
    let n = c.take_ticks-ticks.result in
    let e = c.take_ticks-ticks.ensures in
    let has = e.passed in
    let some = has.some in
    let fell = come_after m.fired.items has.fell c.as_slice.result.now c.len-before.result c.len-before.ensures.value (c.as_slice.ensures.value ∙ has.told) in
    let run : Ticks = record { image = image; script = script; tick = m.tick; count = n } in
    record {
      within = omega (arith, e.most, c.requires.1.1.1.1.1.0);
      state = has.state;
      board = e.board;
      due = slots_are_due image script m.tick (m.tick + n) c.take_ticks-ticks.new.agenda.done (state_of c.take_ticks-ticks.new.board) c.take_ticks-ticks.new.agenda.slots e.slots (omega (arith, some)) e.clear;
      done = (let done = is.done in omega (arith, e.done, done));
      order = subst (λ (o : StartOrder). IsOrderOf image o) (sym e.order) is.order;
      knows = c.follow.ensures run (record {
        plan = c.requires.1.0;
        board = e.board;
        state = has.state;
        knows = is.knows;
        step = has.step;
        alone = λ quiet j apart. has.alone (sym (ap (λ (xs : List Event). is_some_at_queue xs) fell) ∙ quiet) j (λ so. apart (sym (one_place (sym is.chosen ∙ so))));
      }) c.requires.1.1.0;
    }

pub returns-clause-events : goal.returns-clause-events
returns-clause-events g c =
    told_after (course g.D.Dispatch.behaviour g.run.image g.run.script) c.args.self.now.tick c.take_ticks-ticks.result (state_of c.take_ticks-ticks.new.board) c.args.self.now.fired.items c.take_ticks-ticks.new.fired.items c.take_ticks-ticks.ensures.passed
