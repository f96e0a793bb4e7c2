use Rattle.std.proofs.Common.{◌≡◌, ◌+◌, ◌∙◌, ℕ, Option, None, Some, arith, ap, refl, sym, subst}
use Rattle.machine_semantics.specs.State.{State, Thread}
use Rattle.machine_semantics.specs.Tick.{pick}
use Rattle.vm_stretch.proofs.Jumping.{slots_are_quiet}
use Rattle.vm_stretch.proofs.StartLawsMoving.{slots_are_due}
use Rattle.vm_stretch.specs.RowLaws.{begun}
use Rattle.vm_stretch.specs.Stretch.{place_of}
use Rattle.vm_stretch.specs.StretchDue.{HasSlots}
use Rattle.vm_releases.proofs.Boards.{as_many, cells_count}
use Rattle.vm_releases.proofs.Joining.{threads_count}
use Rattle.vm_releases.specs.Order.{IsOrderOf}
use Rattle.vm_releases.specs.declared.order.StartOrder.{StartOrder}
use Rattle.vm_state.specs.Board.{state_of}
use Rattle.vm_runner.specs.ByRanks.{by_ranks}
use Rattle.vm_runner.specs.Ends.{lasts, lasts_picked}
use Rattle.vm_runner.specs.Completing.{completed_within, completed_within_by, completed_within_picked}
use Rattle.vm_runner.proofs.ByRanks.{goes_by_steps}
use Rattle.vm_runner.proofs.Calm.{told}
use Rattle.vm_runner.proofs.Ending.{turn_end}
use Rattle.vm_runner.proofs.Going.{idle_passes}
use Rattle.vm_runner.proofs.Passing.{IsReady, is_ready}
use Rattle.vm_runner.proofs.Telling.{is_whole, turn_completes, turn_completes_alone, turn_stays_alike}
use Rattle.vm_runner.proofs.advance.Machine+Ranking.finish_turn.Goals as goal

-- requires: plan, runnable, begun, limit, before

pub choose-requires : goal.choose-requires
choose-requires g c =
    omega (arith, as_many g.run.image.processes c.args.plan.now.processes.items c.requires.0.processes, cells_count g.run.image c.args.self.now.board.cells.items c.requires.1.1.0.board.rooms, c.args.plan.now.processes.ok.0, c.args.self.now.board.cells.ok.0)

pub span-most-requires-clause-later : goal.span-most-requires-clause-later
span-most-requires-clause-later g c = c.requires.1.1.0.later

pub completed_of-completed-requires-clause-place : goal.completed_of-completed-requires-clause-place
completed_of-completed-requires-clause-place g c =
    let m = c.args.self.now in
    let r = is_ready g.run.image (state_of m.board) c.in-Some.who (sym (c.in-Some.ensures g.run.image c.requires.0 c.requires.1.1.0.board)) in
    omega (arith, r.below, threads_count m.board.cells.items, m.board.cells.ok.0)

pub take_ticks-requires : goal.take_ticks-requires
take_ticks-requires g c =
    let image = g.run.image in
    let script = g.run.script in
    let m = c.args.self.now in
    let b = c.requires.1.1.0 in
    let span = c.span-most.ensures in
    let runs = c.requires.1.0 in
    let short = runs.short in (
      record {
        goes = goes_by_steps image script runs;
        plan = c.requires.0;
        board = b.board;
        begun = b.state;
        chosen = ap (λ (s : State). place_of (pick image s.threads)) (sym b.state) ∙ sym (c.in-Some.ensures image c.requires.0 b.board);
        quiet = slots_are_quiet image script m.tick c.span-most.result m.agenda.done (state_of m.board) m.agenda.slots b.slots span.clear;
        some = span.some;
        end = omega (arith, span.within, c.requires.1.1.1.0, short);
      },
      (b.few, (b.slots, span.clear)),
    )

pub returns-in_default-clause-stands : goal.returns-in_default-clause-stands
returns-in_default-clause-stands g c =
    let image = g.run.image in
    let script = g.run.script in
    let m = c.args.self.now in
    let s = state_of m.board in
    let n = c.span-most.result in
    let b = c.requires.1.1.0 in
    let span = c.span-most.ensures in
    let none : c.choose.result ≡ None = cc in
    let at : place_of (pick image (begun image script m.tick).threads) ≡ None = ap (λ (x : State). place_of (pick image x.threads)) (sym b.state) ∙ sym (c.choose.ensures image c.requires.0 b.board) ∙ none in
    let quiet = slots_are_quiet image script m.tick n m.agenda.done s m.agenda.slots b.slots span.clear in
    let passed = idle_passes (by_ranks image script) (goes_by_steps image script c.requires.1.0) m.tick n s m.fired.items b.state at span.some quiet in
    record {
      within = omega (arith, span.within, c.requires.1.1.1.0);
      state = passed.state;
      board = b.board;
      due = slots_are_due image script m.tick (m.tick + n) m.agenda.done s m.agenda.slots b.slots (omega (arith, span.some)) span.clear;
      done = b.done;
      order = b.order;
      knows = tt;
    }

pub returns-in_default-clause-events : goal.returns-in_default-clause-events
returns-in_default-clause-events g c =
    let image = g.run.image in
    let script = g.run.script in
    let m = c.args.self.now in
    let s = state_of m.board in
    let n = c.span-most.result in
    let b = c.requires.1.1.0 in
    let span = c.span-most.ensures in
    let none : c.choose.result ≡ None = cc in
    let at : place_of (pick image (begun image script m.tick).threads) ≡ None = ap (λ (x : State). place_of (pick image x.threads)) (sym b.state) ∙ sym (c.choose.ensures image c.requires.0 b.board) ∙ none in
    let quiet = slots_are_quiet image script m.tick n m.agenda.done s m.agenda.slots b.slots span.clear in
    let passed = idle_passes (by_ranks image script) (goes_by_steps image script c.requires.1.0) m.tick n s m.fired.items b.state at span.some quiet in
    told (by_ranks image script) m.tick n s m.fired.items m.fired.items passed b.fell

pub returns-clause-stands : goal.returns-clause-stands
returns-clause-stands g c =
    let image = g.run.image in
    let script = g.run.script in
    let m = c.args.self.now in
    let n = c.take_ticks.result in
    let e = c.take_ticks.ensures in
    let b = c.requires.1.1.0 in
    let some = e.passed.some in
    record {
      within = omega (arith, c.span-most.ensures.within, c.requires.1.1.1.0, e.most);
      state = e.passed.state;
      board = e.board;
      due = slots_are_due image script m.tick (m.tick + n) c.take_ticks.new.agenda.done (state_of c.take_ticks.new.board) c.take_ticks.new.agenda.slots e.slots (omega (arith, some)) e.clear;
      done = (let done = b.done in omega (arith, e.done, done));
      order = subst (λ (o : StartOrder). IsOrderOf image o) (sym e.order) b.order;
      knows = tt;
    }

pub returns-clause-events : goal.returns-clause-events
returns-clause-events g c =
    let m = c.args.self.now in
    told (by_ranks g.run.image g.run.script) m.tick c.take_ticks.result (state_of c.take_ticks.new.board) m.fired.items c.take_ticks.new.fired.items c.take_ticks.ensures.passed c.requires.1.1.0.fell

pub returns-clause-passed : goal.returns-clause-passed
returns-clause-passed g c = let some = c.take_ticks.ensures.passed.some in omega (arith, some)

pub returns-clause-within : goal.returns-clause-within
returns-clause-within g c = omega (arith, c.span-most.ensures.within, c.take_ticks.ensures.most)

-- ---- where it ends, and what it completes

pub returns-in_default-clause-ends : goal.returns-in_default-clause-ends
returns-in_default-clause-ends g c =
    let image = g.run.image in
    let m = c.args.self.now in
    let s = state_of m.board in
    let most = c.span-most.result in
    let b = c.requires.1.1.0 in
    let none : c.choose.result ≡ None = cc in
    let has : HasSlots image g.run.script m.tick m.agenda.done (begun image g.run.script m.tick) m.agenda.slots =
    subst (λ (x : State). HasSlots image g.run.script m.tick m.agenda.done x m.agenda.slots) b.state b.slots in
    turn_end g.run c.args.limit m.tick most most m.agenda.done m.agenda.slots
    (record { safe = c.requires.1.0.safe; has = has; clear = c.span-most.ensures.clear; reach = c.span-most.ensures.reach; within = c.span-most.ensures.within; some = c.span-most.ensures.some; n_most = omega arith })
    (ap (λ (o : Option ℕ). lasts_picked image s most o) (sym none ∙ c.choose.ensures image c.requires.0 b.board) ∙ ap (λ (x : State). lasts image x most) b.state)

pub returns-clause-ends : goal.returns-clause-ends
returns-clause-ends g c =
    let image = g.run.image in
    let m = c.args.self.now in
    let s = state_of m.board in
    let most = c.span-most.result in
    let b = c.requires.1.1.0 in
    let e = c.take_ticks.ensures in
    let has : HasSlots image g.run.script m.tick m.agenda.done (begun image g.run.script m.tick) m.agenda.slots =
    subst (λ (x : State). HasSlots image g.run.script m.tick m.agenda.done x m.agenda.slots) b.state b.slots in
    turn_end g.run c.args.limit m.tick most c.take_ticks.result m.agenda.done m.agenda.slots
    (record { safe = c.requires.1.0.safe; has = has; clear = c.span-most.ensures.clear; reach = c.span-most.ensures.reach; within = c.span-most.ensures.within; some = e.passed.some; n_most = e.most })
    (e.lasts refl ∙ ap (λ (o : Option ℕ). lasts_picked image s most o) (c.in-Some.ensures image c.requires.0 b.board) ∙ ap (λ (x : State). lasts image x most) b.state)

pub returns-in_default-clause-last : goal.returns-in_default-clause-last
returns-in_default-clause-last g c =
    let image = g.run.image in
    let m = c.args.self.now in
    let s = state_of m.board in
    let most = c.span-most.result in
    let b = c.requires.1.1.0 in
    let none : c.choose.result ≡ None = cc in
    let has : HasSlots image g.run.script m.tick m.agenda.done (begun image g.run.script m.tick) m.agenda.slots =
    subst (λ (x : State). HasSlots image g.run.script m.tick m.agenda.done x m.agenda.slots) b.state b.slots in
    let whole = is_whole g.run m.tick most most m.agenda.done m.agenda.slots c.requires.1.0.safe has c.span-most.ensures.clear c.span-most.ensures.some (omega arith)
    (ap (λ (o : Option ℕ). lasts_picked image s most o) (sym none ∙ c.choose.ensures image c.requires.0 b.board) ∙ ap (λ (x : State). lasts image x most) b.state) in
    ap (λ (o : Option ℕ). completed_within_picked image most s o) (sym none ∙ c.choose.ensures image c.requires.0 b.board)
    ∙ ap (λ (x : State). completed_within image most x) b.state
    ∙ sym (turn_completes g.run m.tick most most whole)

pub returns-clause-last : goal.returns-clause-last
returns-clause-last g c =
    let image = g.run.image in
    let m = c.args.self.now in
    let s = state_of m.board in
    let most = c.span-most.result in
    let b = c.requires.1.1.0 in
    let e = c.take_ticks.ensures in
    let picked : Some c.in-Some.who ≡ place_of (pick image s.threads) = c.in-Some.ensures image c.requires.0 b.board in
    let r : IsReady image s c.in-Some.who = is_ready image s c.in-Some.who (sym picked) in
    let has : HasSlots image g.run.script m.tick m.agenda.done (begun image g.run.script m.tick) m.agenda.slots =
    subst (λ (x : State). HasSlots image g.run.script m.tick m.agenda.done x m.agenda.slots) b.state b.slots in
    let whole = is_whole g.run m.tick c.take_ticks.result most m.agenda.done m.agenda.slots c.requires.1.0.safe has c.span-most.ensures.clear e.passed.some e.most
    (e.lasts refl ∙ ap (λ (o : Option ℕ). lasts_picked image s most o) picked ∙ ap (λ (x : State). lasts image x most) b.state) in
    c.completed_of-completed.ensures image r.job c.requires.0.code.code_is r.ready
    ∙ sym (ap (λ (o : Option Thread). completed_within_by image most c.in-Some.who o) r.ready)
    ∙ ap (λ (o : Option ℕ). completed_within_picked image most s o) picked
    ∙ ap (λ (x : State). completed_within image most x) b.state
    ∙ sym (turn_completes g.run m.tick c.take_ticks.result most whole)

pub returns-in_default-clause-sole : goal.returns-in_default-clause-sole
returns-in_default-clause-sole g c =
    let image = g.run.image in
    let m = c.args.self.now in
    let s = state_of m.board in
    let most = c.span-most.result in
    let b = c.requires.1.1.0 in
    let none : c.choose.result ≡ None = cc in
    let has : HasSlots image g.run.script m.tick m.agenda.done (begun image g.run.script m.tick) m.agenda.slots =
    subst (λ (x : State). HasSlots image g.run.script m.tick m.agenda.done x m.agenda.slots) b.state b.slots in
    turn_completes_alone g.run m.tick most most
    (is_whole g.run m.tick most most m.agenda.done m.agenda.slots c.requires.1.0.safe has c.span-most.ensures.clear c.span-most.ensures.some (omega arith)
    (ap (λ (o : Option ℕ). lasts_picked image s most o) (sym none ∙ c.choose.ensures image c.requires.0 b.board) ∙ ap (λ (x : State). lasts image x most) b.state))

pub returns-clause-sole : goal.returns-clause-sole
returns-clause-sole g c =
    let image = g.run.image in
    let m = c.args.self.now in
    let s = state_of m.board in
    let most = c.span-most.result in
    let b = c.requires.1.1.0 in
    let e = c.take_ticks.ensures in
    let has : HasSlots image g.run.script m.tick m.agenda.done (begun image g.run.script m.tick) m.agenda.slots =
    subst (λ (x : State). HasSlots image g.run.script m.tick m.agenda.done x m.agenda.slots) b.state b.slots in
    turn_completes_alone g.run m.tick c.take_ticks.result most
    (is_whole g.run m.tick c.take_ticks.result most m.agenda.done m.agenda.slots c.requires.1.0.safe has c.span-most.ensures.clear e.passed.some e.most
    (e.lasts refl ∙ ap (λ (o : Option ℕ). lasts_picked image s most o) (c.in-Some.ensures image c.requires.0 b.board) ∙ ap (λ (x : State). lasts image x most) b.state))

pub returns-in_default-clause-alike : goal.returns-in_default-clause-alike
returns-in_default-clause-alike g c =
    let image = g.run.image in
    let m = c.args.self.now in
    let s = state_of m.board in
    let most = c.span-most.result in
    let b = c.requires.1.1.0 in
    let none : c.choose.result ≡ None = cc in
    let has : HasSlots image g.run.script m.tick m.agenda.done (begun image g.run.script m.tick) m.agenda.slots =
    subst (λ (x : State). HasSlots image g.run.script m.tick m.agenda.done x m.agenda.slots) b.state b.slots in
    turn_stays_alike g.run m.tick most most
    (is_whole g.run m.tick most most m.agenda.done m.agenda.slots c.requires.1.0.safe has c.span-most.ensures.clear c.span-most.ensures.some (omega arith)
    (ap (λ (o : Option ℕ). lasts_picked image s most o) (sym none ∙ c.choose.ensures image c.requires.0 b.board) ∙ ap (λ (x : State). lasts image x most) b.state))

pub returns-clause-alike : goal.returns-clause-alike
returns-clause-alike g c =
    let image = g.run.image in
    let m = c.args.self.now in
    let s = state_of m.board in
    let most = c.span-most.result in
    let b = c.requires.1.1.0 in
    let e = c.take_ticks.ensures in
    let has : HasSlots image g.run.script m.tick m.agenda.done (begun image g.run.script m.tick) m.agenda.slots =
    subst (λ (x : State). HasSlots image g.run.script m.tick m.agenda.done x m.agenda.slots) b.state b.slots in
    turn_stays_alike g.run m.tick c.take_ticks.result most
    (is_whole g.run m.tick c.take_ticks.result most m.agenda.done m.agenda.slots c.requires.1.0.safe has c.span-most.ensures.clear e.passed.some e.most
    (e.lasts refl ∙ ap (λ (o : Option ℕ). lasts_picked image s most o) (c.in-Some.ensures image c.requires.0 b.board) ∙ ap (λ (x : State). lasts image x most) b.state))
