use Rattle.std.proofs.Common.{◌≡◌, ◌+◌, ℕ, Some, None, arith, ap, sym, ◌∙◌, true, false, get_or, Option}
use Rattle.std.specs.Prelude.{slice_set}
use Rattle.std.proofs.lemmas.Option.{slice_get-get_or}
use Rattle.base.proofs.Lists.{some_at}
use Rattle.machine_semantics.specs.Starts.{Started, is_periodic_due}
use Rattle.vm_state.specs.Board.{state_of}
use Rattle.vm_releases.specs.Begin.{clock_at, release_at}
use Rattle.vm_releases.proofs.Boards.{as_many, planned}
use Rattle.vm_releases.proofs.Clocking.{clock_releases, clock_rests, event_rests, frame_is, rest_is_moved, set_is_moved}
use Rattle.vm_releases.proofs.Saying.{none_started, started_same}
use Rattle.vm_releases.proofs.clock.clock.Goals as goal

pub index-requires : goal.index-requires
index-requires g c = omega (arith, as_many g.image.processes c.args.plan.now.processes.items c.requires.0.processes, c.args.plan.now.processes.ok.0)

pub returns-then-not-is_due-clause-started : goal.returns-then-not-is_due-clause-started
returns-then-not-is_due-clause-started g c =
    let w = some_at g.image.processes c.args.place c.requires.1.1.0 in
    let slot = slice_get-get_or c.args.slots.now c.args.place None (omega (arith, c.requires.1.1.0, c.requires.1.1.1.0)) in
    let rests : is_periodic_due c.args.tick w.0 ≡ false = (c.requires.1.1.1.1.0 w.0 (get_or c.args.slots.now c.args.place None) w.1 slot).1 (c.is_due.ensures.no c.if-not-is_due.true) in
    none_started (clock_at g.image c.args.tick c.args.place) (state_of c.args.board.now) c.args.fired.now.items (clock_rests g.image c.args.tick c.args.place w.0 (state_of c.args.board.now) w.1 rests)

pub returns-then-not-is_due-clause-moved : goal.returns-then-not-is_due-clause-moved
returns-then-not-is_due-clause-moved g c =
    rest_is_moved g.image c.args.tick c.args.place c.args.slots.now (get_or c.args.slots.now c.args.place None)
    (slice_get-get_or c.args.slots.now c.args.place None (omega (arith, c.requires.1.1.0, c.requires.1.1.1.0))) (c.is_due.ensures.no c.if-not-is_due.true)

pub release-requires : goal.release-requires
release-requires g c =
    let p = planned g.image.processes c.args.plan.now.processes.items c.args.place c.index.result.now c.requires.0.processes c.requires.1.1.0 c.index.ensures in
    let slot = slice_get-get_or c.args.slots.now c.args.place None (omega (arith, c.requires.1.1.0, c.requires.1.1.1.0)) in
    let due : is_periodic_due c.args.tick p.whole ≡ true = (c.requires.1.1.1.1.0 p.whole (get_or c.args.slots.now c.args.place None) p.there slot).0 (c.is_due.ensures.yes c.if-not-is_due.false) in
    let same = clock_releases g.image c.args.tick c.args.place p.whole (state_of c.args.board.now) p.there due in
    (c.requires.0, (c.requires.1.0, (c.requires.1.1.0, (sym (ap (λ (a : Started). a.overrun) same) ∙ c.requires.1.1.1.1.1.1.0, c.requires.1.1.1.1.1.1.1))))

pub overflow_add-tick : goal.overflow_add-tick
overflow_add-tick g c =
    let p = planned g.image.processes c.args.plan.now.processes.items c.args.place c.index.result.now c.requires.0.processes c.requires.1.1.0 c.index.ensures in
    let is = frame_is c.args.tick c.in-Periodic.first c.in-Periodic.frame p.whole c.index.result.now.release p.is.release c.in-Periodic.is in
    let fits = c.requires.1.1.1.1.1.0 c.args.place p.whole p.there is.0 in
    omega (arith, fits, is.1)

pub returns-in-Periodic-clause-started : goal.returns-in-Periodic-clause-started
returns-in-Periodic-clause-started g c =
    let p = planned g.image.processes c.args.plan.now.processes.items c.args.place c.index.result.now c.requires.0.processes c.requires.1.1.0 c.index.ensures in
    let slot = slice_get-get_or c.args.slots.now c.args.place None (omega (arith, c.requires.1.1.0, c.requires.1.1.1.0)) in
    let due : is_periodic_due c.args.tick p.whole ≡ true = (c.requires.1.1.1.1.0 p.whole (get_or c.args.slots.now c.args.place None) p.there slot).0 (c.is_due.ensures.yes c.if-not-is_due.false) in
    started_same (release_at g.image c.args.tick c.args.place) (clock_at g.image c.args.tick c.args.place) (state_of c.args.board.now) _ c.args.fired.now.items _
    (sym (clock_releases g.image c.args.tick c.args.place p.whole (state_of c.args.board.now) p.there due)) c.release.ensures.started

pub returns-in-Periodic-clause-moved : goal.returns-in-Periodic-clause-moved
returns-in-Periodic-clause-moved g c =
    let p = planned g.image.processes c.args.plan.now.processes.items c.args.place c.index.result.now c.requires.0.processes c.requires.1.1.0 c.index.ensures in
    let slot = slice_get-get_or c.args.slots.now c.args.place None (omega (arith, c.requires.1.1.0, c.requires.1.1.1.0)) in
    let is = frame_is c.args.tick c.in-Periodic.first c.in-Periodic.frame p.whole c.index.result.now.release p.is.release c.in-Periodic.is in
    set_is_moved g.image c.args.tick c.args.place p.whole c.args.slots.now c.set.new.self p.there (slot ∙ ap (λ (o : Option ℕ). Some o) (c.is_due.ensures.yes c.if-not-is_due.false))
    (c.set.ensures ∙ ap (λ (n : ℕ). slice_set c.args.slots.now c.args.place (Some (c.args.tick + n))) (sym is.1))

pub returns-in_default-clause-started : goal.returns-in_default-clause-started
returns-in_default-clause-started g c =
    let p = planned g.image.processes c.args.plan.now.processes.items c.args.place c.index.result.now c.requires.0.processes c.requires.1.1.0 c.index.ensures in
    let slot = slice_get-get_or c.args.slots.now c.args.place None (omega (arith, c.requires.1.1.0, c.requires.1.1.1.0)) in
    let due : is_periodic_due c.args.tick p.whole ≡ true = (c.requires.1.1.1.1.0 p.whole (get_or c.args.slots.now c.args.place None) p.there slot).0 (c.is_due.ensures.yes c.if-not-is_due.false) in
    absurd (event_rests c.args.tick c.in_default.field-0 p.whole c.index.result.now.release p.is.release c.in_default.is due)

pub returns-in_default-clause-moved : goal.returns-in_default-clause-moved
returns-in_default-clause-moved g c =
    let p = planned g.image.processes c.args.plan.now.processes.items c.args.place c.index.result.now c.requires.0.processes c.requires.1.1.0 c.index.ensures in
    let slot = slice_get-get_or c.args.slots.now c.args.place None (omega (arith, c.requires.1.1.0, c.requires.1.1.1.0)) in
    let due : is_periodic_due c.args.tick p.whole ≡ true = (c.requires.1.1.1.1.0 p.whole (get_or c.args.slots.now c.args.place None) p.there slot).0 (c.is_due.ensures.yes c.if-not-is_due.false) in
    absurd (event_rests c.args.tick c.in_default.field-0 p.whole c.index.result.now.release p.is.release c.in_default.is due)
