use Rattle.std.proofs.Common.{◌≡◌, ◌+◌, ℕ, List, Some, None, Option, arith, ap, sym, subst, ◌∙◌, length, get_or}
use Rattle.std.specs.Prelude.{slice_get, slice_set}
use Rattle.std.proofs.lemmas.Option.{slice_get-get_or}
use Rattle.base.proofs.Lists.{get_other, some_at}
use Rattle.vm_state.specs.Board.{state_of}
use Rattle.vm_stretch.proofs.Waiting.{due_of}
use Rattle.vm_releases.specs.Begin.{expiry_at}
use Rattle.vm_releases.proofs.Boards.{as_many}
use Rattle.vm_releases.proofs.Expiring.{expiry_keeps, expiry_rests, expiry_waits}
use Rattle.vm_releases.proofs.Saying.{none_started}
use Rattle.vm_releases.proofs.clock.expire.Goals as goal

pub is_due-requires : goal.is_due-requires
is_due-requires g c =
    let count = as_many g.image.processes c.args.plan.now.processes.items c.requires.0.processes in
    omega (arith, count, c.args.plan.now.processes.ok.0, c.requires.1.1.0, c.requires.1.1.1.0)

pub time_out-requires : goal.time_out-requires
time_out-requires g c =
    let count = as_many g.image.processes c.args.plan.now.processes.items c.requires.0.processes in
    let same : c.len.result + c.args.place ≡ length g.image.processes + c.args.place = omega (arith, count, c.args.plan.now.processes.ok.0) in
    let slot : slice_get c.args.slots.now (length g.image.processes + c.args.place) ≡ Some (Some c.args.tick) =
    subst (λ (n : ℕ). slice_get c.args.slots.now n ≡ Some (Some c.args.tick)) same
    (slice_get-get_or c.args.slots.now (c.len.result + c.args.place) None (omega (arith, same, c.requires.1.1.0, c.requires.1.1.1.0)) ∙ ap (λ (o : Option ℕ). Some o) (c.is_due.ensures.yes c.if-is_due.true)) in
    (c.requires.0, (c.requires.1.0, (c.requires.1.1.0, (c.requires.1.1.1.1.0, (sym (c.requires.1.1.1.1.1.0 c.args.place (Some c.args.tick) c.requires.1.1.0 slot), c.requires.1.1.1.1.1.1)))))

pub returns-then-is_due-clause-queues : goal.returns-then-is_due-clause-queues
returns-then-is_due-clause-queues g c =
    let w = some_at g.image.processes c.args.place c.requires.1.1.0 in
    expiry_keeps g.image c.args.tick c.args.place (state_of c.args.board.now) (state_of c.time_out.new.board) w.0 w.1 c.time_out.ensures.started.state c.requires.1.1.1.1.0

pub returns-then-is_due-clause-waits : goal.returns-then-is_due-clause-waits
returns-then-is_due-clause-waits g c =
    let w = some_at g.image.processes c.args.place c.requires.1.1.0 in
    let count = as_many g.image.processes c.args.plan.now.processes.items c.requires.0.processes in
    let same : c.len.result + c.args.place ≡ length g.image.processes + c.args.place = omega (arith, count, c.args.plan.now.processes.ok.0) in
    let slot : slice_get c.args.slots.now (length g.image.processes + c.args.place) ≡ Some (Some c.args.tick) =
    subst (λ (n : ℕ). slice_get c.args.slots.now n ≡ Some (Some c.args.tick)) same
    (slice_get-get_or c.args.slots.now (c.len.result + c.args.place) None (omega (arith, same, c.requires.1.1.0, c.requires.1.1.1.0)) ∙ ap (λ (o : Option ℕ). Some o) (c.is_due.ensures.yes c.if-is_due.true)) in
    let due : due_of c.args.place (state_of c.args.board.now) ≡ Some c.args.tick = sym (c.requires.1.1.1.1.1.0 c.args.place (Some c.args.tick) c.requires.1.1.0 slot) in
    expiry_waits g.image c.args.tick (length g.image.processes) c.args.place (state_of c.args.board.now) (state_of c.time_out.new.board) w.0 c.args.slots.now c.set.new.self w.1 c.requires.1.1.0 c.requires.1.1.1.0 c.requires.1.1.1.1.1.0
    c.time_out.ensures.started.state due (c.set.ensures ∙ ap (λ (n : ℕ). slice_set c.args.slots.now n None) same)

pub returns-then-is_due-clause-others : goal.returns-then-is_due-clause-others
returns-then-is_due-clause-others g c =
    let count = as_many g.image.processes c.args.plan.now.processes.items c.requires.0.processes in
    let same : c.len.result + c.args.place ≡ length g.image.processes + c.args.place = omega (arith, count, c.args.plan.now.processes.ok.0) in
    λ k differ. ap (λ (xs : List (Option ℕ)). slice_get xs k) c.set.ensures ∙ get_other c.args.slots.now (c.len.result + c.args.place) k None (λ is. differ (sym is ∙ same))

pub returns-else-is_due-clause-started : goal.returns-else-is_due-clause-started
returns-else-is_due-clause-started g c =
    let w = some_at g.image.processes c.args.place c.requires.1.1.0 in
    let count = as_many g.image.processes c.args.plan.now.processes.items c.requires.0.processes in
    let same : c.len.result + c.args.place ≡ length g.image.processes + c.args.place = omega (arith, count, c.args.plan.now.processes.ok.0) in
    let slot : slice_get c.args.slots.now (length g.image.processes + c.args.place) ≡ Some (get_or c.args.slots.now (c.len.result + c.args.place) None) =
    subst (λ (n : ℕ). slice_get c.args.slots.now n ≡ Some (get_or c.args.slots.now (c.len.result + c.args.place) None)) same
    (slice_get-get_or c.args.slots.now (c.len.result + c.args.place) None (omega (arith, same, c.requires.1.1.0, c.requires.1.1.1.0))) in
    let is = c.requires.1.1.1.1.1.0 c.args.place (get_or c.args.slots.now (c.len.result + c.args.place) None) c.requires.1.1.0 slot in
    none_started (expiry_at g.image c.args.tick c.args.place) (state_of c.args.board.now) c.args.fired.now.items
    (expiry_rests g.image c.args.tick c.args.place (state_of c.args.board.now) w.0 w.1 (λ due. c.is_due.ensures.no c.if-is_due.false (is ∙ due)))
