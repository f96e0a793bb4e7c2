use Rattle.std.proofs.Common.{◌≡◌, ◌+◌, ◌*◌, ℕ, Option, arith, ap, ◌∙◌, length}
use Rattle.std.specs.Prelude.{slice_set}
use Rattle.vm_releases.specs.Begin.{lines_of}
use Rattle.vm_releases.proofs.Boards.{as_many, planned}
use Rattle.vm_releases.proofs.Clocking.{event_is}
use Rattle.vm_releases.proofs.Firsts.{first_is, firsts_all, firsts_none, firsts_set, firsts_skip}
use Rattle.vm_releases.proofs.timers.first_slots.Goals as goal

pub new-requires-clause-few : goal.new-requires-clause-few
new-requires-clause-few g c = omega (arith, as_many g.image.processes c.args.plan.now.processes.items c.requires.processes, c.requires.few, c.len-count.ensures, c.args.plan.now.processes.ok.0)

pub loop-place-init : goal.loop-place-init
loop-place-init g c =
    let many = as_many g.image.processes c.args.plan.now.processes.items c.requires.processes in
    firsts_none g.image (2 * c.len-count.result + 1) c.in_ok-slots.slots (omega (arith, many, c.len-count.ensures, c.args.plan.now.processes.ok.0)) c.in_ok-slots.ensures

pub loop-place-preserved-in_default : goal.loop-place-preserved-in_default
loop-place-preserved-in_default g c =
    let many = as_many g.image.processes c.args.plan.now.processes.items c.requires.processes in
    let p = planned g.image.processes c.args.plan.now.processes.items c.loop-place.place c.index.result.now c.requires.processes (omega (arith, many, c.len-count.ensures, c.args.plan.now.processes.ok.0)) c.index.ensures in
    firsts_skip g.image c.loop-place.place p.whole c.loop-place.slots c.loop-place.invariant p.there (event_is c.in_default.field-0 p.whole c.index.result.now.release p.is.release c.in_default.is).0

pub set-requires : goal.set-requires
set-requires g c =
    omega (arith, c.loop-place.invariant.count, as_many g.image.processes c.args.plan.now.processes.items c.requires.processes, c.len-count.ensures, c.args.plan.now.processes.ok.0)

pub loop-place-preserved : goal.loop-place-preserved
loop-place-preserved g c =
    let many = as_many g.image.processes c.args.plan.now.processes.items c.requires.processes in
    let p = planned g.image.processes c.args.plan.now.processes.items c.loop-place.place c.index.result.now c.requires.processes (omega (arith, many, c.len-count.ensures, c.args.plan.now.processes.ok.0)) c.index.ensures in
    let is = first_is c.in-Periodic.first c.in-Periodic.frame p.whole c.index.result.now.release p.is.release c.in-Periodic.is in
    firsts_set g.image c.loop-place.place c.in-Periodic.first p.whole c.loop-place.slots c.set.new.self c.loop-place.invariant p.there is.0 is.1 c.set.ensures

pub set-requires-2 : goal.set-requires-2
set-requires-2 g c =
    omega (arith, c.loop-place.invariant.count, as_many g.image.processes c.args.plan.now.processes.items c.requires.processes, c.len-count.ensures, c.args.plan.now.processes.ok.0)

pub returns : goal.returns
returns g c =
    let many = as_many g.image.processes c.args.plan.now.processes.items c.requires.processes in
    let count : c.len-count.result ≡ length g.image.processes = omega (arith, many, c.len-count.ensures, c.args.plan.now.processes.ok.0) in
    firsts_all g.image (lines_of c.args.lines.now) c.loop-place.place c.loop-place.slots c.set-2.new.self c.loop-place.invariant (omega (arith, count))
    (c.set-2.ensures ∙ ap (λ (k : ℕ). slice_set c.loop-place.slots (2 * k) c.next_line.result) count
    ∙ ap (λ (o : Option ℕ). slice_set c.loop-place.slots (2 * length g.image.processes) o) c.next_line.ensures)
