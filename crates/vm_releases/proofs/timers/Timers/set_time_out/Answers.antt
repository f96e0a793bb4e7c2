use Rattle.std.proofs.Common.{◌≡◌, ◌+◌, ℕ, arith, ap, ◌∙◌, length}
use Rattle.std.specs.Prelude.{slice_set}
use Rattle.vm_releases.proofs.Boards.{as_many}
use Rattle.vm_releases.proofs.timers.Timers.set_time_out.Goals as goal

pub set-requires : goal.set-requires
set-requires g c = omega (arith, as_many g.image.processes c.args.plan.now.processes.items c.requires.0.processes, c.args.plan.now.processes.ok.0, c.len.ensures, c.requires.1.0, c.requires.1.1)

pub returns-clause-slots : goal.returns-clause-slots
returns-clause-slots g c =
    let same : c.len.result + c.args.place ≡ length g.image.processes + c.args.place =
    omega (arith, as_many g.image.processes c.args.plan.now.processes.items c.requires.0.processes, c.args.plan.now.processes.ok.0, c.len.ensures) in
    c.set.ensures ∙ ap (λ (n : ℕ). slice_set c.args.self.now.slots n c.args.due) same
