use Rattle.std.proofs.Common.{◌≡◌, List, subst, ◌∙◌}
use Rattle.script.specs.declared.script.ScriptLine.{ScriptLine}
use Rattle.vm_releases.specs.Begin.{AreFirst, lines_of, script_of}
use Rattle.vm_releases.proofs.Firsts.{firsts_due}
use Rattle.vm_releases.proofs.Joining.{has_frames}
use Rattle.vm_releases.proofs.timers.Timers.new.Goals as goal

pub returns-clause-due : goal.returns-clause-due
returns-clause-due g c =
    let same : c.as_slice.result.now ≡ c.args.script.now.lines = c.as_slice.ensures ∙ c.lines.ensures in
    firsts_due g.image (script_of c.args.script.now) c.in_ok-slots.slots (λ k p at kind. has_frames g.image.processes c.args.plan.now.processes.items k p c.requires.0.processes at kind) c.requires.1.1
    (subst (λ (xs : List ScriptLine). AreFirst g.image (lines_of xs) c.in_ok-slots.slots) same c.in_ok-slots.ensures)
