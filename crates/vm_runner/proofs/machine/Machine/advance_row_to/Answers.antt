use Rattle.std.proofs.Common.{◌++◌, List, arith, ap, sym, ◌∙◌}
use Rattle.base.specs.declared.event.Event.{Event}
use Rattle.vm_runner.specs.Course.{Course, course, events_between}
use Rattle.vm_runner.proofs.Cut.{cut_at}
use Rattle.vm_runner.proofs.machine.Machine.advance_row_to.Goals as goal

pub returns-clause-events : goal.returns-clause-events
returns-clause-events g c =
    let all : Course = course g.D.Dispatch.behaviour g.run.image g.run.script in
    let goes = c.goes_by_steps.ensures.steps g.run.image g.run.script c.requires.1.1.1.0 in
    let t = c.args.self.now.tick in
    let u = c.step.new.self.tick in
    let v = c.rows_on.new.self.tick in
    c.rows_on.ensures.events
    ∙ ap (λ (es : List Event). es ++ events_between all u v) c.step.ensures.events
    ∙ sym (cut_at all goes.cut t u v (omega (arith, c.step.ensures.passed)) c.rows_on.ensures.passed)
