use Rattle.std.proofs.Common.{◌≡◌, ◌≤◌, ◌<◌, ◌-◌, ◌++◌, List, true, false}
use Rattle.base.specs.declared.event.Event.{Event}
use Rattle.vm_stretch.specs.StretchDue.{NoneBefore}
use Rattle.vm_runner.specs.Course.{AreTold, course, events_between, started}
use Rattle.vm_runner.specs.Dispatching.{Between}
use Rattle.vm_runner.specs.Standing.{HasChosen, Stands}
use Rattle.vm_runner.proofs.machine.Machine.rows_of.Given as goal

abbrev pub ghost-row_of : goal.ghost-row_of
ghost-row_of g a = g.run

abbrev pub invariant-loop-goes_on : goal.invariant-loop-goes_on
invariant-loop-goes_on g l = record {
  goes : l.goes_on ≡ true → HasChosen g.D.Dispatch.behaviour g.D.Dispatch.Knows g.run.image g.run.script l.who l.self;
  before : l.goes_on ≡ true → l.self.tick < l.limit;
  clear : l.goes_on ≡ true → NoneBefore l.limit l.self.agenda.slots;
  told_so_far : l.goes_on ≡ true → (front : List Event) → l.fn.self.fired.items ≡ front ++ started (course g.D.Dispatch.behaviour g.run.image g.run.script) l.fn.self.tick
      → l.self.fired.items ≡ (front ++ events_between (course g.D.Dispatch.behaviour g.run.image g.run.script) l.fn.self.tick l.self.tick) ++ started (course g.D.Dispatch.behaviour g.run.image g.run.script) l.self.tick;
  within : l.self.tick ≤ l.limit;
  since : l.fn.self.tick ≤ l.self.tick;
  stands : l.goes_on ≡ false → Stands g.D.Dispatch.behaviour g.D.Dispatch.Knows g.run.image g.run.script Between l.self;
  passed : l.goes_on ≡ false → l.fn.self.tick < l.self.tick;
  told : l.goes_on ≡ false → AreTold (course g.D.Dispatch.behaviour g.run.image g.run.script) l.fn.self.tick l.self.tick l.fn.self.fired.items l.self.fired.items;
}

abbrev pub decreases-loop-goes_on : goal.decreases-loop-goes_on
decreases-loop-goes_on g l = l.limit - l.self.tick
