use Rattle.std.proofs.Common.{ap, ◌∙◌}
use Rattle.circular_buffer.specs.Buffer.{Buffer}
use Rattle.base.specs.declared.event.Event.{Event}
use Rattle.vm_releases.specs.Begin.{script_of}
use Rattle.vm_watch.proofs.Ring.{none_recent}
use Rattle.vm_watch.proofs.course.Course.new.Goals as goal

pub returns-clause-follows : goal.returns-clause-follows
returns-clause-follows g c = record {
  stands = c.in_ok-machine.ensures.stands;
  recent_are = ap (λ (b : Buffer Event). b.items) c.in_ok-recent.ensures ∙ none_recent g.image (script_of c.args.script.now) c.in_ok-machine.machine.tick c.in_ok-machine.ensures.start;
  room = ap (λ (b : Buffer Event). b.capacity) c.in_ok-recent.ensures;
}
