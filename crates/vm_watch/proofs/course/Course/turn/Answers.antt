use Rattle.std.proofs.Common.{ℕ, List, ◌++◌, arith, ap, ◌∙◌}
use Rattle.circular_buffer.specs.Buffer.{Buffer, keep_last}
use Rattle.base.specs.declared.event.Event.{Event}
use Rattle.vm_releases.specs.Begin.{script_of}
use Rattle.command_due.specs.Text.{events_before, recent}
use Rattle.vm_watch.proofs.Ring.{recent_later}
use Rattle.vm_watch.proofs.Stopping.{turn_within}
use Rattle.vm_watch.proofs.course.Course.turn.Goals as goal

pub returns-clause-follows : goal.returns-clause-follows
returns-clause-follows g c =
    let script = script_of c.args.script.now in
    let old = c.args.self.now in
    let follows = c.requires.1.1.0 in
    let fell = c.events.result.now in
    let passed = c.follow-completed.ensures.passed in
    record {
      stands = c.follow-completed.ensures.stands;
      recent_are =
          ap (λ (b : Buffer Event). b.items) c.extend_from_slice.ensures
          ∙ (ap (λ (n : ℕ). keep_last n (old.recent.items ++ fell)) follows.room
          ∙ (ap (λ (es : List Event). keep_last 16 (es ++ fell)) follows.recent_are
          ∙ (ap (λ (es : List Event). keep_last 16 (recent (events_before g.image script old.machine.tick) ++ es)) (c.events.ensures ∙ c.follow-completed.ensures.fell)
          ∙ recent_later g.image script old.machine.tick c.follow-completed.new.self.tick (omega (arith, passed)))));
      room = ap (λ (b : Buffer Event). b.capacity) c.extend_from_slice.ensures ∙ follows.room;
    }

pub returns-clause-within : goal.returns-clause-within
returns-clause-within g c = turn_within g.image (script_of c.args.script.now) c.args.limit c.args.self.now.machine.tick c.follow-completed.new.self.tick c.requires.1.1.1.1 c.follow-completed.ensures.ends
