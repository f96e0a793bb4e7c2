use Rattle.std.proofs.Common.{◌≡◌, ◌++◌, List, ℕ, codes, decimal, subst, ◌∙◌}
use Rattle.base.specs.declared.event.Event.{Event}
use Rattle.image.specs.declared.names.ImageNames.{ImageNames}
use Rattle.machine_semantics.specs.Run.{state_at}
use Rattle.command_due.specs.Text.{events_before, recent, recent_text, state_text}
use Rattle.vm_watch.proofs.WatchLines.{whole_text}
use Rattle.vm_watch.proofs.Telling.{stop_told}
use Rattle.vm_watch.proofs.watching.tell.Goals as goal

pub returns : goal.returns
returns g c =
    let names : ImageNames = c.args.image.now.names in
    let t = c.args.course.now.machine.tick in
    let last : List Event = c.as_slice.result.now in
    let are : last ≡ recent (events_before g.run.image g.run.script t) = c.as_slice.ensures.value ∙ (c.in_ok-recent.ensures ∙ c.requires.1.1.0.recent_are) in
    stop_told c.args.image.now g.run.image g.run.script t last c.put_recent.new.text c.requires.0 are
    (whole_text (codes "tick ") (decimal t) (codes "\n") (state_text names g.run.image (state_at g.run.image g.run.script t)) (recent_text names last) c.new-text.result c.put_tick.new.text c.put_state.new.text c.put_recent.new.text c.new-text.ensures
    (subst (λ (n : ℕ). c.put_tick.new.text ≡ c.new-text.result ++ (codes "tick " ++ (decimal n ++ codes "\n"))) c.tick.ensures c.in_ok-put_tick.ensures)
    c.in_ok-put_state.ensures (subst (λ (ns : ImageNames). c.put_recent.new.text ≡ c.put_state.new.text ++ recent_text ns last) c.names.ensures c.in_ok-put_recent.ensures))
