use Rattle.std.proofs.Common.{◌≡◌, ◌≤◌, ◌∙◌, List, length, arith, ap, sym, subst}
use Rattle.std.specs.Prelude.{All}
use Rattle.base.specs.declared.event.Event.{Event}
use Rattle.vm_watch.specs.Inspect.{HasItsWords}
use Rattle.event_log.specs.InRange.{AreIn}
use Rattle.machine_semantics.specs.Image.{Image, Script}
use Rattle.machine_semantics.specs.Run.{state_at}
use Rattle.vm_runner.specs.Runnable.{IsRunnable}
use Rattle.vm_releases.specs.Begin.{script_of}
use Rattle.command_due.specs.Stops.{IsStop}
use Rattle.command_due.specs.Text.{events_before, recent, stop_text}
use Rattle.vm_watch.specs.Follows.{Follows}
use Rattle.vm_watch.proofs.Running.{is_runnable, recent_lines, same_script}
use Rattle.vm_watch.proofs.Telling.{if_ok}
use Rattle.vm_watch.proofs.watching.watch_by.Goals as goal

pub new-requires : goal.new-requires
new-requires g c =
    (c.requires.1.1.0, subst (λ (x : Image). IsRunnable x (script_of c.args.script.now)) (sym c.requires.0) (is_runnable c.args.image.now c.args.script.now c.requires.1.1.1))

pub run-requires : goal.run-requires
run-requires g c = (
  c.requires.1.1.0,
  (
    subst (λ (x : Image). IsRunnable x (script_of c.args.script.now)) (sym c.requires.0) (is_runnable c.args.image.now c.args.script.now c.requires.1.1.1),
    (c.in_ok-course.ensures.follows, c.in_ok-course.ensures.start),
  ),
)

pub tell-requires : goal.tell-requires
tell-requires g c =
    let n = c.args.image.now in
    let script = script_of c.args.script.now in
    let can = c.requires.1.1.1 in
    let same : g.run.image ≡ n.image = c.requires.0 in
    let course = c.run.new.self in
    let t = course.machine.tick in
    let follows : Follows g.run.image script course = c.run.ensures.follows in
    let words : HasItsWords n.image (state_at n.image g.run.script t) = c.words_are_declared.ensures n.image can.limits can.valid g.run.script t in
    let lines : All (AreIn n.names) (recent (events_before n.image script t)) = recent_lines n c.args.script.now t can follows.stands.within in
    let are : course.recent.items ≡ recent (events_before n.image script t) = follows.recent_are ∙ ap (λ (x : Image). recent (events_before x script t)) same in (
      same,
      (
        c.requires.1.1.0,
        (
          subst (λ (x : Script). Follows g.run.image x course) (sym c.requires.1.0) follows,
          (
            subst (λ (x : Image). HasItsWords x (state_at x g.run.script t)) (sym same) words,
            subst (λ (es : List Event). All (AreIn n.names) es) (sym are) lines,
          ),
        ),
      ),
    )

pub returns : goal.returns
returns g c =
    let n = c.args.image.now in
    let read = c.args.script.now in
    let t = c.run.new.self.machine.tick in
    let script : g.run.script ≡ script_of read = c.requires.1.0 in
    let stop : IsStop n.image (script_of read) c.args.stop t = subst (λ (x : Image). IsStop x (script_of read) c.args.stop t) c.requires.0 c.run.ensures.stop in
    if_ok c.tell.result _ _
    (λ text told. (
      t,
      subst (λ (x : Script). IsStop n.image x c.args.stop t) (sym (same_script read)) stop,
      told ∙ ap (λ (x : Script). stop_text n x t) (script ∙ sym (same_script read)),
    )) c.tell.ensures
