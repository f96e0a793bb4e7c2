use Rattle.std.proofs.Common.{◌≡◌, ℕ, suc, add-one, subst, sym}
use Rattle.replay_state.specs.View.{config_of}
use Rattle.replay_script.specs.Cursors.{script_in}
use Rattle.replay_accept.specs.Running.{program_of}
use Rattle.replay_reason_spec.specs.Events.{events_of}
use Rattle.replay_reason_spec.specs.Missing.{AreMissing, IsNextStart}
use Rattle.replay_reason_spec.specs.Reasons.{most}
use Rattle.replay_reason.specs.Starting.{start_event}
use Rattle.replay_reason.proofs.Telling.{comes_late, is_held}
use Rattle.replay_reason.proofs.reason.reason_of_due.Goals as goal

pub returns-then-is_same : goal.returns-then-is_same
returns-then-is_same c =
    let g = program_of c.args.rules.now in
    let s = script_in c.args.script.now in
    let k = config_of c.args.config.now in
    let e = c.args.event.now in
    let same : e ≡ start_event c.args.due = c.is_same.ensures.same c.if-is_same.true in
    (c.from.ensures, is_held g s k e c.requires.reach c.requires.stops (subst (IsNextStart g s k (suc e.tick)) (sym same) c.requires.next))

pub returns-in_ok-missing : goal.returns-in_ok-missing
returns-in_ok-missing c =
    let g = program_of c.args.rules.now in
    let s = script_in c.args.script.now in
    let k = config_of c.args.config.now in
    let e = c.args.event.now in
    let missing = events_of c.in_ok-missing.missing.items in
    comes_late g s k e c.requires.reach c.requires.stops (start_event c.args.due) missing c.requires.next
    (λ same. c.is_same.ensures.other c.if-is_same.false same k)
    (subst (λ (n : ℕ). AreMissing g s n most k missing) (add-one e.tick) c.in_ok-missing.ensures)
