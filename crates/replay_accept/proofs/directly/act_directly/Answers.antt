use Rattle.std.proofs.Common.{◌∙◌, ap, refl}
use Rattle.source_semantics.specs.Config.{inside, vars_of}
use Rattle.replay_state.specs.View.{config_of}
use Rattle.replay_accept.specs.Directly.{config_after}
use Rattle.replay_accept.proofs.Directing.{accepted, not_both, refused}
use Rattle.replay_accept.proofs.directly.act_directly.Goals as goal

pub returns-then-is_told_directly : goal.returns-then-is_told_directly
returns-then-is_told_directly c = λ g s o a is.
    let old = config_of c.args.config.now in
    let e = c.args.event.now in
    accepted g s old e c.args.action o a is (config_of c.do_directly.new.config)
    ((c.is_told_directly.ensures g s old e.tick e.proc is.1 _).0 c.if-is_told_directly.true)
    (c.do_directly.ensures ∙ ap (λ k. config_after e.tick k c.args.action old) c.from.ensures)

pub returns-else-is_told_directly : goal.returns-else-is_told_directly
returns-else-is_told_directly c = λ g s o a is.
    let old = config_of c.args.config.now in
    let e = c.args.event.now in
    let told = c.is_told_directly.ensures g s old e.tick e.proc is.1 (vars_of old (inside old e.proc)) in
    (refused g s old e c.args.action o a is (λ h. not_both c.is_told_directly.result (told.1 h) c.if-is_told_directly.false), refl)
