use Rattle.std.proofs.Common.{◌∙◌, ap}
use Rattle.source_semantics.specs.Run as run
use Rattle.replay_state.specs.View.{home_of, vars_of}
use Rattle.replay_calls.specs.Reach.{memory_of, site_of}
use Rattle.replay_next.specs.Driving.{callers_run, others_of, rest_of, then_items}
use Rattle.replay_next.proofs.driving.procedure_over.Goals as goal

pub returns-clause-run : goal.returns-clause-run
returns-clause-run c =
    let s = c.args.scope.now in
    let p = c.args.running.now in
    let f = c.args.caller in
    let m = memory_of c.args.memory.now in
    let site = site_of s f.home f.depth in
    ap (λ (r : run.Run). callers_run s p.callers.items (others_of p.kept c.args.memory.now) (then_items site (rest_of f.rest.items) r))
    (c.in_ok-back.ensures m ∙ c.without_value.ensures (home_of f.callee) (vars_of f.own.items) m)
