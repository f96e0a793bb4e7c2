use Rattle.std.proofs.Common.{◌∙◌, ap}
use Rattle.source_semantics.specs.Run as run
use Rattle.replay_state.specs.View.{vars_of}
use Rattle.replay_state.specs.declared.call.CallOwner.TheVariants as home_is
use Rattle.replay_calls.specs.Reach.{site_of}
use Rattle.replay_direct.specs.Direct.{memory_beside}
use Rattle.replay_direct.proofs.Known.{of_variable, some_all}
use Rattle.replay_direct.proofs.direct.direct_value.Goals as goal

pub returns-in-Variable : goal.returns-in-Variable
returns-in-Variable c =
    let s = site_of c.args.scope.now home_is.Process c.args.depth in
    let w = c.in-Variable in
    some_all c.named_value.result _ _ (λ value h monitor.
    ap (run.value s (memory_beside (vars_of c.args.process.now) monitor)) (of_variable c.args.expr.now w.place w.name w.is) ∙ h monitor) c.named_value.ensures
