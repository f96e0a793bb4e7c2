use Rattle.std.proofs.Common.{◌≡◌, ◌∙◌, ◌∷◌, ◌++◌, [], ap, cond, Bool, false, List, ℕ}
use Rattle.std.specs.Prelude.{is_ok}
use Rattle.source_semantics.specs.Config.{changed, with_queues}
use Rattle.replay_state.specs.View.{config_of}
use Rattle.replay_accept.proofs.Steps.{on_err, same_changed}
use Rattle.replay_accept.proofs.source_actions.wait.Goals as goal

pub returns-in_err-join-clause-err : goal.returns-in_err-join-clause-err
returns-in_err-join-clause-err c =
    let old = config_of c.args.config.now in
    let k = c.args.process in
    let x = c.args.on.condition in
    let no : is_ok c.join.result ≡ false = ap is_ok c.in_err-join.was in
    on_err c.from_residual.result
    (ap (with_queues old)
    (c.join.ensures
    ∙ (ap (λ (b : Bool). changed (λ (q : List ℕ). cond b (q ++ k ∷ []) q) x old.queues) no ∙ same_changed x old.queues)))
