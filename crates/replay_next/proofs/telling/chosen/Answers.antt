use Rattle.std.proofs.Common.{◌∙◌, ap, sym}
use Rattle.source_semantics.specs.Run as run
use Rattle.replay_next.specs.Ran.{tested_run}
use Rattle.replay_next.specs.Remains.{stmts_of}
use Rattle.replay_next.specs.declared.visible.ConditionResult.{ConditionResult}
use Rattle.replay_next.proofs.telling.chosen.Goals as goal

pub returns-in-Raised-clause-run : goal.returns-in-Raised-clause-run
returns-in-Raised-clause-run c = λ s m.
    let first = run.run_all s m (stmts_of c.args.first.now) in
    let second = run.run_all s m (stmts_of c.args.second.now) in
    c.ran.ensures.run s m ∙ (sym (ap (λ (t : ConditionResult). tested_run t m first second) c.in-Raised.is) ∙ c.tested.ensures m first second)
