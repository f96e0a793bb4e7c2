use Rattle.std.specs.Prelude.{List, None}
use Rattle.std.proofs.Common.{◌∙◌, ap}
use Rattle.source_semantics.specs.Run as run
use Rattle.source_semantics.specs.Next.{run_items}
use Rattle.replay_calls.specs.Reach.{memory_of, site_of}
use Rattle.replay_next.specs.Driving.{callers_run, others_of, rest_of, then_items}
use Rattle.replay_next.specs.declared.remains.Caller.{Caller}
use Rattle.replay_next.proofs.Oks.{ok_all}
use Rattle.replay_next.proofs.Stepping.{rest_turned}
use Rattle.replay_next.proofs.driving.run_whole.Goals as goal

pub returns : goal.returns
returns c =
    let s = c.args.scope.now in
    let site = site_of s c.args.home c.args.depth in
    let m = memory_of c.args.memory.now in
    let now = others_of None c.args.memory.now in
    let items = ap rest_of c.reverse.ensures.items ∙ rest_turned c.args.items.items in
    let whole = ap (λ (l : List Caller). callers_run s l now (then_items site (rest_of c.reverse.new.self.items) (run.goes m))) c.new.ensures.items ∙ ap (run_items site m) items in
    ok_all c.run_on.result _ _ (λ came h. h ∙ whole) c.run_on.ensures
