use Rattle.std.proofs.Common.{rules, tests}
use Rattle.std.proofs.lemmas.Iterator.{YieldsList-from_map}
use Rattle.std.proofs.lemmas.Iterator.Adapters.{items_from_extend, YieldsList-from_rev_slice}
use Rattle.code_names.specs.Tasks.{visit_task}
use Rattle.code_names.proofs.order.list_visits.Goals as goal

pub returns : goal.returns
returns c =
    let listed = items_from_extend c.extend.result c.extend.ensures.ran (YieldsList-from_map _ (visit_task c.args.depth) (YieldsList-from_rev_slice c.args.texts.now (cc)) c.map.ensures.closure (λ x b q k. search (rules, tests))) in
    (rw c.in_ok-extend.was at listed).0
