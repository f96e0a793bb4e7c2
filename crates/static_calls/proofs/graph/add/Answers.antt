use Rattle.static_calls.proofs.Edges.{rows-add}
use Rattle.static_calls.proofs.graph.add.Goals as goal

pub returns : goal.returns
returns c = rows-add c.args.rows.now c.args.from c.args.to c.index-rows-from.result c.push.new.self c.requires c.in_ok-push.ensures.items
