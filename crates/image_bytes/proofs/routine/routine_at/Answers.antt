use Rattle.image_bytes.proofs.Later.{routine_read}
use Rattle.image_bytes.proofs.routine.routine_at.Goals as goal

pub returns : goal.returns
returns c =
    let o = c.in-Ok.owner in
    let t = c.in-Ok-five_at.cost in
    routine_read c.args.bytes.now c.in-Ok.rest.now c.in-Ok-five_at.trees.now (o.kind, (o.owner, (o.params, (o.locals, o.result)))) (t.first, (t.second, (t.third, (t.fourth, t.fifth)))) c.in-Ok.ensures c.in-Ok-five_at.ensures c.requires
