use Rattle.std.proofs.Common.{◌≡◌, ◌++◌, ◌∷◌, [], List, Ok, ap, subst}
use Rattle.image_format.specs.Format.{Format, each_read}
use Rattle.image_format.specs.Gives.{Fails}
use Rattle.image_reader.proofs.EachLoop.{ends, goes_on, is_done}
use Rattle.image.specs.declared.names.ConditionName.{ConditionName}
use Rattle.image_reader.specs.Grammar.{condition_format}
use Rattle.image_reader.proofs.lists.conditions_after.Goals as goal

pub returns-in-Err : goal.returns-in-Err
returns-in-Err c =
    let f : List ConditionName → Format ConditionName = condition_format c.args.taken.now c.args.counts.now.monitors in
    ends f c.in-Err.error c.loop.conditions c.args.counts.now.conditions c.loop.counter c.loop.rest.now (each_read f [] c.args.counts.now.conditions c.args.bytes.now) c.loop-test.true (subst (λ cs. Fails c.in-Err.error ((condition_format c.args.taken.now c.args.counts.now.monitors cs).read c.loop.rest.now)) c.loop.invariant.earlier c.in-Err.ensures.read) c.loop.invariant.so_far

pub loop-preserved : goal.loop-preserved
loop-preserved c =
    let f : List ConditionName → Format ConditionName = condition_format c.args.taken.now c.args.counts.now.monitors in
    let x = c.in-Ok.it.0 in
    rw (c.in-Ok-add_condition.ensures.conditions, c.in-Ok-add_condition.ensures.earlier) (record {
      so_far = goes_on f c.loop.conditions c.args.counts.now.conditions c.loop.counter c.loop.rest.now x c.in-Ok.it.1.now (each_read f [] c.args.counts.now.conditions c.args.bytes.now) c.loop-test.true (subst (λ cs. (condition_format c.args.taken.now c.args.counts.now.monitors cs).read c.loop.rest.now ≡ Ok (x, c.in-Ok.it.1.now)) c.loop.invariant.earlier c.in-Ok.ensures.read) c.loop.invariant.so_far;
      earlier = ap (λ (cs : List ConditionName). cs ++ x ∷ []) c.loop.invariant.earlier;
    })

pub returns : goal.returns
returns c =
    let f : List ConditionName → Format ConditionName = condition_format c.args.taken.now c.args.counts.now.monitors in
    is_done f c.loop.conditions c.args.counts.now.conditions c.loop.counter c.loop.rest.now (each_read f [] c.args.counts.now.conditions c.args.bytes.now) c.loop-test.false c.loop.invariant.so_far
