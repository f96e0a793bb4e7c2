use Rattle.std.proofs.Common.{arith, false}
use Rattle.std.proofs.lemmas.Grind.{common_steps}
use Rattle.image.specs.Raw.{image_of}
use Rattle.loader_code.proofs.Faults.{one_more_bound}
use Rattle.loader_code.proofs.bound.bounds.Goals as goal

pub loop-number-preserved : goal.loop-number-preserved
loop-number-preserved c = one_more_bound (image_of c.args.image.now) c.loop-number.number c.loop-number.all.items c.push.new.self.items c.next_is_bound-reaches.result c.loop-number.invariant c.in_ok-push.ensures.items c.next_is_bound-reaches.ensures
