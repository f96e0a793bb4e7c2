use Rattle.image.specs.Raw.{image_of}
use Rattle.loader.proofs.Deadlines.{stay_more}
use Rattle.loader.proofs.longest_stay.of_routines.Goals as goal

pub loop-number-preserved : goal.loop-number-preserved
loop-number-preserved c = stay_more (image_of c.args.image.now) c.args.monitor c.loop-number.number c.loop-number.all.items c.push.new.self.items c.next_stay-stay.result c.loop-number.invariant c.in_ok-push.ensures.items c.next_stay-stay.ensures
