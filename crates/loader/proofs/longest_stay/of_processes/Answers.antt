use Rattle.std.proofs.Common.{◌≡◌, arith, None}
use Rattle.std.proofs.lemmas.Grind.{common_steps}
use Rattle.base.proofs.Lists.{one_more}
use Rattle.image.specs.Raw.{image_of}
use Rattle.valid_image.specs.Tables.{stay_of_process}
use Rattle.loader.proofs.longest_stay.of_processes.Goals as goal

pub loop-number-preserved : goal.loop-number-preserved
loop-number-preserved c = record {
  one_each = grind (arith, common_steps);
  each = one_more (λ k s. s ≡ stay_of_process (image_of c.args.image.now) k c.args.monitor) c.loop-number.all c.push.new.self c.process_stay-stay.result None c.loop-number.number c.loop-number.invariant.one_each c.in_ok-push.ensures.ok
      c.loop-number.invariant.each c.process_stay-stay.ensures;
}
