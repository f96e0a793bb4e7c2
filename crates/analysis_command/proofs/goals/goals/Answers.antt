use Rattle.std.proofs.Common.{◌≡◌, None, length, arith}
use Rattle.std.proofs.lemmas.List.{length-map}
use Rattle.base.proofs.Lists.{one_longer, one_more}
use Rattle.image.specs.Raw.{image_of, routine_of}
use Rattle.analysis_command.specs.Goals.{goal_place}
use Rattle.analysis_command.proofs.goals.goals.Goals as goal

pub loop-number-preserved : goal.loop-number-preserved
loop-number-preserved c =
    let old = c.loop-number.invariant in
    let n = c.loop-number.number in
    record {
      one_each = one_longer c.loop-number.all.items c.push.new.self.items c.goal_place-place.result n old.one_each c.in_ok-push.ensures.items;
      each = one_more (λ r o. o ≡ goal_place (image_of c.args.image.now) c.args.places.now c.args.rank c.args.block r) c.loop-number.all.items c.push.new.self.items c.goal_place-place.result None n old.one_each c.in_ok-push.ensures.items old.each
          c.goal_place-place.ensures;
    }

pub returns : goal.returns
returns c =
    let many : length (image_of c.args.image.now).routines ≡ length c.args.image.now.routines = length-map c.args.image.now.routines routine_of in
    let end : c.loop-number.number ≡ length c.args.image.now.routines = omega arith in
    record {
      one_each = omega (arith, c.loop-number.invariant.one_each, end, many);
      each = λ r low. c.loop-number.invariant.each r (omega (arith, low, end, many));
    }
