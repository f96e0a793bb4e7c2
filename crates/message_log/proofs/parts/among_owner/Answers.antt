use Rattle.std.proofs.Common.{◌≡◌, ◌<◌, ◌+◌, length, arith, ap, sym, ◌∙◌, map}
use Rattle.faulty_part.specs.Among.{number_among}
use Rattle.image.specs.Raw.{routine_of}
use Rattle.message_log.proofs.Naming.{counted_yes, counted_no}
use Rattle.message_log.proofs.parts.among_owner.Goals.{then-share_owner, else-share_owner}
use Rattle.message_log.proofs.parts.among_owner.Goals as goal

pub loop-other-preserved : goal.loop-other-preserved
loop-other-preserved c =
    let xs = c.args.routines.now in
    let i = c.loop-other.other in
    let low : i < length xs = omega (arith, c.loop-other-test.true, c.requires) in
    elim c.if-share_owner.branch [
      | then-share_owner w ↦ record {
        count = w.before-is ∙ ap (λ n. n + 1) c.loop-other.invariant.count ∙ sym (counted_yes xs i c.args.routine.now c.index-routines-other.result low c.index-routines-other.is (w.if-share_owner.ensures));
        small = omega (arith, w.before-is, c.loop-other.invariant.small);
      }
      | else-share_owner w ↦ record {
        count = w.before-is ∙ c.loop-other.invariant.count ∙ sym (counted_no xs i c.args.routine.now c.index-routines-other.result low c.index-routines-other.is (w.if-share_owner.ensures));
        small = omega (arith, w.before-is, c.loop-other.invariant.small);
      }
    ]

pub returns : goal.returns
returns c =
    let all : c.loop-other.other ≡ c.args.number = omega (arith, c.loop-other-test.false, c.loop-other.auto.other-end) in
    c.loop-other.invariant.count ∙ ap (λ n. number_among (map routine_of c.args.routines.now) n (routine_of c.args.routine.now)) all
