use Rattle.std.proofs.Common.{◌<◌, ◌∙◌, [], length, arith}
use Rattle.std.specs.Prelude.{slice_index, slice_index_or}
use Rattle.sched_sensitivity.specs.Rows.{IsFitOf}
use Rattle.sched_sensitivity.proofs.Growing.{one_more, renamed, within}
use Rattle.sched_sensitivity.proofs.finding.process_fits.Goals as goal

pub loop-number-preserved : goal.loop-number-preserved
loop-number-preserved c =
    let old = c.loop-number.invariant in
    let set = c.args.set.now in
    let n = c.loop-number.number in
    let below : n < length c.args.names.now = omega (arith, c.loop-number-test.true) in
    let row : IsFitOf set (slice_index c.args.order.now n) (slice_index_or c.args.names.now n []) c.in_ok-fit.fit =
    renamed _ _ _ _ _ _ old.kept (c.index-names-number.is ∙ within c.args.names.now n c.index-names-number.result [] below) c.in_ok-fit.ensures.fit in
    let more = one_more (λ k fit. IsFitOf set (slice_index c.args.order.now k) (slice_index_or c.args.names.now k []) fit) c.loop-number.fits c.push.new.self n c.in_ok-fit.fit old.many c.in_ok-push.ensures.ok old.each row in
    record { kept = c.process_fit.ensures.kept ∙ old.kept; many = more.0; each = more.1 }
