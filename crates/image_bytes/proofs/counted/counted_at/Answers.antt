use Rattle.std.proofs.lemmas.Result.{err_from_is_err_and}
use Rattle.image_bytes.specs.Fields.{numbers_read}
use Rattle.image_bytes.specs.Standing.{numbers_in}
use Rattle.image_bytes.proofs.ManyNumbers.{fails, goes_on, is_done, went_well}
use Rattle.image_bytes.proofs.counted.counted_at.Goals as goal

pub returns-in_err-rest : goal.returns-in_err-rest
returns-in_err-rest c =
    let p = err_from_is_err_and c.from_residual.result c.from_residual.ensures.1 in
    rw (p.1, p.2) (fails c.in_err-rest.field-0.0 c.args.count c.loop.counter c.loop.rest.now (numbers_read c.args.count c.args.bytes.now) c.loop-test.true c.in_err-rest.ensures c.loop.invariant)

pub loop-preserved : goal.loop-preserved
loop-preserved c = goes_on c.args.count c.loop.counter c.loop.rest.now _ _ _ c.loop-test.true c.in_ok-rest.ensures c.loop.invariant

pub invariant_of-result : goal.invariant_of-result
invariant_of-result c =
    record { are_read = went_well _ _ _ (is_done c.args.count c.loop.counter c.loop.rest.now (numbers_read c.args.count c.args.bytes.now) c.loop-test.false c.loop.invariant) }

pub returns : goal.returns
unfolding numbers_in
returns c = is_done c.args.count c.loop.counter c.loop.rest.now (numbers_read c.args.count c.args.bytes.now) c.loop-test.false c.loop.invariant
