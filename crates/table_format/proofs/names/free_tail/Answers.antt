use Rattle.std.proofs.Common.{◌+◌, length}
use Rattle.table_format.specs.Parts.{seen}
use Rattle.table_format.proofs.Tails.{search_next}
use Rattle.table_format.proofs.names.free_tail.Goals as goal

pub loop-number-preserved : goal.loop-number-preserved
loop-number-preserved c =
    search_next (seen c.args.names.now) (seen c.args.stays.now) c.loop-number.number (length c.args.names.now + 1) c.in_ok-tail.field-0 _ c.loop-number-test.true c.in_ok-tail.ensures c.in_default.not-Some c.loop-number.invariant
