use Rattle.std.proofs.Common.{◌<◌, length, get_or, None, arith}
use Rattle.std.proofs.lemmas.List.{get_or_default}
use Rattle.compile_schedule.proofs.Listing.{none_rows, one_row, all_rows}
use Rattle.compile_schedule.proofs.shown.rows.Goals as goal

pub loop-number-init : goal.loop-number-init
loop-number-init c = none_rows c.args.processes.now c.args.bounds.now c.new-all.result c.new-all.ensures

pub loop-number-preserved : goal.loop-number-preserved
loop-number-preserved c =
    let k = c.loop-number.number in
    let b = get_or c.args.bounds.now k None in
    let low : k < length c.args.bounds.now = omega (arith, c.loop-number-test.true, c.requires) in
    one_row c.args.processes.now c.args.bounds.now k c.index-processes-number.result b c.process_row-row.result c.loop-number.all c.push.new.self _ c.loop-number-test.true low
    c.index-processes-number.is (get_or_default c.args.bounds.now k None b low) c.loop-number.invariant c.in_ok-push.ensures.ok c.process_row-row.ensures

pub returns : goal.returns
returns c = all_rows c.args.processes.now c.args.bounds.now c.loop-number.number c.loop-number.all _ c.loop-number-test.false c.loop-number.invariant
