use Rattle.std.proofs.Common.{◌≤◌, length, ap, ◌∙◌, take_all, arith}
use Rattle.table_format.specs.Parts.{monitors_of, seen, with_name}
use Rattle.table_format.proofs.Stays.{monitors_more}
use Rattle.table_format.proofs.monitors.monitor_names.Goals as goal

pub loop-stay-preserved : goal.loop-stay-preserved
loop-stay-preserved c =
    monitors_more c.args.stays.now c.loop-stay.stay-index c.stay-item.result (seen c.loop-stay.all.items) (seen c.add_once.new.monitors.items) c.loop-stay-test.true c.stay-item.is c.loop-stay.invariant (c.in_ok-add_once.ensures ∙ ap (λ m. with_name (seen c.loop-stay.all.items) m) c.as_bytes.ensures)

pub returns : goal.returns
returns c =
    let all : length c.args.stays.now ≤ c.loop-stay.stay-index = omega (arith, c.loop-stay-test.false) in
    c.loop-stay.invariant ∙ ap (λ t. monitors_of (seen t)) (take_all c.loop-stay.stay-index c.args.stays.now all)
