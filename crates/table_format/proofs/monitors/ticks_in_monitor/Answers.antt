use Rattle.std.proofs.Common.{◌≤◌, length, ap, ◌∙◌, take_all, arith}
use Rattle.table_format.specs.Parts.{seen, ticks_in}
use Rattle.table_format.proofs.Stays.{stays_more}
use Rattle.table_format.proofs.monitors.ticks_in_monitor.Goals as goal

pub loop-stay-preserved : goal.loop-stay-preserved
loop-stay-preserved c =
    stays_more c.args.name.now c.args.stays.now c.loop-stay.stay-index c.stay-item.result c.loop-stay.all.items c.add_ticks.new.all.items c.loop-stay-test.true c.stay-item.is c.loop-stay.invariant c.in_ok-add_ticks.ensures

pub returns : goal.returns
returns c =
    let all : length c.args.stays.now ≤ c.loop-stay.stay-index = omega (arith, c.loop-stay-test.false) in
    c.loop-stay.invariant ∙ ap (λ t. ticks_in c.args.name.now (seen t)) (take_all c.loop-stay.stay-index c.args.stays.now all)
