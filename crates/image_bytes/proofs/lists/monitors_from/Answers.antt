use Rattle.std.proofs.Common.{◌<◌, length, refl, sym, subst}
use Rattle.image_bytes.proofs.Steps.{one_monitor_more}
use Rattle.image_bytes.proofs.lists.monitors_from.Goals as goal

pub loop-number-preserved : goal.loop-number-preserved
loop-number-preserved c =
    let named : c.loop-number.number < length c.args.names.now = subst (λ n. c.loop-number.number < n) (sym c.requires.each) c.loop-number-test.true in
    one_monitor_more c.args.names.now c.args.monitors.now c.loop-number.number c.index-names-number.result _ _ c.args.start _ c.loop-number.at c.loop-number.places _ c.after_name-numbers.result
    named c.loop-number-test.true c.index-names-number.is refl c.monitor_is_read.ensures c.loop-number.invariant c.after_name-numbers.ensures c.in_ok-push.ensures.ok
