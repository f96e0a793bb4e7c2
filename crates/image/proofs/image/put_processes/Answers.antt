use Rattle.std.proofs.Common.{◌<◌, length, sym, subst}
use Rattle.image.specs.InRange.{IsProcessInRange}
use Rattle.image.specs.Raw.{process_of}
use Rattle.image.proofs.Mapped.{all_mapped, one_process_more}
use Rattle.image.proofs.image.put_processes.Goals as goal

pub put_process-requires-clause-in_range : goal.put_process-requires-clause-in_range
put_process-requires-clause-in_range c = all_mapped process_of IsProcessInRange c.args.processes.now c.loop-at.at c.index-processes-at.result c.loop-at-test.true c.index-processes-at.is c.requires.in_range

pub loop-at-preserved : goal.loop-at-preserved
loop-at-preserved c =
    let named : c.loop-at.at < length c.args.names.now = subst (λ n. c.loop-at.at < n) (sym c.requires.each) c.loop-at-test.true in
    one_process_more c.args.names.now c.args.processes.now c.loop-at.at c.index-names-at.result c.index-processes-at.result _ c.loop-at.out.items c.put_process.new.out.items
    named c.loop-at-test.true c.index-names-at.is c.index-processes-at.is c.loop-at.invariant c.in_ok-put_process.ensures
