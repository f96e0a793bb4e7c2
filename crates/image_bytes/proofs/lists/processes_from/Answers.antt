use Rattle.std.proofs.Common.{◌<◌, length, sym, subst}
use Rattle.image.specs.InRange.{IsProcessInRange}
use Rattle.image.specs.Raw.{process_of}
use Rattle.valid_image.specs.Valid.{HasHandler}
use Rattle.image_bytes.proofs.Steps.{one_process_more}
use Rattle.image_bytes.proofs.lists.processes_from.Goals as goal
use Rattle.image.proofs.Mapped.{all_mapped}

pub process_is_read-requires : goal.process_is_read-requires
process_is_read-requires c =
    let ps = c.args.processes.now in
    let p = c.index-processes-number.result in
    record {
      handler = all_mapped process_of (λ q. HasHandler q q.handler_tree) ps c.loop-number.number p c.loop-number-test.true c.index-processes-number.is c.requires.handlers;
      few = (all_mapped process_of IsProcessInRange ps c.loop-number.number p c.loop-number-test.true c.index-processes-number.is c.requires.in_range).numbers;
    }

pub loop-number-preserved : goal.loop-number-preserved
loop-number-preserved c =
    let named : c.loop-number.number < length c.args.names.now = subst (λ n. c.loop-number.number < n) (sym c.requires.each) c.loop-number-test.true in
    one_process_more c.args.names.now c.args.processes.now c.loop-number.number c.index-names-number.result c.index-processes-number.result c.args.start _ c.loop-number.at c.loop-number.places _
    c.after_name-place.result c.after_process-at.result named c.loop-number-test.true c.index-names-number.is c.index-processes-number.is c.process_is_read.ensures c.loop-number.invariant
    c.after_name-place.ensures c.after_process-at.ensures c.in_ok-push.ensures.ok
