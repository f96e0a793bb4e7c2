use Rattle.std.specs.Fmt.{signed_decimal}
use Rattle.text_fields.proofs.Cuts.{cut_lacks}
use Rattle.event_log.specs.Line.{device_name}
use Rattle.event_log.proofs.Names.{no_transfer_device, no_transfer_value}
use Rattle.event_log.proofs.act.read_transfer.Goals as goal

pub returns-in-None-clause-none : goal.returns-in-None-clause-none
returns-in-None-clause-none c d value below small e = cut_lacks 32 c.args.bytes.now (device_name c.args.names.now.names.now d) (signed_decimal value) c.in-None.ensures.none e

pub returns-in-None-find_device_near-clause-none : goal.returns-in-None-find_device_near-clause-none
returns-in-None-find_device_near-clause-none c d value below small =
    no_transfer_device c.args.names.now.names.now c.args.bytes.now c.in-Some.parts.before.now c.in-Some.parts.after.now c.requires.words c.in-Some.ensures.found c.in-None-find_device_near.ensures.none d (signed_decimal value) below

pub returns-in-None-signed-clause-none : goal.returns-in-None-signed-clause-none
returns-in-None-signed-clause-none c d value below small =
    no_transfer_value c.args.names.now.names.now c.args.bytes.now c.in-Some.parts.before.now c.in-Some.parts.after.now c.requires.words c.in-Some.ensures.found d (signed_decimal value) below (c.in-None-signed.ensures.none value small)
