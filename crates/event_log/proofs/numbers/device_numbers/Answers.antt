use Rattle.std.proofs.Common.{◌∙◌, ◌≡◌, ◌<◌, length, get_or, subst}
use Rattle.event_log.specs.Line.{device_name}
use Rattle.event_log.proofs.Finding.{numbers_more, device_at}
use Rattle.event_log.proofs.numbers.device_numbers.Goals as goal

pub loop-k-preserved : goal.loop-k-preserved
loop-k-preserved c =
    numbers_more c.as_bytes.result c.loop-k.k (device_name c.args.names.now) c.loop-k.numbers.entries c.insert.new.self.entries c.loop-k.invariant
    (c.as_bytes.ensures ∙ device_at c.args.names.now.devices c.loop-k.k c.index-devices-k.result (subst (λ xs. c.loop-k.k < length xs) c.as_slice-devices.ensures c.loop-k-test.true) (subst (λ xs. c.index-devices-k.result ≡ get_or xs c.loop-k.k c.index-devices-k.result) c.as_slice-devices.ensures c.index-devices-k.is)) c.in_ok-insert.ensures.updates.0
