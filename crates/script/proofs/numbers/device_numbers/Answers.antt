use Rattle.std.proofs.Common.{◌&&◌, not}
use Rattle.script.specs.Scripts.{same_name}
use Rattle.script.proofs.Lookups.{numbers_more}
use Rattle.script.proofs.numbers.device_numbers.Goals as goal

pub loop-k-preserved : goal.loop-k-preserved
loop-k-preserved c =
    numbers_more (λ q device. same_name q device.name && not device.out) c.as_slice-devices.result.now c.loop-k.k c.index-devices-k.result
    c.loop-k.numbers.entries c.add_device.new.numbers.entries c.loop-k-test.true c.index-devices-k.is c.loop-k.invariant c.in_ok-add_device.ensures
