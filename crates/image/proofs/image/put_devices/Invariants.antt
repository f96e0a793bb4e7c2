use Rattle.std.proofs.Common.{◌≡◌, ◌++◌, take}
use Rattle.std.specs.List.{flat_map}
use Rattle.image.specs.Bytes.{device_bytes}
use Rattle.image.proofs.image.put_devices.Given as goal

abbrev pub invariant-loop-device : goal.invariant-loop-device
invariant-loop-device l = l.out.items ≡ l.initial.out.items ++ flat_map device_bytes (take l.device-index l.devices)
