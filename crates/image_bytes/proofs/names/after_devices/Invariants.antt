use Rattle.std.proofs.Common.{◌≡◌, ◌+◌, drop, length}
use Rattle.std.specs.List.{flat_map}
use Rattle.image.specs.Bytes.{device_bytes}
use Rattle.image_bytes.proofs.names.after_devices.Given as goal

abbrev pub invariant-loop-device : goal.invariant-loop-device
invariant-loop-device l = l.at + length (flat_map device_bytes (drop l.device-index l.devices)) ≡ l.start + length (flat_map device_bytes l.devices)
