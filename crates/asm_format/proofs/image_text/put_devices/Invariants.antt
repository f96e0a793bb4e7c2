use Rattle.std.proofs.Common.{◌≡◌, ◌++◌, take}
use Rattle.std.specs.List.{flat_map}
use Rattle.asm_format.specs.Text.{device_line}
use Rattle.asm_format.proofs.image_text.put_devices.Given as goal

abbrev pub invariant-loop-device : goal.invariant-loop-device
invariant-loop-device l = l.text ≡ l.initial.text ++ flat_map device_line (take l.device-index l.devices)
