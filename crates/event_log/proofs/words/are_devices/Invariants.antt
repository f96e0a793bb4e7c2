use Rattle.std.proofs.Common.{ℕ, ◌<◌, get_or}
use Rattle.text_fields.specs.Fields.{IsWord}
use Rattle.image.specs.declared.names.DeviceName.{DeviceName}
use Rattle.event_log.proofs.words.are_devices.Given as goal

abbrev pub invariant-loop-device : goal.invariant-loop-device
invariant-loop-device l = (i : ℕ) (d : DeviceName) → i < l.device-index → IsWord (get_or l.list i d).name
