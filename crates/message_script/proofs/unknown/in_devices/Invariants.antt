use Rattle.std.proofs.Common.{◌≡◌, take, map}
use Rattle.std.specs.Prelude.{not}
use Rattle.std.specs.List.{filter}
use Rattle.message_script.proofs.unknown.in_devices.Given as goal

abbrev pub invariant-loop-device : goal.invariant-loop-device
invariant-loop-device l = map (λ it. it.now) l.all.items ≡ map (λ d. d.name) (filter (λ d. not d.out) (take l.device-index l.devices))
