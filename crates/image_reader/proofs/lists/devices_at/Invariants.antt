use Rattle.std.proofs.Common.{◌≡◌, ◌-◌, ◌++◌, [], map}
use Rattle.image_format.specs.Format.{each_read}
use Rattle.image_reader.specs.Grammar.{device_format}
use Rattle.image_reader.proofs.EachLoop.{in_front}
use Rattle.image_reader.proofs.lists.devices_at.Given as goal

abbrev pub invariant-loop : goal.invariant-loop
invariant-loop l = record {
  so_far : in_front l.devices (each_read (λ earlier. device_format (l.initial.taken ++ map (λ d. d.name) earlier)) l.devices (l.counts.devices - l.counter) l.rest) ≡ each_read (λ earlier. device_format (l.initial.taken ++ map (λ d. d.name) earlier)) [] l.counts.devices l.bytes;
  taken : l.taken ≡ l.initial.taken ++ map (λ d. d.name) l.devices;
}
