use Rattle.std.proofs.Common.{◌≡◌, ◌-◌, ◌++◌, [], length, map}
use Rattle.std.specs.List.{zip}
use Rattle.image.specs.Raw.{monitor_of}
use Rattle.image_format.specs.Format.{each_read}
use Rattle.image_reader.specs.Grammar.{named_monitor_format}
use Rattle.image_reader.proofs.EachLoop.{in_front}
use Rattle.image_reader.proofs.named.monitors_at.Given as goal

abbrev pub invariant-loop : goal.invariant-loop
invariant-loop l = record {
  so_far : in_front (zip l.monitors.names (map monitor_of l.monitors.things)) (each_read (λ earlier. named_monitor_format (l.initial.taken ++ map (λ m. m.0) earlier)) (zip l.monitors.names (map monitor_of l.monitors.things)) (l.counts.monitors - l.counter) l.rest) ≡ each_read (λ earlier. named_monitor_format (l.initial.taken ++ map (λ m. m.0) earlier)) [] l.counts.monitors l.bytes;
  taken : l.taken ≡ l.initial.taken ++ l.monitors.names;
  each : length l.monitors.names ≡ length l.monitors.things;
}
