use Rattle.std.proofs.Common.{◌≡◌, ◌-◌, ◌++◌, [], length, map}
use Rattle.std.specs.List.{zip}
use Rattle.image.specs.Raw.{process_of}
use Rattle.image_format.specs.Format.{each_read}
use Rattle.image_reader.specs.Versions.{in_version}
use Rattle.image_reader.specs.Grammar.{named_process_format}
use Rattle.image_reader.specs.File.{used_by}
use Rattle.image_reader.proofs.EachLoop.{in_front}
use Rattle.image_reader.proofs.named.processes_at.Given as goal

abbrev pub invariant-loop : goal.invariant-loop
invariant-loop l = record {
  so_far : in_front (zip l.processes.names (map process_of l.processes.things)) (each_read (λ earlier. named_process_format (in_version l.has_deadlines) l.counts (l.initial.taken ++ map (λ p. p.0) earlier) (used_by earlier)) (zip l.processes.names (map process_of l.processes.things)) (l.counts.processes - l.counter) l.rest) ≡ each_read (λ earlier. named_process_format (in_version l.has_deadlines) l.counts (l.initial.taken ++ map (λ p. p.0) earlier) (used_by earlier)) [] l.counts.processes l.bytes;
  taken : l.taken ≡ l.initial.taken ++ l.processes.names;
  each : length l.processes.names ≡ length l.processes.things;
  used : l.processes.used ≡ used_by (zip l.processes.names (map process_of l.processes.things));
}
