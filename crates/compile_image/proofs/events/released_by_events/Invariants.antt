use Rattle.std.proofs.Common.{◌≡◌, ◌++◌, drop}
use Rattle.syntax_tree.specs.Placed.{placed, plain}
use Rattle.code_names.specs.Parts.{seen_processes}
use Rattle.code_names.specs.First.{names_of}
use Rattle.compile_image.specs.Released.{released_events, released_frames}
use Rattle.compile_image.proofs.events.released_by_events.Given as goal

abbrev pub invariant-loop-process : goal.invariant-loop-process
invariant-loop-process l = record {
  events : names_of l.events.items ++ released_events (seen_processes (drop l.process-index l.processes)) ≡ released_events (seen_processes l.processes);
  frames : l.frames ++ released_frames (plain (placed l.values)) (seen_processes (drop l.process-index l.processes)) ≡ released_frames (plain (placed l.values)) (seen_processes l.processes);
}
