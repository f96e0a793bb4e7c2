use Rattle.std.proofs.Common.{◌≡◌, ◌++◌, map, drop}
use Rattle.image.specs.Raw.{process_of}
use Rattle.asm_format.specs.Text.{processes_text}
use Rattle.asm_format.proofs.image_text.put_processes.Given as goal

abbrev pub invariant-loop-at : goal.invariant-loop-at
invariant-loop-at l = l.text ++ processes_text (drop l.at l.names) (map process_of (drop l.at l.processes)) ≡ l.initial.text ++ processes_text l.names (map process_of l.processes)
