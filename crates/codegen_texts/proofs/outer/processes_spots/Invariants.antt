use Rattle.std.proofs.Common.{◌≡◌, ◌++◌, drop}
use Rattle.syntax_tree.specs.Placed.{placed, plain}
use Rattle.code_names.specs.Parts.{seen_processes}
use Rattle.codegen_texts.specs.Shared.{process_tables}
use Rattle.codegen_texts.proofs.outer.processes_spots.Given as goal

abbrev pub invariant-loop-process : goal.invariant-loop-process
invariant-loop-process l = l.tables.items ++ process_tables (plain (placed l.values)) (seen_processes (drop l.process-index l.processes)) ≡ process_tables (plain (placed l.values)) (seen_processes l.processes)
