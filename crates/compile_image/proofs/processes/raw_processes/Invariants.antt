use Rattle.std.proofs.Common.{◌≡◌, ◌++◌, map, drop}
use Rattle.syntax_tree.specs.Placed.{placed, plain}
use Rattle.image.specs.Raw.{process_of}
use Rattle.code_names.specs.Parts.{seen_processes}
use Rattle.compile_image.specs.Rows.{FitSizes}
use Rattle.compile_image.specs.Told.{processes_told}
use Rattle.compile_image.proofs.processes.raw_processes.Given as goal

abbrev pub invariant-loop-number : goal.invariant-loop-number
invariant-loop-number l = record {
  list : map process_of l.list ++ processes_told (plain (placed l.values)) l.events l.over (seen_processes (drop l.number l.processes)) (drop l.number l.parts) (drop l.number l.sizes) ≡ processes_told (plain (placed l.values)) l.events l.over (seen_processes l.processes) l.parts l.sizes;
  fits : FitSizes (plain (placed l.values)) (seen_processes (drop l.number l.processes)) (drop l.number l.parts) (drop l.number l.sizes);
}
