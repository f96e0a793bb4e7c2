use Rattle.std.proofs.Common.{◌≡◌, drop, []}
use Rattle.source_semantics.specs.Names.{processes}
use Rattle.code_cost.specs.Parts.{rows_of, sizes_from}
use Rattle.code_cost.proofs.program.measure_program.Given as goal

abbrev pub invariant-loop-number : goal.invariant-loop-number
invariant-loop-number g l =
    sizes_from (g.P.Lookups.program l.program) (rows_of (g.P.Lookups.program l.program)) l.number (drop l.number (processes (g.P.Lookups.program l.program))) l.processes
    ≡ sizes_from (g.P.Lookups.program l.program) (rows_of (g.P.Lookups.program l.program)) 0 (processes (g.P.Lookups.program l.program)) []
