use Rattle.std.proofs.Common.{◌≡◌, drop}
use Rattle.source_semantics.specs.Names.{processes}
use Rattle.codegen_spec.specs.Parts.{processes_made}
use Rattle.codegen.proofs.codegen_program.Maker.processes.Given as goal

abbrev pub invariant-loop-number : goal.invariant-loop-number
invariant-loop-number g l =
    processes_made (g.P.Lookups.program l.program) l.number (drop l.number (processes (g.P.Lookups.program l.program))) l.self
    ≡ processes_made (g.P.Lookups.program l.program) 0 (processes (g.P.Lookups.program l.program)) l.fn.self
