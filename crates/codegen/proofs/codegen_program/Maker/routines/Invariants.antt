use Rattle.std.proofs.Common.{◌≡◌, drop}
use Rattle.code_spec.specs.Numbering.{numbered}
use Rattle.codegen_spec.specs.Parts.{texts_made}
use Rattle.codegen.proofs.codegen_program.Maker.routines.Given as goal

abbrev pub invariant-loop-number : goal.invariant-loop-number
invariant-loop-number g l =
    texts_made (g.P.Lookups.program l.program) (drop l.number (numbered (g.P.Lookups.program l.program))) l.self
    ≡ texts_made (g.P.Lookups.program l.program) (numbered (g.P.Lookups.program l.program)) l.fn.self
