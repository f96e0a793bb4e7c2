use Rattle.std.proofs.Common.{◌≡◌, drop, []}
use Rattle.code_spec.specs.Numbering.{numbered}
use Rattle.code_cost.specs.Parts.{rows_from}
use Rattle.code_cost.proofs.program.rows.Given as goal

abbrev pub invariant-loop-number : goal.invariant-loop-number
invariant-loop-number g l =
    rows_from (g.P.Lookups.program l.program) (drop l.number (numbered (g.P.Lookups.program l.program))) l.rows
    ≡ rows_from (g.P.Lookups.program l.program) (numbered (g.P.Lookups.program l.program)) []
