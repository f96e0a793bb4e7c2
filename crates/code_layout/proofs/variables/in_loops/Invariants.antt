use Rattle.std.proofs.Common.{◌≡◌, drop}
use Rattle.code_layout.specs.LookupTables.{loop_told}
use Rattle.code_layout.proofs.variables.in_loops.Given as goal

abbrev pub invariant-loop-around : goal.invariant-loop-around
invariant-loop-around l = loop_told l.means (drop l.around-index l.loops) l.name ≡ loop_told l.fn.spot l.loops l.name
