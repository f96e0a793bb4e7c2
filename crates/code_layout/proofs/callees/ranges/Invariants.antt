use Rattle.std.proofs.Common.{◌≡◌, map, take}
use Rattle.syntax_tree.specs.Placed.{placed, placed_param, plain, plain_param}
use Rattle.codegen_spec.specs.Told.{range_told}
use Rattle.code_layout.proofs.callees.ranges.Given as goal

abbrev pub invariant-loop-param : goal.invariant-loop-param
invariant-loop-param l = l.ranges ≡ map (λ p. range_told (plain (placed l.values)) p.kind) (map plain_param (map placed_param (take l.param-index l.params)))
