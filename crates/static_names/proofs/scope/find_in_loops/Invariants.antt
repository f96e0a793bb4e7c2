use Rattle.std.proofs.Common.{◌≡◌, drop}
use Rattle.static_names.specs.Seen.{in_loops}
use Rattle.static_names.proofs.scope.find_in_loops.Given as goal

abbrev pub invariant-loop-local : goal.invariant-loop-local
invariant-loop-local l = in_loops l.name (drop l.local-index l.loops) l.found ≡ in_loops l.name l.loops l.fn.outer
