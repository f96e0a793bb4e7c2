use Rattle.std.proofs.Common.{◌≡◌, map, drop}
use Rattle.syntax_tree.specs.Placed.{placed_decl}
use Rattle.static_names.specs.Occurrences.{others}
use Rattle.static_names.specs.Seen.{meaning, add_all}
use Rattle.static_names.proofs.program.others.Given as goal

abbrev pub invariant-loop-one : goal.invariant-loop-one
invariant-loop-one l = add_all (meaning l.scope.entries) (others (map placed_decl (drop l.one-index l.list))) ≡ add_all (meaning l.fn.scope.entries) (others (map placed_decl l.list))
