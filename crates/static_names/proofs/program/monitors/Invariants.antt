use Rattle.std.proofs.Common.{◌≡◌, map, drop}
use Rattle.syntax_tree.specs.Placed.{placed_decl}
use Rattle.static_names.specs.Seen.{entry_meaning, add_monitors}
use Rattle.static_names.proofs.program.monitors.Given as goal

abbrev pub invariant-loop-one : goal.invariant-loop-one
invariant-loop-one l = add_monitors (entry_meaning l.all.entries) (map placed_decl (drop l.one-index l.list)) ≡ add_monitors (entry_meaning l.fn.all.entries) (map placed_decl l.list)
