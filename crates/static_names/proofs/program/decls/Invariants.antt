use Rattle.std.proofs.Common.{map, drop}
use Rattle.syntax_tree.specs.Placed.{placed_decl}
use Rattle.static_names.specs.Seen.{meaning, entry_meaning, IsNext}
use Rattle.static_names.proofs.program.decls.Given as goal

abbrev pub invariant-loop-one : goal.invariant-loop-one
invariant-loop-one l = IsNext (entry_meaning l.entries.entries) l.fn.findings (meaning l.fn.program.entries) (meaning l.fn.seen.entries) (map placed_decl l.list) l.findings (meaning l.program.entries) (meaning l.seen.entries) (map placed_decl (drop l.one-index l.list))
