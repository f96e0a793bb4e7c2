use Rattle.std.proofs.Common.{◌≡◌, ◌++◌, map, drop}
use Rattle.std.specs.Prelude.{filter_map}
use Rattle.syntax_tree.specs.Placed.{placed_decl, plain_decl}
use Rattle.source_semantics.specs.Names.{device_in}
use Rattle.code_names.specs.First.{names_of}
use Rattle.code_layout.proofs.tables.device_names.Given as goal

abbrev pub invariant-loop-decl : goal.invariant-loop-decl
invariant-loop-decl l = names_of l.names.items ++ filter_map device_in (map plain_decl (map placed_decl (drop l.decl-index l.decls))) ≡ filter_map device_in (map plain_decl (map placed_decl l.decls))
