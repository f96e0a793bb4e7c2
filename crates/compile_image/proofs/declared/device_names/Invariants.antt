use Rattle.std.proofs.Common.{◌≡◌, ◌++◌, map, drop}
use Rattle.std.specs.Prelude.{filter_map}
use Rattle.syntax_tree.specs.Placed.{placed_decl, plain_decl}
use Rattle.built_image.specs.Named.{named_device}
use Rattle.compile_image.proofs.declared.device_names.Given as goal

abbrev pub invariant-loop-decl : goal.invariant-loop-decl
invariant-loop-decl l = l.devices ++ filter_map named_device (map plain_decl (map placed_decl (drop l.decl-index l.decls))) ≡ filter_map named_device (map plain_decl (map placed_decl l.decls))
