use Rattle.std.proofs.Common.{◌≡◌, ◌++◌, map, drop}
use Rattle.syntax_tree.specs.Placed.{placed_decl, plain_decl}
use Rattle.compile_image.specs.Released.{events_found}
use Rattle.compile_image.proofs.declared.event_names.Given as goal

abbrev pub invariant-loop-decl : goal.invariant-loop-decl
invariant-loop-decl l = l.events ++ events_found l.released.frames l.released.events (map plain_decl (map placed_decl (drop l.decl-index l.decls))) ≡ events_found l.released.frames l.released.events (map plain_decl (map placed_decl l.decls))
