use Rattle.std.proofs.Common.{◌≡◌, map, drop}
use Rattle.syntax_tree.specs.Placed.{placed_decl, plain_decl}
use Rattle.static_declarations.specs.Seen.{kept_worth, with_decls, no_worth}
use Rattle.static_declarations.proofs.values.values.Given as goal

abbrev pub invariant-loop-decl : goal.invariant-loop-decl
invariant-loop-decl l = with_decls (kept_worth l.values.entries) (map plain_decl (map placed_decl (drop l.decl-index l.decls))) ≡ with_decls no_worth (map plain_decl (map placed_decl l.decls))
