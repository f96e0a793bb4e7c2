use Rattle.std.proofs.Common.{◌≡◌, List, map, drop}
use Rattle.syntax_tree.specs.Placed.{placed_decl}
use Rattle.static_declarations.specs.Things.{learn, decls_things}
use Rattle.static_declarations.specs.Seen.{Declared, known_things}
use Rattle.static_declarations.proofs.things.decls.Given as goal

abbrev pub invariant-loop-one : goal.invariant-loop-one
invariant-loop-one l = (more : List Declared) → learn (known_things l.things.entries) (decls_things (map placed_decl (drop l.one-index l.list)) more) ≡ learn (known_things l.fn.things.entries) (decls_things (map placed_decl l.list) more)
