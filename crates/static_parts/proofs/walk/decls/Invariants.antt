use Rattle.std.proofs.Common.{◌≡◌, List, map, drop}
use Rattle.syntax_tree.specs.Placed.{placed_decl}
use Rattle.static_declarations.specs.Parts.{Part, decls_parts}
use Rattle.static_parts.proofs.walk.decls.Given as goal

abbrev pub invariant-loop-one : goal.invariant-loop-one
invariant-loop-one g l = (more : List Part) → g.V.PartVisitor.found l.fn.visitor (decls_parts (map placed_decl l.list) more) ≡ g.V.PartVisitor.found l.visitor (decls_parts (map placed_decl (drop l.one-index l.list)) more)
