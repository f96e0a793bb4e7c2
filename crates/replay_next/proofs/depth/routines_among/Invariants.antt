use Rattle.std.proofs.Common.{◌≡◌, ◌+◌, drop, map}
use Rattle.std.specs.Prelude.{sum_by}
use Rattle.syntax_tree.specs.Placed.{placed_decl, plain_decl}
use Rattle.source_semantics.specs.Names.{routines_in}
use Rattle.replay_next.proofs.depth.routines_among.Given as goal

abbrev pub invariant-loop-decl : goal.invariant-loop-decl
invariant-loop-decl l = l.count + sum_by routines_in (map plain_decl (map placed_decl (drop l.decl-index l.decls))) ≡ sum_by routines_in (map plain_decl (map placed_decl l.decls))
