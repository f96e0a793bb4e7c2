use Rattle.std.proofs.Common.{◌≡◌, ◌+◌, ◌≤◌, map, drop}
use Rattle.std.specs.Prelude.{filter_map}
use Rattle.syntax_tree.specs.Placed.{placed_decl, plain_decl}
use Rattle.source_semantics.specs.Names.{place_of, monitor_in}
use Rattle.replay_calls.proofs.numbers.monitor_number.Given as goal

abbrev pub invariant-loop-decl : goal.invariant-loop-decl
invariant-loop-decl l = record {
  few : l.number ≤ l.decl-index;
  told : l.number + place_of l.name (map (λ m. m.name) (filter_map monitor_in (map plain_decl (map placed_decl (drop l.decl-index l.decls))))) ≡ place_of l.name (map (λ m. m.name) (filter_map monitor_in (map plain_decl (map placed_decl l.decls))));
}
