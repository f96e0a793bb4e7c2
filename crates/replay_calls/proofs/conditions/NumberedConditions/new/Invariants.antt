use Rattle.std.proofs.Common.{◌≡◌, ◌++◌, map, drop, length}
use Rattle.std.specs.Prelude.{filter_map}
use Rattle.syntax_tree.specs.Placed.{placed_decl, plain_decl}
use Rattle.source_semantics.specs.Names.{monitor_in}
use Rattle.replay_calls.specs.Conditions.{conditions_in, spans_from}
use Rattle.replay_calls.proofs.conditions.NumberedConditions.new.Given as goal

abbrev pub invariant-loop-decl : goal.invariant-loop-decl
invariant-loop-decl l = record {
  names :
      map (λ n. n.now) l.names.items ++ conditions_in (filter_map monitor_in (map plain_decl (map placed_decl (drop l.decl-index l.decls))))
      ≡ conditions_in (filter_map monitor_in (map plain_decl (map placed_decl l.decls)));
  spans :
      map (λ s. (s.start, s.end)) l.spans.items ++ spans_from (length l.names.items) (filter_map monitor_in (map plain_decl (map placed_decl (drop l.decl-index l.decls))))
      ≡ spans_from 0 (filter_map monitor_in (map plain_decl (map placed_decl l.decls)));
}
