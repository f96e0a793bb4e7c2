use Rattle.std.proofs.Common.{◌≡◌, ◌++◌, map, drop}
use Rattle.std.specs.Prelude.{filter_map}
use Rattle.syntax_tree.specs.Placed.{placed_member, plain_member}
use Rattle.source_semantics.specs.Names.{condition_in}
use Rattle.replay_calls.proofs.conditions.add_names.Given as goal

abbrev pub invariant-loop-member : goal.invariant-loop-member
invariant-loop-member l =
    map (λ n. n.now) l.names.items ++ filter_map condition_in (map plain_member (map placed_member (drop l.member-index l.members)))
    ≡ map (λ n. n.now) l.initial.names.items ++ filter_map condition_in (map plain_member (map placed_member l.members))
