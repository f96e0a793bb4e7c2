use Rattle.std.proofs.Common.{◌≡◌, ◌++◌, map, drop}
use Rattle.std.specs.Prelude.{filter_map}
use Rattle.syntax_tree.specs.Placed.{placed, placed_member, plain, plain_member}
use Rattle.source_semantics.specs.Names.{variable_in}
use Rattle.source_semantics.specs.Store.{fresh}
use Rattle.replay_state.specs.View.{vars_of}
use Rattle.replay.proofs.free_monitors.member_variables.Given as goal

abbrev pub invariant-loop-member : goal.invariant-loop-member
invariant-loop-member l =
    vars_of l.vars.items ++ map (fresh (plain (placed l.declarations))) (filter_map variable_in (map plain_member (map placed_member (drop l.member-index l.members))))
    ≡ map (fresh (plain (placed l.declarations))) (filter_map variable_in (map plain_member (map placed_member l.members)))
