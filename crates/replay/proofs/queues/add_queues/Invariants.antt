use Rattle.std.proofs.Common.{◌≡◌, ◌++◌, map, drop}
use Rattle.syntax_tree.specs.Placed.{placed_member, plain_member}
use Rattle.replay_state.specs.Queues.{queues_of}
use Rattle.replay.specs.Parts.{member_queues}
use Rattle.replay.proofs.queues.add_queues.Given as goal

abbrev pub invariant-loop-member : goal.invariant-loop-member
invariant-loop-member l =
    queues_of l.queues.items ++ member_queues (map plain_member (map placed_member (drop l.member-index l.members)))
    ≡ queues_of l.initial.queues.items ++ member_queues (map plain_member (map placed_member l.members))
