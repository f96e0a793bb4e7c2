use Rattle.std.proofs.Common.{◌≡◌, ◌++◌, map, drop}
use Rattle.syntax_tree.specs.Placed.{placed_member, plain_member}
use Rattle.compile_image.specs.Released.{conditions_named}
use Rattle.compile_image.proofs.lists.list_conditions.Given as goal

abbrev pub invariant-loop-member : goal.invariant-loop-member
invariant-loop-member l = l.conditions ++ conditions_named l.monitor (map plain_member (map placed_member (drop l.member-index l.members))) ≡ l.initial.conditions ++ conditions_named l.monitor (map plain_member (map placed_member l.members))
