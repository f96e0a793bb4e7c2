use Rattle.std.proofs.Common.{◌≡◌, ◌++◌, drop, map}
use Rattle.std.specs.Prelude.{filter}
use Rattle.message_expected.specs.Groups.{name, stands}
use Rattle.message_expected.proofs.groups.add_groups.Given as goal

abbrev pub invariant-loop-index : goal.invariant-loop-index
invariant-loop-index l = l.all ++ map name (filter (stands l.found) (drop l.index l.groups)) ≡ l.fn.all ++ map name (filter (stands l.found) l.groups)
