use Rattle.std.proofs.Common.{◌≡◌, ◌++◌, drop, map, not}
use Rattle.std.specs.Prelude.{filter}
use Rattle.message_expected.specs.Groups.{is_covered}
use Rattle.message_expected.specs.Kinds.{told}
use Rattle.message_expected.proofs.groups.add_kinds.Given as goal

abbrev pub invariant-loop-index : goal.invariant-loop-index
invariant-loop-index l =
    l.all ++ map told (filter (λ it. not (is_covered l.found it)) (drop l.index l.found)) ≡ l.fn.all ++ map told (filter (λ it. not (is_covered l.found it)) l.found)
