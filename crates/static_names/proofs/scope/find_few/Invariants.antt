use Rattle.std.proofs.Common.{◌≡◌}
use Rattle.static_names.specs.Seen.{meaning}
use Rattle.static_names.proofs.scope.find_few.Given as goal

abbrev pub invariant-loop-one : goal.invariant-loop-one
invariant-loop-one l = record {
  can_go_on : (goal.iterator-loop-one).can_next l.one-iterator;
  ends : (goal.iterator-loop-one).is_finite l.one-iterator;
  rest : meaning l.one-iterator l.name ≡ meaning l.scope.entries l.name;
}
