use Rattle.std.proofs.Common.{◌≡◌, ◌≤◌, map}
use Rattle.faulty_part.specs.Among.{number_among}
use Rattle.image.specs.Raw.{routine_of}
use Rattle.message_log.proofs.parts.among_owner.Given as goal

abbrev pub invariant-loop-other : goal.invariant-loop-other
invariant-loop-other l = record {
  count : l.before ≡ number_among (map routine_of l.routines) l.other (routine_of l.routine);
  small : l.before ≤ l.other;
}
