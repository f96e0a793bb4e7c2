use Rattle.std.proofs.Common.{◌≡◌, ◌-◌, []}
use Rattle.image_format.specs.Format.{each_read}
use Rattle.image_reader.specs.Grammar.{condition_format}
use Rattle.image_reader.proofs.EachLoop.{in_front}
use Rattle.image_reader.proofs.lists.conditions_after.Given as goal

abbrev pub invariant-loop : goal.invariant-loop
invariant-loop l = record {
  so_far : in_front l.conditions (each_read (condition_format l.taken l.counts.monitors) l.conditions (l.counts.conditions - l.counter) l.rest) ≡ each_read (condition_format l.taken l.counts.monitors) [] l.counts.conditions l.bytes;
  earlier : l.earlier ≡ l.conditions;
}
