use Rattle.std.proofs.Common.{◌≡◌, ◌-◌, ◌++◌, []}
use Rattle.image_format.specs.Format.{each_read}
use Rattle.image_reader.specs.Grammar.{name_format}
use Rattle.image_reader.proofs.EachLoop.{in_front}
use Rattle.image_reader.proofs.lists.events_at.Given as goal

abbrev pub invariant-loop : goal.invariant-loop
invariant-loop l = record {
  so_far : in_front l.events (each_read (λ earlier. name_format (l.initial.taken ++ earlier)) l.events (l.counts.events - l.counter) l.rest) ≡ each_read (λ earlier. name_format (l.initial.taken ++ earlier)) [] l.counts.events l.bytes;
  taken : l.taken ≡ l.initial.taken ++ l.events;
}
