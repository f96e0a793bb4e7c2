use Rattle.std.proofs.Common.{◌≡◌, drop}
use Rattle.std.specs.Prelude.{bytes_eq, find}
use Rattle.message_table.specs.Parts.{follows, key}
use Rattle.message_table.proofs.part.part_with_key.Given as goal

abbrev pub invariant-loop-part : goal.invariant-loop-part
invariant-loop-part l = find (λ part. bytes_eq (key part) l.word) (drop l.part-index l.parts) ≡ find (λ part. bytes_eq (key part) l.word) l.parts
