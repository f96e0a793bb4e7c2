use Rattle.std.proofs.Common.{◌≡◌, ◌-◌}
use Rattle.image_format.specs.Rows.{left_of}
use Rattle.image_bytes.specs.Fields.{numbers_read}
use Rattle.image_bytes.proofs.counted.counted_at.Given as goal

abbrev pub invariant-loop : goal.invariant-loop
invariant-loop l = left_of (numbers_read (l.count - l.counter) l.rest) ≡ left_of (numbers_read l.count l.bytes)
