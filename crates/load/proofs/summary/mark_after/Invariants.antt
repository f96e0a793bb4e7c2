use Rattle.std.proofs.Common.{◌≡◌, ◌<◌, ◌^◌, drop}
use Rattle.load.specs.Summary.{marked_by}
use Rattle.load.proofs.summary.mark_after.Given as goal

abbrev pub invariant-loop-byte : goal.invariant-loop-byte
invariant-loop-byte l = (l.new < 2 ^ 32) × (marked_by l.new (drop l.byte-index l.bytes) ≡ marked_by l.mark l.bytes)
