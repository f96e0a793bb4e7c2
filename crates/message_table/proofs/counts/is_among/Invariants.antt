use Rattle.std.proofs.Common.{◌≡◌, drop, map}
use Rattle.std.specs.Prelude.{bytes_eq}
use Rattle.std.specs.List.{list_any}
use Rattle.message_table.proofs.counts.is_among.Given as goal

abbrev pub invariant-loop-other : goal.invariant-loop-other
invariant-loop-other l = list_any (λ other. bytes_eq other l.word) (map (λ other. other.now) (drop l.other-index l.words)) ≡ list_any (λ other. bytes_eq other l.word) (map (λ other. other.now) l.words)
