use Rattle.std.proofs.Common.{map, drop, ◌≡◌, ◌++◌}
use Rattle.table_reader.specs.Reading.{seen}
use Rattle.table_reader.proofs.form.add_ticks.Given as goal

abbrev pub invariant-loop-stay : goal.invariant-loop-stay
invariant-loop-stay l = seen l.all.items ++ map (λ s. s.ticks.now) (drop l.stay-index l.stays) ≡ seen l.fn.all.items ++ map (λ s. s.ticks.now) l.stays
