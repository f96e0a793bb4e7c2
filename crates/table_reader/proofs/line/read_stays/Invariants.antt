use Rattle.std.proofs.Common.{◌≡◌, length, map}
use Rattle.std.specs.Prelude.{option_map, ◌++◌}
use Rattle.table_reader.specs.Reading.{stay_of, stays_read}
use Rattle.table_reader.specs.Words.{left}
use Rattle.table_reader.proofs.line.read_stays.Given as goal

abbrev pub invariant-stays : goal.invariant-stays
invariant-stays l = option_map (λ more. map stay_of l.stays.items ++ more) (stays_read (left l.at.rest)) ≡ stays_read (left l.fn.words.rest)

abbrev pub decreases-stays : goal.decreases-stays
decreases-stays l = length (left l.at.rest)
