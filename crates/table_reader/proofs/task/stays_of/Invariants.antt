use Rattle.std.proofs.Common.{map, take}
use Rattle.table_reader.specs.Judging.{AreStays}
use Rattle.table_reader.specs.Reading.{stay_of}
use Rattle.table_reader.proofs.task.stays_of.Given as goal

abbrev pub invariant-loop-word : goal.invariant-loop-word
invariant-loop-word l = AreStays (map stay_of (take l.word-index l.words)) l.stays
