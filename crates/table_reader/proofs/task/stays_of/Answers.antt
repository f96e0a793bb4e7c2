use Rattle.std.proofs.Common.{◌≡◌, ◌+◌, ◌<◌, ℕ, List, [], ◌∷◌, ◌++◌, length, map, take, get_or, All}
use Rattle.std.specs.Int.{IsInRange}
use Rattle.std.proofs.lemmas.List.{get_or_default}
use Rattle.text_fields.specs.LineFields.{value}
use Rattle.table_format.specs.declared.table.TaskStay.{TaskStay}
use Rattle.table_format.specs.Spelling.{Word}
use Rattle.table_format.specs.Faults.{stay_meant}
use Rattle.table_reader.specs.declared.line.StayWords.{StayWords}
use Rattle.table_reader.specs.Judging.{AreStays, IsNumber}
use Rattle.table_reader.specs.Reading.{stay_of}
use Rattle.table_reader.proofs.Loops.{stay_out, stays_more}
use Rattle.table_reader.proofs.task.stays_of.Goals as goal

-- the word at a place, whatever stands for one that is not there
out_at : (words : List StayWords) (i : ℕ) (d : StayWords) → i < length words → ¬ IsInRange 3 1000000000 (value (get_or words i d).ticks.now)
    → ¬ All (λ (s : TaskStay). IsInRange 3 1000000000 s.ticks) (map stay_meant (map stay_of words))
out_at words i d below = stay_out words i (get_or words i d) below (get_or_default words i d (get_or words i d) below)

more_at : (words : List StayWords) (i : ℕ) (d : StayWords) (old new : List TaskStay) (monitor : Word) (ticks : ℕ) → i < length words
    → AreStays (map stay_of (take i words)) old → monitor ≡ (get_or words i d).monitor.now → IsNumber 3 1000000000 (get_or words i d).ticks.now ticks
    → new ≡ old ++ (record { monitor = monitor; ticks = ticks }) ∷ [] → AreStays (map stay_of (take (i + 1) words)) new
more_at words i d old new monitor ticks below = stays_more words i (get_or words i d) old new monitor ticks below (get_or_default words i d (get_or words i d) below)

pub returns-in_default : goal.returns-in_default
returns-in_default c = out_at c.args.words.now c.loop-word.word-index _ c.loop-word-test.true c.in_default.ensures

pub loop-word-preserved : goal.loop-word-preserved
loop-word-preserved c =
    more_at c.args.words.now c.loop-word.word-index _ c.loop-word.stays c.push.new.self c.in_ok-monitor.monitor c.in-Some.ticks c.loop-word-test.true c.loop-word.invariant c.in_ok-monitor.ensures c.in-Some.ensures
    c.in_ok-push.ensures.ok
