-- The words in the places of numbers are numerals.
use Rattle.std.proofs.Common.{List, [], ◌∷◌, map, All}
use Rattle.std.specs.Prelude.{IsTrue}
use Rattle.std.proofs.lemmas.List.Elements.{All-nil, All-cons, All-head, All-tail}
use Rattle.table_format.specs.Spelling.{Word, SaidStay}
use Rattle.table_format.specs.Faults.{is_numeral, IsFormed}
use Rattle.table_reader.specs.declared.line.StayWords.{StayWords}
use Rattle.table_reader.specs.declared.line.LineWords.{LineWords}
use Rattle.table_reader.specs.Judging.{HasNumerals}
use Rattle.table_reader.specs.Reading.{stay_of, line_seen}
use Rattle.table_reader.proofs.Plain.{formed_numbers}

pub has_numerals : (line : LineWords) → IsFormed (line_seen line) → HasNumerals line.head
has_numerals line form = let n = formed_numbers (line_seen line) form in record { frame = n.frame; deadline = n.deadline; first = n.first; cost = n.cost }

ticks_are : (words : List StayWords) → All (λ w. IsTrue (is_numeral w)) (map (λ (s : SaidStay). s.ticks) (map stay_of words)) → All (λ (s : StayWords). IsTrue (is_numeral s.ticks.now)) words
ticks_are [] all = All-nil (λ (s : StayWords). IsTrue (is_numeral s.ticks.now))
ticks_are (s ∷ words) all =
    All-cons (λ (v : StayWords). IsTrue (is_numeral v.ticks.now)) s words
    (All-head (λ (w : Word). IsTrue (is_numeral w)) s.ticks.now (map (λ (x : SaidStay). x.ticks) (map stay_of words)) all)
    (ticks_are words (All-tail (λ (w : Word). IsTrue (is_numeral w)) s.ticks.now (map (λ (x : SaidStay). x.ticks) (map stay_of words)) all))

pub stay_numerals : (line : LineWords) → IsFormed (line_seen line) → All (λ (s : StayWords). IsTrue (is_numeral s.ticks.now)) line.stays.items
stay_numerals line form = ticks_are line.stays.items (formed_numbers (line_seen line) form).stays
