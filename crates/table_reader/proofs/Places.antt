-- The words of a line in the places of names and of numbers, put together one after the other.
use Rattle.std.proofs.Common.{◌≡◌, List, [], ◌∷◌, ◌++◌, map, option_to_list, refl, ap, ◌∙◌, append_assoc}
use Rattle.table_format.specs.Spelling.{Word, SaidStay}
use Rattle.table_format.specs.Rules.{names_of_line}
use Rattle.table_format.specs.Faults.{stay_meant, meant, numbers}
use Rattle.table_format.specs.declared.table.TaskStay.{TaskStay}
use Rattle.table_reader.specs.declared.line.StayWords.{StayWords}
use Rattle.table_reader.specs.declared.line.LineWords.{LineWords}
use Rattle.table_reader.specs.Reading.{bytes_of, stay_of, line_seen}

abbrev pub monitor_seen : StayWords → Word
monitor_seen s = s.monitor.now

abbrev pub ticks_seen : StayWords → Word
ticks_seen s = s.ticks.now

monitors_are : (stays : List StayWords) → map monitor_seen stays ≡ map (λ (s : TaskStay). s.monitor) (map stay_meant (map stay_of stays))
monitors_are [] = refl
monitors_are (s ∷ stays) = ap (λ (words : List Word). s.monitor.now ∷ words) (monitors_are stays)

ticks_are : (stays : List StayWords) → map ticks_seen stays ≡ map (λ (s : SaidStay). s.ticks) (map stay_of stays)
ticks_are [] = refl
ticks_are (s ∷ stays) = ap (λ (words : List Word). s.ticks.now ∷ words) (ticks_are stays)

pub names_are : (line : LineWords) (a b c : List Word) → a ≡ line.head.name.now ∷ [] → b ≡ a ++ option_to_list (bytes_of line.head.event)
    → c ≡ b ++ map monitor_seen line.stays.items → c ≡ names_of_line (meant (line_seen line))
names_are line a b c named event monitors =
    let own : List Word = line.head.name.now ∷ option_to_list (bytes_of line.head.event) in
    let first : b ≡ own = event ∙ ap (λ (words : List Word). words ++ option_to_list (bytes_of line.head.event)) named in
    monitors ∙ ap (λ (words : List Word). words ++ map monitor_seen line.stays.items) first ∙ ap (λ (words : List Word). own ++ words) (monitors_are line.stays.items)

pub numbers_are : (line : LineWords) (a b c d : List Word) → a ≡ line.head.frame.now ∷ line.head.cost.now ∷ [] → b ≡ a ++ option_to_list (bytes_of line.head.deadline)
    → c ≡ b ++ option_to_list (bytes_of line.head.first) → d ≡ c ++ map ticks_seen line.stays.items → d ≡ numbers (line_seen line)
numbers_are line a b c d times deadline first ticks =
    let own : List Word = line.head.frame.now ∷ line.head.cost.now ∷ [] in
    let later = option_to_list (bytes_of line.head.deadline) in
    let begun = option_to_list (bytes_of line.head.first) in
    let all = map ticks_seen line.stays.items in
    let with_deadline : b ≡ own ++ later = deadline ∙ ap (λ (words : List Word). words ++ later) times in
    let with_first : c ≡ (own ++ later) ++ begun = first ∙ ap (λ (words : List Word). words ++ begun) with_deadline in
    ticks ∙ ap (λ (words : List Word). words ++ all) with_first ∙ ap (λ (words : List Word). own ++ words) (append_assoc later begun all)
    ∙ ap (λ (words : List Word). own ++ (later ++ (begun ++ words))) (ticks_are line.stays.items)
