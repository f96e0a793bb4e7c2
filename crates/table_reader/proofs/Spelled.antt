-- A process line is read exactly where it is spelled.
use Rattle.std.proofs.Common.{◌≡◌, ℕ, List, [], ◌∷◌, ◌++◌, Option, Some, None, Bool, true, false, codes, refl, ap, sym, ◌∙◌}
use Rattle.std.specs.Prelude.{option_map, option_and_then, flat_map, if◌then◌else◌}
use Rattle.std.proofs.lemmas.Slice.Eq.{bytes_eq-Decides}
use Rattle.table_format.specs.Spelling.{Word, SaidStay, SaidLine, stay_words, with_key, process_words}
use Rattle.table_format.specs.Rules.{same_name}
use Rattle.text_fields.specs.Fields.{spaced}
use Rattle.table_reader.specs.Words.{split, first_word, after_key, optional_of, optional}
use Rattle.table_reader.specs.Reading.{with_cost, times_read, event_read, head_read, stays_read, line_read}
use Rattle.table_reader.proofs.Splits.{AllLack, split_spaced, spaced_split}

-- ---- what is spelled is read

stays_spelled : (stays : List SaidStay) → stays_read (flat_map stay_words stays) ≡ Some stays
stays_spelled [] = refl
stays_spelled (s ∷ stays) = ap (option_map (λ more. s ∷ more)) (stays_spelled stays)

-- the line without its stays
abbrev without_stays : SaidLine → SaidLine
without_stays s = record s { stays = [] }

head_spelled : (s : SaidLine) → head_read (process_words s) ≡ Some (without_stays s, flat_map stay_words s.stays)
head_spelled s = at s.event s.deadline s.first
  where
    at : (event deadline first : Option Word)
        → head_read (process_words (record s { event = event; deadline = deadline; first = first }))
        ≡ Some (without_stays (record s { event = event; deadline = deadline; first = first }), flat_map stay_words s.stays)
    at None None None = refl
    at None None (Some n) = refl
    at None (Some d) None = refl
    at None (Some d) (Some n) = refl
    at (Some e) None None = refl
    at (Some e) None (Some n) = refl
    at (Some e) (Some d) None = refl
    at (Some e) (Some d) (Some n) = refl

abbrev stays_behind : SaidLine × List Word → Option SaidLine
stays_behind front = option_map (λ stays. record front.0 { stays = stays }) (stays_read front.1)

pub line_spelled : (s : SaidLine) → AllLack (process_words s) → line_read (spaced (process_words s)) ≡ Some s
unfolding line_read
line_spelled s lack =
    ap (λ words. option_and_then stays_behind (head_read words)) (split_spaced (codes "process") (s.name ∷ _) lack)
    ∙ ap (option_and_then stays_behind) (head_spelled s) ∙ ap (option_map (λ stays. record s { stays = stays })) (stays_spelled s.stays)

-- ---- what is read is spelled

same_is : (x y : Word) → same_name x y ≡ true → x ≡ y
same_is x y is = (bytes_eq-Decides x y).0 is

after_key_spelled : (key : Word) (words : List Word) (word : Word) (rest : List Word) → after_key key words ≡ Some (word, rest) → words ≡ key ∷ word ∷ rest
after_key_spelled key [] word rest e = cc
after_key_spelled key (first ∷ []) word rest e = at (same_name first key) e
  where
    at : (b : Bool) → (if b then first_word [] else None) ≡ Some (word, rest) → first ∷ [] ≡ key ∷ word ∷ rest
    at true f = cc
    at false f = cc
after_key_spelled key (first ∷ next ∷ words) word rest e = at (same_name first key) refl e
  where
    at : (b : Bool) → same_name first key ≡ b → (if b then first_word (next ∷ words) else None) ≡ Some (word, rest) → first ∷ next ∷ words ≡ key ∷ word ∷ rest
    at true is f =
        let pair : (let p : Word × List Word = (next, words) in p) ≡ (word, rest) = cc in
        ap (λ (x : Word). x ∷ next ∷ words) (same_is first key is) ∙ ap (λ (p : Word × List Word). key ∷ p.0 ∷ p.1) pair
    at false is f = absurd cc

optional_spelled : (key : Word) (words : List Word) (word : Option Word) (rest : List Word) → optional key words ≡ (word, rest) → words ≡ with_key key word ++ rest
optional_spelled key words word rest e = at (after_key key words) refl e
  where
    at : (found : Option (Word × List Word)) → after_key key words ≡ found → optional_of words found ≡ (word, rest) → words ≡ with_key key word ++ rest
    at None is f = ap (λ (x : Option Word × List Word). with_key key x.0 ++ x.1) f
    at (Some x) is f = after_key_spelled key words x.0 x.1 is ∙ ap (λ (y : Option Word × List Word). with_key key y.0 ++ y.1) f

stays_are_spelled : (words : List Word) (stays : List SaidStay) → stays_read words ≡ Some stays → words ≡ flat_map stay_words stays
stays_are_spelled [] stays e = let none : stays ≡ [] = cc in sym (ap (flat_map stay_words) none)
stays_are_spelled (key ∷ []) stays e = absurd cc
stays_are_spelled (key ∷ monitor ∷ []) stays e = absurd cc
stays_are_spelled (key ∷ monitor ∷ ticks ∷ words) stays e = at (same_name key (codes "stay")) refl (stays_are_spelled words) e
  where
    more_at : (found : Option (List SaidStay)) → stays_read words ≡ found → ((more : List SaidStay) → stays_read words ≡ Some more → words ≡ flat_map stay_words more) → key ≡ codes "stay"
        → option_map (λ more. record { monitor = monitor; ticks = ticks } ∷ more) found ≡ Some stays → key ∷ monitor ∷ ticks ∷ words ≡ flat_map stay_words stays
    more_at None is behind same f = absurd cc
    more_at (Some more) is behind same f =
        let whole : (let s : SaidStay = record { monitor = monitor; ticks = ticks } in s) ∷ more ≡ stays = cc in
        ap (λ (x : Word). x ∷ monitor ∷ ticks ∷ words) same
        ∙ (ap (λ (ws : List Word). codes "stay" ∷ monitor ∷ ticks ∷ ws) (behind more is) ∙ ap (flat_map stay_words) whole)

    at : (b : Bool) → same_name key (codes "stay") ≡ b → ((more : List SaidStay) → stays_read words ≡ Some more → words ≡ flat_map stay_words more)
        → (if b then option_map (λ more. record { monitor = monitor; ticks = ticks } ∷ more) (stays_read words) else None) ≡ Some stays
        → key ∷ monitor ∷ ticks ∷ words ≡ flat_map stay_words stays
    at true is behind f = more_at (stays_read words) refl behind (same_is key (codes "stay") is) f
    at false is behind f = absurd cc

-- the words of a line, with these behind its cost
abbrev words_with : SaidLine → List Word → List Word
words_with s rest =
    codes "process" ∷ s.name ∷ (with_key (codes "event") s.event
    ++ codes "frame" ∷ s.frame ∷ (with_key (codes "deadline") s.deadline
    ++ (with_key (codes "first") s.first
    ++ codes "cost" ∷ s.cost ∷ rest)))

times_spelled : (name : Word) (event : Option Word) (frame : Word × List Word) (s : SaidLine) (rest : List Word) → times_read name event frame ≡ Some (s, rest)
    → codes "process" ∷ name ∷ (with_key (codes "event") event ++ codes "frame" ∷ frame.0 ∷ frame.1) ≡ words_with s rest
times_spelled name event frame s rest e = at (after_key (codes "cost") (optional (codes "first") (optional (codes "deadline") frame.1).1).1) refl e
  where
    at : (found : Option (Word × List Word)) → after_key (codes "cost") (optional (codes "first") (optional (codes "deadline") frame.1).1).1 ≡ found
        → option_map (with_cost name event frame.0 (optional (codes "deadline") frame.1).0 (optional (codes "first") (optional (codes "deadline") frame.1).1).0) found ≡ Some (s, rest)
        → codes "process" ∷ name ∷ (with_key (codes "event") event ++ codes "frame" ∷ frame.0 ∷ frame.1) ≡ words_with s rest
    at None is f = absurd cc
    at (Some cost) is f =
        let d = optional (codes "deadline") frame.1 in
        let n = optional (codes "first") d.1 in
        let pair : with_cost name event frame.0 d.0 n.0 cost ≡ (s, rest) = cc in
        ap (λ ws. codes "process" ∷ name ∷ (with_key (codes "event") event ++ codes "frame" ∷ frame.0 ∷ ws))
        (optional_spelled (codes "deadline") frame.1 d.0 d.1 refl ∙ ap (λ ws. with_key (codes "deadline") d.0 ++ ws)
        (optional_spelled (codes "first") d.1 n.0 n.1 refl ∙ ap (λ ws. with_key (codes "first") n.0 ++ ws)
        (after_key_spelled (codes "cost") n.1 cost.0 cost.1 is)))
        ∙ ap (λ (x : SaidLine × List Word). words_with x.0 x.1) pair

event_spelled : (name : Word × List Word) (s : SaidLine) (rest : List Word) → event_read name ≡ Some (s, rest) → codes "process" ∷ name.0 ∷ name.1 ≡ words_with s rest
event_spelled name s rest e = at (after_key (codes "frame") (optional (codes "event") name.1).1) refl e
  where
    at : (found : Option (Word × List Word)) → after_key (codes "frame") (optional (codes "event") name.1).1 ≡ found
        → option_and_then (times_read name.0 (optional (codes "event") name.1).0) found ≡ Some (s, rest)
        → codes "process" ∷ name.0 ∷ name.1 ≡ words_with s rest
    at None is f = absurd cc
    at (Some frame) is f =
        let v = optional (codes "event") name.1 in
        ap (λ ws. codes "process" ∷ name.0 ∷ ws)
        (optional_spelled (codes "event") name.1 v.0 v.1 refl ∙ ap (λ ws. with_key (codes "event") v.0 ++ ws)
        (after_key_spelled (codes "frame") v.1 frame.0 frame.1 is))
        ∙ times_spelled name.0 v.0 frame s rest f

head_is_spelled : (words : List Word) (s : SaidLine) (rest : List Word) → head_read words ≡ Some (s, rest) → words ≡ words_with s rest
head_is_spelled words s rest e = at (after_key (codes "process") words) refl e
  where
    at : (found : Option (Word × List Word)) → after_key (codes "process") words ≡ found → option_and_then event_read found ≡ Some (s, rest) → words ≡ words_with s rest
    at None is f = absurd cc
    at (Some name) is f = after_key_spelled (codes "process") words name.0 name.1 is ∙ event_spelled name s rest f

pub line_is_spelled : (line : List ℕ) (s : SaidLine) → line_read line ≡ Some s → line ≡ spaced (process_words s)
unfolding line_read
line_is_spelled line s e = sym (spaced_split line) ∙ ap spaced (at (head_read (split line)) refl e)
  where
    stays_at : (front : SaidLine × List Word) (found : Option (List SaidStay)) → stays_read front.1 ≡ found → split line ≡ words_with front.0 front.1
        → option_map (λ stays. record front.0 { stays = stays }) found ≡ Some s → split line ≡ process_words s
    stays_at front None is so f = absurd cc
    stays_at front (Some stays) is so f =
        let whole : (let r : SaidLine = record front.0 { stays = stays } in r) ≡ s = cc in
        so ∙ ap (λ ws. words_with front.0 ws) (stays_are_spelled front.1 stays is) ∙ ap process_words whole

    at : (found : Option (SaidLine × List Word)) → head_read (split line) ≡ found → option_and_then stays_behind found ≡ Some s → split line ≡ process_words s
    at None is f = absurd cc
    at (Some front) is f = stays_at front (stays_read front.1) refl (head_is_spelled (split line) front.0 front.1 is) f
