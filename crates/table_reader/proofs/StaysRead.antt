-- The stays of a line, one after another.
use Rattle.std.proofs.Common.{◌≡◌, ◌≢◌, List, [], ◌∷◌, ◌++◌, Option, Some, None, Bool, true, false, map, codes, refl, ap, sym, ◌∙◌, subst}
use Rattle.std.specs.Prelude.{option_map, option_and_then, if◌then◌else◌}
use Rattle.std.proofs.lemmas.List.{append_assoc, map-append}
use Rattle.table_format.specs.Spelling.{Word, SaidStay}
use Rattle.table_format.specs.Rules.{same_name}
use Rattle.table_reader.specs.declared.line.StayWords.{StayWords}
use Rattle.table_reader.specs.Words.{first_word}
use Rattle.table_reader.specs.Reading.{stay_of, ticks_of, stay_read, stays_read}

-- what is read where a stay stands, and where none does
abbrev IsStep : List Word → Option (SaidStay × List Word) → Type 0
IsStep words None = stays_read words ≡ None
IsStep words (Some found) = stays_read words ≡ option_map (λ more. found.0 ∷ more) (stays_read found.1)

step : (words : List Word) → words ≢ [] → IsStep words (stay_read words)
step [] some = absurd (some refl)
step (key ∷ []) some = at (same_name key (codes "stay"))
  where
    at : (b : Bool) → IsStep (key ∷ []) (option_and_then (λ monitor. ticks_of monitor (first_word monitor.1)) (if b then first_word [] else None))
    at true = refl
    at false = refl
step (key ∷ monitor ∷ []) some = at (same_name key (codes "stay"))
  where
    at : (b : Bool) → IsStep (key ∷ monitor ∷ []) (option_and_then (λ m. ticks_of m (first_word m.1)) (if b then first_word (monitor ∷ []) else None))
    at true = refl
    at false = refl
step (key ∷ monitor ∷ ticks ∷ words) some = at (same_name key (codes "stay")) refl
  where
    at : (b : Bool) → same_name key (codes "stay") ≡ b → IsStep (key ∷ monitor ∷ ticks ∷ words) (option_and_then (λ m. ticks_of m (first_word m.1)) (if b then first_word (monitor ∷ ticks ∷ words) else None))
    at true is = ap (λ c. if c then option_map (λ more. record { monitor = monitor; ticks = ticks } ∷ more) (stays_read words) else None) is
    at false is = ap (λ c. if c then option_map (λ more. record { monitor = monitor; ticks = ticks } ∷ more) (stays_read words) else None) is

stay_none : (words : List Word) → words ≢ [] → stay_read words ≡ None → stays_read words ≡ None
stay_none words some is = subst (IsStep words) is (step words some)

stay_some : (words : List Word) (s : SaidStay) (rest : List Word) → words ≢ [] → stay_read words ≡ Some (s, rest) → stays_read words ≡ option_map (λ more. s ∷ more) (stays_read rest)
stay_some words s rest some is = subst (IsStep words) is (step words some)

-- one stay more behind those that were read
behind : (before : List SaidStay) (s : SaidStay) (found : Option (List SaidStay)) → option_map (λ more. before ++ more) (option_map (λ more. s ∷ more) found) ≡ option_map (λ more. (before ++ s ∷ []) ++ more) found
behind before s None = refl
behind before s (Some more) = ap Some (sym (append_assoc before (s ∷ []) more))

pub read_more : (old new : List StayWords) (x : StayWords) (words rest : List Word) (whole : Option (List SaidStay)) → words ≢ [] → stay_read words ≡ Some (stay_of x, rest) → new ≡ old ++ x ∷ []
    → option_map (λ more. map stay_of old ++ more) (stays_read words) ≡ whole → option_map (λ more. map stay_of new ++ more) (stays_read rest) ≡ whole
read_more old new x words rest whole some is put so_far =
    ap (λ (xs : List SaidStay). option_map (λ more. xs ++ more) (stays_read rest)) (ap (map stay_of) put ∙ map-append stay_of old (x ∷ []))
    ∙ (sym (behind (map stay_of old) (stay_of x) (stays_read rest))
    ∙ (ap (option_map (λ more. map stay_of old ++ more)) (sym (stay_some words (stay_of x) rest some is)) ∙ so_far))

pub read_none : (stays : List StayWords) (words : List Word) (whole : Option (List SaidStay)) → words ≢ [] → stay_read words ≡ None
    → option_map (λ more. map stay_of stays ++ more) (stays_read words) ≡ whole → None ≡ whole
read_none stays words whole some is so_far = sym (ap (option_map (λ more. map stay_of stays ++ more)) (stay_none words some is)) ∙ so_far
