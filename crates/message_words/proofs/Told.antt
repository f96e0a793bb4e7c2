-- What is told, part by part.
use Rattle.std.proofs.Common.{◌≡◌, ◌<◌, ◌≤◌, ◌++◌, ℕ, Bool, false, List, [], ◌∷◌, Option, Global, length, get_or, map, refl, sym, ap, ◌∙◌, arith, append_assoc}
use Rattle.std.specs.Prelude.{String, bytes_eq, codes, find, string_bytes, if◌then◌else◌}
use Rattle.message_text.specs.Nearest.{nearest}
use Rattle.message_words.specs.Usage.{no_command, rows, table, told, told_of, unknown}

-- one part is put behind another
pub joined : (old part more text : List ℕ) → text ≡ old ++ part → text ++ more ≡ old ++ (part ++ more)
joined old part more text is = ap (λ (t : List ℕ). t ++ more) is ∙ append_assoc old part more

-- a word that is not `help`
pub unknown_is : (word : List ℕ) (is_help : Bool) (near : Option (List ℕ)) → is_help ≡ bytes_eq word (codes "help") → is_help ≡ false
    → near ≡ nearest word (map (λ row. row.command) rows) → no_command word near ≡ unknown word
unknown_is word is_help near is other near_is =
    ap (no_command word) near_is ∙ sym (ap (λ (b : Bool). if b then [] else no_command word (nearest word (map (λ row. row.command) rows))) (sym is ∙ other))

-- the first of some words
pub first_told : (words : List (String Global)) (word : String Global) (bytes : List ℕ) → 1 ≤ length words → word ≡ get_or words 0 word → bytes ≡ string_bytes word
    → told (map string_bytes words) bytes (find (λ row. bytes_eq row.command bytes) rows) ≡ told_of (map string_bytes words)
first_told [] word bytes some is bytes_are = absurd (omega (arith, some))
first_told (first ∷ words) word bytes some is bytes_are =
    ap (λ (b : List ℕ). told (map string_bytes (first ∷ words)) b (find (λ row. bytes_eq row.command b) rows)) (bytes_are ∙ ap string_bytes is)

-- no words
pub none_told : (words : List (String Global)) → length words < 1 → codes "rte: a command is wanted\n" ++ table rows ≡ told_of (map string_bytes words)
none_told [] none = refl
none_told (first ∷ words) none = absurd (omega (arith, none))
