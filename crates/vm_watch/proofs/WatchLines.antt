-- Lines one after another, and the words that are shown.
use Rattle.std.proofs.Common.{◌≡◌, ◌+◌, ◌++◌, ℕ, List, [], ◌∷◌, Some, length, take, arith, ap, sym, ◌∙◌, append_assoc}
use Rattle.std.specs.Prelude.{min, slice_get}
use Rattle.std.specs.List.{flat_map, range_with_len}
use Rattle.std.proofs.Math.Nat.{min_comm}
use Rattle.std.proofs.lemmas.List.{flat_map_more, map-id, take_min, take_more}
use Rattle.std.proofs.lemmas.List.FromFn.{map-range_with_len_more}
use Rattle.std.proofs.lemmas.Option.{get_or_from_slice_get, slice_get_within}

-- one more number
range_more : (n : ℕ) → range_with_len 0 (n + 1) ≡ range_with_len 0 n ++ n ∷ []
range_more n =
    sym (map-id (range_with_len 0 (n + 1)))
    ∙ (map-range_with_len_more (λ (x : ℕ). x) 0 n n (omega arith)
    ∙ ap (λ (ns : List ℕ). ns ++ n ∷ []) (map-id (range_with_len 0 n)))

-- one more line
pub line_more : (f : ℕ → List ℕ) (before text after : List ℕ) (n : ℕ) → text ≡ before ++ flat_map f (range_with_len 0 n) → after ≡ text ++ f n → after ≡ before ++ flat_map f (range_with_len 0 (n + 1))
line_more f before text after n so_far put =
    put
    ∙ (ap (λ (bytes : List ℕ). bytes ++ f n) so_far
    ∙ (flat_map_more f before (range_with_len 0 n) n
    ∙ ap (λ (ns : List ℕ). before ++ flat_map f ns) (sym (range_more n))))

-- one more word
pub word_more : {X : Type 0} (all words after : List X) (n : ℕ) (x : X) → words ≡ take n all → slice_get all n ≡ Some x → after ≡ words ++ x ∷ [] → after ≡ take (n + 1) all
word_more {X} all words after n x so_far there put =
    put
    ∙ (ap (λ (xs : List X). xs ++ x ∷ []) so_far
    ∙ (ap (λ (y : X). take n all ++ y ∷ []) (sym (get_or_from_slice_get all n x x there))
    ∙ sym (take_more all n x (slice_get_within all n x there))))

-- the first words, of as many as there are
pub first_words : {X : Type 0} (all words : List X) → words ≡ take (min (length all) 16) all → words ≡ take 16 all
first_words {X} all words is = is ∙ (ap (λ (n : ℕ). take n all) (min_comm (length all) 16) ∙ take_min 16 all)

-- the tick's line, the lines of the state and the last events
pub whole_text : (a b c d e start one two three : List ℕ) → start ≡ [] → one ≡ start ++ (a ++ (b ++ c)) → two ≡ one ++ d → three ≡ two ++ e → three ≡ a ++ (b ++ (c ++ (d ++ e)))
whole_text a b c d e start one two three empty first second third =
    third
    ∙ (ap (λ (xs : List ℕ). xs ++ e) second
    ∙ (append_assoc one d e
    ∙ (ap (λ (xs : List ℕ). xs ++ (d ++ e)) (first ∙ ap (λ (xs : List ℕ). xs ++ (a ++ (b ++ c))) empty)
    ∙ (append_assoc a (b ++ c) (d ++ e)
    ∙ ap (λ (xs : List ℕ). a ++ xs) (append_assoc b c (d ++ e))))))
