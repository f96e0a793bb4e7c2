-- Keywords by their slots.
use Rattle.std.proofs.Common.{◌≡◌, ℕ, zero, suc, ◌+◌, ◌<◌, ◌≤◌, Bool, true, ◌&&◌, List, [], ◌∷◌, length, slice_index_or, slice_get, Some, Contains, nat_eq, nat_lt, nat_le, refl, ap, sym, ◌∙◌, subst, arith, eqb-true}
use Rattle.std.specs.List.{list_all}
use Rattle.std.specs.Borrow.{Bor}
use Rattle.std.proofs.lemmas.Bool.{ltb-true, leb-true, and_parts}
use Rattle.std.proofs.lemmas.Option.{same_Some}
use Rattle.syntax.specs.declared.table.TheConstants.{PLACES}
use Rattle.syntax.specs.Spellings.{keywords}
use Rattle.syntax.specs.Tables.{slot, words_of}

pub all_at : {A : Type 0} (p : A → Bool) (xs : List A) (k : ℕ) (d : A) → list_all p xs ≡ true → k < length xs → p (slice_index_or xs k d) ≡ true
all_at p [] k d all below = absurd (omega arith)
all_at p (x ∷ xs) zero d all below = (and_parts (p x) (list_all p xs) all).0
all_at p (x ∷ xs) (suc k) d all below = all_at p xs k d (and_parts (p x) (list_all p xs) all).1 (omega arith)

-- what stands at a place of a table
pub word_at : (table : List (Bor (List ℕ))) (at : ℕ) (d : Bor (List ℕ)) → at < length table → slice_get (words_of table) at ≡ Some (slice_index_or table at d).now
word_at [] at d below = absurd (omega arith)
word_at (e ∷ es) zero d below = refl
word_at (e ∷ es) (suc at) d below = word_at es at d (omega arith)

-- ---- the places in the slots

-- each slot has the place of a keyword
pub place_within : (k d : ℕ) → k < 128 → slice_index_or PLACES k d < length keywords
place_within k d below = ltb-true (slice_index_or PLACES k d) (length keywords) (all_at (λ p. nat_lt p (length keywords)) PLACES k d refl below)

-- the slots of these words, which stand from a place on, have their places
abbrev have_places : ℕ → List (List ℕ) → Bool
have_places k [] = true
have_places k (w ∷ ws) = nat_eq (slice_index_or PLACES (slot w) 0) k && have_places (suc k) ws

places_at : (k : ℕ) (ws : List (List ℕ)) (j : ℕ) (w : List ℕ) → have_places k ws ≡ true → slice_get ws j ≡ Some w → slice_index_or PLACES (slot w) 0 ≡ k + j
places_at k [] j w all is = cc
places_at k (v ∷ ws) zero w all is =
    let here = eqb-true _ _ (and_parts (nat_eq (slice_index_or PLACES (slot v) 0) k) (have_places (suc k) ws) all).0 in
    ap (λ u. slice_index_or PLACES (slot u) 0) (sym (same_Some v w is)) ∙ here ∙ omega arith
places_at k (v ∷ ws) (suc j) w all is = places_at (suc k) ws j w (and_parts (nat_eq (slice_index_or PLACES (slot v) 0) k) (have_places (suc k) ws) all).1 is ∙ omega arith

keywords_have_places : have_places 0 keywords ≡ true
keywords_have_places = refl

-- the slot of a keyword has its place
pub only_place : (word : List ℕ) (at : ℕ) → slice_get keywords at ≡ Some word → slice_index_or PLACES (slot word) 0 ≡ at
only_place word at is = places_at 0 keywords at word keywords_have_places is ∙ omega arith

-- ---- keywords

pub slice_get_at : (ws : List (List ℕ)) (word : List ℕ) → Contains ws word → (at : ℕ) × (slice_get ws at ≡ Some word)
slice_get_at [] word (k, below, is) = absurd (omega arith)
slice_get_at (w ∷ ws) word (zero, below, is) = (zero, ap Some is)
slice_get_at (w ∷ ws) word (suc k, below, is) = let more = slice_get_at ws word (k, omega arith, is) in (suc more.0, more.1)

-- a keyword is short
pub keyword_short : (word : List ℕ) → Contains keywords word → length word ≤ 12
keyword_short word (k, below, is) = leb-true (length word) 12 (subst (λ v. nat_le (length v) 12 ≡ true) is (all_at (λ w. nat_le (length w) 12) keywords k word refl below))
