-- One turn of a search among words, and among tokens.
use Rattle.std.proofs.Common.{◌≡◌, ℕ, ◌+◌, ◌<◌, ◌≤◌, Bool, true, false, ◌||◌, List, ◌∷◌, Option, Some, None, length, drop, get_or, slice_get, refl, ap, sym, ◌∙◌}
use Rattle.std.proofs.lemmas.List.{drop_all, drop_more}
use Rattle.std.proofs.lemmas.Option.{get_or_from_slice_get, slice_get_within}
use Rattle.std.specs.Prelude.{find}
use Rattle.syntax.specs.declared.token.Token.{Token}
use Rattle.syntax.specs.declared.token.keyword.TheConstants as k
use Rattle.message_expected.specs.Kinds.{of_token, same}
use Rattle.message_unexpected.specs.Remarks.{has_pair, is_pair}
use Rattle.message_expected.specs.declared.kinds.Kind.TheVariants.{Keyword}

rest : (words : List (List ℕ)) (at : ℕ) (word : List ℕ) → slice_get words at ≡ Some word → drop at words ≡ word ∷ drop (at + 1) words
rest words at word is =
    drop_more words at word (slice_get_within words at word is) ∙ ap (λ w. w ∷ drop (at + 1) words) (get_or_from_slice_get words at word word is)

pub missed : (p : List ℕ → Bool) (words : List (List ℕ)) (at : ℕ) (word : List ℕ) (whole : Option (List ℕ)) → slice_get words at ≡ Some word → p word ≡ false
    → find p (drop at words) ≡ whole → find p (drop (at + 1) words) ≡ whole
missed p words at word whole is fails so_far = sym (rw fails refl) ∙ sym (ap (find p) (rest words at word is)) ∙ so_far

pub hit : (p : List ℕ → Bool) (words : List (List ℕ)) (at : ℕ) (word : List ℕ) (whole : Option (List ℕ)) → slice_get words at ≡ Some word → p word ≡ true
    → find p (drop at words) ≡ whole → Some word ≡ whole
hit p words at word whole is passes so_far = sym (rw passes refl) ∙ sym (ap (find p) (rest words at word is)) ∙ so_far

pub none : (p : List ℕ → Bool) (words : List (List ℕ)) (at : ℕ) (whole : Option (List ℕ)) → length words ≤ at → find p (drop at words) ≡ whole → None ≡ whole
none p words at whole all so_far = sym (ap (find p) (drop_all at words all)) ∙ so_far

-- ---- an `if` right behind an `else`

pub no_pair : (toks : List Token) (at : ℕ) (d : Token) (b next r whole : Bool) → at < length toks → has_pair b (drop at toks) ≡ whole → r ≡ is_pair b (of_token (get_or toks at d).kind)
    → r ≡ false → next ≡ same (Keyword k.ELSE) (of_token (get_or toks at d).kind) → has_pair next (drop (at + 1) toks) ≡ whole
unfolding has_pair
no_pair toks at d b next r whole below so_far is fails end =
    ap (λ e. has_pair e (drop (at + 1) toks)) end ∙ sym (ap (λ e. e || has_pair (same (Keyword k.ELSE) (of_token (get_or toks at d).kind)) (drop (at + 1) toks)) (sym is ∙ fails))
    ∙ sym (ap (has_pair b) (drop_more toks at d below)) ∙ so_far

pub a_pair : (toks : List Token) (at : ℕ) (d : Token) (b r whole : Bool) → at < length toks → has_pair b (drop at toks) ≡ whole → r ≡ is_pair b (of_token (get_or toks at d).kind)
    → r ≡ true → true ≡ whole
unfolding has_pair
a_pair toks at d b r whole below so_far is passes =
    sym (ap (λ e. e || has_pair (same (Keyword k.ELSE) (of_token (get_or toks at d).kind)) (drop (at + 1) toks)) (sym is ∙ passes))
    ∙ sym (ap (has_pair b) (drop_more toks at d below)) ∙ so_far

pub no_more : (toks : List Token) (at : ℕ) (b whole : Bool) → length toks ≤ at → has_pair b (drop at toks) ≡ whole → false ≡ whole
unfolding has_pair
no_more toks at b whole all so_far = sym (ap (has_pair b) (drop_all at toks all)) ∙ so_far
