-- Whether a word is one of the language, as a test and as a place in the list.
use Rattle.std.proofs.Common.{◌≡◌, ◌<◌, ℕ, zero, suc, Bool, true, false, List, [], ◌∷◌, Option, Some, None, length, get_or, refl, ap, sym, ◌∙◌, arith}
use Rattle.std.specs.Prelude.{Contains, IfNone, IfSome, ◌||◌, bytes_eq, is_some, slice_get}
use Rattle.std.specs.List.{list_any}
use Rattle.std.proofs.Math.Bool.{or-true}
use Rattle.std.proofs.lemmas.Bool.{false_from_ne_true}
use Rattle.std.proofs.lemmas.Map.Views.{Contains-from_any}
use Rattle.std.proofs.lemmas.Slice.Eq.{bytes_eq-Decides}
use Rattle.syntax.specs.Spellings.{keywords}
use Rattle.message_table.specs.Names.{is_keyword}

-- the word at a place of a list
found : (words : List (List ℕ)) (at : ℕ) (word : List ℕ) → slice_get words at ≡ Some word → list_any (bytes_eq word) words ≡ true
found [] at word is = cc
found (first ∷ words) zero word is =
    let same : bytes_eq word first ≡ true = (bytes_eq-Decides word first).1 (cc) in
    ap (λ (b : Bool). b || list_any (bytes_eq word) words) same
found (first ∷ words) (suc at) word is =
    ap (λ (b : Bool). bytes_eq word first || b) (found words at word is) ∙ or-true (bytes_eq word first)

-- a word that is not in a list
missing : (words : List (List ℕ)) (word : List ℕ) → ¬ Contains words word → list_any (bytes_eq word) words ≡ false
missing words word none =
    false_from_ne_true (list_any (bytes_eq word) words) (λ yes. none (Contains-from_any (λ x y. (bytes_eq-Decides x y).0) word words yes))

pub keyword_is : (at : Option ℕ) (word : List ℕ) → IfSome at (λ n. slice_get keywords n ≡ Some word) → IfNone at (¬ Contains keywords word) → is_some at ≡ is_keyword word
keyword_is None word found_is none = sym (missing keywords word none)
keyword_is (Some n) word found_is none = sym (found keywords n word found_is)
