-- Spellings with a blank behind each are the tokens of their text.
use Rattle.std.proofs.Common.{◌≡◌, ℕ, zero, suc, ◌+◌, ◌<◌, ◌≤◌, Bool, true, not, ◌&&◌, ◌||◌, nat_eq, ◌⊎◌, inl, inr, List, [], ◌∷◌, ◌++◌, length, take, drop, refl, ap, sym, ◌∙◌, subst, arith, eqb-true, append_assoc, append-nil}
use Rattle.std.specs.List.{list_all}
use Rattle.std.proofs.lemmas.Bool.{and_parts, or_cases}
use Rattle.syntax.specs.declared.token.Token.{Token}
use Rattle.syntax.specs.declared.token.TokenKind.{TokenKind}
use Rattle.syntax.specs.declared.token.TokenKind.TheVariants as kind
use Rattle.syntax.specs.Spellings.{signs, keywords, is_letter, is_digit, is_word, Spells, HasKind}
use Rattle.syntax.specs.Tokens.{is_blank, Begins, IsLongest, StandsIn, line_after, col_after, Piece, blank, token, IsCut, tokens_among, longest_text, tokens}
use Rattle.syntax.proofs.SpellLemmas.{listed, Contains-from, keyword_identifier}
use Rattle.syntax.proofs.KindLemmas.{blank_spells_nothing, not_there}
use Rattle.syntax.specs.Words.{Word, word_of, toks_of, words_of}

-- ---- no spelling holds a blank

word_no_blank : (b : ℕ) → is_blank b ≡ true → is_word b ≡ true → ⊥
word_no_blank b dark word = by (or_cases (is_letter b || is_digit b) (nat_eq b 95) word)
  where
    by2 : (is_letter b ≡ true) ⊎ (is_digit b ≡ true) → ⊥
    by2 (inl letter) = blank_spells_nothing b [] dark (inl (ap (λ t. t && list_all is_word []) letter))
    by2 (inr digit) = blank_spells_nothing b [] dark (inr (inl (ap (λ t. t && list_all is_digit []) digit)))

    by : ((is_letter b || is_digit b) ≡ true) ⊎ (nat_eq b 95 ≡ true) → ⊥
    by (inl is) = by2 (or_cases (is_letter b) (is_digit b) is)
    by (inr is) = let same = eqb-true b 95 is in let none : is_blank 95 ≡ true = subst (λ c. is_blank c ≡ true) same dark in cc none

digit_no_blank : (b : ℕ) → is_blank b ≡ true → is_digit b ≡ true → ⊥
digit_no_blank b dark digit = blank_spells_nothing b [] dark (inr (inl (ap (λ t. t && list_all is_digit []) digit)))

in_all : (p : ℕ → Bool) (w : List ℕ) (b : ℕ) (v : List ℕ) → list_all p (w ++ b ∷ v) ≡ true → p b ≡ true
in_all p [] b v all = (and_parts (p b) (list_all p v) all).0
in_all p (c ∷ w) b v all = in_all p w b v (and_parts (p c) (list_all p (w ++ b ∷ v)) all).1

pub holds_no_blank : (w : List ℕ) (b : ℕ) (v : List ℕ) → is_blank b ≡ true → Spells (w ++ b ∷ v) → ⊥
holds_no_blank [] b v dark spells = blank_spells_nothing b v dark spells
holds_no_blank (c ∷ w) b v dark (inl is) = word_no_blank b dark (in_all is_word w b v (and_parts (is_letter c) (list_all is_word (w ++ b ∷ v)) is).1)
holds_no_blank (c ∷ w) b v dark (inr (inl is)) = digit_no_blank b dark (in_all is_digit w b v (and_parts (is_digit c) (list_all is_digit (w ++ b ∷ v)) is).1)
holds_no_blank (c ∷ w) b v dark (inr (inr is)) =
    not_there (is_blank b) (in_all (λ d. not (is_blank d)) (c ∷ w) b v (listed (λ u. list_all (λ d. not (is_blank d)) u) signs (c ∷ (w ++ b ∷ v)) refl is)) dark

-- ---- the longest spelling before a blank

take_front : (w v : List ℕ) → take (length w) (w ++ v) ≡ w
take_front [] v = refl
take_front (c ∷ w) v = ap (λ u. c ∷ u) (take_front w v)

drop_front : (w v : List ℕ) → drop (length w) (w ++ v) ≡ v
drop_front [] v = refl
drop_front (c ∷ w) v = drop_front w v

length_of_both : (w v : List ℕ) → length (w ++ v) ≡ length w + length v
length_of_both [] v = omega arith
length_of_both (c ∷ w) v = omega (arith, length_of_both w v)

-- more than the front takes what follows it
record TakesPast (w : List ℕ) (b : ℕ) (rest : List ℕ) (m : ℕ) : Type 0 where
  more : ℕ
  same : take m (w ++ b ∷ rest) ≡ w ++ b ∷ take more rest

take_past : (w : List ℕ) (b : ℕ) (rest : List ℕ) (m : ℕ) → length w < m → TakesPast w b rest m
take_past [] b rest zero below = absurd (omega arith)
take_past [] b rest (suc m) below = record { more = m; same = refl }
take_past (c ∷ w) b rest zero below = absurd (omega arith)
take_past (c ∷ w) b rest (suc m) below = let it = take_past w b rest m (omega arith) in record { more = it.more; same = ap (λ u. c ∷ u) it.same }

spells_of : (w : List ℕ) (k : TokenKind) → HasKind w k → Spells w
spells_of w kind.Ident has = inl has.0
spells_of w (kind.Keyword at) has = inl (keyword_identifier w (Contains-from keywords at w has))
spells_of w (kind.Literal v) has = inr (inl has.0)
spells_of w (kind.Sign at) has = inr (inr (Contains-from signs at w has))

longest_of : (w : List ℕ) (k : TokenKind) (b : ℕ) (rest : List ℕ) → HasKind w k → is_blank b ≡ true → IsLongest (w ++ b ∷ rest) (length w)
longest_of w k b rest has dark = record {
  within = omega (arith, length_of_both w (b ∷ rest));
  spells = subst Spells (sym (take_front w (b ∷ rest))) (spells_of w k has);
  longest = λ m more within spells. let it = take_past w b rest m more in holds_no_blank w b (take it.more rest) dark (subst Spells it.same spells);
}

-- ---- spellings with a blank behind each, and blanks alone

pub data Item : Type 0 where
  spelled : (bytes : List ℕ) → TokenKind → (blank : ℕ) → Item
  alone : (blank : ℕ) → Item

abbrev pub item_text : List Item → List ℕ
item_text [] = []
item_text (spelled bytes k b ∷ items) = bytes ++ b ∷ item_text items
item_text (alone b ∷ items) = b ∷ item_text items

abbrev pub item_words : List Item → List Word
item_words [] = []
item_words (spelled bytes k b ∷ items) = word_of k bytes ∷ item_words items
item_words (alone b ∷ items) = item_words items

abbrev pub AreItems : List Item → Type 0
AreItems [] = Unit {0}
AreItems (spelled bytes k b ∷ items) = HasKind bytes k × (is_blank b ≡ true) × AreItems items
AreItems (alone b ∷ items) = (is_blank b ≡ true) × AreItems items

-- what the text is cut into from one byte on
pub record Cut (text : List ℕ) (from : ℕ) (words : List Word) : Type 0 where
  pub pieces : List Piece
  pub cut : IsCut text from (length text) pieces
  pub listed : words_of (toks_of text (tokens_among pieces)) ≡ words

-- a blank at the front
blank_cut : (text before : List ℕ) (b : ℕ) (rest : List ℕ) (words : List Word) → text ≡ before ++ b ∷ rest → is_blank b ≡ true
    → (text ≡ (before ++ b ∷ []) ++ rest → Cut text (length (before ++ b ∷ [])) words) → Cut text (length before) words
blank_cut text before b rest words same dark go =
    let here : drop (length before) text ≡ b ∷ rest = ap (drop (length before)) same ∙ drop_front before (b ∷ rest) in
    let last = go (same ∙ sym (append_assoc before (b ∷ []) rest)) in
    let one : length (before ++ b ∷ []) ≡ length before + 1 = length_of_both before (b ∷ []) in
    record {
      pieces = blank ∷ last.pieces;
      cut = (subst (Begins is_blank) (sym here) dark, subst (λ k. IsCut text k (length text) last.pieces) one last.cut);
      listed = last.listed;
    }

-- a token at the front
token_cut : (text before w : List ℕ) (k : TokenKind) (b : ℕ) (rest : List ℕ) (words : List Word) → text ≡ before ++ (w ++ b ∷ rest) → HasKind w k → is_blank b ≡ true
    → (text ≡ (before ++ w) ++ b ∷ rest → Cut text (length (before ++ w)) words) → Cut text (length before) (word_of k w ∷ words)
token_cut text before w k b rest words same has dark go =
    let here : drop (length before) text ≡ w ++ b ∷ rest = ap (drop (length before)) same ∙ drop_front before (w ++ b ∷ rest) in
    let bytes : take (length w) (drop (length before) text) ≡ w = ap (take (length w)) here ∙ take_front w (b ∷ rest) in
    let last = go (same ∙ sym (append_assoc before w (b ∷ rest))) in
    let t : Token = record { kind = k; start = length before; len = length w; line = line_after (take (length before) text); col = col_after (take (length before) text) } in
    let stands : StandsIn text t = record {
      longest = subst (λ v. IsLongest v (length w)) (sym here) (longest_of w k b rest has dark);
      kind = subst (λ v. HasKind v k) (sym bytes) has;
      line = refl;
      col = refl;
    } in
    record {
      pieces = token t ∷ last.pieces;
      cut = (refl, stands, subst (λ m. IsCut text m (length text) last.pieces) (length_of_both before w) last.cut);
      listed = (let more = last.listed in λ i. word_of k (bytes i) ∷ more i);
    }

cut_from : (text before : List ℕ) (items : List Item) → text ≡ before ++ item_text items → AreItems items → Cut text (length before) (item_words items)
cut_from text before [] same are = record { pieces = []; cut = sym (ap length (same ∙ append-nil before)); listed = refl }
cut_from text before (spelled bytes k b ∷ items) same (has, dark, are) =
    token_cut text before bytes k b (item_text items) (item_words items) same has dark (λ at_blank.
    blank_cut text (before ++ bytes) b (item_text items) (item_words items) at_blank dark (λ past. cut_from text ((before ++ bytes) ++ b ∷ []) items past are))
cut_from text before (alone b ∷ items) same (dark, are) =
    blank_cut text before b (item_text items) (item_words items) same dark (λ past. cut_from text (before ++ b ∷ []) items past are)

-- the text has these words as its tokens
pub record HasWords (text : List ℕ) (words : List Word) : Type 0 where
  pub toks : List Token
  pub are : tokens text toks
  pub listed : words_of (toks_of text toks) ≡ words

pub items_lexed : (items : List Item) → AreItems items → length (item_text items) ≤ longest_text → HasWords (item_text items) (item_words items)
items_lexed items are short =
    let all = cut_from (item_text items) [] items refl are in
    record { toks = tokens_among all.pieces; are = record { short = short; pieces = all.pieces; cut = all.cut; listed = refl }; listed = all.listed }
