-- The kinds of spellings exclude one another, and each spelling has one.
use Rattle.std.proofs.Common.{◌≡◌, ℕ, zero, suc, ◌≤◌, Bool, true, false, not, ◌&&◌, ◌||◌, ◌⊎◌, inl, inr, List, [], ◌∷◌, length, take, Some, slice_get, Contains, nat_le, nat_eq, eqb-true, refl, ap, sym, ◌∙◌, subst}
use Rattle.std.proofs.lemmas.Bool.{leb-true, and_parts, or_cases}
use Rattle.std.specs.Cmp.Lexicographic.{pointwise, nat_list_eq_equiv}
use Rattle.std.specs.List.{list_all, list_any}
use Rattle.syntax.specs.declared.token.TokenKind.{TokenKind}
use Rattle.syntax.specs.declared.token.TokenKind.TheVariants.{Ident, Keyword, Literal, Sign}
use Rattle.syntax.specs.Spellings.{signs, keywords, is_letter, is_digit, is_word, is_identifier, is_number, Spells, HasKind}
use Rattle.syntax.specs.Tokens.{is_blank, is_percent, Begins}
use Rattle.syntax.proofs.SpellLemmas.{listed, Contains-from, sign_begins, keyword_identifier, letter_no_digit, nothing_spells_nothing}

-- ---- blanks and `%`

no_blank_byte : (p : ℕ → Bool) (b : ℕ) → p 32 ≡ false → p 9 ≡ false → p 13 ≡ false → p 10 ≡ false → is_blank b ≡ true → p b ≡ true → ⊥
no_blank_byte p b space tab return feed blank passes = by (or_cases (nat_eq b 32 || nat_eq b 9 || nat_eq b 13) (nat_eq b 10) blank)
  where
    at : (k : ℕ) → p k ≡ false → nat_eq b k ≡ true → ⊥
    at k none is = let same = eqb-true b k is in let here : p k ≡ true = subst (λ c. p c ≡ true) same passes in cc (here, none)

    by2 : (nat_eq b 32 ≡ true) ⊎ (nat_eq b 9 ≡ true) → ⊥
    by2 (inl is) = at 32 space is
    by2 (inr is) = at 9 tab is

    by3 : ((nat_eq b 32 || nat_eq b 9) ≡ true) ⊎ (nat_eq b 13 ≡ true) → ⊥
    by3 (inl is) = by2 (or_cases (nat_eq b 32) (nat_eq b 9) is)
    by3 (inr is) = at 13 return is

    by : ((nat_eq b 32 || nat_eq b 9 || nat_eq b 13) ≡ true) ⊎ (nat_eq b 10 ≡ true) → ⊥
    by (inl is) = by3 (or_cases (nat_eq b 32 || nat_eq b 9) (nat_eq b 13) is)
    by (inr is) = at 10 feed is

no_percent_byte : (p : ℕ → Bool) (b : ℕ) → p 37 ≡ false → is_percent b ≡ true → p b ≡ true → ⊥
no_percent_byte p b none percent passes = let same = eqb-true b 37 percent in let here : p 37 ≡ true = subst (λ c. p c ≡ true) same passes in cc (here, none)

pub blank_spells_nothing : (b : ℕ) (bs : List ℕ) → is_blank b ≡ true → Spells (b ∷ bs) → ⊥
blank_spells_nothing b bs blank (inl is) = no_blank_byte is_letter b refl refl refl refl blank (and_parts (is_letter b) (list_all is_word bs) is).0
blank_spells_nothing b bs blank (inr (inl is)) = no_blank_byte is_digit b refl refl refl refl blank (and_parts (is_digit b) (list_all is_digit bs) is).0
blank_spells_nothing b bs blank (inr (inr is)) = let none = (sign_begins b bs is).2 in cc (blank, none)

pub percent_spells_nothing : (b : ℕ) (bs : List ℕ) → is_percent b ≡ true → Spells (b ∷ bs) → ⊥
percent_spells_nothing b bs percent (inl is) = no_percent_byte is_letter b refl percent (and_parts (is_letter b) (list_all is_word bs) is).0
percent_spells_nothing b bs percent (inr (inl is)) = no_percent_byte is_digit b refl percent (and_parts (is_digit b) (list_all is_digit bs) is).0
percent_spells_nothing b bs percent (inr (inr is)) = let none = (sign_begins b bs is).3 in cc (percent, none)

pub blank_no_percent : (bytes : List ℕ) → Begins is_blank bytes → Begins is_percent bytes → ⊥
blank_no_percent [] blank percent = absurd blank
blank_no_percent (b ∷ bs) blank percent = no_blank_byte is_percent b refl refl refl refl blank percent

pub blank_no_token : (bytes : List ℕ) (n : ℕ) → Begins is_blank bytes → Spells (take n bytes) → ⊥
blank_no_token [] n blank spells = absurd blank
blank_no_token (b ∷ bs) zero blank spells = nothing_spells_nothing spells
blank_no_token (b ∷ bs) (suc n) blank spells = blank_spells_nothing b (take n bs) blank spells

pub percent_no_token : (bytes : List ℕ) (n : ℕ) → Begins is_percent bytes → Spells (take n bytes) → ⊥
percent_no_token [] n percent spells = absurd percent
percent_no_token (b ∷ bs) zero percent spells = nothing_spells_nothing spells
percent_no_token (b ∷ bs) (suc n) percent spells = percent_spells_nothing b (take n bs) percent spells

-- ---- identifiers, numbers and signs

pub identifier_no_number : (w : List ℕ) → is_identifier w ≡ true → is_number w ≡ true → ⊥
identifier_no_number [] identifier number = cc
identifier_no_number (b ∷ bs) identifier number = letter_no_digit b (and_parts (is_letter b) (list_all is_word bs) identifier).0 (and_parts (is_digit b) (list_all is_digit bs) number).0

pub identifier_no_sign : (w : List ℕ) → is_identifier w ≡ true → Contains signs w → ⊥
identifier_no_sign [] identifier sign = cc
identifier_no_sign (b ∷ bs) identifier sign =
    let letter = (and_parts (is_letter b) (list_all is_word bs) identifier).0 in let none = (sign_begins b bs sign).0 in cc (letter, none)

pub number_no_sign : (w : List ℕ) → is_number w ≡ true → Contains signs w → ⊥
number_no_sign [] number sign = cc
number_no_sign (b ∷ bs) number sign =
    let digit = (and_parts (is_digit b) (list_all is_digit bs) number).0 in let none = (sign_begins b bs sign).1 in cc (digit, none)

-- ---- no spelling stands twice in a list

bytes_self : (w : List ℕ) → pointwise nat_eq w w ≡ true
bytes_self w = nat_list_eq_equiv.refl w

abbrev distinct : List (List ℕ) → Bool
distinct [] = true
distinct (w ∷ words) = not (list_any (pointwise nat_eq w) words) && distinct words

there : (words : List (List ℕ)) (at : ℕ) (w : List ℕ) → slice_get words at ≡ Some w → list_any (pointwise nat_eq w) words ≡ true
there [] at w is = cc
there (v ∷ words) zero w is = let same : v ≡ w = cc in ap (λ b. b || list_any (pointwise nat_eq w) words) (ap (pointwise nat_eq w) same ∙ bytes_self w)
there (v ∷ words) (suc at) w is = by (pointwise nat_eq w v) (there words at w is)
  where
    by : (b : Bool) → list_any (pointwise nat_eq w) words ≡ true → (b || list_any (pointwise nat_eq w) words) ≡ true
    by true more = refl
    by false more = more

pub not_there : (b : Bool) → not b ≡ true → b ≡ true → ⊥
not_there true none is = cc
not_there false none is = cc

pub one_place : (words : List (List ℕ)) (i j : ℕ) (w : List ℕ) → distinct words ≡ true → slice_get words i ≡ Some w → slice_get words j ≡ Some w → i ≡ j
one_place [] i j w once is also = cc
one_place (v ∷ words) zero zero w once is also = refl
one_place (v ∷ words) zero (suc j) w once is also =
    let same : v ≡ w = cc in
    absurd (not_there (list_any (pointwise nat_eq v) words) (and_parts (not (list_any (pointwise nat_eq v) words)) (distinct words) once).0 (ap (λ u. list_any (pointwise nat_eq u) words) same ∙ there words j w also))
one_place (v ∷ words) (suc i) zero w once is also =
    let same : v ≡ w = cc in
    absurd (not_there (list_any (pointwise nat_eq v) words) (and_parts (not (list_any (pointwise nat_eq v) words)) (distinct words) once).0 (ap (λ u. list_any (pointwise nat_eq u) words) same ∙ there words i w is))
one_place (v ∷ words) (suc i) (suc j) w once is also = ap suc (one_place words i j w (and_parts (not (list_any (pointwise nat_eq v) words)) (distinct words) once).1 is also)

pub keywords_short : (w : List ℕ) → Contains keywords w → length w ≤ 63
keywords_short w is = leb-true (length w) 63 (listed (λ v. nat_le (length v) 63) keywords w refl is)

pub one_kind : (w : List ℕ) (k l : TokenKind) → HasKind w k → HasKind w l → k ≡ l
one_kind w Ident Ident a b = refl
one_kind w Ident (Keyword at) a b = absurd (a.1 (Contains-from keywords at w b))
one_kind w Ident (Literal v) a b = absurd (identifier_no_number w a.0 b.0)
one_kind w Ident (Sign at) a b = absurd (identifier_no_sign w a.0 (Contains-from signs at w b))
one_kind w (Keyword at) Ident a b = absurd (b.1 (Contains-from keywords at w a))
one_kind w (Keyword at) (Keyword also) a b = ap Keyword (one_place keywords at also w refl a b)
one_kind w (Keyword at) (Literal v) a b = absurd (identifier_no_number w (keyword_identifier w (Contains-from keywords at w a)) b.0)
one_kind w (Keyword at) (Sign also) a b = absurd (identifier_no_sign w (keyword_identifier w (Contains-from keywords at w a)) (Contains-from signs also w b))
one_kind w (Literal v) Ident a b = absurd (identifier_no_number w b.0 a.0)
one_kind w (Literal v) (Keyword at) a b = absurd (identifier_no_number w (keyword_identifier w (Contains-from keywords at w b)) a.0)
one_kind w (Literal v) (Literal u) a b = ap Literal (a.1 ∙ sym b.1)
one_kind w (Literal v) (Sign at) a b = absurd (number_no_sign w a.0 (Contains-from signs at w b))
one_kind w (Sign at) Ident a b = absurd (identifier_no_sign w b.0 (Contains-from signs at w a))
one_kind w (Sign at) (Keyword also) a b = absurd (identifier_no_sign w (keyword_identifier w (Contains-from keywords also w b)) (Contains-from signs at w a))
one_kind w (Sign at) (Literal v) a b = absurd (number_no_sign w b.0 (Contains-from signs at w a))
one_kind w (Sign at) (Sign also) a b = ap Sign (one_place signs at also w refl a b)
