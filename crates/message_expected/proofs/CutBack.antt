-- A text that has tokens with a line feed and more behind it has tokens without.
use Rattle.std.proofs.Common.{◌≡◌, ℕ, ◌+◌, ◌<◌, ◌≤◌, Bool, true, false, cond, ◌⊎◌, inl, inr, List, [], ◌∷◌, ◌++◌, length, take, drop, refl, ap, sym, ◌∙◌, subst, arith, length-append, length-drop}
use Rattle.std.proofs.lemmas.Bool.{cases_lt}
use Rattle.std.proofs.lemmas.List.{drop-append-le, take-append-le}
use Rattle.syntax.proofs.ReadLemmas.{spelling_in_line}
use Rattle.syntax.specs.Spellings.{HasKind, Spells}
use Rattle.syntax.specs.Tokens.{Begins, IsCut, IsLongest, Piece, StandsIn, blank, col_after, comment, is_blank, is_in_line, is_percent, line_after, line_len, token, tokens, tokens_among}
use Rattle.syntax.specs.declared.token.Token.{Token}
use Rattle.message_expected.proofs.Cuts.{no_feed}

blank_back : (seg tail : List ℕ) → 0 < length seg → Begins is_blank (seg ++ 10 ∷ tail) → Begins is_blank seg
blank_back [] tail some begins = absurd (omega (arith, some))
blank_back (b ∷ seg) tail some begins = begins

percent_back : (seg tail : List ℕ) → 0 < length seg → Begins is_percent (seg ++ 10 ∷ tail) → Begins is_percent seg
percent_back [] tail some begins = absurd (omega (arith, some))
percent_back (b ∷ seg) tail some begins = begins

len_back : (seg tail : List ℕ) → line_len (seg ++ 10 ∷ tail) ≡ line_len seg
len_back [] tail = refl
len_back (b ∷ seg) tail = ap (λ n. cond (is_in_line b) (1 + n) 0) (len_back seg tail)

len_within : (seg : List ℕ) → line_len seg ≤ length seg
len_within [] = omega arith
len_within (b ∷ seg) = by (is_in_line b) (len_within seg)
  where
    by : (t : Bool) → line_len seg ≤ length seg → cond t (1 + line_len seg) 0 ≤ length (b ∷ seg)
    by true low = omega (arith, low)
    by false low = omega arith

longest_back : (seg tail : List ℕ) (n : ℕ) → n ≤ length seg → IsLongest (seg ++ 10 ∷ tail) n → IsLongest seg n
longest_back seg tail n low is = record {
  within = low;
  spells = subst Spells (take-append-le n seg (10 ∷ tail) low) is.spells;
  longest = λ m more within spells. is.longest m more (omega (arith, within, length-append seg (10 ∷ tail))) (subst Spells (sym (take-append-le m seg (10 ∷ tail) within)) spells);
}

stands_back : (X tail : List ℕ) (t : Token) → t.start + t.len ≤ length X → StandsIn (X ++ 10 ∷ tail) t → StandsIn X t
stands_back X tail t inside is =
    let start : t.start ≤ length X = omega (arith, inside) in
    let low : t.len ≤ length (drop t.start X) = omega (arith, inside, length-drop t.start X) in
    let here = drop-append-le t.start X (10 ∷ tail) start in
    record {
      longest = longest_back (drop t.start X) tail t.len low (subst (λ b. IsLongest b t.len) here is.longest);
      kind = subst (λ w. HasKind w t.kind) (ap (take t.len) here ∙ take-append-le t.len (drop t.start X) (10 ∷ tail) low) is.kind;
      line = is.line ∙ ap line_after (take-append-le t.start X (10 ∷ tail) start);
      col = is.col ∙ ap col_after (take-append-le t.start X (10 ∷ tail) start);
    }

-- a token that begins before the line feed ends before it
token_inside : (X tail : List ℕ) (t : Token) → t.start ≤ length X → StandsIn (X ++ 10 ∷ tail) t → t.start + t.len ≤ length X
token_inside X tail t start is = by (cases_lt (length (drop t.start X)) t.len)
  where
    by : (length (drop t.start X) < t.len) ⊎ (t.len ≤ length (drop t.start X)) → t.start + t.len ≤ length X
    by (inl long) =
        let here = drop-append-le t.start X (10 ∷ tail) start in
        absurd (no_feed (drop t.start X) tail t.len long (spelling_in_line (take t.len (drop t.start X ++ 10 ∷ tail)) (subst (λ b. Spells (take t.len b)) here is.longest.spells)))
    by (inr low) = omega (arith, low, start, length-drop t.start X)

cut_back : (X tail : List ℕ) (from : ℕ) (ps : List Piece) → from ≤ length X → IsCut (X ++ 10 ∷ tail) from (length (X ++ 10 ∷ tail)) ps → (qs : List Piece) × IsCut X from (length X) qs
cut_back X tail from [] low cut = absurd (omega (arith, low, cut, length-append X (10 ∷ tail)))
cut_back X tail from (p ∷ ps) low cut = by (cases_lt from (length X)) p cut (λ at under more. cut_back X tail at ps under more)
  where
    by : (from < length X) ⊎ (length X ≤ from) → (p : Piece) → IsCut (X ++ 10 ∷ tail) from (length (X ++ 10 ∷ tail)) (p ∷ ps)
        → ((at : ℕ) → at ≤ length X → IsCut (X ++ 10 ∷ tail) at (length (X ++ 10 ∷ tail)) ps → (qs : List Piece) × IsCut X at (length X) qs) → (qs : List Piece) × IsCut X from (length X) qs
    by (inr end) p cut again = ([], omega (arith, low, end))
    by (inl more) blank cut again =
        let (qs, rest) = again (from + 1) (omega (arith, more)) cut.1 in
        let here = drop-append-le from X (10 ∷ tail) low in
        (blank ∷ qs, (blank_back (drop from X) tail (omega (arith, more, length-drop from X)) (subst (Begins is_blank) here cut.0), rest))
    by (inl more) (comment n) cut again =
        let here = drop-append-le from X (10 ∷ tail) low in
        let size : n ≡ line_len (drop from X) = cut.0.1 ∙ ap line_len here ∙ len_back (drop from X) tail in
        let (qs, rest) = again (from + n) (omega (arith, more, size, len_within (drop from X), length-drop from X)) cut.1 in
        (comment n ∷ qs, ((percent_back (drop from X) tail (omega (arith, more, length-drop from X)) (subst (Begins is_percent) here cut.0.0), size), rest))
    by (inl more) (token t) cut again =
        let start : t.start ≤ length X = omega (arith, low, cut.0) in
        let inside = token_inside X tail t start cut.1 in
        let (qs, rest) = again (from + t.len) (omega (arith, inside, cut.0)) cut.2 in
        (token t ∷ qs, (cut.0, stands_back X tail t inside cut.1, rest))

pub tokens_back : (X tail : List ℕ) (toks : List Token) → tokens (X ++ 10 ∷ tail) toks → (others : List Token) × tokens X others
tokens_back X tail toks listed =
    let (qs, cut) = cut_back X tail 0 listed.pieces (omega arith) listed.cut in
    (tokens_among qs, record { short = omega (arith, listed.short, length-append X (10 ∷ tail)); pieces = qs; cut = cut; listed = refl })
