-- The pieces of the front of a text are those of a text with that front and then a line feed.
use Rattle.std.proofs.Common.{◌≡◌, ℕ, zero, suc, ◌+◌, ◌<◌, ◌≤◌, Bool, true, false, cond, ◌⊎◌, inl, inr, List, [], ◌∷◌, ◌++◌, length, take, drop, refl, ap, sym, ◌∙◌, subst, arith, length-drop, eqb-true}
use Rattle.std.proofs.lemmas.Bool.{and_parts, cases_lt}
use Rattle.std.proofs.lemmas.List.{drop-append-le, take-append-le}
use Rattle.std.specs.List.{list_all}
use Rattle.syntax.proofs.ReadLemmas.{spelling_in_line}
use Rattle.syntax.specs.Spellings.{HasKind, Spells}
use Rattle.syntax.specs.Tokens.{Begins, IsCut, IsLongest, Piece, StandsIn, blank, bytes_of, col_after, comment, is_blank, is_in_line, is_percent, line_after, line_len, token, tokens_among}
use Rattle.syntax.specs.Words.{toks_of, word_of}
use Rattle.syntax.specs.declared.token.Token.{Token}

-- ---- one piece, by the bytes from its first one on

blank_kept : (seg rest tail : List ℕ) → Begins is_blank (seg ++ rest) → Begins is_blank (seg ++ 10 ∷ tail)
blank_kept [] rest tail begins = refl
blank_kept (b ∷ seg) rest tail begins = begins

len_kept : (seg rest tail : List ℕ) → line_len (seg ++ rest) ≤ length seg → line_len (seg ++ 10 ∷ tail) ≡ line_len (seg ++ rest)
len_kept [] rest tail short = omega (arith, short)
len_kept (b ∷ seg) rest tail short = by (is_in_line b) refl (len_kept seg rest tail)
  where
    by : (t : Bool) → is_in_line b ≡ t → (line_len (seg ++ rest) ≤ length seg → line_len (seg ++ 10 ∷ tail) ≡ line_len (seg ++ rest))
        → line_len ((b ∷ seg) ++ 10 ∷ tail) ≡ line_len ((b ∷ seg) ++ rest)
    by true is again =
        let low : 1 + line_len (seg ++ rest) ≤ length (b ∷ seg) = subst (λ t. cond t (1 + line_len (seg ++ rest)) 0 ≤ length (b ∷ seg)) is short in
        let more = again (omega arith) in
        ap (λ t. cond t (1 + line_len (seg ++ 10 ∷ tail)) 0) is ∙ ap (λ n. 1 + n) more ∙ sym (ap (λ t. cond t (1 + line_len (seg ++ rest)) 0) is)
    by false is again = ap (λ t. cond t (1 + line_len (seg ++ 10 ∷ tail)) 0) is ∙ sym (ap (λ t. cond t (1 + line_len (seg ++ rest)) 0) is)

percent_in_line : (b : ℕ) → is_percent b ≡ true → is_in_line b ≡ true
percent_in_line b is = let same : b ≡ 37 = eqb-true b 37 is in subst (λ c. is_in_line c ≡ true) (sym same) refl

percent_kept : (seg rest tail : List ℕ) → line_len (seg ++ rest) ≤ length seg → Begins is_percent (seg ++ rest) → Begins is_percent (seg ++ 10 ∷ tail)
percent_kept [] [] tail short begins = absurd begins
percent_kept [] (b ∷ rest) tail short begins =
    let low : 1 + line_len rest ≤ 0 = subst (λ t. cond t (1 + line_len rest) 0 ≤ 0) (percent_in_line b begins) short in absurd (omega arith)
percent_kept (b ∷ seg) rest tail short begins = begins

pub no_feed : (seg tail : List ℕ) (m : ℕ) → length seg < m → list_all is_in_line (take m (seg ++ 10 ∷ tail)) ≡ true → ⊥
no_feed [] tail zero long all = omega arith
no_feed [] tail (suc m) long all = cc all
no_feed (b ∷ seg) tail zero long all = omega arith
no_feed (b ∷ seg) tail (suc m) long all = no_feed seg tail m (omega arith) (and_parts (is_in_line b) (list_all is_in_line (take m (seg ++ 10 ∷ tail))) all).1

take_kept : (seg rest tail : List ℕ) (m : ℕ) → m ≤ length seg → take m (seg ++ rest) ≡ take m (seg ++ 10 ∷ tail)
take_kept seg rest tail m low = take-append-le m seg rest low ∙ sym (take-append-le m seg (10 ∷ tail) low)

length-both : (xs ys : List ℕ) → length xs ≤ length (xs ++ ys)
length-both [] ys = omega arith
length-both (x ∷ xs) ys = let more = length-both xs ys in omega (arith, more)

longest_kept : (seg rest tail : List ℕ) (n : ℕ) → n ≤ length seg → IsLongest (seg ++ rest) n → IsLongest (seg ++ 10 ∷ tail) n
longest_kept seg rest tail n low is = record {
  within = omega (arith, low, length-both seg (10 ∷ tail));
  spells = subst Spells (take_kept seg rest tail n low) is.spells;
  longest = λ m more within spells. by m more spells (cases_lt (length seg) m);
}
  where
    by : (m : ℕ) → n < m → Spells (take m (seg ++ 10 ∷ tail)) → (length seg < m) ⊎ (m ≤ length seg) → ⊥
    by m more spells (inl long) = no_feed seg tail m long (spelling_in_line (take m (seg ++ 10 ∷ tail)) spells)
    by m more spells (inr short) =
        is.longest m more (omega (arith, short, length-both seg rest)) (subst Spells (sym (take_kept seg rest tail m short)) spells)

-- ---- a token

bytes_kept : (X rest tail : List ℕ) (t : Token) → t.start + t.len ≤ length X → bytes_of (X ++ rest) t ≡ bytes_of (X ++ 10 ∷ tail) t
bytes_kept X rest tail t inside =
    let low : t.len ≤ length (drop t.start X) = omega (arith, length-drop t.start X) in
    ap (take t.len) (drop-append-le t.start X rest (omega arith)) ∙ take_kept (drop t.start X) rest tail t.len low
    ∙ sym (ap (take t.len) (drop-append-le t.start X (10 ∷ tail) (omega arith)))

stands_kept : (X rest tail : List ℕ) (t : Token) → t.start + t.len ≤ length X → StandsIn (X ++ rest) t → StandsIn (X ++ 10 ∷ tail) t
stands_kept X rest tail t inside is =
    let low : t.len ≤ length (drop t.start X) = omega (arith, length-drop t.start X) in
    let start : t.start ≤ length X = omega arith in
    let longest = subst (λ b. IsLongest b t.len) (drop-append-le t.start X rest start) is.longest in
    record {
      longest = subst (λ b. IsLongest b t.len) (sym (drop-append-le t.start X (10 ∷ tail) start)) (longest_kept (drop t.start X) rest tail t.len low longest);
      kind = subst (λ w. HasKind w t.kind) (bytes_kept X rest tail t inside) is.kind;
      line = is.line ∙ ap line_after (take_kept X rest tail t.start start);
      col = is.col ∙ ap col_after (take_kept X rest tail t.start start);
    }

-- ---- the pieces

pub cut_le : (text : List ℕ) (from to : ℕ) (ps : List Piece) → IsCut text from to ps → from ≤ to
cut_le text from to [] cut = omega (arith, cut)
cut_le text from to (blank ∷ ps) cut = let more = cut_le text (from + 1) to ps cut.1 in omega (arith, more)
cut_le text from to (comment n ∷ ps) cut = let more = cut_le text (from + n) to ps cut.1 in omega (arith, more)
cut_le text from to (token t ∷ ps) cut = let more = cut_le text (from + t.len) to ps cut.2 in omega (arith, more)

pub cut_kept : (X rest tail : List ℕ) (from : ℕ) (ps : List Piece) → IsCut (X ++ rest) from (length X) ps → IsCut (X ++ 10 ∷ tail) from (length X) ps
cut_kept X rest tail from [] cut = cut
cut_kept X rest tail from (blank ∷ ps) cut =
    let low = cut_le (X ++ rest) (from + 1) (length X) ps cut.1 in (
      subst (Begins is_blank) (sym (drop-append-le from X (10 ∷ tail) (omega (arith, low)))) (blank_kept (drop from X) rest tail (subst (Begins is_blank) (drop-append-le from X rest (omega (arith, low))) cut.0)),
      cut_kept X rest tail (from + 1) ps cut.1,
    )
cut_kept X rest tail from (comment n ∷ ps) cut =
    let low = cut_le (X ++ rest) (from + n) (length X) ps cut.1 in
    let inside : from ≤ length X = omega (arith, low) in
    let here = drop-append-le from X rest inside in
    let there = drop-append-le from X (10 ∷ tail) inside in
    let size : n ≡ line_len (drop from X ++ rest) = cut.0.1 ∙ ap line_len here in
    let short : line_len (drop from X ++ rest) ≤ length (drop from X) = omega (arith, low, size, length-drop from X) in (
      (
        subst (Begins is_percent) (sym there) (percent_kept (drop from X) rest tail short (subst (Begins is_percent) here cut.0.0)),
        size ∙ sym (len_kept (drop from X) rest tail short) ∙ sym (ap line_len there),
      ),
      cut_kept X rest tail (from + n) ps cut.1,
    )
cut_kept X rest tail from (token t ∷ ps) cut =
    let low = cut_le (X ++ rest) (from + t.len) (length X) ps cut.2 in
    (cut.0, stands_kept X rest tail t (omega (arith, low, cut.0)) cut.1, cut_kept X rest tail (from + t.len) ps cut.2)

-- the tokens among them are the same words
pub words_kept : (X rest tail : List ℕ) (from : ℕ) (ps : List Piece) → IsCut (X ++ rest) from (length X) ps → toks_of (X ++ 10 ∷ tail) (tokens_among ps) ≡ toks_of (X ++ rest) (tokens_among ps)
words_kept X rest tail from [] cut = refl
words_kept X rest tail from (blank ∷ ps) cut = words_kept X rest tail (from + 1) ps cut.1
words_kept X rest tail from (comment n ∷ ps) cut = words_kept X rest tail (from + n) ps cut.1
words_kept X rest tail from (token t ∷ ps) cut =
    let low = cut_le (X ++ rest) (from + t.len) (length X) ps cut.2 in
    let same = sym (bytes_kept X rest tail t (omega (arith, low, cut.0))) in
    let more = words_kept X rest tail (from + t.len) ps cut.2 in
    λ i. record { word = word_of t.kind (same i); place = record { line = t.line; col = t.col } } ∷ more i
