-- A text that was read up to a spot, and one piece further.
use Rattle.std.proofs.Common.{◌≡◌, ℕ, zero, suc, ◌+◌, ◌-◌, ◌<◌, ◌≤◌, Bool, true, false, not, cond, ◌&&◌, ◌||◌, nat_eq, inl, inr, List, [], ◌∷◌, ◌++◌, length, take, drop, slice_index_or, count_by, refl, ap, sym, ◌∙◌, subst, arith, length-drop, length-take, length-take-le, eqb-true, append-nil}
use Rattle.std.proofs.lemmas.List.{get_or-take, get_or-drop}
use Rattle.std.proofs.lemmas.List.Sums.{count_by-le-length, count_by_more_no, count_by_more_yes, suffix_len-le-length, suffix_len-take_no, suffix_len-take_yes, prefix_len-le-length}
use Rattle.std.specs.List.{list_all, suffix_len}
use Rattle.std.proofs.lemmas.Bool.{not-true, and_parts}
use Rattle.syntax.specs.declared.front.Front.{Front}
use Rattle.syntax.specs.Fronts.{BeginsWith}
use Rattle.syntax.specs.declared.lexer.Spot.{Spot}
use Rattle.syntax.specs.declared.token.Token.{Token}
use Rattle.syntax.specs.Spellings.{is_letter, is_digit, is_word, Spells}
use Rattle.syntax.specs.Tokens.{is_line_feed, is_in_line, line_after, col_after, BeginsWithBlank, BeginsWithComment, IsLongest, StandsIn, Piece, blank, comment, token, IsCut, tokens_among}
use Rattle.syntax.specs.Reading.{IsSpot, IsRead}
use Rattle.syntax.proofs.TableLemmas.{all_at}
use Rattle.syntax.proofs.SpellLemmas.{all_before, sign_in_line, nothing_spells_nothing}

-- ---- lines and columns

-- some bytes from `at` on hold no LF
abbrev pub InLine : List ℕ → ℕ → ℕ → Type 0
InLine text at n = (k : ℕ) → k < n → is_in_line (slice_index_or text (at + k) 0) ≡ true

pub record SameLine (text : List ℕ) (at n : ℕ) : Type 0 where
  pub line : line_after (take (at + n) text) ≡ line_after (take at text)
  pub col : col_after (take (at + n) text) ≡ col_after (take at text) + n

pub same_line : (text : List ℕ) (at n : ℕ) → at + n ≤ length text → InLine text at n → SameLine text at n
same_line text at zero within in_line = record { line = ap (λ k. line_after (take k text)) (omega arith); col = omega (arith, ap (λ k. col_after (take k text)) same) }
  where
    same : at + zero ≡ at
    same = omega arith
same_line text at (suc n) within in_line =
    let before = same_line text at n (omega arith) (λ k below. in_line k (omega arith)) in
    let here : is_in_line (slice_index_or text (at + n) 0) ≡ true = in_line n (omega arith) in
    let same : at + suc n ≡ (at + n) + 1 = omega arith in
    let back : (at + suc n) - 1 ≡ at + n = omega arith in
    let lines = count_by_more_no is_line_feed text (at + n) 0 (omega arith) (not-true (is_line_feed (slice_index_or text (at + n) 0)) here) in
    let cols = suffix_len-take_yes is_in_line text (at + suc n) 0 (omega arith) within (subst (λ k. is_in_line (slice_index_or text k 0) ≡ true) (sym back) here) in
    let cols_back = ap (λ k. suffix_len is_in_line (take k text)) back in
    let lines_on = ap (λ k. count_by is_line_feed (take k text)) same in
    record { line = omega (arith, lines, lines_on, before.line); col = omega (arith, cols, cols_back, before.col) }

-- the bytes that a front of the rest has
pub in_line_from : (text : List ℕ) (at n : ℕ) → at + n ≤ length text → list_all is_in_line (take n (drop at text)) ≡ true → InLine text at n
in_line_from text at n within all k below =
    let long : length (take n (drop at text)) ≡ n = simp (length-take, length-drop) (omega arith) in
    let here = all_at is_in_line (take n (drop at text)) k 0 all (omega (arith, long)) in
    subst (λ b. is_in_line b ≡ true) (get_or-take n (drop at text) k 0 below ∙ get_or-drop at text k 0) here

-- ---- no spelling holds an LF

pub weaker : (p q : ℕ → Bool) → ((b : ℕ) → p b ≡ true → q b ≡ true) → (bs : List ℕ) → list_all p bs ≡ true → list_all q bs ≡ true
weaker p q w [] all = refl
weaker p q w (b ∷ bs) all =
    let parts = and_parts (p b) (list_all p bs) all in
    ap (λ t. t && list_all q bs) (w b parts.0) ∙ weaker p q w bs parts.1

-- a byte of a word is no LF
word_in_line : (b : ℕ) → is_word b ≡ true → is_in_line b ≡ true
word_in_line b word = by (is_line_feed b) refl
  where
    by : (t : Bool) → is_line_feed b ≡ t → not t ≡ true
    by false is = refl
    by true is = let ten : b ≡ 10 = eqb-true b 10 is in let no : is_word 10 ≡ true = subst (λ c. is_word c ≡ true) ten word in cc no

letter_in_line : (b : ℕ) → is_letter b ≡ true → is_in_line b ≡ true
letter_in_line b letter = word_in_line b (ap (λ t. t || is_digit b || nat_eq b 95) letter)

digit_in_line : (b : ℕ) → is_digit b ≡ true → is_in_line b ≡ true
digit_in_line b digit = by (is_line_feed b) refl
  where
    by : (t : Bool) → is_line_feed b ≡ t → not t ≡ true
    by false is = refl
    by true is = let ten : b ≡ 10 = eqb-true b 10 is in let no : is_digit 10 ≡ true = subst (λ c. is_digit c ≡ true) ten digit in cc no

pub spelling_in_line : (w : List ℕ) → Spells w → list_all is_in_line w ≡ true
spelling_in_line [] spells = refl
spelling_in_line (b ∷ bs) (inl is) =
    let parts = and_parts (is_letter b) (list_all is_word bs) is in
    ap (λ t. t && list_all is_in_line bs) (letter_in_line b parts.0) ∙ weaker is_word is_in_line word_in_line bs parts.1
spelling_in_line (b ∷ bs) (inr (inl is)) = weaker is_digit is_in_line digit_in_line (b ∷ bs) is
spelling_in_line (b ∷ bs) (inr (inr is)) = sign_in_line (b ∷ bs) is

-- ---- spots

pub record Near (spot : Spot) : Type 0 where
  pub line : spot.line ≤ 1 + spot.at
  pub col : spot.col ≤ 1 + spot.at

pub spot_near : (text : List ℕ) (spot : Spot) → IsSpot text spot → Near spot
spot_near text spot is =
    let long : length (take spot.at text) ≡ spot.at = length-take-le spot.at text is.within in
    record {
      line = omega (arith, is.line, count_by-le-length is_line_feed (take spot.at text), long);
      col = omega (arith, is.col, suffix_len-le-length is_in_line (take spot.at text), long);
    }

-- past some bytes with no LF
pub spot_past : (text : List ℕ) (spot next : Spot) (n : ℕ) → IsSpot text spot → n ≤ length (drop spot.at text) → list_all is_in_line (take n (drop spot.at text)) ≡ true
    → next.at ≡ spot.at + n → next.line ≡ spot.line → next.col ≡ spot.col + n → IsSpot text next
spot_past text spot next n is within all at line col =
    let inside : spot.at + n ≤ length text = omega (arith, length-drop spot.at text, is.within) in
    let same = same_line text spot.at n inside (in_line_from text spot.at n inside all) in
    record {
      within = omega (arith, at, inside);
      line = line ∙ is.line ∙ sym same.line ∙ ap (λ k. line_after (take k text)) (sym at);
      col = col ∙ ap (λ k. k + n) is.col ∙ sym same.col ∙ ap (λ k. col_after (take k text)) (sym at);
    }

-- past a byte that may be an LF
pub spot_past_blank : (text : List ℕ) (spot next : Spot) (b : ℕ) → IsSpot text spot → spot.at < length text → b ≡ slice_index_or text spot.at 0
    → next.at ≡ spot.at + 1 → next.line ≡ cond (is_line_feed b) (spot.line + 1) spot.line → next.col ≡ cond (is_line_feed b) 1 (spot.col + 1) → IsSpot text next
spot_past_blank text spot next b is below here at line col = by (is_line_feed b) refl
  where
    back : (spot.at + 1) - 1 ≡ spot.at
    back = omega arith

    by : (t : Bool) → is_line_feed b ≡ t → IsSpot text next
    by true feed =
        let there : is_line_feed (slice_index_or text spot.at 0) ≡ true = subst (λ c. is_line_feed c ≡ true) here feed in
        let lines = count_by_more_yes is_line_feed text spot.at 0 below there in
        let cols = suffix_len-take_no is_in_line text (spot.at + 1) 0 (omega arith) (omega arith) (subst (λ k. is_in_line (slice_index_or text k 0) ≡ false) (sym back) (ap not there)) in
        record {
          within = omega (arith, at, below);
          line = line ∙ ap (λ t. cond t (spot.line + 1) spot.line) feed ∙ omega (arith, is.line, lines) ∙ ap (λ k. line_after (take k text)) (sym at);
          col = col ∙ ap (λ t. cond t 1 (spot.col + 1)) feed ∙ omega (arith, cols) ∙ ap (λ k. col_after (take k text)) (sym at);
        }
    by false feed =
        let there : is_line_feed (slice_index_or text spot.at 0) ≡ false = subst (λ c. is_line_feed c ≡ false) here feed in
        let inside : spot.at + 1 ≤ length text = omega arith in
        let same = same_line text spot.at 1 inside (λ k low. let z : spot.at + k ≡ spot.at = omega arith in subst (λ j. is_in_line (slice_index_or text j 0) ≡ true) (sym z) (ap not there)) in
        record {
          within = omega (arith, at, inside);
          line = line ∙ ap (λ t. cond t (spot.line + 1) spot.line) feed ∙ is.line ∙ sym same.line ∙ ap (λ k. line_after (take k text)) (sym at);
          col = col ∙ ap (λ t. cond t 1 (spot.col + 1)) feed ∙ ap (λ k. k + 1) is.col ∙ sym same.col ∙ ap (λ k. col_after (take k text)) (sym at);
        }

-- ---- one more piece

-- pieces up to a byte, and pieces from there on

pub cut_append : (text : List ℕ) (from mid to : ℕ) (ps qs : List Piece) → IsCut text from mid ps → IsCut text mid to qs → IsCut text from to (ps ++ qs)
cut_append text from mid to [] qs cut more = subst (λ k. IsCut text k to qs) (sym cut) more
cut_append text from mid to (blank ∷ ps) qs cut more = (cut.0, cut_append text (from + 1) mid to ps qs cut.1 more)
cut_append text from mid to (comment n ∷ ps) qs cut more = (cut.0, cut_append text (from + n) mid to ps qs cut.1 more)
cut_append text from mid to (token t ∷ ps) qs cut more = (cut.0, cut.1, cut_append text (from + t.len) mid to ps qs cut.2 more)

pub among_append : (ps qs : List Piece) → tokens_among (ps ++ qs) ≡ tokens_among ps ++ tokens_among qs
among_append [] qs = refl
among_append (blank ∷ ps) qs = among_append ps qs
among_append (comment n ∷ ps) qs = among_append ps qs
among_append (token t ∷ ps) qs = ap (λ ts. t ∷ ts) (among_append ps qs)

pub read_blank : (text : List ℕ) (spot next : Spot) (toks : List Token) → IsRead text spot toks → BeginsWithBlank (drop spot.at text) → next.at ≡ spot.at + 1 → IsSpot text next → IsRead text next toks
read_blank text spot next toks read begins at place = record {
  place = place;
  pieces = read.pieces ++ blank ∷ [];
  cut = cut_append text 0 spot.at next.at read.pieces (blank ∷ []) read.cut (begins, sym at);
  listed = read.listed ∙ sym (append-nil (tokens_among read.pieces)) ∙ sym (among_append read.pieces (blank ∷ []));
}

pub read_comment : (text : List ℕ) (spot next : Spot) (toks : List Token) (n : ℕ) → IsRead text spot toks → BeginsWithComment (drop spot.at text) n → next.at ≡ spot.at + n → IsSpot text next → IsRead text next toks
read_comment text spot next toks n read begins at place = record {
  place = place;
  pieces = read.pieces ++ comment n ∷ [];
  cut = cut_append text 0 spot.at next.at read.pieces (comment n ∷ []) read.cut (begins, sym at);
  listed = read.listed ∙ sym (append-nil (tokens_among read.pieces)) ∙ sym (among_append read.pieces (comment n ∷ []));
}

pub read_token : (text : List ℕ) (spot next : Spot) (toks : List Token) (t : Token) → IsRead text spot toks → t.start ≡ spot.at → StandsIn text t → next.at ≡ spot.at + t.len → IsSpot text next
    → IsRead text next (toks ++ t ∷ [])
read_token text spot next toks t read start stands at place = record {
  place = place;
  pieces = read.pieces ++ token t ∷ [];
  cut = cut_append text 0 spot.at next.at read.pieces (token t ∷ []) read.cut (start, stands, sym at);
  listed = ap (λ ts. ts ++ t ∷ []) read.listed ∙ sym (among_append read.pieces (token t ∷ []));
}

-- a spelling has a byte
pub longest_some : (bytes : List ℕ) (n : ℕ) → IsLongest bytes n → 1 ≤ n
longest_some bytes zero longest = absurd (nothing_spells_nothing longest.spells)
longest_some bytes (suc n) longest = omega arith

pub comment_within : (bytes : List ℕ) (n : ℕ) → BeginsWithComment bytes n → n ≤ length bytes
comment_within bytes n begins = omega (arith, begins.1, prefix_len-le-length is_in_line bytes)

pub comment_in_line : (bytes : List ℕ) (n : ℕ) → BeginsWithComment bytes n → list_all is_in_line (take n bytes) ≡ true
comment_in_line bytes n begins = subst (λ k. list_all is_in_line (take k bytes) ≡ true) (sym begins.1) (all_before is_in_line bytes)

-- what a call says of a slice and of its answer, at equal ones
pub begun : (bytes rest : List ℕ) {f g : Front} → bytes ≡ rest → f ≡ g → BeginsWith bytes f → BeginsWith rest g
begun bytes rest {f} {g} same is begins = subst (λ r. BeginsWith r g) same (subst (BeginsWith bytes) is begins)
