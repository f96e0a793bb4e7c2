-- The tokens of a text with one more word behind it.
use Rattle.std.proofs.Common.{◌≡◌, ℕ, suc, ◌+◌, ◌-◌, ◌≤◌, inl, inr, ◌↔◌, List, [], ◌∷◌, ◌++◌, length, take, drop, refl, ap, sym, ◌∙◌, subst, arith, append_assoc, length-append, length-take-le}
use Rattle.std.specs.Prelude.{slice_get}
use Rattle.std.proofs.Math.Seq.{drop-append_seam, drop-append-add, take-append_seam}
use Rattle.std.proofs.lemmas.List.{map-append, take-append-drop, take_all}
use Rattle.syntax.proofs.LawLemmas.{one_list}
use Rattle.syntax.proofs.ReadLemmas.{among_append, cut_append}
use Rattle.syntax.proofs.SpellLemmas.{Contains-from, keyword_identifier}
use Rattle.syntax.specs.Spellings.{HasKind, Spells, keywords, signs}
use Rattle.syntax.specs.Tokens.{Begins, is_blank, IsCut, IsLongest, Piece, StandsIn, blank, bytes_of, col_after, comment, line_after, longest_text, token, tokens, tokens_among}
use Rattle.syntax.specs.Words.{tok, toks_of, word_of}
use Rattle.syntax.specs.declared.token.Token.{Token}
use Rattle.syntax.specs.declared.token.TokenKind.{TokenKind}
use Rattle.syntax.specs.declared.token.TokenKind.TheVariants.{Ident, Keyword, Literal, Sign}
use Rattle.syntax_reading.specs.Beginning.{BeginsProg}
use Rattle.message_expected.specs.Behind.{FollowsByTokens, GoOn, added, longer}
use Rattle.message_expected.specs.Expected.{Begin, BeginsProgram, MayFollow, front, up_to}
use Rattle.message_expected.proofs.Cuts.{cut_kept, cut_le, words_kept}

-- ---- the front of a text

-- the end of the last of some tokens, or where they begin
end_of : ℕ → List Token → ℕ
end_of from [] = from
end_of from (t ∷ toks) = end_of (t.start + t.len) toks

front_is : (text : List ℕ) (before : List Token) → front text before ≡ take (end_of 0 before) text
unfolding end_of
front_is text [] = refl
front_is text (t ∷ []) = refl
front_is text (t ∷ u ∷ toks) =
    let n : length (t ∷ u ∷ toks) - 1 ≡ suc (length (u ∷ toks) - 1) = omega arith in
    ap (λ k. up_to text (slice_get (t ∷ u ∷ toks) k)) n ∙ front_is text (u ∷ toks)

-- the pieces up to the end of the first tokens
record Front (text : List ℕ) (from to : ℕ) (before : List Token) : Type 0 where
  pieces : List Piece
  others : List Piece
  cut : IsCut text from (end_of from before) pieces
  rest : IsCut text (end_of from before) to others
  listed : tokens_among pieces ≡ before

cut_front : (text : List ℕ) (from to : ℕ) (ps : List Piece) (before after : List Token) → IsCut text from to ps → tokens_among ps ≡ before ++ after → Front text from to before
unfolding end_of
cut_front text from to ps [] after cut is = record { pieces = []; others = ps; cut = refl; rest = cut; listed = refl }
cut_front text from to [] (t ∷ before) after cut is = cc
cut_front text from to (blank ∷ ps) (t ∷ before) after cut is =
    let r = cut_front text (from + 1) to ps (t ∷ before) after cut.1 is in
    record { pieces = blank ∷ r.pieces; others = r.others; cut = (cut.0, r.cut); rest = r.rest; listed = r.listed }
cut_front text from to (comment n ∷ ps) (t ∷ before) after cut is =
    let r = cut_front text (from + n) to ps (t ∷ before) after cut.1 is in
    record { pieces = comment n ∷ r.pieces; others = r.others; cut = (cut.0, r.cut); rest = r.rest; listed = r.listed }
cut_front text from to (token u ∷ ps) (t ∷ before) after cut is =
    let head : u ≡ t = cc in
    let tail : tokens_among ps ≡ before ++ after = cc in
    let r = cut_front text (from + u.len) to ps before after cut.2 tail in
    let ends : from + u.len ≡ t.start + t.len = ap (λ k. k + u.len) (sym cut.0) ∙ ap (λ (v : Token). v.start + v.len) head in
    record {
      pieces = token u ∷ r.pieces;
      others = r.others;
      cut = (cut.0, cut.1, subst (λ k. IsCut text (from + u.len) (end_of k before) r.pieces) ends r.cut);
      rest = subst (λ k. IsCut text (end_of k before) to r.others) ends r.rest;
      listed = λ i. head i ∷ r.listed i;
    }

-- ---- the word behind it

spells_of : (word : List ℕ) (kind : TokenKind) → HasKind word kind → Spells word
spells_of word Ident has = inl has.0
spells_of word (Keyword at) has = inl (keyword_identifier word (Contains-from keywords at word has))
spells_of word (Literal value) has = inr (inl has.0)
spells_of word (Sign at) has = inr (inr (Contains-from signs at word has))

-- a token of the word, behind some bytes and a line feed
abbrev pub token_behind : (X : List ℕ) (kind : TokenKind) (word : List ℕ) → Token
token_behind X kind word = record {
  kind = kind;
  start = length X + 1;
  len = length word;
  line = line_after (X ++ 10 ∷ []);
  col = col_after (X ++ 10 ∷ []);
}

whole_longest : (word : List ℕ) → Spells word → IsLongest word (length word)
whole_longest word spells = record {
  within = omega arith;
  spells = subst Spells (sym (take_all (length word) word (omega arith))) spells;
  longest = λ m more within also. omega arith;
}

bytes_behind : (X word : List ℕ) (kind : TokenKind) → bytes_of (X ++ 10 ∷ word) (token_behind X kind word) ≡ word
bytes_behind X word kind = ap (take (length word)) (drop-append-add X (10 ∷ word) 1) ∙ take_all (length word) word (omega arith)

front_behind : (X word : List ℕ) → take (length X + 1) (X ++ 10 ∷ word) ≡ X ++ 10 ∷ []
front_behind X word =
    let n : length (X ++ 10 ∷ []) ≡ length X + 1 = length-append X (10 ∷ []) in
    ap (λ k. take k (X ++ 10 ∷ word)) (sym n) ∙ ap (take (length (X ++ 10 ∷ []))) (sym (append_assoc X (10 ∷ []) word)) ∙ take-append_seam (X ++ 10 ∷ []) word

stands_behind : (X word : List ℕ) (kind : TokenKind) → HasKind word kind → StandsIn (X ++ 10 ∷ word) (token_behind X kind word)
stands_behind X word kind has = record {
  longest = subst (λ b. IsLongest b (length word)) (sym (drop-append-add X (10 ∷ word) 1)) (whole_longest word (spells_of word kind has));
  kind = subst (λ w. HasKind w kind) (sym (bytes_behind X word kind)) has;
  line = ap line_after (sym (front_behind X word));
  col = ap col_after (sym (front_behind X word));
}

-- ---- all tokens of the longer text

-- with these bytes as the front
pub record Along (text : List ℕ) (before : List Token) (kind : TokenKind) (word F : List ℕ) : Type 0 where
  pub listed : tokens (F ++ 10 ∷ word) (before ++ token_behind F kind word ∷ [])
  pub words : toks_of (F ++ 10 ∷ word) (before ++ token_behind F kind word ∷ [])
      ≡ toks_of text before ++ record { word = word_of kind word; place = record { line = line_after (F ++ 10 ∷ []); col = col_after (F ++ 10 ∷ []) } } ∷ []

pub along : (X rest : List ℕ) (before : List Token) (kind : TokenKind) (word : List ℕ) (ps : List Piece) → HasKind word kind → length (X ++ 10 ∷ word) ≤ longest_text
    → IsCut (X ++ rest) 0 (length X) ps → tokens_among ps ≡ before → Along (X ++ rest) before kind word X
along X rest before kind word ps has fits cut is = record {
  listed = record {
    short = fits;
    pieces = ps ++ blank ∷ token t ∷ [];
    cut = cut_append text 0 (length X) (length text) ps (blank ∷ token t ∷ []) (cut_kept X rest word 0 ps cut)
        (subst (Begins is_blank) (sym (drop-append_seam X (10 ∷ word))) refl, (refl, stands_behind X word kind has, omega (arith, length-append X (10 ∷ word))));
    listed = sym (among_append ps (blank ∷ token t ∷ []) ∙ ap (λ l. l ++ t ∷ []) is);
  };
  words = map-append (tok text) before (t ∷ [])
      ∙ ap (λ l. l ++ tok text t ∷ []) (ap (toks_of text) (sym is) ∙ words_kept X rest word 0 ps cut ∙ ap (toks_of (X ++ rest)) is)
      ∙ ap (λ w. toks_of (X ++ rest) before ++ record { word = word_of kind w; place = record { line = t.line; col = t.col } } ∷ []) (bytes_behind X word kind);
}
  where
    text : List ℕ
    text = X ++ 10 ∷ word

    t : Token
    t = token_behind X kind word

in_text : (text : List ℕ) (toks before after : List Token) (kind : TokenKind) (word : List ℕ) → tokens text toks → toks ≡ before ++ after → HasKind word kind
    → length (longer text before word) ≤ longest_text → Along text before kind word (front text before)
in_text text toks before after kind word listed all has fits =
    let e = end_of 0 before in
    let f = cut_front text 0 (length text) listed.pieces before after listed.cut (sym listed.listed ∙ all) in
    let low : e ≤ length text = cut_le text e (length text) f.others f.rest in
    let whole : take e text ++ drop e text ≡ text = take-append-drop e text in
    let size : e ≡ length (take e text) = sym (length-take-le e text low) in
    let cut : IsCut (take e text ++ drop e text) 0 (length (take e text)) f.pieces = subst (λ l. IsCut l 0 (length (take e text)) f.pieces) (sym whole) (subst (λ k. IsCut text 0 k f.pieces) size f.cut) in
    let here : front text before ≡ take e text = front_is text before in
    let room : length (take e text ++ 10 ∷ word) ≤ longest_text = subst (λ F. length (F ++ 10 ∷ word) ≤ longest_text) here fits in
    let there : Along (take e text ++ drop e text) before kind word (take e text) = along (take e text) (drop e text) before kind word f.pieces has room cut f.listed in
    subst (Along text before kind word) (sym here) (subst (λ l. Along l before kind word (take e text)) whole there)

by_tokens : (text : List ℕ) (before : List Token) (kind : TokenKind) (word : List ℕ) → Along text before kind word (front text before)
    → MayFollow (front text before) word ↔ GoOn text before kind word
unfolding Begin BeginsProgram
by_tokens text before kind word a = (
  λ (toks, also, begins). elim (subst (Begin (longer text before word)) (one_list (longer text before word) toks (before ++ added text before kind word ∷ []) also a.listed) begins) [
    | inl b ↦ inl (subst BeginsProg a.words b)
    | inr o ↦ inr o
  ],
  λ goes. (before ++ added text before kind word ∷ [], a.listed, elim goes [ inl b ↦ inl (subst BeginsProg (sym a.words) b) | inr o ↦ inr o ]),
)

pub follows : FollowsByTokens
follows text toks before after kind word listed all has fits = by_tokens text before kind word (in_text text toks before after kind word listed all has fits)
