-- A text is cut in one way.
use Rattle.std.proofs.Common.{◌≡◌, ℕ, zero, suc, ◌+◌, ◌<◌, ◌≤◌, true, List, [], ◌∷◌, length, take, drop, ◌⊎◌, inl, inr, refl, ap, sym, ◌∙◌, subst, arith, length-take-le}
use Rattle.std.proofs.lemmas.Bool.{cases_lt}
use Rattle.std.proofs.Math.Seq.{drop-length}
use Rattle.syntax.specs.declared.token.Token.{Token}
use Rattle.syntax.specs.declared.token.TokenKind.{TokenKind}
use Rattle.syntax.specs.declared.token.TokenKind.TheVariants.{Ident, Keyword, Literal, Sign}
use Rattle.syntax.specs.Spellings.{signs, keywords, is_identifier, is_number, decimal, longest_name, greatest_literal, HasKind}
use Rattle.syntax.specs.Tokens.{is_blank, is_percent, line_after, col_after, Begins, BeginsWithBlank, BeginsWithComment, IsLongest, StandsIn, bytes_of, Piece, blank, comment, token, IsCut, tokens_among}
use Rattle.syntax.specs.Faults.{BeginsNothing, BeginsWithLargeLiteral, BeginsWithLongName}
use Rattle.syntax.proofs.SpellLemmas.{Contains-from, nothing_spells_nothing, keyword_identifier}
use Rattle.syntax.proofs.KindLemmas.{blank_no_percent, blank_no_token, percent_no_token, identifier_no_number, identifier_no_sign, number_no_sign, keywords_short, one_kind}

-- two longest spellings at one place are one
pub one_longest : (bytes : List ℕ) (n m : ℕ) → IsLongest bytes n → IsLongest bytes m → n ≡ m
one_longest bytes n m a b = by (cases_lt m n) (cases_lt n m)
  where
    by : (m < n) ⊎ (n ≤ m) → (n < m) ⊎ (m ≤ n) → n ≡ m
    by (inl below) q = absurd (b.longest n below a.within a.spells)
    by (inr p) (inl below) = absurd (a.longest m below b.within b.spells)
    by (inr p) (inr q) = omega arith

same_token : {t u : Token} → t.kind ≡ u.kind → t.start ≡ u.start → t.len ≡ u.len → t.line ≡ u.line → t.col ≡ u.col → t ≡ u
same_token kind start len line col = λ i. record { kind = kind i; start = start i; len = len i; line = line i; col = col i }

pub one_token : (text : List ℕ) (t u : Token) → StandsIn text t → StandsIn text u → t.start ≡ u.start → t ≡ u
one_token text t u a b start =
    let at_u : IsLongest (drop t.start text) u.len = subst (λ k. IsLongest (drop k text) u.len) (sym start) b.longest in
    let len : t.len ≡ u.len = one_longest (drop t.start text) t.len u.len a.longest at_u in
    let bytes : bytes_of text u ≡ bytes_of text t = let back_len = sym len in let back_start = sym start in λ i. take (back_len i) (drop (back_start i) text) in
    same_token (one_kind (bytes_of text t) t.kind u.kind a.kind (subst (λ w. HasKind w u.kind) bytes b.kind)) start len
    (a.line ∙ ap (λ k. line_after (take k text)) start ∙ sym b.line) (a.col ∙ ap (λ k. col_after (take k text)) start ∙ sym b.col)

-- no piece stands at a byte
pub record IsStuck (text : List ℕ) (at : ℕ) : Type 0 where
  pub no_blank : BeginsWithBlank (drop at text) → ⊥
  pub no_comment : (n : ℕ) → BeginsWithComment (drop at text) n → ⊥
  pub no_token : (t : Token) → t.start ≡ at → StandsIn text t → ⊥

-- where the text ends
pub stuck_at_end : (text : List ℕ) → IsStuck text (length text)
stuck_at_end text = record {
  no_blank = λ begins. subst (Begins is_blank) (drop-length text) begins;
  no_comment = λ n begins. subst (Begins is_percent) (drop-length text) begins.0;
  no_token = λ t start stands. none t.len (subst (λ bytes. IsLongest bytes t.len) (ap (λ k. drop k text) start ∙ drop-length text) stands.longest);
}
  where
    none : (n : ℕ) → IsLongest [] n → ⊥
    none zero longest = nothing_spells_nothing longest.spells
    none (suc n) longest = let within = longest.within in omega arith

-- where nothing begins
pub stuck_at_nothing : (text : List ℕ) (at : ℕ) → BeginsNothing (drop at text) → IsStuck text at
stuck_at_nothing text at bad = record {
  no_blank = bad.no_blank;
  no_comment = bad.no_comment;
  no_token = λ t start stands. let longest = subst (λ k. IsLongest (drop k text) t.len) start stands.longest in bad.no_token t.len longest.spells;
}

-- where the longest spelling has no kind
pub stuck_at_spelling : (text : List ℕ) (at n : ℕ) → IsLongest (drop at text) n → ((kind : TokenKind) → HasKind (take n (drop at text)) kind → ⊥) → IsStuck text at
stuck_at_spelling text at n longest kindless = record {
  no_blank = λ begins. blank_no_token (drop at text) n begins longest.spells;
  no_comment = λ m begins. percent_no_token (drop at text) n begins.0 longest.spells;
  no_token = λ t start stands.
      let also = subst (λ k. IsLongest (drop k text) t.len) start stands.longest in
      let same : t.len ≡ n = one_longest (drop at text) t.len n also longest in
      let bytes : bytes_of text t ≡ take n (drop at text) = λ i. take (same i) (drop (start i) text) in
      kindless t.kind (subst (λ w. HasKind w t.kind) bytes stands.kind);
}

large_kindless : (w : List ℕ) → is_number w ≡ true → greatest_literal < decimal w → (kind : TokenKind) → HasKind w kind → ⊥
large_kindless w number large Ident has = identifier_no_number w has.0 number
large_kindless w number large (Keyword at) has = identifier_no_number w (keyword_identifier w (Contains-from keywords at w has)) number
large_kindless w number large (Literal v) has = omega (arith, has.1, has.2)
large_kindless w number large (Sign at) has = number_no_sign w number (Contains-from signs at w has)

long_kindless : (w : List ℕ) → is_identifier w ≡ true → longest_name < length w → (kind : TokenKind) → HasKind w kind → ⊥
long_kindless w identifier long Ident has = omega (arith, has.2)
long_kindless w identifier long (Keyword at) has = omega (arith, keywords_short w (Contains-from keywords at w has))
long_kindless w identifier long (Literal v) has = identifier_no_number w identifier has.0
long_kindless w identifier long (Sign at) has = identifier_no_sign w identifier (Contains-from signs at w has)

pub stuck_at_large : (text : List ℕ) (at : ℕ) → BeginsWithLargeLiteral (drop at text) → IsStuck text at
stuck_at_large text at bad = stuck_at_spelling text at bad.len bad.longest (large_kindless (take bad.len (drop at text)) bad.literal bad.large)

pub stuck_at_long : (text : List ℕ) (at : ℕ) → BeginsWithLongName (drop at text) → IsStuck text at
stuck_at_long text at bad =
    let long : longest_name < length (take bad.len (drop at text)) = omega (arith, bad.long, length-take-le bad.len (drop at text) bad.longest.within) in
    stuck_at_spelling text at bad.len bad.longest (long_kindless (take bad.len (drop at text)) bad.identifier long)

-- up to where no piece stands, the pieces end at one byte and have one list of tokens
pub one_cut : (text : List ℕ) (from a b : ℕ) (ps qs : List Piece) → IsCut text from a ps → IsStuck text a → IsCut text from b qs → IsStuck text b
    → (a ≡ b) × (tokens_among ps ≡ tokens_among qs)
one_cut text from a b [] [] p at_a q at_b = (sym p ∙ q, refl)
one_cut text from a b [] (blank ∷ qs) p at_a q at_b = let here = subst (IsStuck text) (sym p) at_a in absurd (here.no_blank q.0)
one_cut text from a b [] (comment n ∷ qs) p at_a q at_b = let here = subst (IsStuck text) (sym p) at_a in absurd (here.no_comment n q.0)
one_cut text from a b [] (token t ∷ qs) p at_a q at_b = let here = subst (IsStuck text) (sym p) at_a in absurd (here.no_token t q.0 q.1)
one_cut text from a b (blank ∷ ps) [] p at_a q at_b = let here = subst (IsStuck text) (sym q) at_b in absurd (here.no_blank p.0)
one_cut text from a b (blank ∷ ps) (blank ∷ qs) p at_a q at_b = one_cut text (from + 1) a b ps qs p.1 at_a q.1 at_b
one_cut text from a b (blank ∷ ps) (comment n ∷ qs) p at_a q at_b = absurd (blank_no_percent (drop from text) p.0 q.0.0)
one_cut text from a b (blank ∷ ps) (token t ∷ qs) p at_a q at_b =
    let longest = subst (λ k. IsLongest (drop k text) t.len) q.0 q.1.longest in absurd (blank_no_token (drop from text) t.len p.0 longest.spells)
one_cut text from a b (comment n ∷ ps) [] p at_a q at_b = let here = subst (IsStuck text) (sym q) at_b in absurd (here.no_comment n p.0)
one_cut text from a b (comment n ∷ ps) (blank ∷ qs) p at_a q at_b = absurd (blank_no_percent (drop from text) q.0 p.0.0)
one_cut text from a b (comment n ∷ ps) (comment m ∷ qs) p at_a q at_b =
    let same : m ≡ n = q.0.1 ∙ sym p.0.1 in one_cut text (from + n) a b ps qs p.1 at_a (subst (λ k. IsCut text (from + k) b qs) same q.1) at_b
one_cut text from a b (comment n ∷ ps) (token t ∷ qs) p at_a q at_b =
    let longest = subst (λ k. IsLongest (drop k text) t.len) q.0 q.1.longest in absurd (percent_no_token (drop from text) t.len p.0.0 longest.spells)
one_cut text from a b (token t ∷ ps) [] p at_a q at_b = let here = subst (IsStuck text) (sym q) at_b in absurd (here.no_token t p.0 p.1)
one_cut text from a b (token t ∷ ps) (blank ∷ qs) p at_a q at_b =
    let longest = subst (λ k. IsLongest (drop k text) t.len) p.0 p.1.longest in absurd (blank_no_token (drop from text) t.len q.0 longest.spells)
one_cut text from a b (token t ∷ ps) (comment n ∷ qs) p at_a q at_b =
    let longest = subst (λ k. IsLongest (drop k text) t.len) p.0 p.1.longest in absurd (percent_no_token (drop from text) t.len q.0.0 longest.spells)
one_cut text from a b (token t ∷ ps) (token u ∷ qs) p at_a q at_b =
    let same : u ≡ t = one_token text u t q.1 p.1 (q.0 ∙ sym p.0) in
    let more = one_cut text (from + t.len) a b ps qs p.2 at_a (subst (λ (v : Token). IsCut text (from + v.len) b qs) same q.2) at_b in
    let back = sym same in (more.0, λ i. back i ∷ more.1 i)
