-- The laws of the tokens of a text.
use Rattle.std.proofs.Common.{◌≡◌, ℕ, zero, suc, ◌+◌, ◌<◌, ◌≤◌, true, List, [], ◌∷◌, length, take, drop, slice_index_or, refl, ap, sym, ◌∙◌, subst, arith, ◌⊎◌, inl, inr, length-drop}
use Rattle.out_of_memory.specs.Refused.{refused}
use Rattle.syntax.specs.declared.fault.LexFault.{LexFault}
use Rattle.syntax.specs.declared.fault.LexFault.TheVariants.{Byte, Literal, Ident, Long, Memory}
use Rattle.syntax.specs.declared.lexer.Spot.{Spot}
use Rattle.syntax.specs.Reading.{IsRead}
use Rattle.syntax.specs.declared.token.Token.{Token}
use Rattle.syntax.specs.Spellings.{is_number}
use Rattle.syntax.specs.Tokens.{IsLongest, StandsIn, Piece, blank, comment, token, IsCut, tokens_among, tokens, line_after, col_after, longest_text}
use Rattle.syntax.specs.Faults.{BeginsNothing, BeginsWithLargeLiteral, BeginsWithLongName, HasFault, Faulty}
use Rattle.syntax.specs.Lex.{HasOneList, HasTokensOrFault, HasOneFault, IsBefore, StandInOrder, TokensStandInOrder}
use Rattle.syntax.proofs.ReadLemmas.{longest_some}
use Rattle.syntax.proofs.KindLemmas.{identifier_no_number}
use Rattle.syntax.proofs.CutLemmas.{IsStuck, stuck_at_end, stuck_at_nothing, stuck_at_large, stuck_at_long, one_cut, one_longest}

pub one_list : HasOneList
one_list text toks others a b =
    let same = one_cut text 0 (length text) (length text) a.pieces b.pieces a.cut (stuck_at_end text) b.cut (stuck_at_end text) in
    a.listed ∙ same.1 ∙ sym b.listed

-- ---- faults

-- a bad piece has a byte, and nothing stands where it begins
record IsBadPiece (Bad : List ℕ → Type 0) : Type 0 where
  some : (bytes : List ℕ) → Bad bytes → 0 < length bytes
  stuck : (text : List ℕ) (at : ℕ) → Bad (drop at text) → IsStuck text at

longest_has_byte : (bytes : List ℕ) (n : ℕ) → IsLongest bytes n → 0 < length bytes
longest_has_byte bytes n longest = omega (arith, longest_some bytes n longest, longest.within)

nothing_bad : IsBadPiece BeginsNothing
nothing_bad = record { some = λ bytes bad. bad.some; stuck = stuck_at_nothing }

large_bad : IsBadPiece BeginsWithLargeLiteral
large_bad = record { some = λ bytes bad. longest_has_byte bytes bad.len bad.longest; stuck = stuck_at_large }

long_bad : IsBadPiece BeginsWithLongName
long_bad = record { some = λ bytes bad. longest_has_byte bytes bad.len bad.longest; stuck = stuck_at_long }

no_tokens : {Bad : List ℕ → Type 0} → IsBadPiece Bad → (text : List ℕ) (toks : List Token) (line col : ℕ) → tokens text toks → HasFault Bad text line col → ⊥
no_tokens is text toks line col listed fault =
    let same = one_cut text 0 (length text) fault.at listed.pieces fault.pieces listed.cut (stuck_at_end text) fault.cut (is.stuck text fault.at fault.bad) in
    let some : 0 < length (drop fault.at text) = is.some (drop fault.at text) fault.bad in
    omega (arith, some, length-drop fault.at text, same.0)

pub tokens_or_fault : HasTokensOrFault
tokens_or_fault text toks (Byte line col) listed fault = no_tokens nothing_bad text toks line col listed fault
tokens_or_fault text toks (Literal line col) listed fault = no_tokens large_bad text toks line col listed fault
tokens_or_fault text toks (Ident line col) listed fault = no_tokens long_bad text toks line col listed fault
tokens_or_fault text toks Long listed fault = omega (arith, listed.short, fault)
tokens_or_fault text toks (Memory _) listed fault = fault

-- two faults stand at one byte
record AtOnePlace (Bad Worse : List ℕ → Type 0) (text : List ℕ) (line col line' col' : ℕ) : Type 0 where
  same_line : line ≡ line'
  same_col : col ≡ col'
  at : ℕ
  bad : Bad (drop at text)
  worse : Worse (drop at text)

one_place : {Bad Worse : List ℕ → Type 0} → IsBadPiece Bad → IsBadPiece Worse → (text : List ℕ) (line col line' col' : ℕ) → HasFault Bad text line col → HasFault Worse text line' col'
    → AtOnePlace Bad Worse text line col line' col'
one_place {Bad} {Worse} is also text line col line' col' a b =
    let same : a.at ≡ b.at = (one_cut text 0 a.at b.at a.pieces b.pieces a.cut (is.stuck text a.at a.bad) b.cut (also.stuck text b.at b.bad)).0 in
    record {
      same_line = a.line_is ∙ ap (λ k. line_after (take k text)) same ∙ sym b.line_is;
      same_col = a.col_is ∙ ap (λ k. col_after (take k text)) same ∙ sym b.col_is;
      at = b.at;
      bad = subst (λ k. Bad (drop k text)) same a.bad;
      worse = b.bad;
    }

nothing_not_longest : (bytes : List ℕ) (n : ℕ) → BeginsNothing bytes → IsLongest bytes n → ⊥
nothing_not_longest bytes n bad longest = bad.no_token n longest.spells

large_not_long : (bytes : List ℕ) → BeginsWithLargeLiteral bytes → BeginsWithLongName bytes → ⊥
large_not_long bytes large long =
    let same = one_longest bytes large.len long.len large.longest long.longest in
    identifier_no_number (take long.len bytes) long.identifier (subst (λ k. is_number (take k bytes) ≡ true) same large.literal)

too_long : {Bad : List ℕ → Type 0} (text : List ℕ) (line col : ℕ) → HasFault Bad text line col → longest_text < length text → ⊥
too_long text line col fault long = omega (arith, fault.short, long)

pub one_fault : HasOneFault
one_fault text (Byte line col) (Byte line' col') a b = let same = one_place nothing_bad nothing_bad text line col line' col' a b in λ i. Byte (same.same_line i) (same.same_col i)
one_fault text (Byte line col) (Literal line' col') a b = let same = one_place nothing_bad large_bad text line col line' col' a b in absurd (nothing_not_longest _ same.worse.len same.bad same.worse.longest)
one_fault text (Byte line col) (Ident line' col') a b = let same = one_place nothing_bad long_bad text line col line' col' a b in absurd (nothing_not_longest _ same.worse.len same.bad same.worse.longest)
one_fault text (Byte line col) Long a b = absurd (too_long text line col a b)
one_fault text (Byte line col) (Memory _) a b = absurd b
one_fault text (Literal line col) (Byte line' col') a b = let same = one_place large_bad nothing_bad text line col line' col' a b in absurd (nothing_not_longest _ same.bad.len same.worse same.bad.longest)
one_fault text (Literal line col) (Literal line' col') a b = let same = one_place large_bad large_bad text line col line' col' a b in λ i. Literal (same.same_line i) (same.same_col i)
one_fault text (Literal line col) (Ident line' col') a b = let same = one_place large_bad long_bad text line col line' col' a b in absurd (large_not_long _ same.bad same.worse)
one_fault text (Literal line col) Long a b = absurd (too_long text line col a b)
one_fault text (Literal line col) (Memory _) a b = absurd b
one_fault text (Ident line col) (Byte line' col') a b = let same = one_place long_bad nothing_bad text line col line' col' a b in absurd (nothing_not_longest _ same.bad.len same.worse same.bad.longest)
one_fault text (Ident line col) (Literal line' col') a b = let same = one_place long_bad large_bad text line col line' col' a b in absurd (large_not_long _ same.worse same.bad)
one_fault text (Ident line col) (Ident line' col') a b = let same = one_place long_bad long_bad text line col line' col' a b in λ i. Ident (same.same_line i) (same.same_col i)
one_fault text (Ident line col) Long a b = absurd (too_long text line col a b)
one_fault text (Ident line col) (Memory _) a b = absurd b
one_fault text Long (Byte line col) a b = absurd (too_long text line col b a)
one_fault text Long (Literal line col) a b = absurd (too_long text line col b a)
one_fault text Long (Ident line col) a b = absurd (too_long text line col b a)
one_fault text Long Long a b = refl
one_fault text Long (Memory _) a b = absurd b
one_fault text (Memory _) other a b = absurd a

-- ---- an answer that is the text's fault, unless memory is short

pub only_memory : (text : List ℕ) (toks : List Token) (fault : LexFault) → (fault ≡ Memory refused) ⊎ Faulty text fault → tokens text toks → fault ≡ Memory refused
only_memory text toks fault (inl is) listed = is
only_memory text toks fault (inr faulty) listed = absurd (tokens_or_fault text toks fault listed faulty)

pub only_fault : (text : List ℕ) (given fault : LexFault) → (given ≡ Memory refused) ⊎ Faulty text given → Faulty text fault → (given ≡ fault) ⊎ (given ≡ Memory refused)
only_fault text given fault (inl is) faulty = inr is
only_fault text given fault (inr also) faulty = inl (one_fault text given fault also faulty)

-- a text that was read to its end has the tokens that were found
pub read_whole : (text : List ℕ) (spot : Spot) (toks : List Token) → length text ≤ longest_text → IsRead text spot toks → length text ≤ spot.at → tokens text toks
read_whole text spot toks short read end =
    let at_end : spot.at ≡ length text = omega (arith, end, read.place.within) in
    record { short = short; pieces = read.pieces; cut = subst (λ k. IsCut text 0 k read.pieces) at_end read.cut; listed = read.listed }

-- ---- tokens in order

record Sits (text : List ℕ) (from : ℕ) (t : Token) : Type 0 where
  stands : StandsIn text t
  after : from ≤ t.start
  some : 1 ≤ t.len
  within : t.start + t.len ≤ length text

later : (text : List ℕ) (from further : ℕ) (t : Token) → from ≤ further → Sits text further t → Sits text from t
later text from further t low sits = record { stands = sits.stands; after = omega (arith, sits.after, low); some = sits.some; within = sits.within }

sits : (text : List ℕ) (from to : ℕ) (pieces : List Piece) → IsCut text from to pieces → (k : ℕ) (d : Token) → k < length (tokens_among pieces) → Sits text from (slice_index_or (tokens_among pieces) k d)
sits text from to [] cut k d below = absurd (omega arith)
sits text from to (blank ∷ pieces) cut k d below = later text from (from + 1) _ (omega arith) (sits text (from + 1) to pieces cut.1 k d below)
sits text from to (comment n ∷ pieces) cut k d below = later text from (from + n) _ (omega arith) (sits text (from + n) to pieces cut.1 k d below)
sits text from to (token t ∷ pieces) cut zero d below =
    let some = longest_some (drop t.start text) t.len cut.1.longest in
    record {
      stands = cut.1;
      after = omega (arith, cut.0);
      some = some;
      within = omega (arith, cut.1.longest.within, length-drop t.start text, some);
    }
sits text from to (token t ∷ pieces) cut (suc k) d below = later text from (from + t.len) _ (omega arith) (sits text (from + t.len) to pieces cut.2 k d (omega arith))

in_order : (text : List ℕ) (from to : ℕ) (pieces : List Piece) → IsCut text from to pieces → (i j : ℕ) (d : Token) → i < j → j < length (tokens_among pieces)
    → IsBefore (slice_index_or (tokens_among pieces) i d) (slice_index_or (tokens_among pieces) j d)
in_order text from to [] cut i j d low high = absurd (omega arith)
in_order text from to (blank ∷ pieces) cut i j d low high = in_order text (from + 1) to pieces cut.1 i j d low high
in_order text from to (comment n ∷ pieces) cut i j d low high = in_order text (from + n) to pieces cut.1 i j d low high
in_order text from to (token t ∷ pieces) cut i zero d low high = absurd (omega arith)
in_order text from to (token t ∷ pieces) cut zero (suc j) d low high =
    let next = sits text (from + t.len) to pieces cut.2 j d (omega arith) in omega (arith, next.after, cut.0)
in_order text from to (token t ∷ pieces) cut (suc i) (suc j) d low high = in_order text (from + t.len) to pieces cut.2 i j d (omega arith) (omega arith)

pub stand_in_order : TokensStandInOrder
stand_in_order text toks listed = subst (StandInOrder text) (sym listed.listed) (record {
  stand = λ k d below. (sits text 0 (length text) listed.pieces listed.cut k d below).stands;
  spans = λ k d below. let at = sits text 0 (length text) listed.pieces listed.cut k d below in record { some = at.some; within = at.within };
  order = in_order text 0 (length text) listed.pieces listed.cut;
})
