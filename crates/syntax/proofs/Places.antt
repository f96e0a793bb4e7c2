-- Places along a text: where one byte stands behind another, its line is further on, or its line is the same and its column
-- further on. So the places of tokens rise.
use Rattle.std.proofs.Common.{◌≡◌, ℕ, zero, suc, ◌+◌, ◌-◌, ◌<◌, ◌≤◌, Bool, true, false, not, List, length, take, get_or, ◌⊎◌, inl, inr, refl, ap, sym, subst, arith}
use Rattle.std.specs.Prelude.{count_by}
use Rattle.std.specs.List.{suffix_len}
use Rattle.std.proofs.lemmas.List.Sums.{count_by_more_yes, count_by_more_no, suffix_len-take_yes}
use Rattle.syntax.specs.declared.token.Token.{Token}
use Rattle.syntax.specs.Tokens.{is_line_feed, is_in_line, StandsIn}
use Rattle.syntax.specs.Lex.{HasSpan, IsBefore}

-- a line and a column that stand before others
abbrev pub Lower : (l m c d : ℕ) → Type 0
Lower l m c d = (l < m) ⊎ ((l ≡ m) × (c < d))

pub lower-trans : (k l m b c d : ℕ) → Lower k l b c → Lower l m c d → Lower k m b d
lower-trans k l m b c d (inl g) (inl h) = inl (omega arith)
lower-trans k l m b c d (inl g) (inr h) = let x = h.0 in inl (omega arith)
lower-trans k l m b c d (inr g) (inl h) = let x = g.0 in inl (omega arith)
lower-trans k l m b c d (inr g) (inr h) = let v = g.0 in let w = g.1 in let x = h.0 in let y = h.1 in inr (omega arith, omega arith)

-- how many lines end before a byte, and how many bytes of its line stand before it
abbrev ended : List ℕ → ℕ → ℕ
ended text n = count_by is_line_feed (take n text)

abbrev past : List ℕ → ℕ → ℕ
past text n = suffix_len is_in_line (take n text)

past-more : (text : List ℕ) (n : ℕ) → n < length text → is_line_feed (get_or text n 0) ≡ false → past text (n + 1) ≡ 1 + past text n
past-more text n below h =
    let e : (n + 1) - 1 ≡ n = omega arith in
    subst (λ k. is_in_line (get_or text k 0) ≡ true → past text (n + 1) ≡ 1 + past text k) e
    (suffix_len-take_yes is_in_line text (n + 1) 0 (omega arith) (omega arith)) (ap not h)

abbrev Further : List ℕ → ℕ → ℕ → Type 0
Further text m n = Lower (ended text m) (ended text n) (past text m) (past text n)

step : (text : List ℕ) (n : ℕ) → n < length text → Further text n (n + 1)
step text n below = by (is_line_feed (get_or text n 0)) refl
  where
    by : (b : Bool) → is_line_feed (get_or text n 0) ≡ b → Further text n (n + 1)
    by true e = let x = count_by_more_yes is_line_feed text n 0 below e in inl (omega arith)
    by false e = let x = count_by_more_no is_line_feed text n 0 below e in let y = past-more text n below e in inr (omega arith, omega arith)

further : (text : List ℕ) (k m n : ℕ) → n ≡ m + suc k → n ≤ length text → Further text m n
further text zero m n is below =
    let e : m + 1 ≡ n = omega arith in subst (Further text m) e (step text m (omega arith))
further text (suc k) m n is below =
    let e : (m + suc k) + 1 ≡ n = omega arith in
    subst (Further text m) e
    (lower-trans (ended text m) (ended text (m + suc k)) (ended text ((m + suc k) + 1)) (past text m) (past text (m + suc k)) (past text ((m + suc k) + 1))
    (further text k m (m + suc k) refl (omega arith)) (step text (m + suc k) (omega arith)))

lower-on : (l m b c : ℕ) → Lower l m b c → Lower (1 + l) (1 + m) (1 + b) (1 + c)
lower-on l m b c (inl h) = inl (omega arith)
lower-on l m b c (inr h) = let x = h.0 in let y = h.1 in inr (omega arith, omega arith)

-- of two tokens the one before the other stands before it
pub tokens-rise : (text : List ℕ) (t u : Token) → StandsIn text t → HasSpan text t → StandsIn text u → HasSpan text u → IsBefore t u → Lower t.line u.line t.col u.col
tokens-rise text t u st pt su pu order =
    let low : Lower (1 + ended text t.start) (1 + ended text u.start) (1 + past text t.start) (1 + past text u.start) =
    lower-on (ended text t.start) (ended text u.start) (past text t.start) (past text u.start)
    (further text (u.start - t.start - 1) t.start u.start (omega (arith, pt.some, order)) (omega (arith, pu.within))) in
    subst (λ l. Lower l u.line t.col u.col) (sym st.line) (subst (λ m. Lower (1 + ended text t.start) m t.col u.col) (sym su.line)
    (subst (λ b. Lower (1 + ended text t.start) (1 + ended text u.start) b u.col) (sym st.col)
    (subst (λ c. Lower (1 + ended text t.start) (1 + ended text u.start) (1 + past text t.start) c) (sym su.col) low)))
