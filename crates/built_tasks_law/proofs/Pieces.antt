-- Which piece an address belongs to, where pieces lie one after another.
use Rattle.std.specs.Prelude.{◌≡◌, ◌+◌, ◌++◌, ◌≤◌, ◌<◌, ◌&&◌, ℕ, zero, suc, Bool, true, false, cond, List, [], ◌∷◌, length, Option, Some, None, nat_eq, nat_le, nat_lt}
use Rattle.std.proofs.Common.{refl, sym, ap, subst, ◌∙◌, arith}
use Rattle.std.proofs.lemmas.Bool.Decides.{nat_tests}
use Rattle.std.proofs.lemmas.Bool.{le-leb, leb-true, lt-leb}
use Rattle.base.proofs.Numbers.{itself}
use Rattle.valid_image.specs.Pieces.{Piece, Owner, comes_closer, closest, is_owner}

-- ---- tests on numbers

lt_from : (a b : ℕ) → nat_le a b ≡ false → b < a
lt_from a b h = grind (arith, nat_tests, h)

below_from : (a b : ℕ) → nat_lt a b ≡ true → a < b
below_from a b h = grind (arith, nat_tests, h)

above_from : (a b : ℕ) → nat_lt a b ≡ false → b ≤ a
above_from a b h = grind (arith, nat_tests, h)

eq_no : (a b : ℕ) → b < a → nat_eq a b ≡ false
eq_no a b h = grind (arith, nat_tests, h)

eq_less : (a b : ℕ) → a < b → nat_eq a b ≡ false
eq_less a b h = grind (arith, nat_tests, h)

-- ---- the closest piece

-- the best so far is of a lower number and starts no later
abbrev pub Earlier : ℕ → ℕ → Option Owner → Type 0
Earlier k p None = Unit {0}
Earlier k p (Some b) = (b.number < k) × (b.start ≤ p)

not_mine : (k p : ℕ) (best : Option Owner) → Earlier k p best → is_owner k best ≡ false
not_mine k p None h = refl
not_mine k p (Some b) h = eq_less b.number k h.0

-- a piece that starts behind the address does not come closer
stays_far : (best : Option Owner) (s a : ℕ) → a < s → comes_closer best s a ≡ false
stays_far None s a h = lt-leb s a h
stays_far (Some b) s a h = ap (λ z. z && nat_le b.start s) (lt-leb s a h)

-- the next one that starts at the address or before does
gets_closer : (best : Option Owner) (k p a : ℕ) → Earlier k p best → p ≤ a → comes_closer best p a ≡ true
gets_closer None k p a h le = le-leb p a le
gets_closer (Some b) k p a h le = ap (λ z. z && nat_le b.start p) (le-leb p a le) ∙ le-leb b.start p h.1

-- the numbers of those that follow are greater
never : (j k a : ℕ) (ys : List Piece) (best : Option Owner) → j < k → is_owner j best ≡ false → is_owner j (closest ys k a best) ≡ false
never j k a [] best low not = not
never j k a (y ∷ ys) best low not = by (comes_closer best y.start a) (λ b no. never j (suc k) a ys b (omega (arith, low)) no)
  where
    by : (b : Bool) → ((other : Option Owner) → is_owner j other ≡ false → is_owner j (closest ys (suc k) a other) ≡ false)
        → is_owner j (closest ys (suc k) a (cond b (Some (record { number = k; start = y.start })) best)) ≡ false
    by true rest = rest (Some (record { number = k; start = y.start })) (eq_no k j low)
    by false rest = rest best not

-- ---- pieces one after another

module _ (P : (k p q : ℕ) → Type 0) where
  -- pieces from number k on, from p to q, of each of which something is known
  abbrev pub Laid : (k p : ℕ) → List Piece → ℕ → Type 0
  Laid k p [] q = q ≡ p
  Laid k p (y ∷ ys) q = (next : ℕ) × (y.start ≡ p) × (p ≤ next) × P k p next × Laid (suc k) next ys q

  pub laid_both : (k p mid q : ℕ) (xs ys : List Piece) → Laid k p xs mid → Laid (k + length xs) mid ys q → Laid k p (xs ++ ys) q
  laid_both k p mid q [] ys h j = let z : k + 0 ≡ k = omega arith in subst (λ a. Laid k a ys q) h (subst (λ n. Laid n mid ys q) z j)
  laid_both k p mid q (x ∷ xs) ys h j =
      let z : k + suc (length xs) ≡ suc k + length xs = omega arith in
      (h.0, h.1, h.2, h.3, laid_both (suc k) h.0 mid q xs ys h.4 (subst (λ n. Laid n mid ys q) z j))

  laid_order : (k p q : ℕ) (ys : List Piece) → Laid k p ys q → p ≤ q
  laid_order k p q [] h = let e : q ≡ p = h in omega (arith, e)
  laid_order k p q (y ∷ ys) h = let rest : h.0 ≤ q = laid_order (suc k) h.0 q ys h.4 in let first : p ≤ h.0 = h.2 in omega (arith, rest, first)

  -- none of them starts at the address or before
  unchanged : (k p q a : ℕ) (ys : List Piece) (best : Option Owner) → Laid k p ys q → a < p → closest ys k a best ≡ best
  unchanged k p q a [] best h low = refl
  unchanged k p q a (y ∷ ys) best h low =
      let first : p ≤ h.0 = h.2 in
      let start : y.start ≡ p = h.1 in
      ap (λ b. closest ys (suc k) a (cond b (Some (record { number = k; start = y.start })) best)) (stays_far best y.start a (omega (arith, start, low)))
      ∙ unchanged (suc k) h.0 q a ys best h.4 (omega (arith, low, first))

  -- one of them starts there, and so none of those before is the closest
  passed : (j k p q a : ℕ) (ys : List Piece) (best : Option Owner) → Laid k p ys q → Earlier k p best → p ≤ a → a < q → j < k → is_owner j (closest ys k a best) ≡ false
  passed j k p q a [] best h early le lt low = let e : q ≡ p = h in absurd (omega (arith, e, le, lt))
  passed j k p q a (y ∷ ys) best h early le lt low =
      ap (λ b. is_owner j (closest ys (suc k) a (cond b (Some (record { number = k; start = y.start })) best)))
      (subst (λ s. comes_closer best s a ≡ true) (sym h.1) (gets_closer best k p a early le))
      ∙ never j (suc k) a ys (Some (record { number = k; start = y.start })) (omega (arith, low)) (eq_no k j low)

  -- where a piece lies, and that just these addresses are its own
  pub record Lies (k : ℕ) (ps : List Piece) (first j end : ℕ) (from : ℕ) : Type 0 where
    pub low : ℕ
    pub high : ℕ
    pub ordered : low ≤ high
    pub inside : high ≤ end
    pub known : P j low high
    pub own : (a : ℕ) (best : Option Owner) → Earlier first from best → a < end → is_owner j (closest ps k a best) ≡ (nat_le low a && nat_lt a high)

  head_lies : (k p q : ℕ) (y : Piece) (ys : List Piece) → Laid k p (y ∷ ys) q → Lies k (y ∷ ys) k k q p
  head_lies k p q y ys h = record {
    low = p;
    high = h.0;
    ordered = h.2;
    inside = laid_order (suc k) h.0 q ys h.4;
    known = h.3;
    own = λ a best early lt. by_low a best early lt (nat_le p a) refl;
  }
    where
      mine : Option Owner
      mine = Some (record { number = k; start = y.start })

      early_mine : Earlier (suc k) h.0 mine
      early_mine = (omega arith, let s : y.start ≡ p = h.1 in let f : p ≤ h.0 = h.2 in omega (arith, s, f))

      by_high : (a : ℕ) → a < q → (b : Bool) → nat_lt a h.0 ≡ b → is_owner k (closest ys (suc k) a mine) ≡ b
      by_high a lt true is = ap (λ o. is_owner k o) (unchanged (suc k) h.0 q a ys mine h.4 (below_from a h.0 is)) ∙ itself k
      by_high a lt false is = passed k (suc k) h.0 q a ys mine h.4 early_mine (above_from a h.0 is) lt (omega arith)

      by_low : (a : ℕ) (best : Option Owner) → Earlier k p best → a < q → (b : Bool) → nat_le p a ≡ b → is_owner k (closest (y ∷ ys) k a best) ≡ (nat_le p a && nat_lt a h.0)
      by_low a best early lt true is =
          ap (λ b. is_owner k (closest ys (suc k) a (cond b mine best))) (subst (λ s. comes_closer best s a ≡ true) (sym h.1) (gets_closer best k p a early (leb-true p a is)))
          ∙ (by_high a lt (nat_lt a h.0) refl ∙ ap (λ z. z && nat_lt a h.0) (sym is))
      by_low a best early lt false is =
          ap (λ o. is_owner k o) (unchanged k p q a (y ∷ ys) best h (lt_from p a is)) ∙ (not_mine k p best early ∙ ap (λ z. z && nat_lt a h.0) (sym is))

  pub lies : (k p q : ℕ) (ps : List Piece) (i : ℕ) → Laid k p ps q → i < length ps → Lies k ps k (k + i) q p
  lies k p q [] i h low = absurd (omega (arith, low))
  lies k p q (y ∷ ys) zero h low = let z : k ≡ k + 0 = omega arith in subst (λ j. Lies k (y ∷ ys) k j q p) z (head_lies k p q y ys h)
  lies k p q (y ∷ ys) (suc i) h low =
      let r = lies (suc k) h.0 q ys i h.4 (omega (arith, low)) in
      let z : suc k + i ≡ k + suc i = omega arith in
      subst (λ j. Lies k (y ∷ ys) k j q p) z
      (record {
        low = r.low;
        high = r.high;
        ordered = r.ordered;
        inside = r.inside;
        known = r.known;
        own = λ a best early lt. r.own a (cond (comes_closer best y.start a) (Some (record { number = k; start = y.start })) best) (still (comes_closer best y.start a) best early) lt;
      })
    where
      start : y.start ≤ h.0
      start = let s : y.start ≡ p = h.1 in let f : p ≤ h.0 = h.2 in omega (arith, s, f)

      further : (best : Option Owner) → Earlier k p best → Earlier (suc k) h.0 best
      further None e = tt
      further (Some b) e = let n : b.number < k = e.0 in let s : b.start ≤ p = e.1 in let f : p ≤ h.0 = h.2 in (omega (arith, n), omega (arith, s, f))

      still : (b : Bool) (best : Option Owner) → Earlier k p best → Earlier (suc k) h.0 (cond b (Some (record { number = k; start = y.start })) best)
      still true best e = (omega arith, start)
      still false best e = further best e
