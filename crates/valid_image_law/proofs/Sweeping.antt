-- The owner of the next address.
use Rattle.std.proofs.Common.{◌≡◌, ◌≤◌, ◌<◌, ◌+◌, ◌⊎◌, inl, inr, ℕ, suc, List, [], ◌∷◌, Option, Some, None, arith, refl, ap, sym, ◌∙◌, true, false}
use Rattle.std.specs.Prelude.{◌&&◌, cond, nat_eq, nat_le}
use Rattle.std.proofs.lemmas.Bool.{cases_lt, cases_Bool, eq-eqb, le-leb, lt-leb}
use Rattle.std.proofs.lemmas.Bool.Decides.{nat_tests}
use Rattle.valid_image.specs.Fault.{or_else}
use Rattle.valid_image.specs.Pieces.{Piece, Owner, comes_closer, closest}
use Rattle.valid_image_law.specs.Swept.{starting, SweepingFindsOwners}

-- the best so far starts at the address or before
abbrev Early : Option Owner → ℕ → Type 0
Early None a = Unit {0}
Early (Some b) a = b.start ≤ a

abbrev owner : ℕ → ℕ → Owner
owner k x = record { number = k; start = x }

eq_false : (m n : ℕ) → (m < n) ⊎ (n < m) → nat_eq m n ≡ false
eq_false m n (inl less) = grind (arith, nat_tests, less)
eq_false m n (inr more) = grind (arith, nat_tests, more)

-- what starts past the address comes no closer, what starts before is tested against the best alone
pub past : (best : Option Owner) (start a : ℕ) → a < start → comes_closer best start a ≡ false
past None start a far = lt-leb start a far
past (Some b) start a far = ap (λ t. t && nat_le b.start start) (lt-leb start a far)

alike : (best : Option Owner) (start a : ℕ) → start ≤ a → comes_closer best start (a + 1) ≡ comes_closer best start a
alike None start a le = le-leb start (a + 1) (omega (arith, le)) ∙ sym (le-leb start a le)
alike (Some b) start a le = ap (λ t. t && nat_le b.start start) (le-leb start (a + 1) (omega (arith, le)) ∙ sym (le-leb start a le))

reached : (best : Option Owner) (start a : ℕ) → start ≡ a → Early best a → comes_closer best start a ≡ true
reached None start a is early = le-leb start a (omega (arith, is))
reached (Some b) start a is early = ap (λ t. t && nat_le b.start start) (le-leb start a (omega (arith, is))) ∙ le-leb b.start start (omega (arith, early, is))

-- where a piece goes
cases : (start a : ℕ) → (start ≤ a) ⊎ ((start ≡ a + 1) ⊎ (a + 1 < start))
cases start a = elim (cases_lt a start) [
  | inr low ↦ inl low
  | inl high ↦ elim (cases_lt (a + 1) start) [ inl far ↦ inr (inr far) | inr near ↦ inr (inl (omega (arith, high, near))) ]
]

-- ---- choices

drop_none : (s c : Option Owner) → or_else (or_else s None) c ≡ or_else s c
drop_none None c = refl
drop_none (Some p) c = refl

keep_some : (s c : Option Owner) (p : Owner) → or_else (or_else s (Some p)) c ≡ or_else s (Some p)
keep_some None c p = refl
keep_some (Some q) c p = refl

no_more : (s : Option Owner) → or_else s None ≡ s
no_more None = refl
no_more (Some p) = refl

-- a piece that starts elsewhere, or there
starts_not : (x : Piece) (xs : List Piece) (k a : ℕ) → nat_eq x.start a ≡ false → starting (x ∷ xs) k a ≡ or_else (starting xs (suc k) a) None
starts_not x xs k a is_not = ap (λ b. or_else (starting xs (suc k) a) (cond b (Some (owner k x.start)) None)) is_not

starts_there : (x : Piece) (xs : List Piece) (k a : ℕ) → nat_eq x.start a ≡ true → starting (x ∷ xs) k a ≡ or_else (starting xs (suc k) a) (Some (owner k x.start))
starts_there x xs k a is = ap (λ b. or_else (starting xs (suc k) a) (cond b (Some (owner k x.start)) None)) is

takes : (x : Piece) (xs : List Piece) (k a : ℕ) (best : Option Owner) → comes_closer best x.start a ≡ true → closest (x ∷ xs) k a best ≡ closest xs (suc k) a (Some (owner k x.start))
takes x xs k a best is = ap (λ b. closest xs (suc k) a (cond b (Some (owner k x.start)) best)) is

leaves : (x : Piece) (xs : List Piece) (k a : ℕ) (best : Option Owner) → comes_closer best x.start a ≡ false → closest (x ∷ xs) k a best ≡ closest xs (suc k) a best
leaves x xs k a best is = ap (λ b. closest xs (suc k) a (cond b (Some (owner k x.start)) best)) is

-- ---- once a piece starts at the address, only a later one that starts there too is taken

farther : (j start a : ℕ) → (start < a) ⊎ (a < start) → comes_closer (Some (owner j a)) start a ≡ false
farther j start a (inl before) = ap (λ t. t && nat_le a start) (le-leb start a (omega (arith, before))) ∙ lt-leb a start before
farther j start a (inr after) = past (Some (owner j a)) start a after

apart : (start a : ℕ) → (start ≡ a) ⊎ ((start < a) ⊎ (a < start))
apart start a = elim (cases_lt start a) [
  | inl before ↦ inr (inl before)
  | inr not_before ↦ elim (cases_lt a start) [ inl after ↦ inr (inr after) | inr not_after ↦ inl (omega (arith, not_before, not_after)) ]
]

on_start : (xs : List Piece) (k a j : ℕ) → closest xs k a (Some (owner j a)) ≡ or_else (starting xs k a) (Some (owner j a))
on_start [] k a j = refl
on_start (x ∷ xs) k a j = elim (apart x.start a) [
  | inl same ↦
      takes x xs k a (Some (owner j a)) (reached (Some (owner j a)) x.start a same (omega arith))
      ∙ (ap (λ n. closest xs (suc k) a (Some (owner k n))) same ∙ (on_start xs (suc k) a k
      ∙ (ap (λ n. or_else (starting xs (suc k) a) (Some (owner k n))) (sym same)
      ∙ sym (ap (λ o. or_else o (Some (owner j a))) (starts_there x xs k a (eq-eqb x.start a same)) ∙ keep_some (starting xs (suc k) a) (Some (owner j a)) (owner k x.start)))))
  | inr elsewhere ↦
      leaves x xs k a (Some (owner j a)) (farther j x.start a elsewhere)
      ∙ (on_start xs (suc k) a j ∙ sym (ap (λ o. or_else o (Some (owner j a))) (starts_not x xs k a (eq_false x.start a elsewhere)) ∙ drop_none (starting xs (suc k) a) (Some (owner j a))))
]

-- ---- the next address

next_from : (xs : List Piece) (k a : ℕ) (best : Option Owner) → Early best a → closest xs k (a + 1) best ≡ or_else (starting xs k (a + 1)) (closest xs k a best)
next_from [] k a best early = refl
next_from (x ∷ xs) k a best early = elim (cases x.start a) [
  | inl low ↦ elim (cases_Bool (comes_closer best x.start a)) [
    | inl closer ↦ finish low (Some (owner k x.start)) (takes x xs k a best closer) (takes x xs k (a + 1) best (alike best x.start a low ∙ closer)) (next_from xs (suc k) a (Some (owner k x.start)) low)
    | inr not_closer ↦ finish low best (leaves x xs k a best not_closer) (leaves x xs k (a + 1) best (alike best x.start a low ∙ not_closer)) (next_from xs (suc k) a best early)
  ]
  | inr (inl same) ↦
      takes x xs k (a + 1) best (reached best x.start (a + 1) same (earlier best early))
      ∙ (ap (λ n. closest xs (suc k) (a + 1) (Some (owner k n))) same ∙ (on_start xs (suc k) (a + 1) k
      ∙ (ap (λ n. or_else (starting xs (suc k) (a + 1)) (Some (owner k n))) (sym same)
      ∙ sym (ap (λ o. or_else o (closest (x ∷ xs) k a best)) (starts_there x xs k (a + 1) (eq-eqb x.start (a + 1) same)) ∙ keep_some (starting xs (suc k) (a + 1)) (closest (x ∷ xs) k a best) (owner k x.start)))))
  | inr (inr far) ↦
      leaves x xs k (a + 1) best (past best x.start (a + 1) far)
      ∙ (next_from xs (suc k) a best early ∙ (ap (λ o. or_else (starting xs (suc k) (a + 1)) o) (sym (leaves x xs k a best (past best x.start a (omega (arith, far)))))
      ∙ sym (ap (λ o. or_else o (closest (x ∷ xs) k a best)) (starts_not x xs k (a + 1) (eq_false x.start (a + 1) (inr far))) ∙ drop_none (starting xs (suc k) (a + 1)) (closest (x ∷ xs) k a best))))
] where
  earlier : (o : Option Owner) → Early o a → Early o (a + 1)
  earlier None e = tt
  earlier (Some b) e = omega (arith, e)

  finish : x.start ≤ a → (best' : Option Owner) → closest (x ∷ xs) k a best ≡ closest xs (suc k) a best' → closest (x ∷ xs) k (a + 1) best ≡ closest xs (suc k) (a + 1) best'
      → closest xs (suc k) (a + 1) best' ≡ or_else (starting xs (suc k) (a + 1)) (closest xs (suc k) a best') → closest (x ∷ xs) k (a + 1) best ≡ or_else (starting (x ∷ xs) k (a + 1)) (closest (x ∷ xs) k a best)
  finish low best' at_a at_next ih =
      at_next ∙ (ih ∙ (ap (λ o. or_else (starting xs (suc k) (a + 1)) o) (sym at_a)
      ∙ sym (ap (λ o. or_else o (closest (x ∷ xs) k a best)) (starts_not x xs k (a + 1) (eq_false x.start (a + 1) (inl (omega (arith, low))))) ∙ drop_none (starting xs (suc k) (a + 1)) (closest (x ∷ xs) k a best))))

pub sweeping_finds_owners : SweepingFindsOwners
sweeping_finds_owners = record { first = λ xs. first_from xs 0; next = λ xs a. next_from xs 0 a None tt } where
  first_from : (xs : List Piece) (k : ℕ) → closest xs k 0 None ≡ starting xs k 0
  first_from [] k = refl
  first_from (x ∷ xs) k = elim (apart x.start 0) [
    | inl same ↦
        takes x xs k 0 None (reached None x.start 0 same tt) ∙ (ap (λ n. closest xs (suc k) 0 (Some (owner k n))) same ∙ (on_start xs (suc k) 0 k
        ∙ (ap (λ n. or_else (starting xs (suc k) 0) (Some (owner k n))) (sym same) ∙ sym (starts_there x xs k 0 (eq-eqb x.start 0 same)))))
    | inr (inl less) ↦ absurd (omega (arith, less))
    | inr (inr more) ↦ leaves x xs k 0 None (past None x.start 0 more) ∙ (first_from xs (suc k) ∙ sym (starts_not x xs k 0 (eq_false x.start 0 (inr more)) ∙ no_more (starting xs (suc k) 0)))
  ]
