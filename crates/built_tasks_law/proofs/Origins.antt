-- Where the block of an image comes from: a lower process, and a monitor that it stays in.
use Rattle.std.specs.Prelude.{◌≡◌, ◌≤◌, ◌<◌, ◌⊎◌, ◌||◌, ℕ, zero, suc, Bool, true, false, cond, Option, Some, None, max, length, nat_le, nat_lt, slice_get}
use Rattle.std.proofs.Common.{inl, inr, refl, sym, subst, arith}
use Rattle.std.proofs.lemmas.Bool.{cases_lt, leb-true, leb-false, le-leb, lt-leb}
use Rattle.std.proofs.lemmas.Bool.Decides.{nat_tests}
use Rattle.machine_semantics.specs.Image.{Image, Monitor, Process}
use Rattle.valid_image.specs.Tables.{longer_stay, stay_of_process}
use Rattle.valid_image.specs.Times.{ticks_of, blocking_stay, longest_blocking, blocking_by, longest_block}
use Rattle.built_tasks_law.proofs.Tests.{or_false}

-- ---- a stay of so many ticks at least

abbrev pub at_least : ℕ → Option ℕ → Bool
at_least s None = false
at_least s (Some n) = nat_le s n

max_at_least : (s a b : ℕ) → nat_le s (max a b) ≡ nat_le s a || nat_le s b
max_at_least s a b = by (nat_le s a) refl (nat_le s b) refl where
  by : (x : Bool) → nat_le s a ≡ x → (y : Bool) → nat_le s b ≡ y → nat_le s (max a b) ≡ x || y
  by true e y h = le-leb s (max a b) (let l : s ≤ a = leb-true s a e in omega (arith, l))
  by false e true h = le-leb s (max a b) (let l : s ≤ b = leb-true s b h in omega (arith, l))
  by false e false h = lt-leb s (max a b) (let l : a < s = leb-false s a e in let k : b < s = leb-false s b h in omega (arith, l, k))

pub longer_at_least : (s : ℕ) (a b : Option ℕ) → at_least s (longer_stay a b) ≡ at_least s a || at_least s b
longer_at_least s None b = refl
longer_at_least s (Some a) None = sym (or_false (nat_le s a))
longer_at_least s (Some a) (Some b) = max_at_least s a b

-- ---- the greater of two

-- it is 0, or has what the two have
greater : (P : ℕ → Type 0) (a b : ℕ) → (a ≡ 0) ⊎ P a → (b ≡ 0) ⊎ P b → (max a b ≡ 0) ⊎ P (max a b)
greater P a b x y = elim (cases_lt a b) [
  | inl less ↦ let e : b ≡ max a b = omega (arith, less) in subst (λ (n : ℕ). (n ≡ 0) ⊎ P n) e y
  | inr more ↦ let e : a ≡ max a b = omega (arith, more) in subst (λ (n : ℕ). (n ≡ 0) ⊎ P n) e x
]

module _ (image : Image) (rank : ℕ) where
  -- process k stays so long in a monitor that reaches up to the rank
  pub record Stays (k ticks : ℕ) : Type 0 where
    pub j : ℕ
    pub y : Monitor
    pub there : slice_get image.monitors j ≡ Some y
    pub reaches : y.ceiling ≤ rank
    pub stay : stay_of_process image k j ≡ Some ticks

  -- so does a process of a lower rank
  pub record Origin (ticks : ℕ) : Type 0 where
    pub k : ℕ
    pub x : Process
    pub at : slice_get image.processes k ≡ Some x
    pub lower : rank < x.rank
    pub stays : Stays k ticks

  one_monitor : (k n : ℕ) (o : Option Monitor) → slice_get image.monitors n ≡ o → (blocking_stay image rank k n o ≡ 0) ⊎ Stays k (blocking_stay image rank k n o)
  one_monitor k n None is = inl refl
  one_monitor k n (Some y) is = by (nat_le y.ceiling rank) refl (stay_of_process image k n) refl where
    by : (b : Bool) → nat_le y.ceiling rank ≡ b → (s : Option ℕ) → stay_of_process image k n ≡ s → (cond b (ticks_of s) 0 ≡ 0) ⊎ Stays k (cond b (ticks_of s) 0)
    by false e s h = inl refl
    by true e None h = inl refl
    by true e (Some t) h = inr (record { j = n; y = y; there = is; reaches = leb-true y.ceiling rank e; stay = h })

  monitors_origin : (k n : ℕ) → (longest_blocking image rank k n ≡ 0) ⊎ Stays k (longest_blocking image rank k n)
  monitors_origin k zero = inl refl
  monitors_origin k (suc n) =
      greater (Stays k) (blocking_stay image rank k n (slice_get image.monitors n)) (longest_blocking image rank k n)
      (one_monitor k n (slice_get image.monitors n) refl) (monitors_origin k n)

  one_process : (n : ℕ) (o : Option Process) → slice_get image.processes n ≡ o → (blocking_by image rank n o ≡ 0) ⊎ Origin (blocking_by image rank n o)
  one_process n None is = inl refl
  one_process n (Some x) is = by (nat_lt rank x.rank) refl (monitors_origin n (length image.monitors)) where
    lower : nat_lt rank x.rank ≡ true → rank < x.rank
    lower e = grind (arith, nat_tests, e)

    by : (b : Bool) → nat_lt rank x.rank ≡ b → (longest_blocking image rank n (length image.monitors) ≡ 0) ⊎ Stays n (longest_blocking image rank n (length image.monitors))
        → (cond b (longest_blocking image rank n (length image.monitors)) 0 ≡ 0) ⊎ Origin (cond b (longest_blocking image rank n (length image.monitors)) 0)
    by false e h = inl refl
    by true e (inl none) = inl none
    by true e (inr some) = inr (record { k = n; x = x; at = is; lower = lower e; stays = some })

  -- the block is 0, or it is such a stay
  pub origin : (n : ℕ) → (longest_block image rank n ≡ 0) ⊎ Origin (longest_block image rank n)
  origin zero = inl refl
  origin (suc n) =
      greater Origin (blocking_by image rank n (slice_get image.processes n)) (longest_block image rank n)
      (one_process n (slice_get image.processes n) refl) (origin n)
