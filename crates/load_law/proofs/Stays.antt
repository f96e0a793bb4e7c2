-- No routine is left later than the longest declared stay says, and so no process is held up longer.
use Rattle.std.proofs.Common.{◌≡◌, ◌≤◌, ◌++◌, ℕ, zero, suc, Bool, true, false, List, [], ◌∷◌, length, Option, Some, None, arith, refl, subst}
use Rattle.std.specs.Prelude.{◌&&◌, cond, nat_eq, nat_le, nat_lt, slice_get}
use Rattle.std.proofs.lemmas.Option.{same_Some}
use Rattle.machine_semantics.specs.Image.{Image, Monitor, Process, Routine}
use Rattle.valid_image.specs.Pieces.{called, piece_number}
use Rattle.valid_image.specs.Tables.{table, longer_stay, Reach, stays_of, stays_at, longest_of, own_stay, reach_of, reach, stay_of_process}
use Rattle.valid_image.specs.Times.{ticks_of, blocking_stay, longest_blocking, blocking_by, longest_block, needed_block}

-- ---- tables

abbrev Every : {A : Type 0} → (A → Type 0) → List A → Type 0
Every {A} P xs = (k : ℕ) (x : A) → slice_get xs k ≡ Some x → P x

every_none : {A : Type 0} (P : A → Type 0) → Every P []
every_none P k x at = absurd cc

every_push : {A : Type 0} (P : A → Type 0) (xs : List A) (y : A) → Every P xs → P y → Every P (xs ++ (y ∷ []))
every_push P [] y all last zero x at = subst P (same_Some y x at) last
every_push P [] y all last (suc k) x at = absurd cc
every_push P (z ∷ xs) y all last zero x at = all 0 x at
every_push P (z ∷ xs) y all last (suc k) x at = every_push P xs y (λ j w there. all (suc j) w there) last k x at

-- what each row has if those before it have it, each row has
every_row : {A B : Type 0} (make : List B → A → B) (Q : A → Type 0) (P : B → Type 0) → ((done : List B) (x : A) → Every P done → Q x → P (make done x))
    → (done : List B) (xs : List A) → Every P done → Every Q xs → Every P (table make done xs)
every_row make Q P kept done [] all some = all
every_row make Q P kept done (x ∷ xs) all some =
    every_row make Q P kept (done ++ (make done x ∷ [])) xs (every_push P done (make done x) all (kept done x all (some 0 x refl))) (λ k y at. some (suc k) y at)

-- ---- stays

longer_low : (b : ℕ) (o u : Option ℕ) → ticks_of o ≤ b → ticks_of u ≤ b → ticks_of (longer_stay o u) ≤ b
longer_low b None u one two = two
longer_low b (Some x) None one two = one
longer_low b (Some x) (Some y) one two = omega (arith, one, two)

longest_low : (b : ℕ) (stay : ℕ → Option ℕ) → ((r : ℕ) → ticks_of (stay r) ≤ b) → (rs : List ℕ) → ticks_of (longest_of stay rs) ≤ b
longest_low b stay all [] = omega arith
longest_low b stay all (r ∷ rs) = longer_low b (stay r) (longest_of stay rs) (all r) (longest_low b stay all rs)

own_low : (b : ℕ) (r : Routine) (m : ℕ) → r.stay ≤ b → ticks_of (own_stay r m) ≤ b
own_low b r m low = by (nat_eq r.kind 2 && nat_eq r.owner m) where
  by : (c : Bool) → ticks_of (cond c (Some r.stay) None) ≤ b
  by true = low
  by false = omega arith

abbrev StaysLow : ℕ → Reach → Type 0
StaysLow b x = (m : ℕ) → ticks_of (x.stays m) ≤ b

at_low : (b : ℕ) (rows : List Reach) → Every (StaysLow b) rows → (m r : ℕ) → ticks_of (stays_at rows m r) ≤ b
at_low b rows all m r = by (slice_get rows r) refl where
  by : (o : Option Reach) → slice_get rows r ≡ o → ticks_of (stays_of m o) ≤ b
  by None is = omega arith
  by (Some x) is = all r x is m

module _ (image : Image) (b : ℕ) (stays : (r : ℕ) (x : Routine) → slice_get image.routines r ≡ Some x → x.stay ≤ b) where
  row_low : (done : List Reach) (x : Routine) → Every (StaysLow b) done → x.stay ≤ b → StaysLow b (reach_of image done x)
  row_low done x all low m =
      longer_low b (own_stay x m) (longest_of (stays_at done m) (called image (length done))) (own_low b x m low)
      (longest_low b (stays_at done m) (at_low b done all m) (called image (length done)))

  reach_low : Every (StaysLow b) (reach image)
  reach_low = every_row (reach_of image) (λ x. x.stay ≤ b) (StaysLow b) row_low [] image.routines (every_none (StaysLow b)) stays

  stay_low : (k m : ℕ) → ticks_of (stay_of_process image k m) ≤ b
  stay_low k m = longest_low b (stays_at (reach image) m) (at_low b (reach image) reach_low m) (called image (piece_number image k))

  -- ---- blocks

  if_low : (c : Bool) (n : ℕ) → n ≤ b → cond c n 0 ≤ b
  if_low true n low = low
  if_low false n low = omega arith

  blocking_stay_low : (rank k m : ℕ) (o : Option Monitor) → blocking_stay image rank k m o ≤ b
  blocking_stay_low rank k m None = omega arith
  blocking_stay_low rank k m (Some x) = if_low (nat_le x.ceiling rank) (ticks_of (stay_of_process image k m)) (stay_low k m)

  blocking_low : (rank k n : ℕ) → longest_blocking image rank k n ≤ b
  blocking_low rank k zero = omega arith
  blocking_low rank k (suc n) = let one = blocking_stay_low rank k n (slice_get image.monitors n) in let rest = blocking_low rank k n in omega (arith, one, rest)

  by_low : (rank k : ℕ) (o : Option Process) → blocking_by image rank k o ≤ b
  by_low rank k None = omega arith
  by_low rank k (Some p) = if_low (nat_lt rank p.rank) (longest_blocking image rank k (length image.monitors)) (blocking_low rank k (length image.monitors))

  block_low : (rank n : ℕ) → longest_block image rank n ≤ b
  block_low rank zero = omega arith
  block_low rank (suc n) = let one = by_low rank n (slice_get image.processes n) in let rest = block_low rank n in omega (arith, one, rest)

  pub needed_low : (rank : ℕ) → needed_block image rank ≤ b
  needed_low rank = block_low rank (length image.processes)
