-- No stay and so no block is longer than what a routine can declare.
use Rattle.std.proofs.Common.{◌≡◌, ◌≤◌, ◌++◌, ℕ, zero, suc, Bool, true, false, cond, List, [], ◌∷◌, Option, Some, None, max, arith, refl}
use Rattle.std.specs.Prelude.{◌&&◌, length, nat_eq, nat_le, nat_lt, slice_get}
use Rattle.syntax_tree.specs.Plain.{Program}
use Rattle.base.specs.Capped.{cap}
use Rattle.machine_semantics.specs.Image.{Image, Monitor, Process, Routine}
use Rattle.valid_image.specs.Pieces.{called, piece_number}
use Rattle.valid_image.specs.Tables.{Reach, table, longer_stay, stays_at, longest_of, own_stay, reach_of, reach, stay_of_process}
use Rattle.valid_image.specs.Times.{ticks_of, blocking_stay, longest_blocking, blocking_by, longest_block, needed_block}
use Rattle.code_spec.specs.Numbering.{numbered}
use Rattle.code_spec.specs.Compiled.{IsCodeOf}
use Rattle.code_cost_spec.specs.Levels.{stay_of_entry}
use Rattle.code_measures.specs.Declared.{Declares}
use Rattle.code_measures.proofs.Bodies.{text_at}
use Rattle.built_image_law.specs.Limits.{BlocksAreInLimits}

abbrev limit : ℕ
limit = 1000000001

-- a stay, if there is one, is in the limit
abbrev Within : Option ℕ → Type 0
Within None = Unit {0}
Within (Some n) = n ≤ limit

greater_within : (a b : ℕ) → a ≤ limit → b ≤ limit → max a b ≤ limit
greater_within a b low less = omega (arith, low, less)

longer_within : (a b : Option ℕ) → Within a → Within b → Within (longer_stay a b)
longer_within None b h k = k
longer_within (Some n) None h k = h
longer_within (Some n) (Some i) h k = greater_within n i h k

own_within : (r : Routine) (m : ℕ) → r.stay ≤ limit → Within (own_stay r m)
own_within r m low = by (nat_eq r.kind 2 && nat_eq r.owner m) where
  by : (b : Bool) → Within (cond b (Some r.stay) None)
  by true = low
  by false = tt

longest_within : (stay : ℕ → Option ℕ) → ((r : ℕ) → Within (stay r)) → (rs : List ℕ) → Within (longest_of stay rs)
longest_within stay each [] = tt
longest_within stay each (r ∷ rs) = longer_within (stay r) (longest_of stay rs) (each r) (longest_within stay each rs)

-- ---- rows

abbrev RowsWithin : List Reach → Type 0
RowsWithin [] = Unit {0}
RowsWithin (x ∷ xs) = ((m : ℕ) → Within (x.stays m)) × RowsWithin xs

row_more : (xs : List Reach) (y : Reach) → RowsWithin xs → ((m : ℕ) → Within (y.stays m)) → RowsWithin (xs ++ (y ∷ []))
row_more [] y h k = (k, tt)
row_more (x ∷ xs) y h k = (h.0, row_more xs y h.1 k)

row_at : (xs : List Reach) (m r : ℕ) → RowsWithin xs → Within (stays_at xs m r)
row_at [] m r h = tt
row_at (x ∷ xs) m zero h = h.0 m
row_at (x ∷ xs) m (suc r) h = row_at xs m r h.1

module _ (image : Image) where
  rows_within : (done : List Reach) (xs : List Routine) → RowsWithin done → ((r : ℕ) (x : Routine) → slice_get xs r ≡ Some x → x.stay ≤ limit)
      → RowsWithin (table (reach_of image) done xs)
  rows_within done [] h low = h
  rows_within done (x ∷ xs) h low =
      rows_within (done ++ (reach_of image done x ∷ [])) xs
      (row_more done (reach_of image done x) h
      (λ m. longer_within (own_stay x m) (longest_of (stays_at done m) (called image (length done))) (own_within x m (low 0 x refl))
      (longest_within (stays_at done m) (λ r. row_at done m r h) (called image (length done)))))
      (λ r y at. low (suc r) y at)

  module _ (low : (r : ℕ) (x : Routine) → slice_get image.routines r ≡ Some x → x.stay ≤ limit) where
    stay_within : (k m : ℕ) → Within (stay_of_process image k m)
    stay_within k m =
        longest_within (stays_at (reach image) m) (λ r. row_at (reach image) m r (rows_within [] image.routines tt low)) (called image (piece_number image k))

    -- ---- blocks

    ticks_within : (o : Option ℕ) → Within o → ticks_of o ≤ limit
    ticks_within None h = omega arith
    ticks_within (Some n) h = h

    cond_within : (b : Bool) (n : ℕ) → n ≤ limit → cond b n 0 ≤ limit
    cond_within true n h = h
    cond_within false n h = omega arith

    one_within : (rank k m : ℕ) (o : Option Monitor) → blocking_stay image rank k m o ≤ limit
    one_within rank k m None = omega arith
    one_within rank k m (Some x) =
        cond_within (nat_le x.ceiling rank) (ticks_of (stay_of_process image k m)) (ticks_within (stay_of_process image k m) (stay_within k m))

    monitors_within : (rank k n : ℕ) → longest_blocking image rank k n ≤ limit
    monitors_within rank k zero = omega arith
    monitors_within rank k (suc n) =
        greater_within (blocking_stay image rank k n (slice_get image.monitors n)) (longest_blocking image rank k n)
        (one_within rank k n (slice_get image.monitors n)) (monitors_within rank k n)

    process_within : (rank k : ℕ) (o : Option Process) → blocking_by image rank k o ≤ limit
    process_within rank k None = omega arith
    process_within rank k (Some p) =
        cond_within (nat_lt rank p.rank) (longest_blocking image rank k (length image.monitors)) (monitors_within rank k (length image.monitors))

    processes_within : (rank n : ℕ) → longest_block image rank n ≤ limit
    processes_within rank zero = omega arith
    processes_within rank (suc n) =
        greater_within (blocking_by image rank n (slice_get image.processes n)) (longest_block image rank n)
        (process_within rank n (slice_get image.processes n)) (processes_within rank n)

    block_within : (rank : ℕ) → needed_block image rank ≤ limit
    block_within rank = processes_within rank (length image.processes)

stays_low : (g : Program) (m : Image) → IsCodeOf g m → Declares g m → (r : ℕ) (x : Routine) → slice_get m.routines r ≡ Some x → x.stay ≤ limit
stays_low g m code declares r x at =
    let t = text_at g m.code 0 code.between (numbered g) m.routines r x code.routine_code at in
    let stay : x.stay ≡ cap (stay_of_entry g t.0) = (declares.routines r t.0 x t.1 at).stay in
    omega (arith, stay)

pub blocks_are_in_limits : BlocksAreInLimits
blocks_are_in_limits g m rank code declares = block_within m (stays_low g m code declares) rank
