-- The ranks, ceilings and blocks of a valid image.
use Rattle.std.proofs.Common.{◌≡◌, ◌≤◌, ◌<◌, inl, inr, ℕ, zero, suc, length, Option, Some, None, arith, ap, sym, ◌∙◌, true}
use Rattle.std.specs.Prelude.{cond, nat_lt, slice_get}
use Rattle.std.proofs.lemmas.Bool.{cases_lt, le-leb}
use Rattle.std.proofs.lemmas.Bool.Decides.{nat_tests}
use Rattle.std.proofs.lemmas.Option.{slice_get_within}
use Rattle.base.proofs.Lists.{some_at}
use Rattle.base.proofs.Numbers.{not_before_itself, before_along, one_before}
use Rattle.sched_response.proofs.Counting.{count_lt, count_less}
use Rattle.base.specs.Capped.{cap}
use Rattle.machine_semantics.specs.Image.{Image, Monitor, Process}
use Rattle.machine_semantics.specs.Tick.{ceiling}
use Rattle.valid_image_law.proofs.Tests.{meet}
use Rattle.valid_image.specs.Fault.{Fault, or_else, first_of, of_some}
use Rattle.valid_image.specs.Sizes.{below, other}
use Rattle.valid_image.specs.Tables.{stay_of_process}
use Rattle.valid_image.specs.Times.{deadline_at, process_outranks, rank_of, is_some, enters, least_rank, ceiling_of, ticks_of, blocking_stay, longest_blocking, blocking_by, longest_block, needed_block, rank_fault}
use Rattle.valid_image_law.proofs.Firsts.{neither, none_of_all}
use Rattle.valid_image_law.proofs.Rows.{at_least_needed, is_due}
use Rattle.valid_image_law.proofs.Reaching.{limit_low, stay_capped}
use Rattle.valid_image_law.proofs.Parts.{limit_by, stay_by}

-- ---- who ranks higher

module _ (image : Image) where
  abbrev due : ℕ → ℕ
  due k = deadline_at image k

  abbrev many : ℕ
  many = length image.processes

  rank_less : (j k : ℕ) → j < many → process_outranks image j k ≡ true → rank_of image j < rank_of image k
  rank_less j k below higher =
      let more = count_lt (λ i. process_outranks image i j) (λ i. process_outranks image i k) many j (λ i low before. before_along (due i) (due j) (due k) i j k before higher) below (not_before_itself (due j) j) higher in
      omega (arith, more)

  pub rank_high : (k : ℕ) → k < many → rank_of image k ≤ many
  rank_high k below = let less = count_less (λ i. process_outranks image i k) many k below (not_before_itself (due k) k) in omega (arith, less)

  rank_one : (j k : ℕ) → j < many → k < many → rank_of image j ≡ rank_of image k → j ≡ k
  rank_one j k low_j low_k same = elim (cases_lt j k) [
    | inl less ↦ absurd (apart j k low_j low_k less same)
    | inr not_less ↦ elim (cases_lt k j) [ inl more ↦ absurd (apart k j low_k low_j more (sym same)) | inr neither_less ↦ omega (arith, not_less, neither_less) ]
  ] where
    apart : (i l : ℕ) → i < many → l < many → i < l → rank_of image i ≡ rank_of image l → ⊥
    apart i l low_i low_l less same = elim (one_before (due i) (due l) i l less) [
      | inl first ↦ (let r = rank_less i l low_i first in absurd (omega (arith, r, same)))
      | inr second ↦ (let r = rank_less l i low_l second in absurd (omega (arith, r, same)))
    ]

  -- ---- ceilings

  pub least_low : (m n k : ℕ) → k < n → enters image k m ≡ true → least_rank image m n ≤ rank_of image k
  least_low m zero k below in_it = absurd (omega (arith, below))
  least_low m (suc n) k below in_it = elim (meet k n (omega (arith, below))) [
    | inl same ↦
        let one : cond (enters image n m) (rank_of image n) 65535 ≡ rank_of image n = ap (λ b. cond b (rank_of image n) 65535) (ap (λ i. enters image i m) (sym same) ∙ in_it) in
        let is : rank_of image k ≡ rank_of image n = ap (λ i. rank_of image i) same in
        omega (arith, one, is)
    | inr later ↦ (let rest = least_low m n k (omega (arith, later)) in_it in omega (arith, rest))
  ]

-- ---- blocks

less_true : (m n : ℕ) → m < n → nat_lt m n ≡ true
less_true m n less = grind (arith, nat_tests, less)

pub stay_blocks : (image : Image) (rank k n m : ℕ) (x : Monitor) → m < n → slice_get image.monitors m ≡ Some x → x.ceiling ≤ rank → ticks_of (stay_of_process image k m) ≤ longest_blocking image rank k n
stay_blocks image rank k zero m x below at low = absurd (omega (arith, below))
stay_blocks image rank k (suc n) m x below at low = elim (meet m n (omega (arith, below))) [
  | inl same ↦
      let one : blocking_stay image rank k m (slice_get image.monitors m) ≡ ticks_of (stay_of_process image k m) =
      ap (λ o. blocking_stay image rank k m o) at ∙ ap (λ b. cond b (ticks_of (stay_of_process image k m)) 0) (le-leb x.ceiling rank low) in
      let is : blocking_stay image rank k m (slice_get image.monitors m) ≡ blocking_stay image rank k n (slice_get image.monitors n) = ap (λ i. blocking_stay image rank k i (slice_get image.monitors i)) same in
      omega (arith, one, is)
  | inr later ↦ (let rest = stay_blocks image rank k n m x (omega (arith, later)) at low in omega (arith, rest))
]

pub process_blocks : (image : Image) (rank n k : ℕ) (q : Process) → k < n → slice_get image.processes k ≡ Some q → rank < q.rank → longest_blocking image rank k (length image.monitors) ≤ longest_block image rank n
process_blocks image rank zero k q below at lower = absurd (omega (arith, below))
process_blocks image rank (suc n) k q below at lower = elim (meet k n (omega (arith, below))) [
  | inl same ↦
      let one : blocking_by image rank k (slice_get image.processes k) ≡ longest_blocking image rank k (length image.monitors) =
      ap (λ o. blocking_by image rank k o) at ∙ ap (λ b. cond b (longest_blocking image rank k (length image.monitors)) 0) (less_true rank q.rank lower) in
      let is : blocking_by image rank k (slice_get image.processes k) ≡ blocking_by image rank n (slice_get image.processes n) = ap (λ i. blocking_by image rank i (slice_get image.processes i)) same in
      omega (arith, one, is)
  | inr later ↦ (let rest = process_blocks image rank n k q (omega (arith, later)) at lower in omega (arith, rest))
]

-- ---- the test

module _ (image : Image) (none : rank_fault image ≡ None) where
  abbrev ranks_test : Option Fault
  ranks_test = first_of (λ k. of_some (λ p. other p.rank (rank_of image k)) (slice_get image.processes k)) (length image.processes) 0

  abbrev ceilings_test : Option Fault
  ceilings_test = first_of (λ m. of_some (λ x. other x.ceiling (ceiling_of image m)) (slice_get image.monitors m)) (length image.monitors) 0

  abbrev blocks_test : Option Fault
  blocks_test = first_of (λ k. of_some (λ p. below p.block (needed_block image p.rank)) (slice_get image.processes k)) (length image.processes) 0

  all_pass : (ranks_test ≡ None) × (ceilings_test ≡ None) × (blocks_test ≡ None)
  all_pass =
      let one = neither ranks_test (or_else ceilings_test blocks_test) none in
      let two = neither ceilings_test blocks_test one.1 in
      (one.0, two.0, two.1)

  rank_is : (k : ℕ) (p : Process) → slice_get image.processes k ≡ Some p → p.rank ≡ rank_of image k
  rank_is k p at = is_due p.rank (rank_of image k) (none_of_all (λ k p. other p.rank (rank_of image k)) image.processes all_pass.0 k p at)

  pub ranked : (k : ℕ) (p : Process) → slice_get image.processes k ≡ Some p → (1 ≤ p.rank) × (p.rank ≤ length image.processes)
  ranked k p at = (omega (arith, rank_is k p at), omega (arith, rank_is k p at, rank_high image k (slice_get_within image.processes k p at)))

  pub one_each : (j k : ℕ) (p q : Process) → slice_get image.processes j ≡ Some p → slice_get image.processes k ≡ Some q → p.rank ≡ q.rank → j ≡ k
  one_each j k p q at_j at_k same = rank_one image j k (slice_get_within image.processes j p at_j) (slice_get_within image.processes k q at_k) (omega (arith, same, rank_is j p at_j, rank_is k q at_k))

  ceiling_is : (m : ℕ) (x : Monitor) → slice_get image.monitors m ≡ Some x → x.ceiling ≡ ceiling_of image m
  ceiling_is m x at = is_due x.ceiling (ceiling_of image m) (none_of_all (λ m x. other x.ceiling (ceiling_of image m)) image.monitors all_pass.1 m x at)

  -- no ceiling of a monitor that a process enters is above its rank, as a number
  pub within_rank : (k : ℕ) (p : Process) → slice_get image.processes k ≡ Some p → limit_by image (stay_of_process image k) ≤ p.rank
  within_rank k p at = limit_low image.monitors (stay_of_process image k) (length image.monitors) p.rank low where
    low : (m : ℕ) → m < length image.monitors → is_some (stay_of_process image k m) ≡ true → ceiling (slice_get image.monitors m) ≤ p.rank
    low m below reaches =
        let x = some_at image.monitors m below in
        let is : ceiling (slice_get image.monitors m) ≡ x.0.ceiling = ap (λ o. ceiling o) x.1 in
        let least : ceiling_of image m ≤ rank_of image k = least_low image m (length image.processes) k (slice_get_within image.processes k p at) reaches in
        omega (arith, is, ceiling_is m x.0 x.1, least, rank_is k p at)

  -- a declared block covers each stay that holds its process up
  pub blocks : (j k m : ℕ) (p q : Process) (x : Monitor) → slice_get image.processes j ≡ Some p → slice_get image.processes k ≡ Some q → slice_get image.monitors m ≡ Some x
      → p.rank < q.rank → x.ceiling ≤ p.rank → cap (stay_by image (stay_of_process image k m)) ≤ p.block
  blocks j k m p q x at_j at_k there lower reaches = by (stay_of_process image k m) (omega (arith, needed, one, two)) where
    needed : needed_block image p.rank ≤ p.block
    needed = at_least_needed p.block (needed_block image p.rank) (none_of_all (λ k p. below p.block (needed_block image p.rank)) image.processes all_pass.2 j p at_j)

    one : ticks_of (stay_of_process image k m) ≤ longest_blocking image p.rank k (length image.monitors)
    one = stay_blocks image p.rank k (length image.monitors) m x (slice_get_within image.monitors m x there) there reaches

    two : longest_blocking image p.rank k (length image.monitors) ≤ needed_block image p.rank
    two = process_blocks image p.rank (length image.processes) k q (slice_get_within image.processes k q at_k) at_k lower

    by : (o : Option ℕ) → ticks_of o ≤ p.block → cap (stay_by image o) ≤ p.block
    by None le = omega arith
    by (Some n) le = stay_capped _ n p.block le
