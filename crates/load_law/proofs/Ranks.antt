-- Ranks by deadlines: none is above the number of processes, and no two processes have one.
use Rattle.std.proofs.Common.{◌≡◌, ◌≤◌, ◌<◌, inl, inr, ℕ, length, arith, sym, true}
use Rattle.std.proofs.lemmas.Bool.{cases_lt}
use Rattle.base.proofs.Numbers.{not_before_itself, before_along, one_before}
use Rattle.sched_response.proofs.Counting.{count_lt, count_less}
use Rattle.machine_semantics.specs.Image.{Image}
use Rattle.valid_image.specs.Times.{deadline_at, process_outranks, rank_of}

module _ (image : Image) where
  abbrev due : ℕ → ℕ
  due k = deadline_at image k

  abbrev many : ℕ
  many = length image.processes

  rank_less : (j k : ℕ) → j < many → process_outranks image j k ≡ true → rank_of image j < rank_of image k
  rank_less j k below higher =
      let more = count_lt (λ i. process_outranks image i j) (λ i. process_outranks image i k) many j (λ i low before. before_along (due i) (due j) (due k) i j k before higher) below (not_before_itself (due j) j) higher in
      omega (arith, more)

  pub rank_high : (k : ℕ) → k < many → rank_of image k ≤ many
  rank_high k below = let less = count_less (λ i. process_outranks image i k) many k below (not_before_itself (due k) k) in omega (arith, less)

  apart : (i l : ℕ) → i < many → l < many → i < l → rank_of image i ≡ rank_of image l → ⊥
  apart i l low_i low_l less same = elim (one_before (due i) (due l) i l less) [
    | inl first ↦ (let r = rank_less i l low_i first in absurd (omega (arith, r, same)))
    | inr second ↦ (let r = rank_less l i low_l second in absurd (omega (arith, r, same)))
  ]

  pub rank_one : (j k : ℕ) → j < many → k < many → rank_of image j ≡ rank_of image k → j ≡ k
  rank_one j k low_j low_k same = elim (cases_lt j k) [
    | inl less ↦ absurd (apart j k low_j low_k less same)
    | inr not_less ↦ elim (cases_lt k j) [ inl more ↦ absurd (apart k j low_k low_j more (sym same)) | inr neither_less ↦ omega (arith, not_less, neither_less) ]
  ]
