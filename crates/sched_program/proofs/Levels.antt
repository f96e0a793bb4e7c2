-- The ranks of a program's processes are 1 to as many as there are, each once.
use Rattle.std.proofs.Common.{◌≡◌, ◌≤◌, ◌<◌, ◌+◌, ◌-◌, inl, inr, ℕ, suc, Some, length, arith, ap, sym, ◌∙◌, true}
use Rattle.std.specs.Prelude.{slice_get, unwrap_or}
use Rattle.std.proofs.lemmas.Bool.{cases_lt}
use Rattle.std.proofs.lemmas.List.{length-map}
use Rattle.base.proofs.Numbers.{not_before_itself, before_along, one_before}
use Rattle.syntax_tree.specs.Plain.{Process, Program}
use Rattle.source_semantics.specs.Names.{processes, deadline_of}
use Rattle.source_semantics.specs.Ranks.{deadlines, rank}
use Rattle.sched_response.specs.Counts.{count_below}
use Rattle.sched_response.proofs.Counting.{count_lt, count_less}
use Rattle.sched_program.proofs.RankedLemmas.{above, higher_counts}
use Rattle.sched_table.proofs.Onto.{onto}

module _ (g : Program) where
  abbrev due : ℕ → ℕ
  due k = unwrap_or (slice_get (deadlines g) k) 0

  abbrev pub many : ℕ
  many = length (processes g)

  as_many : length (deadlines g) ≡ many
  as_many = length-map (processes g) (λ (p : Process). deadline_of g p.activation)

  rank_counts : (k : ℕ) → rank g k ≡ suc (count_below (λ i. above (due i) i (due k) k) many)
  rank_counts k =
      ap (λ n. suc n) (higher_counts k (due k) 0 (deadlines g) (λ i. above (due i) i (due k) k) same)
      ∙ ap (λ n. suc (count_below (λ i. above (due i) i (due k) k) n)) as_many
    where
      same : (i f : ℕ) → slice_get (deadlines g) i ≡ Some f → above f (0 + i) (due k) k ≡ above (due i) i (due k) k
      same i f at =
          let z : 0 + i ≡ i = omega arith in
          let here : f ≡ due i = sym (ap (λ o. unwrap_or o 0) at) in
          ap (λ n. above f n (due k) k) z ∙ ap (λ d. above d i (due k) k) here

  rank_less : (j k : ℕ) → j < many → above (due j) j (due k) k ≡ true → rank g j < rank g k
  rank_less j k below higher =
      let more = count_lt (λ i. above (due i) i (due j) j) (λ i. above (due i) i (due k) k) many j
      (λ i low before. before_along (due i) (due j) (due k) i j k before higher) below (not_before_itself (due j) j) higher in
      omega (arith, more, rank_counts j, rank_counts k)

  pub rank_low : (k : ℕ) → 1 ≤ rank g k
  rank_low k = omega (arith, rank_counts k)

  pub rank_high : (k : ℕ) → k < many → rank g k ≤ many
  rank_high k below =
      let less = count_less (λ i. above (due i) i (due k) k) many k below (not_before_itself (due k) k) in
      omega (arith, less, rank_counts k)

  apart : (i l : ℕ) → i < many → l < many → i < l → rank g i ≡ rank g l → ⊥
  apart i l low_i low_l less same = elim (one_before (due i) (due l) i l less) [
    | inl first ↦ (let r = rank_less i l low_i first in absurd (omega (arith, r, same)))
    | inr second ↦ (let r = rank_less l i low_l second in absurd (omega (arith, r, same)))
  ]

  pub rank_one : (j k : ℕ) → j < many → k < many → rank g j ≡ rank g k → j ≡ k
  rank_one j k low_j low_k same = elim (cases_lt j k) [
    | inl less ↦ absurd (apart j k low_j low_k less same)
    | inr not_less ↦ elim (cases_lt k j) [
      | inl more ↦ absurd (apart k j low_k low_j more (sym same))
      | inr neither_less ↦ omega (arith, not_less, neither_less)
    ]
  ]

  -- a process has the rank of each level
  pub had : (level : ℕ) → level < many → (k : ℕ) × (k < many) × (rank g k - 1 ≡ level)
  had level low =
      onto many (λ k. rank g k - 1)
      (λ k below. (let l = rank_low k in let h = rank_high k below in omega (arith, l, h)))
      (λ j k low_j low_k same. (let a = rank_low j in let b = rank_low k in rank_one j k low_j low_k (omega (arith, a, b, same))))
      level low
