-- The ranks of an image whose ranks are due: each is had by one process, and they stand in the order of deadlines.
use Rattle.std.proofs.Common.{◌≡◌, ◌≤◌, ◌<◌, ◌+◌, ◌-◌, inl, inr, ℕ, true, length, Option, Some, None, arith, ap}
use Rattle.std.specs.Prelude.{slice_get}
use Rattle.std.proofs.lemmas.Bool.{cases_lt}
use Rattle.std.proofs.lemmas.Option.{slice_get_within}
use Rattle.base.proofs.Lists.{some_at}
use Rattle.base.proofs.Numbers.{not_before_itself, before_along, shorter}
use Rattle.sched_response.proofs.Counting.{count_lt}
use Rattle.sched_table.proofs.Onto.{onto}
use Rattle.machine_semantics.specs.Image.{Image, Process}
use Rattle.valid_image.specs.Fault.{or_else}
use Rattle.valid_image.specs.Sizes.{other}
use Rattle.valid_image.specs.Times.{deadline_of, deadline_at, process_outranks, rank_of, ranks_fault, ceilings_fault, blocks_fault, rank_fault}
use Rattle.valid_image_law.proofs.Firsts.{neither, none_of_all}
use Rattle.valid_image_law.proofs.Rows.{is_due}
use Rattle.valid_image_law.proofs.Ranking.{ranked, one_each}
use Rattle.edf_admission.specs.Steps.{EachRankIsHad, SomeHasRank}

abbrev rank_some : Option Process → ℕ
rank_some None = 0
rank_some (Some p) = p.rank

module _ (m : Image) (none : rank_fault m ≡ None) where
  -- ---- each rank is had

  slot : (k : ℕ) (p : Process) → slice_get m.processes k ≡ Some p → rank_some (slice_get m.processes k) ≡ p.rank
  slot k p at = ap (λ o. rank_some o) at

  low_rank : (k : ℕ) → k < length m.processes → rank_some (slice_get m.processes k) - 1 < length m.processes
  low_rank k low = let p = some_at m.processes k low in let r = ranked m none k p.0 p.1 in omega (arith, slot k p.0 p.1, r.0, r.1)

  own_rank : (j k : ℕ) → j < length m.processes → k < length m.processes → rank_some (slice_get m.processes j) - 1 ≡ rank_some (slice_get m.processes k) - 1 → j ≡ k
  own_rank j k low_j low_k same =
      let p = some_at m.processes j low_j in
      let q = some_at m.processes k low_k in
      let r = ranked m none j p.0 p.1 in
      let s = ranked m none k q.0 q.1 in
      one_each m none j k p.0 q.0 p.1 q.1 (omega (arith, slot j p.0 p.1, slot k q.0 q.1, same, r.0, s.0))

  had_by : (level k : ℕ) → k < length m.processes → rank_some (slice_get m.processes k) - 1 ≡ level → SomeHasRank m (level + 1)
  had_by level k low is =
      let p = some_at m.processes k low in
      let r = ranked m none k p.0 p.1 in
      (k, record { p = p.0; at = p.1; is = omega (arith, slot k p.0 p.1, is, r.0) })

  pub each_rank_is_had : EachRankIsHad m
  each_rank_is_had level below = let found = onto (length m.processes) (λ k. rank_some (slice_get m.processes k) - 1) low_rank own_rank level below in had_by level found.0 found.1 found.2

  -- ---- who ranks no lower has no later deadline

  rank_is : (k : ℕ) (p : Process) → slice_get m.processes k ≡ Some p → p.rank ≡ rank_of m k
  rank_is k p at =
      let passes = neither (ranks_fault m) (or_else (ceilings_fault m) (blocks_fault m)) none in
      is_due p.rank (rank_of m k) (none_of_all (λ k p. other p.rank (rank_of m k)) m.processes passes.0 k p at)

  rank_less : (j k : ℕ) → j < length m.processes → process_outranks m j k ≡ true → rank_of m j < rank_of m k
  rank_less j k below higher =
      let due = λ (i : ℕ). deadline_at m i in
      let more = count_lt (λ i. process_outranks m i j) (λ i. process_outranks m i k) (length m.processes) j (λ i low before. before_along (due i) (due j) (due k) i j k before higher) below (not_before_itself (due j) j) higher in
      omega (arith, more)

  pub in_order : (j k : ℕ) (p q : Process) → slice_get m.processes j ≡ Some p → slice_get m.processes k ≡ Some q → p.rank ≤ q.rank → p.deadline ≤ q.deadline
  in_order j k p q at_j at_k le =
      let d : deadline_at m j ≡ p.deadline = ap (λ o. deadline_of o) at_j in
      let e : deadline_at m k ≡ q.deadline = ap (λ o. deadline_of o) at_k in
      elim (cases_lt q.deadline p.deadline) [
        | inl less ↦ absurd (let up = rank_less k j (slice_get_within m.processes k q at_k) (shorter (deadline_at m k) (deadline_at m j) k j (omega (arith, d, e, less))) in omega (arith, up, rank_is j p at_j, rank_is k q at_k, le))
        | inr more ↦ more
      ]
