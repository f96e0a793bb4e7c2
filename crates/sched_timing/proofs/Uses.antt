-- What the tests of ranks, ceilings and blocks say is what a timed image asks for.
use Rattle.std.proofs.Common.{◌≡◌, ◌≤◌, ◌<◌, inl, inr, ℕ, List, length, Option, Some, None, arith, refl, sym, subst, Bool}
use Rattle.std.specs.Prelude.{IsTrue, IsSomeAnd, slice_get, slice_index, slice_index_or}
use Rattle.std.proofs.lemmas.Bool.{cases_lt}
use Rattle.std.proofs.lemmas.Bool.Decides.{nat_tests}
use Rattle.std.proofs.lemmas.Option.{slice_get_within}
use Rattle.sched_response.specs.declared.uses.Use.{Use}
use Rattle.sched_response.specs.Ranked.{use_at, outranks, stay_at, Blocks, IsBlocking}
use Rattle.base.specs.Capped.{cap}
use Rattle.machine_semantics.specs.Image.{Process, Monitor}
use Rattle.machine_semantics.specs.Walk.{Where}
use Rattle.machine_semantics.specs.Safe.{Parts, part_of}
use Rattle.sched_timing.specs.Timed.{ImageIsTimed}
use Rattle.sched_timing.specs.Defined.{shown, AreDefined, AreTested, UsesMakeImagesTimed}

outranks_deadline : (us : List Use) (p q : ℕ) → (use_at us p).deadline < (use_at us q).deadline → IsTrue (outranks us p q)
outranks_deadline us p q less = grind (arith, nat_tests, less)

outranks_index : (us : List Use) (p q : ℕ) → (use_at us p).deadline ≡ (use_at us q).deadline → p < q → IsTrue (outranks us p q)
outranks_index us p q same less = grind (arith, nat_tests, same, less)

module _ (e : Where) (ps : ℕ → Parts) (us : List Use) (ranks : List ℕ) (ceilings : List (Option ℕ)) (d : AreDefined e ps us ranks ceilings) (tested : AreTested e ps) where
  below : (k : ℕ) (p : Process) → slice_get e.image.processes k ≡ Some p → k < length us
  below k p at = omega (arith, slice_get_within e.image.processes k p at, d.many)

  ranked : (k : ℕ) (p : Process) → slice_get e.image.processes k ≡ Some p → (1 ≤ p.rank) × (p.rank ≤ length e.image.processes)
  ranked k p at = (omega (arith, d.shown_rank k p at, d.ranked.low k (below k p at)), omega (arith, d.shown_rank k p at, d.ranked.high k (below k p at), d.many))

  by_deadline : (j k : ℕ) (p q : Process) → slice_get e.image.processes j ≡ Some p → slice_get e.image.processes k ≡ Some q → p.rank ≤ q.rank → p.deadline ≤ q.deadline
  by_deadline j k p q at_j at_k le = elim (cases_lt q.deadline p.deadline) [
    | inl less ↦ absurd (let higher : slice_index ranks k < slice_index ranks j = d.ranked.ordered k j (below k q at_k) (below j p at_j) (outranks_deadline us k j (omega (arith, d.deadlines j p at_j, d.deadlines k q at_k, less))) in
        omega (arith, le, higher, d.shown_rank j p at_j, d.shown_rank k q at_k))
    | inr not_less ↦ not_less
  ]

  one_each : (j k : ℕ) (p q : Process) → slice_get e.image.processes j ≡ Some p → slice_get e.image.processes k ≡ Some q → p.rank ≡ q.rank → j ≡ k
  one_each j k p q at_j at_k same =
      let up : p.deadline ≤ q.deadline = by_deadline j k p q at_j at_k (omega (arith, same)) in
      let down : q.deadline ≤ p.deadline = by_deadline k j q p at_k at_j (omega (arith, same)) in
      let alike : (use_at us j).deadline ≡ (use_at us k).deadline = omega (arith, d.deadlines j p at_j, d.deadlines k q at_k, up, down) in
      elim (cases_lt j k) [
        | inl less ↦ absurd (let higher : slice_index ranks j < slice_index ranks k = d.ranked.ordered j k (below j p at_j) (below k q at_k) (outranks_index us j k alike less) in
            omega (arith, same, higher, d.shown_rank j p at_j, d.shown_rank k q at_k))
        | inr not_less ↦ elim (cases_lt k j) [
          | inl less ↦ absurd (let higher : slice_index ranks k < slice_index ranks j = d.ranked.ordered k j (below k q at_k) (below j p at_j) (outranks_index us k j (sym alike) less) in
              omega (arith, same, higher, d.shown_rank j p at_j, d.shown_rank k q at_k))
          | inr neither ↦ omega (arith, not_less, neither)
        ]
      ]

  -- a monitor whose ceiling reaches a rank has one
  has_ceiling : (m rank : ℕ) (monitor : Monitor) → slice_get e.image.monitors m ≡ Some monitor → rank ≤ 64 → monitor.ceiling ≤ rank → IsSomeAnd (slice_index_or ceilings m None) (λ c. c ≤ rank)
  has_ceiling m rank monitor there low reaches = of_option (slice_index_or ceilings m None) (omega (arith, d.shown_ceiling m monitor there, reaches)) where
    of_option : (o : Option ℕ) → shown o ≤ rank → IsSomeAnd o (λ c. c ≤ rank)
    of_option None le = absurd (omega (arith, le, low))
    of_option (Some c) le = le

  blocks : (j k m : ℕ) (p q : Process) (monitor : Monitor) (h : Bool) → slice_get e.image.processes j ≡ Some p → slice_get e.image.processes k ≡ Some q → slice_get e.image.monitors m ≡ Some monitor
      → p.rank < q.rank → monitor.ceiling ≤ p.rank → cap ((part_of (ps k) h).stays m) ≤ p.block
  blocks j k m p q monitor h at_j at_k there lower reaches = elim (d.stays k m q monitor h at_k there) [
    | inl none ↦ omega (arith, none)
    | inr told ↦
        let b : (n : ℕ) × IsBlocking us ranks ceilings p.rank n × (n ≤ p.block) = d.blocks j p at_j in
        let ceil : Blocks ceilings p.rank (stay_at (use_at us k).stays told.index) =
        subst (λ (x : ℕ). IsSomeAnd (slice_index_or ceilings x None) (λ c. c ≤ p.rank)) (sym told.monitor) (has_ceiling m p.rank monitor there (omega (arith, (ranked j p at_j).1, tested.few)) reaches) in
        let most : (stay_at (use_at us k).stays told.index).ticks ≤ b.0 =
        b.1.most (stay_at (use_at us k).stays told.index).ticks (k, below k q at_k, omega (arith, lower, d.shown_rank k q at_k), (told.index, told.within, ceil, refl)) in
        omega (arith, told.enough, most, b.2)
  ]

  timed : ImageIsTimed e ps
  timed = record {
    some = tested.some;
    few = tested.few;
    limits = tested.limits;
    ranked = ranked;
    one_each = one_each;
    covered = tested.covered;
    blocks = blocks;
    solved = tested.solved;
  }

pub uses_make_images_timed : UsesMakeImagesTimed
uses_make_images_timed e ps us ranks ceilings d tested = timed e ps us ranks ceilings d tested
