-- V2 to V5: the tests of declared numbers pass exactly where their rules hold.
use Rattle.std.proofs.Common.{◌≡◌, ◌≤◌, ◌<◌, ◌⊎◌, inl, inr, ℕ, zero, suc, length, Option, Some, None, arith, refl, ap, sym, subst, ◌∙◌, true, false, Bool}
use Rattle.std.specs.Prelude.{◌-◌, cond, min, nat_le, nat_lt, slice_get}
use Rattle.std.proofs.lemmas.Bool.{cases_lt, cond_both, leb-true, ltb-true, le-leb}
use Rattle.std.proofs.lemmas.Option.{slice_get_within}
use Rattle.base.specs.Capped.{cap}
use Rattle.sched_response.specs.Demand.{demand_at}
use Rattle.machine_semantics.specs.Image.{Image, Monitor, Routine, Process}
use Rattle.valid_image.specs.Fault.{or_else, unless, first_in}
use Rattle.valid_image.specs.Tables.{stay_of_process}
use Rattle.valid_image.specs.Tasks.{tasks_of}
use Rattle.valid_image.specs.Sizes.{below, other, needed_by_routine, needed_stay, needed_by_process, with_dispatch, routine_cost_fault, process_cost_fault, cost_fault, needed_stack, due_base, words_over_all, params_fault, stack_fault, base_fault, words_fault, size_fault}
use Rattle.valid_image.specs.Times.{rank_of, is_some, enters, least_rank, ceiling_of, ticks_of, blocking_stay, longest_blocking, blocking_by, longest_block, needed_block, ranks_fault, ceilings_fault, blocks_fault, rank_fault, process_bound_fault, bound_fault}
use Rattle.valid_image_law.proofs.Firsts.{neither, passed_test, none_of_all}
use Rattle.valid_image_law.proofs.Ranking.{stay_blocks, process_blocks}
use Rattle.valid_image_law.specs.PlainRules.{HasProcess, HasMonitor, RoutineCovers, ProcessCovers, CostsCover, SizesSuffice, Enters, IsCeiling, BlocksAtMost, RanksAreDefined, BoundsHold}
use Rattle.valid_image_law.proofs.Staying.{is_taken, taken_is}
use Rattle.valid_image_law.proofs.Searches.{passes, both_none, is_below, not_below, is_same, not_other, none_in}

module _ (image : Image) where
  -- ---- V2

  routine_covers : (r : ℕ) (x : Routine) → routine_cost_fault image r x ≡ None → RoutineCovers image r x
  routine_covers r x none =
      let c = needed_by_routine image r x in
      let last = below x.stay (cap (needed_stay image r x)) in
      let one = neither (below x.run (cap c.run)) (or_else (below x.susp (cap c.susp)) (or_else (below x.waits (cap c.waits)) last)) none in
      let two = neither (below x.susp (cap c.susp)) (or_else (below x.waits (cap c.waits)) last) one.1 in
      let three = neither (below x.waits (cap c.waits)) last two.1 in
      record { run = is_below x.run (cap c.run) one.0; susp = is_below x.susp (cap c.susp) two.0; waits = is_below x.waits (cap c.waits) three.0; stay = is_below x.stay (cap (needed_stay image r x)) three.1 }

  routine_passes : (r : ℕ) (x : Routine) → RoutineCovers image r x → routine_cost_fault image r x ≡ None
  routine_passes r x h =
      let c = needed_by_routine image r x in
      both_none (below x.run (cap c.run)) _ (not_below x.run (cap c.run) h.run)
      (both_none (below x.susp (cap c.susp)) _ (not_below x.susp (cap c.susp) h.susp)
      (both_none (below x.waits (cap c.waits)) _ (not_below x.waits (cap c.waits) h.waits) (not_below x.stay (cap (needed_stay image r x)) h.stay)))

  process_covers : (p : Process) → process_cost_fault image p ≡ None → ProcessCovers image p
  process_covers p none =
      let c = needed_by_process image p in
      let run = cap (with_dispatch image.over c) in
      let one = neither (below p.run run) (or_else (below p.susp (cap c.susp)) (below p.waits (cap c.waits))) none in
      let two = neither (below p.susp (cap c.susp)) (below p.waits (cap c.waits)) one.1 in
      record { run = is_below p.run run one.0; susp = is_below p.susp (cap c.susp) two.0; waits = is_below p.waits (cap c.waits) two.1 }

  process_passes : (p : Process) → ProcessCovers image p → process_cost_fault image p ≡ None
  process_passes p h =
      let c = needed_by_process image p in
      let run = cap (with_dispatch image.over c) in
      both_none (below p.run run) _ (not_below p.run run h.run)
      (both_none (below p.susp (cap c.susp)) _ (not_below p.susp (cap c.susp) h.susp) (not_below p.waits (cap c.waits) h.waits))

  pub costs_are : cost_fault image ≡ None → CostsCover image
  costs_are none =
      let h = neither (first_in (routine_cost_fault image) image.routines) (first_in (λ k p. process_cost_fault image p) image.processes) none in
      record {
        routines = λ r x at. routine_covers r x (none_of_all (routine_cost_fault image) image.routines h.0 r x at);
        processes = λ k p at. process_covers p (none_of_all (λ k p. process_cost_fault image p) image.processes h.1 k p at);
      }

  pub costs_pass : CostsCover image → cost_fault image ≡ None
  costs_pass h =
      both_none (first_in (routine_cost_fault image) image.routines) (first_in (λ k p. process_cost_fault image p) image.processes)
      (none_in (routine_cost_fault image) image.routines (λ r x at. routine_passes r x (h.routines r x at)))
      (none_in (λ k p. process_cost_fault image p) image.processes (λ k p at. process_passes p (h.processes k p at)))

  -- ---- V3

  pub sizes_are : size_fault image ≡ None → SizesSuffice image
  sizes_are none =
      let one = neither (params_fault image) (or_else (stack_fault image) (or_else (base_fault image.monitors) (words_fault image))) none in
      let two = neither (stack_fault image) (or_else (base_fault image.monitors) (words_fault image)) one.1 in
      let three = neither (base_fault image.monitors) (words_fault image) two.1 in
      record {
        arguments = λ r x at. is_below x.locals x.params (none_of_all (λ r x. below x.locals x.params) image.routines one.0 r x at);
        stacks = λ k p at. is_below p.stack (needed_stack image p) (none_of_all (λ k p. below p.stack (needed_stack image p)) image.processes two.0 k p at);
        words = λ m x at. is_same x.base (due_base image.monitors m) (none_of_all (λ m x. other x.base (due_base image.monitors m)) image.monitors three.0 m x at);
        all_words = is_below 1048576 (words_over_all image) three.1;
      }

  pub sizes_pass : SizesSuffice image → size_fault image ≡ None
  sizes_pass h =
      both_none (params_fault image) _ (none_in (λ r x. below x.locals x.params) image.routines (λ r x at. not_below x.locals x.params (h.arguments r x at)))
      (both_none (stack_fault image) _ (none_in (λ k p. below p.stack (needed_stack image p)) image.processes (λ k p at. not_below p.stack (needed_stack image p) (h.stacks k p at)))
      (both_none (base_fault image.monitors) _ (none_in (λ m x. other x.base (due_base image.monitors m)) image.monitors (λ m x at. not_other x.base (due_base image.monitors m) (h.words m x at)))
      (not_below 1048576 (words_over_all image) h.all_words)))

  -- ---- V4: ceilings

  record IsLeast (m n c : ℕ) : Type 0 where
    at_most : c ≤ 65535
    least : (k : ℕ) → k < n → Enters image k m → c ≤ rank_of image k
    is_one : (c ≡ 65535) ⊎ ((k : ℕ) × (k < n) × Enters image k m × (c ≡ rank_of image k))

  some_stay : (o : Option ℕ) → is_some o ≡ true → (n : ℕ) × (o ≡ Some n)
  some_stay (Some n) is = (n, refl)
  some_stay None is = absurd cc

  enters_is : (k m : ℕ) → enters image k m ≡ true → Enters image k m
  enters_is k m is = (let s = some_stay (stay_of_process image k m) is in (s.0, taken_is image k m s.0 s.1))

  is_entered : (k m : ℕ) → Enters image k m → enters image k m ≡ true
  is_entered k m e = ap is_some (is_taken image k m e.0 e.1).1

  one_more : (m n c : ℕ) (b : Bool) → enters image n m ≡ b → IsLeast m n c → IsLeast m (suc n) (min (cond b (rank_of image n) 65535) c)
  one_more m n c true is l = record {
    at_most = omega (arith, l.at_most);
    least = λ k low e. elim (cases_lt k n) [
      | inl less ↦ (let le = l.least k less e in omega (arith, le))
      | inr more ↦ (let same : n ≡ k = omega (arith, low, more) in let r : rank_of image n ≡ rank_of image k = ap (λ j. rank_of image j) same in omega (arith, r))
    ];
    is_one = elim (cases_lt c (rank_of image n)) [
      | inl less ↦ before (min (rank_of image n) c) (omega (arith, less)) l.is_one
      | inr more ↦ inr (n, omega arith, enters_is n m is, omega (arith, more))
    ];
  } where
    before : (d : ℕ) → d ≡ c → (c ≡ 65535) ⊎ ((k : ℕ) × (k < n) × Enters image k m × (c ≡ rank_of image k)) → (d ≡ 65535) ⊎ ((k : ℕ) × (k < suc n) × Enters image k m × (d ≡ rank_of image k))
    before d same (inl none) = inl (same ∙ none)
    before d same (inr one) = let low = one.1 in inr (one.0, omega (arith, low), one.2, same ∙ one.3)
  one_more m n c false is l = record {
    at_most = omega (arith, l.at_most);
    least = λ k low e. elim (cases_lt k n) [
      | inl less ↦ (let le = l.least k less e in omega (arith, le))
      | inr more ↦ absurd (let same : k ≡ n = omega (arith, low, more) in let e : enters image n m ≡ true = subst (λ j. enters image j m ≡ true) same (is_entered k m e) in cc)
    ];
    is_one = before (min 65535 c) (let le = l.at_most in omega (arith, le)) l.is_one;
  } where
    before : (d : ℕ) → d ≡ c → (c ≡ 65535) ⊎ ((k : ℕ) × (k < n) × Enters image k m × (c ≡ rank_of image k)) → (d ≡ 65535) ⊎ ((k : ℕ) × (k < suc n) × Enters image k m × (d ≡ rank_of image k))
    before d same (inl none) = inl (same ∙ none)
    before d same (inr one) = let low = one.1 in inr (one.0, omega (arith, low), one.2, same ∙ one.3)

  least_is : (m n : ℕ) → IsLeast m n (least_rank image m n)
  least_is m zero = record { at_most = omega arith; least = λ k low e. absurd (omega (arith, low)); is_one = inl refl }
  least_is m (suc n) = one_more m n (least_rank image m n) (enters image n m) refl (least_is m n)

  no_more : (m n c d : ℕ) → IsLeast m n c → IsLeast m n d → c ≤ d
  no_more m n c d a b = by b.is_one where
    by : (d ≡ 65535) ⊎ ((k : ℕ) × (k < n) × Enters image k m × (d ≡ rank_of image k)) → c ≤ d
    by (inl none) = omega (arith, a.at_most, none)
    by (inr one) = (let le = a.least one.0 one.1 one.2 in let same = one.3 in omega (arith, le, same))

  as_least : (m c : ℕ) → IsCeiling image m c → IsLeast m (length image.processes) c
  as_least m c h = record { at_most = h.at_most; least = h.least; is_one = h.is_one }

  ceiling_is : (m c : ℕ) → c ≡ ceiling_of image m → IsCeiling image m c
  ceiling_is m c same =
      let l : IsLeast m (length image.processes) c = subst (λ d. IsLeast m (length image.processes) d) (sym same) (least_is m (length image.processes)) in
      record { at_most = l.at_most; least = l.least; is_one = l.is_one }

  is_ceiling : (m c : ℕ) → IsCeiling image m c → c ≡ ceiling_of image m
  is_ceiling m c h =
      let n = length image.processes in
      let l = least_is m n in
      omega (arith, no_more m n c (least_rank image m n) (as_least m c h) l, no_more m n (least_rank image m n) c l (as_least m c h))

  -- ---- V4: blocks

  blocks_are : (rank ticks : ℕ) → needed_block image rank ≤ ticks → BlocksAtMost image rank ticks
  blocks_are rank ticks le k m stay q x at here lower low stays =
      let one = stay_blocks image rank k (length image.monitors) m x (slice_get_within image.monitors m x here) here low in
      let two = process_blocks image rank (length image.processes) k q (slice_get_within image.processes k q at) at lower in
      let longest = is_taken image k m stay stays in
      let three : ticks_of (stay_of_process image k m) ≡ longest.0 = ap ticks_of longest.1 in
      let four = longest.2 in
      omega (arith, le, one, two, three, four)

  module _ (rank ticks : ℕ) (h : BlocksAtMost image rank ticks) where
    stay_within : (k m : ℕ) (q : Process) (x : Monitor) → HasProcess image k q → HasMonitor image m x → rank < q.rank → x.ceiling ≤ rank → (o : Option ℕ) → stay_of_process image k m ≡ o → ticks_of o ≤ ticks
    stay_within k m q x at here lower low None is = omega arith
    stay_within k m q x at here lower low (Some stay) is = h k m stay q x at here lower low (taken_is image k m stay is)

    monitor_within : (k m : ℕ) (q : Process) → HasProcess image k q → rank < q.rank → (o : Option Monitor) → slice_get image.monitors m ≡ o → blocking_stay image rank k m o ≤ ticks
    monitor_within k m q at lower None is = omega arith
    monitor_within k m q at lower (Some x) is =
        cond_both (nat_le x.ceiling rank) (ticks_of (stay_of_process image k m)) 0 (λ n. n ≤ ticks)
        (λ low. stay_within k m q x at is lower (leb-true x.ceiling rank low) (stay_of_process image k m) refl) (λ high. omega arith)

    monitors_within : (k n : ℕ) (q : Process) → HasProcess image k q → rank < q.rank → longest_blocking image rank k n ≤ ticks
    monitors_within k zero q at lower = omega arith
    monitors_within k (suc n) q at lower = omega (arith, monitor_within k n q at lower (slice_get image.monitors n) refl, monitors_within k n q at lower)

    process_within : (k : ℕ) (o : Option Process) → slice_get image.processes k ≡ o → blocking_by image rank k o ≤ ticks
    process_within k None is = omega arith
    process_within k (Some q) is =
        cond_both (nat_lt rank q.rank) (longest_blocking image rank k (length image.monitors)) 0 (λ n. n ≤ ticks)
        (λ lower. monitors_within k (length image.monitors) q is (ltb-true rank q.rank lower)) (λ higher. omega arith)

    processes_within : (n : ℕ) → longest_block image rank n ≤ ticks
    processes_within zero = omega arith
    processes_within (suc n) = omega (arith, process_within n (slice_get image.processes n) refl, processes_within n)

  -- ---- V4

  pub ranks_are : rank_fault image ≡ None → RanksAreDefined image
  ranks_are none =
      let one = neither (ranks_fault image) (or_else (ceilings_fault image) (blocks_fault image)) none in
      let two = neither (ceilings_fault image) (blocks_fault image) one.1 in
      record {
        ranks = λ k p at. is_same p.rank (rank_of image k) (none_of_all (λ k p. other p.rank (rank_of image k)) image.processes one.0 k p at);
        ceilings = λ m x at. ceiling_is m x.ceiling (is_same x.ceiling (ceiling_of image m) (none_of_all (λ m x. other x.ceiling (ceiling_of image m)) image.monitors two.0 m x at));
        blocks = λ k p at. blocks_are p.rank p.block (is_below p.block (needed_block image p.rank) (none_of_all (λ k p. below p.block (needed_block image p.rank)) image.processes two.1 k p at));
      }

  pub ranks_pass : RanksAreDefined image → rank_fault image ≡ None
  ranks_pass h =
      both_none (ranks_fault image) _ (none_in (λ k p. other p.rank (rank_of image k)) image.processes (λ k p at. not_other p.rank (rank_of image k) (h.ranks k p at)))
      (both_none (ceilings_fault image) (blocks_fault image) (none_in (λ m x. other x.ceiling (ceiling_of image m)) image.monitors (λ m x at. not_other x.ceiling (ceiling_of image m) (is_ceiling m x.ceiling (h.ceilings m x at))))
      (none_in (λ k p. below p.block (needed_block image p.rank)) image.processes (λ k p at. not_below p.block (needed_block image p.rank) (processes_within p.rank p.block (h.blocks k p at) (length image.processes)))))

  -- ---- V5

  abbrev demand : Process → ℕ
  demand p = demand_at (tasks_of image) (p.rank - 1) p.bound

  pub bounds_are : bound_fault image ≡ None → BoundsHold image
  bounds_are none k p at =
      let h = neither (below p.bound (demand p)) (unless (nat_le p.bound p.deadline) p.bound p.deadline) (none_of_all (λ k p. process_bound_fault image p) image.processes none k p at) in
      record { meets_recurrence = is_below p.bound (demand p) h.0; within_deadline = leb-true p.bound p.deadline (passed_test (nat_le p.bound p.deadline) p.bound p.deadline h.1) }

  pub bounds_pass : BoundsHold image → bound_fault image ≡ None
  bounds_pass h =
      none_in (λ k p. process_bound_fault image p) image.processes
      (λ k p at. both_none (below p.bound (demand p)) _ (not_below p.bound (demand p) (h k p at).meets_recurrence) (passes (nat_le p.bound p.deadline) p.bound p.deadline (le-leb p.bound p.deadline (h k p at).within_deadline)))
