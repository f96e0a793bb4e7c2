-- Ranks and ceilings depend on deadlines and reach alone, and blocks on ranks, ceilings and reach.
use Rattle.std.specs.Prelude.{◌≡◌, ◌+◌, ◌&&◌, ◌||◌, ℕ, zero, suc, Bool, cond, min, max, List, [], ◌∷◌, Option, Some, None, length, map, nat_eq, nat_lt, nat_le, slice_get, option_map, if◌then◌else◌}
use Rattle.std.proofs.Common.{refl, sym, ap, ◌∙◌}
use Rattle.std.proofs.lemmas.List.{length-map}
use Rattle.std.proofs.lemmas.Option.{slice_get-map}
use Rattle.sched_response.specs.Counts.{count_below}
use Rattle.machine_semantics.specs.Image.{Image, Monitor, Process}
use Rattle.valid_image.specs.Tables.{stay_of_process}
use Rattle.valid_image.specs.Times.{deadline_of, deadline_at, process_outranks, rank_of, is_some, enters, least_rank, ceiling_of, ticks_of, blocking_stay, longest_blocking, blocking_by, longest_block, needed_block}
use Rattle.built_image.specs.Filled.{without_rank, without_ranks, without_bound, without_bounds}
use Rattle.code_measures.specs.Whole.{HasRanks}
use Rattle.built_image_law.specs.Filled.{Each, without_block, without_blocks}
use Rattle.built_image_law.proofs.Lists.{through, same_at}
use Rattle.built_image_law.proofs.Reached.{stay_same, stays_agree}

count_same : (p q : ℕ → Bool) → ((j : ℕ) → p j ≡ q j) → (n : ℕ) → count_below p n ≡ count_below q n
count_same p q same zero = refl
count_same p q same (suc n) =
    ap (λ k. k + (if p n then 1 else 0)) (count_same p q same n) ∙ ap (λ b. count_below q n + (if b then 1 else 0)) (same n)

module _ (m : Image) where
  deadline_same : (j : ℕ) → deadline_at (without_ranks m) j ≡ deadline_at m j
  deadline_same j = ap (λ o. deadline_of o) (slice_get-map without_rank m.processes j) ∙ kept (slice_get m.processes j) where
    kept : (o : Option Process) → deadline_of (option_map without_rank o) ≡ deadline_of o
    kept None = refl
    kept (Some p) = refl

  outranks_same : (k j : ℕ) → process_outranks (without_ranks m) j k ≡ process_outranks m j k
  outranks_same k j =
      ap (λ d. nat_lt d (deadline_at (without_ranks m) k) || (nat_eq d (deadline_at (without_ranks m) k) && nat_lt j k)) (deadline_same j)
      ∙ ap (λ d. nat_lt (deadline_at m j) d || (nat_eq (deadline_at m j) d && nat_lt j k)) (deadline_same k)

  rank_same : (k : ℕ) → rank_of (without_ranks m) k ≡ rank_of m k
  rank_same k =
      ap (λ n. 1 + count_below (λ j. process_outranks (without_ranks m) j k) n) (length-map m.processes without_rank)
      ∙ ap (λ c. 1 + c) (count_same (λ j. process_outranks (without_ranks m) j k) (λ j. process_outranks m j k) (outranks_same k) (length m.processes))

  least_same : (j n : ℕ) → least_rank (without_ranks m) j n ≡ least_rank m j n
  least_same j zero = refl
  least_same j (suc n) =
      ap (λ s. min (cond (is_some s) (rank_of (without_ranks m) n) 65535) (least_rank (without_ranks m) j n)) (stay_same m n j)
      ∙ (ap (λ r. min (cond (enters m n j) r 65535) (least_rank (without_ranks m) j n)) (rank_same n)
      ∙ ap (λ l. min (cond (enters m n j) (rank_of m n) 65535) l) (least_same j n))

  ceiling_same : (j : ℕ) → ceiling_of (without_ranks m) j ≡ ceiling_of m j
  ceiling_same j = ap (λ n. least_rank (without_ranks m) j n) (length-map m.processes without_rank) ∙ least_same j (length m.processes)

pub ranks_agree : (n m : Image) → without_ranks n ≡ without_ranks m → (k : ℕ) → rank_of n k ≡ rank_of m k
ranks_agree n m same k = sym (rank_same n k) ∙ (ap (λ x. rank_of x k) same ∙ rank_same m k)

pub ceilings_agree : (n m : Image) → without_ranks n ≡ without_ranks m → (j : ℕ) → ceiling_of n j ≡ ceiling_of m j
ceilings_agree n m same j = sym (ceiling_same n j) ∙ (ap (λ x. ceiling_of x j) same ∙ ceiling_same m j)

-- ---- blocks

pub ranks_aside : (n m : Image) → without_blocks n ≡ without_blocks m → without_ranks n ≡ without_ranks m
ranks_aside n m same = sym (aside n) ∙ (ap without_ranks same ∙ aside m) where
  aside : (x : Image) → without_ranks (without_blocks x) ≡ without_ranks x
  aside x = ap (λ ps. record (without_ranks x) { processes = ps }) (through without_block without_rank without_rank (λ p. refl) x.processes)

pub blocks_aside : (n m : Image) → without_bounds n ≡ without_bounds m → without_blocks n ≡ without_blocks m
blocks_aside n m same = sym (aside n) ∙ (ap without_blocks same ∙ aside m) where
  aside : (x : Image) → without_blocks (without_bounds x) ≡ without_blocks x
  aside x = ap (λ ps. record x { processes = ps }) (through without_bound without_block without_block (λ p. refl) x.processes)

module _ (m : Image) (rank : ℕ) where
  stays_kept : (k j : ℕ) → stay_of_process (without_blocks m) k j ≡ stay_of_process m k j
  stays_kept = stays_agree (without_blocks m) m (ranks_aside (without_blocks m) m (twice m)) where
    twice : (x : Image) → without_blocks (without_blocks x) ≡ without_blocks x
    twice x = ap (λ ps. record x { processes = ps }) (through without_block without_block without_block (λ p. refl) x.processes)

  stay_kept : (k j : ℕ) (o : Option Monitor) → blocking_stay (without_blocks m) rank k j o ≡ blocking_stay m rank k j o
  stay_kept k j None = refl
  stay_kept k j (Some x) = ap (λ s. cond (nat_le x.ceiling rank) (ticks_of s) 0) (stays_kept k j)

  blocking_kept : (k n : ℕ) → longest_blocking (without_blocks m) rank k n ≡ longest_blocking m rank k n
  blocking_kept k zero = refl
  blocking_kept k (suc n) =
      ap (λ b. max b (longest_blocking (without_blocks m) rank k n)) (stay_kept k n (slice_get m.monitors n))
      ∙ ap (λ l. max (blocking_stay m rank k n (slice_get m.monitors n)) l) (blocking_kept k n)

  by_kept : (k : ℕ) (o : Option Process) → blocking_by (without_blocks m) rank k (option_map without_block o) ≡ blocking_by m rank k o
  by_kept k None = refl
  by_kept k (Some p) = ap (λ b. cond (nat_lt rank p.rank) b 0) (blocking_kept k (length m.monitors))

  block_kept : (n : ℕ) → longest_block (without_blocks m) rank n ≡ longest_block m rank n
  block_kept zero = refl
  block_kept (suc n) =
      ap (λ o. max (blocking_by (without_blocks m) rank n o) (longest_block (without_blocks m) rank n)) (slice_get-map without_block m.processes n)
      ∙ (ap (λ b. max b (longest_block (without_blocks m) rank n)) (by_kept n (slice_get m.processes n))
      ∙ ap (λ l. max (blocking_by m rank n (slice_get m.processes n)) l) (block_kept n))

  needed_kept : needed_block (without_blocks m) rank ≡ needed_block m rank
  needed_kept = ap (λ n. longest_block (without_blocks m) rank n) (length-map m.processes without_block) ∙ block_kept (length m.processes)

pub blocks_agree : (n m : Image) → without_blocks n ≡ without_blocks m → (rank : ℕ) → needed_block n rank ≡ needed_block m rank
blocks_agree n m same rank = sym (needed_kept n rank) ∙ (ap (λ x. needed_block x rank) same ∙ needed_kept m rank)

-- ---- ranks, ceilings and blocks as they are defined

-- filled in one after the other
pub ranks_are_filled : (m ranked n : Image) → without_ranks ranked ≡ without_ranks m → Each (λ k p. p.rank ≡ rank_of m k) ranked.processes → Each (λ j x. x.ceiling ≡ ceiling_of m j) ranked.monitors
    → without_blocks n ≡ without_blocks ranked → Each (λ k p. p.block ≡ needed_block ranked p.rank) n.processes → HasRanks n
ranks_are_filled m ranked n same ranks ceilings later blocks = record {
  ranks = λ k p at.
      let x = same_at without_block ranked.processes n.processes k p (sym (ap (λ (i : Image). i.processes) later)) at in
      sym (ap (λ (q : Process). q.rank) x.2) ∙ (ranks k x.0 x.1 ∙ sym (ranks_agree n m whole k));
  ceilings = λ j x at. ceilings j x (ap (λ (ms : List Monitor). slice_get ms j) (sym (ap (λ (i : Image). i.monitors) later)) ∙ at) ∙ sym (ceilings_agree n m whole j);
  blocks = λ k p at. blocks k p at ∙ sym (blocks_agree n ranked later p.rank);
} where
  whole : without_ranks n ≡ without_ranks m
  whole = ranks_aside n ranked later ∙ same

-- bounds do not matter
pub ranks_are_kept : (n m : Image) → without_bounds n ≡ without_bounds m → HasRanks m → HasRanks n
ranks_are_kept n m same has =
    ranks_are_filled m m n refl has.ranks has.ceilings (blocks_aside n m same) (λ k p at.
    let x = same_at without_bound m.processes n.processes k p (sym (ap (λ (i : Image). i.processes) same)) at in
    sym (ap (λ (q : Process). q.block) x.2) ∙ (has.blocks k x.0 x.1 ∙ ap (λ r. needed_block m r) (ap (λ (q : Process). q.rank) x.2)))
