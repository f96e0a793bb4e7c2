-- What is filled in, step by step.
use Rattle.std.specs.Prelude.{◌≡◌, ◌<◌, ◌≤◌, ◌+◌, ℕ, List, Option, Some, None, length, map, min, slice_get, slice_set, unwrap_or}
use Rattle.std.proofs.Common.{refl, sym, ap, subst, ◌∙◌, arith, inl, inr, get_or}
use Rattle.std.proofs.lemmas.Bool.{cases_eq}
use Rattle.std.proofs.lemmas.List.{map-set}
use Rattle.std.proofs.lemmas.Option.{slice_get_within, slice_get-get_or, get_or_from_slice_get}
use Rattle.base.proofs.Lists.{map_get, get_set, get_other, set_same, one_some}
use Rattle.machine_semantics.specs.Image.{Image}
use Rattle.image.specs.declared.raw.RawImage.{RawImage}
use Rattle.image.specs.declared.raw.RawMonitor.{RawMonitor}
use Rattle.image.specs.declared.raw.RawProcess.{RawProcess}
use Rattle.image.specs.Raw.{image_of, monitor_of, process_of, named_of}
use Rattle.valid_image.specs.Times.{rank_of, ceiling_of, needed_block}
use Rattle.loader.specs.Stays.{AreStays}
use Rattle.code_measures.specs.Whole.{HasRanks}
use Rattle.built_image.specs.Filled.{without_rank, without_ranks, without_ceiling, DiffersInRanks}
use Rattle.built_image_law.specs.Filled.{Each, without_block}
use Rattle.built_image_law.proofs.Lists.{as_many, through, each_mapped}
use Rattle.built_image_law.proofs.Reached.{stays_agree}
use Rattle.built_image_law.proofs.Ranked.{ranks_aside, ranks_are_filled}
use Rattle.compile_schedule.specs.Bounding.{but_bound, AreBounded}
use Rattle.compile_schedule.specs.Ranking.{AreDue, blocks_of, but_rank, but_ceiling, but_block, HaveRanks, HaveCeilings, HaveBlocks, IsRanked, IsBlocked}

-- ---- what is filled in, one more of a list

-- the first of them are filled in, and nothing else has changed but what is left aside
pub record FilledSoFar {A B : Type 0} (aside : A → B) (P : ℕ → A → Type 0) (before : List A) (i : ℕ) (now : List A) : Type 0 where
  pub same : map aside now ≡ map aside before
  pub each : (k : ℕ) (x : A) → k < i → slice_get now k ≡ Some x → P k x

pub one_filled : {A B : Type 0} (aside : A → B) (P : ℕ → A → Type 0) (before now : List A) (i : ℕ) (x y : A) → i < length before → x ≡ get_or now i x → aside y ≡ aside x → P i y
    → FilledSoFar aside P before i now → FilledSoFar aside P before (i + 1) (slice_set now i y)
one_filled {A} {B} aside P before now i x y low read same is so_far =
    let at : slice_get now i ≡ Some x = slice_get-get_or now i x (omega (arith, low, as_many aside now before so_far.same)) ∙ ap (λ z. Some z) (sym read) in
    record {
      same =
          map-set aside now i y
          ∙ (ap (λ b. slice_set (map aside now) i b) same ∙ (set_same (map aside now) i (aside x) (map_get aside now i x at) ∙ so_far.same));
      each = λ k z below there. elim (cases_eq k i) [
        | inl here ↦
            let new : y ≡ z = one_some (get_set now i y x at) (ap (λ n. slice_get (slice_set now i y) n) (sym here) ∙ there) in
            subst (λ n. P n z) (sym here) (subst (P i) new is)
        | inr other ↦ so_far.each k z (omega (arith, below, other)) (sym (get_other now i k y (λ e. other (sym e))) ∙ there)
      ];
    }

pub all_filled : {A B : Type 0} (aside : A → B) (P : ℕ → A → Type 0) (before now : List A) (i : ℕ) → length before ≤ i → FilledSoFar aside P before i now → Each P now
all_filled aside P before now i past so_far k x at = so_far.each k x (let low = slice_get_within now k x at in omega (arith, low, past, as_many aside now before so_far.same)) at

-- ---- ranks

abbrev pub RankedSoFar : (ranks : List ℕ) (before : List RawProcess) (i : ℕ) (now : List RawProcess) → Type 0
RankedSoFar ranks before i now = FilledSoFar but_rank (λ k p. slice_get ranks k ≡ Some p.rank) before i now

pub one_ranked : (ranks : List ℕ) (before now : List RawProcess) (i : ℕ) (p : RawProcess) → length ranks ≡ length before → i < length before → p ≡ get_or now i p
    → RankedSoFar ranks before i now → RankedSoFar ranks before (i + 1) (slice_set now i (record p { rank = get_or ranks i 0 }))
one_ranked ranks before now i p long low at so_far =
    one_filled but_rank (λ k p. slice_get ranks k ≡ Some p.rank) before now i p (record p { rank = get_or ranks i 0 }) low at refl (slice_get-get_or ranks i 0 (omega (arith, long, low))) so_far

pub all_ranked : (ranks : List ℕ) (before now : List RawProcess) (i : ℕ) → length before ≤ i → RankedSoFar ranks before i now → HaveRanks ranks before now
all_ranked ranks before now i past so_far = record { same = so_far.same; each = all_filled but_rank (λ k p. slice_get ranks k ≡ Some p.rank) before now i past so_far }

-- ---- ceilings

abbrev pub CeiledSoFar : (ceilings : List ℕ) (before : List RawMonitor) (i : ℕ) (now : List RawMonitor) → Type 0
CeiledSoFar ceilings before i now = FilledSoFar but_ceiling (λ j x. slice_get ceilings j ≡ Some x.ceiling) before i now

pub one_ceiled : (ceilings : List ℕ) (before now : List RawMonitor) (i : ℕ) (x : RawMonitor) → length ceilings ≡ length before → i < length before → x ≡ get_or now i x
    → CeiledSoFar ceilings before i now → CeiledSoFar ceilings before (i + 1) (slice_set now i (record x { ceiling = get_or ceilings i 0 }))
one_ceiled ceilings before now i x long low at so_far =
    one_filled but_ceiling (λ j x. slice_get ceilings j ≡ Some x.ceiling) before now i x (record x { ceiling = get_or ceilings i 0 }) low at refl (slice_get-get_or ceilings i 0 (omega (arith, long, low))) so_far

pub all_ceiled : (ceilings : List ℕ) (before now : List RawMonitor) (i : ℕ) → length before ≤ i → CeiledSoFar ceilings before i now → HaveCeilings ceilings before now
all_ceiled ceilings before now i past so_far = record { same = so_far.same; each = all_filled but_ceiling (λ j x. slice_get ceilings j ≡ Some x.ceiling) before now i past so_far }

-- ---- blocks

abbrev pub BlockedSoFar : (blocks : List ℕ) (before : List RawProcess) (i : ℕ) (now : List RawProcess) → Type 0
BlockedSoFar blocks before i now = FilledSoFar but_block (λ k p. (slice_get blocks k ≡ Some p.block) × (p.bound ≡ p.deadline)) before i now

pub one_blocked : (blocks : List ℕ) (before now : List RawProcess) (i : ℕ) (p : RawProcess) → length blocks ≡ length before → i < length before → p ≡ get_or now i p
    → BlockedSoFar blocks before i now → BlockedSoFar blocks before (i + 1) (slice_set now i (record p { block = get_or blocks i 0; bound = p.deadline }))
one_blocked blocks before now i p long low at so_far =
    one_filled but_block (λ k p. (slice_get blocks k ≡ Some p.block) × (p.bound ≡ p.deadline)) before now i p (record p { block = get_or blocks i 0; bound = p.deadline }) low at refl
    (slice_get-get_or blocks i 0 (omega (arith, long, low)), refl) so_far

pub all_blocked : (blocks : List ℕ) (before now : List RawProcess) (i : ℕ) → length before ≤ i → BlockedSoFar blocks before i now → HaveBlocks blocks before now
all_blocked blocks before now i past so_far =
    let all = all_filled but_block (λ k p. (slice_get blocks k ≡ Some p.block) × (p.bound ≡ p.deadline)) before now i past so_far in
    record { same = so_far.same; each = λ k p at. (all k p at).0; bounds = λ k p at. (all k p at).1 }

-- ---- bounds

abbrev pub BoundedSoFar : (found : List (Option ℕ)) (before : List RawProcess) (i : ℕ) (now : List RawProcess) → Type 0
BoundedSoFar found before i now = FilledSoFar but_bound (λ k p. (b : ℕ) → slice_get found k ≡ Some (Some b) → p.bound ≡ b) before i now

pub one_bounded : (found : List (Option ℕ)) (before now : List RawProcess) (i bound : ℕ) (p : RawProcess) → i < length before → p ≡ get_or now i p → bound ≡ unwrap_or (get_or found i None) p.bound
    → BoundedSoFar found before i now → BoundedSoFar found before (i + 1) (slice_set now i (record p { bound = bound }))
one_bounded found before now i bound p low at is so_far =
    one_filled but_bound (λ k p. (b : ℕ) → slice_get found k ≡ Some (Some b) → p.bound ≡ b) before now i p (record p { bound = bound }) low at refl
    (λ b there. is ∙ ap (λ o. unwrap_or o p.bound) (get_or_from_slice_get found i (Some b) None there)) so_far

pub all_bounded : (found : List (Option ℕ)) (before now : List RawProcess) (i : ℕ) → min (length before) (length found) ≤ i → BoundedSoFar found before i now → AreBounded found before now
all_bounded found before now i past so_far = record {
  same = so_far.same;
  bounds = λ k p at b there.
      let low = slice_get_within now k p at in
      let under = slice_get_within found k (Some b) there in
      so_far.each k p (omega (arith, low, under, past, as_many but_bound now before so_far.same)) at b there;
}

-- ---- images

pub image_ranked : (before : RawImage) (ranks ceilings : List ℕ) (processes : List RawProcess) (monitors : List RawMonitor)
    → AreDue (rank_of (image_of before)) (length before.processes) ranks → AreDue (ceiling_of (image_of before)) (length before.monitors) ceilings
    → HaveRanks ranks before.processes processes → HaveCeilings ceilings before.monitors monitors
    → IsRanked before (record before { monitors = monitors; processes = processes })
image_ranked before ranks ceilings processes monitors due_ranks due_ceilings ranked ceiled = record {
  program = refl;
  names = refl;
  same =
      ap (λ v. record (without_ranks (image_of before)) { monitors = v; processes = map without_rank (map process_of processes) })
      (through monitor_of without_ceiling but_ceiling (λ x. refl) monitors ∙ (ceiled.same ∙ sym (through monitor_of without_ceiling but_ceiling (λ x. refl) before.monitors)))
      ∙ ap (λ v. record (without_ranks (image_of before)) { processes = v })
      (through process_of without_rank but_rank (λ p. refl) processes ∙ (ranked.same ∙ sym (through process_of without_rank but_rank (λ p. refl) before.processes)));
  ranks = each_mapped process_of (λ k p. p.rank ≡ rank_of (image_of before) k) processes (λ k p at. due_ranks.each k p.rank (ranked.each k p at));
  ceilings = each_mapped monitor_of (λ j x. x.ceiling ≡ ceiling_of (image_of before) j) monitors (λ j x at. due_ceilings.each j x.ceiling (ceiled.each j x at));
}

-- the block of a process is that of its rank
block_of : (before : RawImage) (blocks : List ℕ) (now : List RawProcess) → blocks ≡ blocks_of (image_of before) → HaveBlocks blocks before.processes now
    → Each (λ k p. p.block ≡ needed_block (image_of before) p.rank) now
block_of before blocks now due are k p at =
    let block : RawProcess → ℕ = λ q. needed_block (image_of before) q.rank in
    let old : map block before.processes ≡ map block now =
    sym (through but_block (λ q. needed_block (image_of before) q.rank) block (λ q. refl) before.processes)
    ∙ (ap (map (λ q. needed_block (image_of before) q.rank)) (sym are.same) ∙ through but_block (λ q. needed_block (image_of before) q.rank) block (λ q. refl) now) in
    let here : blocks ≡ map block now = due ∙ (through process_of (λ q. needed_block (image_of before) q.rank) block (λ q. refl) before.processes ∙ old) in
    one_some (are.each k p at) (ap (λ (bs : List ℕ). slice_get bs k) here ∙ map_get block now k p at)

pub image_blocked : (before : RawImage) (blocks : List ℕ) (processes : List RawProcess) → blocks ≡ blocks_of (image_of before) → HaveBlocks blocks before.processes processes
    → IsBlocked before (record before { processes = processes })
image_blocked before blocks processes due are = record {
  program = refl;
  names = refl;
  same =
      ap (λ v. record (image_of before) { processes = v })
      (through process_of without_block but_block (λ p. refl) processes ∙ (are.same ∙ sym (through process_of without_block but_block (λ p. refl) before.processes)));
  blocks = each_mapped process_of (λ k p. p.block ≡ needed_block (image_of before) p.rank) processes (λ k p at. block_of before blocks processes due are k p at);
  bounds = each_mapped process_of (λ k p. p.bound ≡ p.deadline) processes are.bounds;
}

-- ---- the whole

-- stays do not depend on what is filled in
pub stays_stand : (m n : Image) (rows : List (List (Option ℕ))) → without_ranks n ≡ without_ranks m → AreStays m rows → AreStays n rows
stays_stand m n rows same are = record {
  one_each = are.one_each ∙ sym (as_many without_ceiling n.monitors m.monitors (ap (λ (i : Image). i.monitors) same));
  each = λ j low.
      let row = are.each j low in
      record {
        one_each = row.one_each ∙ sym (as_many without_rank n.processes m.processes (ap (λ (i : Image). i.processes) same));
        each = λ k there. row.each k there ∙ sym (stays_agree n m same k j);
      };
}

pub differs : (before ranked now : RawImage) → IsRanked before ranked → IsBlocked ranked now → DiffersInRanks (named_of before) (named_of now)
differs before ranked now one two = record {
  program = two.program ∙ one.program;
  names = two.names ∙ one.names;
  image = ranks_aside (image_of now) (image_of ranked) two.same ∙ one.same;
}

pub has_ranks : (before ranked now : RawImage) → IsRanked before ranked → IsBlocked ranked now → HasRanks (image_of now)
has_ranks before ranked now one two = ranks_are_filled (image_of before) (image_of ranked) (image_of now) one.same one.ranks one.ceilings two.same two.blocks
