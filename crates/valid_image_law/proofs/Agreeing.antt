-- Ranks, ceilings and blocks are the same.
use Rattle.std.proofs.Common.{◌≡◌, ◌≤◌, ◌<◌, ◌+◌, inl, inr, ℕ, zero, suc, List, [], ◌∷◌, length, Option, Some, None, arith, refl, ap, sym, subst, ◌∙◌, true, false, Bool, if◌then◌else◌}
use Rattle.std.specs.Prelude.{◌&&◌, ◌||◌, ◌==◌, cond, IsSomeAnd, nat_eq, nat_lt, nat_le, slice_get, slice_index, slice_index_or}
use Rattle.std.proofs.lemmas.Bool.{cases_Bool, leb-true}
use Rattle.base.proofs.Lists.{some_at}
use Rattle.sched_response.specs.declared.uses.Stay.{Stay}
use Rattle.sched_response.specs.declared.uses.Use.{Use}
use Rattle.sched_response.specs.Counts.{count_below}
use Rattle.sched_response.specs.Ranked as defined
use Rattle.sched_response.proofs.Counted.{are_counted}
use Rattle.machine_semantics.specs.Image.{Image, Monitor, Process}
use Rattle.valid_image_law.proofs.Tests.{below}
use Rattle.valid_image.specs.Tables.{stay_of_process}
use Rattle.valid_image.specs.Times.{deadline_at, process_outranks, rank_of, is_some, enters, least_rank, ceiling_of, ticks_of, blocking_stay, longest_blocking, blocking_by, longest_block, needed_block}
use Rattle.valid_image_law.proofs.Ranking.{least_low, rank_high, stay_blocks, process_blocks}
use Rattle.valid_image_law.specs.Uses.{IsStay, AreUses, shown, AreDeclared, UsesAgree}

-- ---- counts

abbrev one_if : Bool → ℕ
one_if b = if b then 1 else 0

same_count : (f g : ℕ → Bool) (n : ℕ) → ((j : ℕ) → j < n → f j ≡ g j) → count_below f n ≡ count_below g n
same_count f g zero same = refl
same_count f g (suc n) same =
    let rest : count_below f n ≡ count_below g n = same_count f g n (λ j low. same j (omega (arith, low))) in
    let last : one_if (f n) ≡ one_if (g n) = ap (λ b. one_if b) (same n (omega arith)) in
    omega (arith, rest, last)

same_order : (f g h i p q : ℕ) → f ≡ h → g ≡ i → (nat_lt f g || ((f == g) && nat_lt p q)) ≡ (nat_lt h i || (nat_eq h i && nat_lt p q))
same_order f g h i p q a b = ap (λ x. nat_lt x g || (nat_eq x g && nat_lt p q)) a ∙ ap (λ y. nat_lt h y || (nat_eq h y && nat_lt p q)) b

-- an element that is there does not hang on the default
any_default : {X : Type 0} (xs : List X) (i : ℕ) (d e : X) → i < length xs → slice_index_or xs i d ≡ slice_index_or xs i e
any_default [] i d e low = absurd (omega (arith, low))
any_default (x ∷ xs) zero d e low = refl
any_default (x ∷ xs) (suc i) d e low = any_default xs i d e (omega (arith, low))

-- ---- least ranks

module _ (image : Image) (us : List Use) (are : AreUses image us) where
  count_agrees : (k : ℕ) → k < length us → 1 + count_below (λ j. defined.outranks us j k) (length us) ≡ rank_of image k
  count_agrees k low =
      let same : count_below (λ j. defined.outranks us j k) (length us) ≡ count_below (λ j. process_outranks image j k) (length us) =
      same_count (λ j. defined.outranks us j k) (λ j. process_outranks image j k) (length us)
      (λ j below. same_order (defined.use_at us j).deadline (defined.use_at us k).deadline (deadline_at image j) (deadline_at image k) j k (are.deadlines j below) (are.deadlines k low)) in
      let many : count_below (λ j. process_outranks image j k) (length us) ≡ count_below (λ j. process_outranks image j k) (length image.processes) = ap (λ n. count_below (λ j. process_outranks image j k) n) are.many in
      omega (arith, same, many)

  ranks_agree : (all : List ℕ) → defined.AreRanks us all → (k : ℕ) → k < length us → slice_index all k ≡ rank_of image k
  ranks_agree all ranked k low = are_counted us all ranked k low ∙ count_agrees k low

  -- who reaches a monitor by its use enters it
  stay_there : (k m ticks : ℕ) → k < length us → IsStay (defined.use_at us k) m ticks → (n : ℕ) × (stay_of_process image k m ≡ Some n)
  stay_there k m ticks low s = by (stay_of_process image k m) refl where
    by : (o : Option ℕ) → stay_of_process image k m ≡ o → (n : ℕ) × (stay_of_process image k m ≡ Some n)
    by (Some n) is = (n, is)
    by None is = absurd ((are.stays k low).entered m ticks is s)

  -- the least rank is no less than what is no more than any
  least_high : (m n c : ℕ) → c ≤ 65535 → ((k : ℕ) → k < n → enters image k m ≡ true → c ≤ rank_of image k) → c ≤ least_rank image m n
  least_high m zero c high each = high
  least_high m (suc n) c high each =
      let rest = least_high m n c high (λ k low. each k (omega (arith, low))) in
      let one = last (enters image n m) refl in
      omega (arith, rest, one)
    where
      last : (b : Bool) → enters image n m ≡ b → c ≤ cond b (rank_of image n) 65535
      last true is = each n (omega arith) is
      last false is = high

  entered_some : (k m : ℕ) → enters image k m ≡ true → (n : ℕ) × (stay_of_process image k m ≡ Some n)
  entered_some k m is = by (stay_of_process image k m) refl is where
    by : (o : Option ℕ) → stay_of_process image k m ≡ o → is_some o ≡ true → (n : ℕ) × (stay_of_process image k m ≡ Some n)
    by (Some n) at there = (n, at)
    by None at there = absurd cc

  reaches : (k m n : ℕ) → k < length us → stay_of_process image k m ≡ Some n → defined.Reaches m (defined.use_at us k)
  reaches k m n low is =
      let s = (are.stays k low).longest m n is in
      (s.index, defined.stay_at (defined.use_at us k).stays s.index, s.within, any_default (defined.use_at us k).stays s.index (defined.stay_at (defined.use_at us k).stays s.index) (record { mon = 0; ticks = 0 }) s.within, s.monitor)

  stay_reached : (k m : ℕ) → defined.Reaches m (defined.use_at us k) → (ticks : ℕ) × IsStay (defined.use_at us k) m ticks
  stay_reached k m r =
      let same : defined.stay_at (defined.use_at us k).stays r.0 ≡ r.1 = any_default (defined.use_at us k).stays r.0 (record { mon = 0; ticks = 0 }) r.1 r.2 ∙ r.3 in
      ((defined.stay_at (defined.use_at us k).stays r.0).ticks, record { index = r.0; within = r.2; monitor = ap (λ (x : Stay). x.mon) same ∙ r.4; takes = refl })

  -- ---- ceilings

  low_rank : (k : ℕ) → k < length us → rank_of image k ≤ 65535
  low_rank k low = (let r = rank_high image k (omega (arith, low, are.many)) in omega (arith, r, are.few, are.many))

  ceilings_agree : (all : List ℕ) (m : ℕ) (c : Option ℕ) → ((k : ℕ) → k < length us → slice_index all k ≡ rank_of image k) → defined.IsCeilingAmong (length us) us all m c → shown c ≡ ceiling_of image m
  ceilings_agree all m None ranked none =
      let high : 65535 ≤ ceiling_of image m = least_high m (length image.processes) 65535 (omega arith)
      (λ k low inside. absurd (let e = entered_some k m inside in none k (omega (arith, low, are.many)) (reaches k m e.0 (omega (arith, low, are.many)) e.1))) in
      omega (arith, high, least_most m (length image.processes))
    where
      least_most : (m n : ℕ) → least_rank image m n ≤ 65535
      least_most m zero = omega arith
      least_most m (suc n) = omega (arith, least_most m n)
  ceilings_agree all m (Some c) ranked is =
      let p = is.one in
      let r = stay_reached p.0 m p.2 in
      let there = stay_there p.0 m r.0 p.1 r.1 in
      let inside : enters image p.0 m ≡ true = ap (λ o. is_some o) there.1 in
      let down : ceiling_of image m ≤ rank_of image p.0 = least_low image m (length image.processes) p.0 (omega (arith, p.1, are.many)) inside in
      let high : c ≤ 65535 = omega (arith, p.3, ranked p.0 p.1, low_rank p.0 p.1) in
      let up : c ≤ ceiling_of image m = least_high m (length image.processes) c high
      (λ k low inside. (let e = entered_some k m inside in let l = is.least k (omega (arith, low, are.many)) (reaches k m e.0 (omega (arith, low, are.many)) e.1) in omega (arith, l, ranked k (omega (arith, low, are.many))))) in
      omega (arith, down, up, p.3, ranked p.0 p.1)

  -- ---- blocks

  module _ (all : List ℕ) (cs : List (Option ℕ)) (declared : AreDeclared image all cs) (rank : ℕ) (low_rank : rank ≤ 64) where
    is_low : (o : Option ℕ) → IsSomeAnd o (λ c. c ≤ rank) → shown o ≤ rank
    is_low (Some c) le = le
    is_low None none = absurd none

    has_ceiling : (o : Option ℕ) → shown o ≤ rank → IsSomeAnd o (λ c. c ≤ rank)
    has_ceiling (Some c) le = le
    has_ceiling None le = absurd (omega (arith, le, low_rank))

    -- no lower stay is longer than the needed block
    none_longer : (n : ℕ) → defined.IsLowerStay (length us) us all cs rank n → n ≤ needed_block image rank
    none_longer n (k, below_k, lower, (i, within, blocks, takes)) =
        let u = defined.use_at us k in
        let m : ℕ = (defined.stay_at u.stays i).mon in
        let s : IsStay u m n = record { index = i; within = within; monitor = refl; takes = takes } in
        let there = stay_there k m n below_k s in
        let p = some_at image.processes k (omega (arith, below_k, are.many)) in
        let x = some_at image.monitors m (are.within k m n below_k s) in
        let ceiling : x.0.ceiling ≤ rank = omega (arith, declared.ceilings_are m x.0 x.1, is_low (slice_index_or cs m None) blocks) in
        let one : ticks_of (stay_of_process image k m) ≤ longest_blocking image rank k (length image.monitors) = stay_blocks image rank k (length image.monitors) m x.0 (are.within k m n below_k s) x.1 ceiling in
        let two : longest_blocking image rank k (length image.monitors) ≤ needed_block image rank = process_blocks image rank (length image.processes) k p.0 (omega (arith, below_k, are.many)) p.1 (omega (arith, lower, declared.ranks_are k p.0 p.1)) in
        let le : n ≤ there.0 = (are.stays k below_k).no_longer m there.0 n there.1 s in
        omega (arith, le, one, two, ap (λ o. ticks_of o) there.1)

    module _ (b : ℕ) (most : (n : ℕ) → defined.IsLowerStay (length us) us all cs rank n → n ≤ b) where
      one_stay : (k m : ℕ) (p : Process) (x : Monitor) → k < length us → slice_get image.processes k ≡ Some p → slice_get image.monitors m ≡ Some x → rank < p.rank → x.ceiling ≤ rank → ticks_of (stay_of_process image k m) ≤ b
      one_stay k m p x low at there lower reaches_it = by (stay_of_process image k m) refl where
        by : (o : Option ℕ) → stay_of_process image k m ≡ o → ticks_of o ≤ b
        by None is = omega arith
        by (Some n) is =
            let s = (are.stays k low).longest m n is in
            let ceiling : IsSomeAnd (slice_index_or cs (defined.stay_at (defined.use_at us k).stays s.index).mon None) (λ c. c ≤ rank) =
            subst (λ j. IsSomeAnd (slice_index_or cs j None) (λ c. c ≤ rank)) (sym s.monitor) (has_ceiling (slice_index_or cs m None) (omega (arith, declared.ceilings_are m x there, reaches_it))) in
            most n (k, low, omega (arith, lower, declared.ranks_are k p at), (s.index, s.within, ceiling, s.takes))

      of_monitor : (k m : ℕ) (p : Process) (o : Option Monitor) → k < length us → slice_get image.processes k ≡ Some p → rank < p.rank → slice_get image.monitors m ≡ o → blocking_stay image rank k m o ≤ b
      of_monitor k m p None low at lower is = omega arith
      of_monitor k m p (Some x) low at lower is = elim (cases_Bool (nat_le x.ceiling rank)) [
        | inl reaches_it ↦ (let e = ap (λ t. cond t (ticks_of (stay_of_process image k m)) 0) reaches_it in let s = one_stay k m p x low at is lower (leb-true x.ceiling rank reaches_it) in omega (arith, e, s))
        | inr not_it ↦ (let e = ap (λ t. cond t (ticks_of (stay_of_process image k m)) 0) not_it in omega (arith, e))
      ]

      of_monitors : (k n : ℕ) (p : Process) → k < length us → slice_get image.processes k ≡ Some p → rank < p.rank → longest_blocking image rank k n ≤ b
      of_monitors k zero p low at lower = omega arith
      of_monitors k (suc n) p low at lower = let one = of_monitor k n p (slice_get image.monitors n) low at lower refl in let rest = of_monitors k n p low at lower in omega (arith, one, rest)

      of_process : (k : ℕ) (o : Option Process) → k < length us → slice_get image.processes k ≡ o → blocking_by image rank k o ≤ b
      of_process k None low is = omega arith
      of_process k (Some p) low is = elim (cases_Bool (nat_lt rank p.rank)) [
        | inl lower ↦ (let e = ap (λ t. cond t (longest_blocking image rank k (length image.monitors)) 0) lower in let s = of_monitors k (length image.monitors) p low is (omega (arith, below rank p.rank lower)) in omega (arith, e, s))
        | inr not_lower ↦ (let e = ap (λ t. cond t (longest_blocking image rank k (length image.monitors)) 0) not_lower in omega (arith, e))
      ]

      of_processes : (n : ℕ) → n ≤ length us → longest_block image rank n ≤ b
      of_processes zero le = omega arith
      of_processes (suc n) le = let one = of_process n (slice_get image.processes n) (omega (arith, le)) refl in let rest = of_processes n (omega (arith, le)) in omega (arith, one, rest)

    blocks_agree : (b : ℕ) → defined.IsBlocking us all cs rank b → b ≡ needed_block image rank
    blocks_agree b is =
        let up : needed_block image rank ≤ b = of_processes b is.most (length image.processes) (omega (arith, are.many)) in
        let down : b ≤ needed_block image rank = elim is.one [ inl none ↦ omega (arith, none) | inr one ↦ none_longer b one ] in
        omega (arith, up, down)

pub uses_agree : UsesAgree
uses_agree image us are = record {
  ranks = ranks_agree image us are;
  ceilings = λ all m c ranked is. ceilings_agree image us are all m c (ranks_agree image us are all ranked) is;
  blocks = λ all cs rank b declared low is. blocks_agree image us are all cs declared rank low b is;
}
