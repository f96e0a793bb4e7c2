-- Ranks and ceilings agree.
use Rattle.std.proofs.Common.{◌≡◌, ◌≤◌, ◌<◌, ◌+◌, inl, inr, ℕ, zero, suc, List, [], ◌∷◌, Option, Some, None, length, arith, refl, ap, sym, subst, ◌∙◌, true, false, Bool}
use Rattle.std.specs.Prelude.{slice_get, slice_index, slice_index_or, cond, nat_eq, nat_lt, ◌&&◌, ◌||◌, unwrap_or, option_map, min}
use Rattle.std.proofs.lemmas.Bool.{cases_Bool}
use Rattle.std.proofs.lemmas.Bool.Decides.{nat_tests}
use Rattle.std.proofs.lemmas.Option.{slice_get-map, slice_get_within}
use Rattle.std.proofs.lemmas.List.{length-map}
use Rattle.base.proofs.Lists.{some_at, one_some}
use Rattle.syntax_tree.specs.Plain.{Process, Program}
use Rattle.source_semantics.specs.Names.{processes, deadline_of}
use Rattle.source_semantics.specs.Ranks.{rank, higher, deadlines, ceiling, monitors_of, includes, least_rank, min_with}
use Rattle.sched_response.specs.declared.uses.Use.{Use}
use Rattle.sched_response.specs.Counts.{count_below}
use Rattle.sched_response.specs.Ranked.{use_at, outranks, AreCounted, IsCeilingAmong}
use Rattle.sched_response.proofs.Counted.{are_counted}
use Rattle.sched_program.specs.Ranked.{AreUses, RanksAgree, CeilingsAgree}

abbrev pub count : Bool → ℕ
count b = cond b 1 0

count_front : (p : ℕ → Bool) (n : ℕ) → count_below p (suc n) ≡ count (p 0) + count_below (λ j. p (suc j)) n
count_front p zero = omega arith
count_front p (suc n) = omega (arith, count_front p n)

abbrev pub above : (f x deadline k : ℕ) → Bool
above f x deadline k = nat_lt f deadline || (nat_eq f deadline && nat_lt x k)

pub higher_counts : (k deadline b : ℕ) (ds : List ℕ) (p : ℕ → Bool) → ((j f : ℕ) → slice_get ds j ≡ Some f → above f (b + j) deadline k ≡ p j) → higher k deadline b ds ≡ count_below p (length ds)
higher_counts k deadline b [] p same = refl
higher_counts k deadline b (f ∷ ds) p same =
    let z : b + 0 ≡ b = omega arith in
    let first : count (above f b deadline k) ≡ count (p 0) = ap (λ (x : Bool). count x) (subst (λ (n : ℕ). above f n deadline k ≡ p 0) z (same 0 f refl)) in
    let rest : higher k deadline (suc b) ds ≡ count_below (λ j. p (suc j)) (length ds) =
    higher_counts k deadline (suc b) ds (λ j. p (suc j)) (λ j x at. (let y : b + suc j ≡ suc b + j = omega arith in subst (λ (n : ℕ). above x n deadline k ≡ p (suc j)) y (same (suc j) x at))) in
    omega (arith, first, rest, count_front p (length ds))

deadline_is_at : (g : Program) (us : List Use) → AreUses g us → (k : ℕ) → k < length us → slice_get (deadlines g) k ≡ Some (use_at us k).deadline
deadline_is_at g us uses k below =
    let p : (p : Process) × (slice_get (processes g) k ≡ Some p) = some_at (processes g) k (omega (arith, below, uses.many)) in
    slice_get-map (λ (x : Process). deadline_of g x.activation) (processes g) k ∙ ap (λ (o : Option Process). option_map (λ (x : Process). deadline_of g x.activation) o) p.1 ∙ ap (λ (n : ℕ). Some n) (sym (uses.each k p.0 p.1).deadline)

counted_agree : (g : Program) (us : List Use) (ranks : List ℕ) → AreUses g us → AreCounted us ranks → (k : ℕ) → k < length us → slice_index ranks k ≡ rank g k
counted_agree g us ranks uses counted k below =
    let many : length (deadlines g) ≡ length us = length-map (processes g) (λ (x : Process). deadline_of g x.activation) ∙ sym uses.many in
    let first : 1 + count_below (λ other. outranks us other k) (length us) ≡ suc (count_below (λ other. outranks us other k) (length us)) = omega arith in
    counted k below
    ∙ first
    ∙ ap (λ (n : ℕ). suc (count_below (λ other. outranks us other k) n)) (sym many)
    ∙ ap (λ (n : ℕ). suc n) (sym (higher_counts k (use_at us k).deadline 0 (deadlines g) (λ other. outranks us other k) (λ j f at. same j f at many)))
    ∙ ap (λ (o : Option ℕ). suc (higher k (unwrap_or o 0) 0 (deadlines g))) (sym (deadline_is_at g us uses k below))
  where
    same : (j f : ℕ) → slice_get (deadlines g) j ≡ Some f → length (deadlines g) ≡ length us → above f (0 + j) (use_at us k).deadline k ≡ outranks us j k
    same j f at many =
        let deadline_is : f ≡ (use_at us j).deadline = one_some at (deadline_is_at g us uses j (omega (arith, slice_get_within (deadlines g) j f at, many))) in
        let z : 0 + j ≡ j = omega arith in
        ap (λ (n : ℕ). above f n (use_at us k).deadline k) z ∙ ap (λ (n : ℕ). above n j (use_at us k).deadline k) deadline_is

pub ranks_agree : RanksAgree
ranks_agree g us ranks uses are k below = counted_agree g us ranks uses (are_counted us ranks are) k below

-- ---- ceilings

-- the least rank of those from process b on that reach the monitor, or nobody does
abbrev IsLeast : Program → ℕ → ℕ → List Process → Option ℕ → Type 0
IsLeast g m b ps None = (i : ℕ) (p : Process) → slice_get ps i ≡ Some p → includes m (monitors_of g p) ≡ false
IsLeast g m b ps (Some r) =
    ((i : ℕ) × (p : Process) × (slice_get ps i ≡ Some p) × (includes m (monitors_of g p) ≡ true) × (rank g (b + i) ≡ r))
    × ((i : ℕ) (p : Process) → slice_get ps i ≡ Some p → includes m (monitors_of g p) ≡ true → r ≤ rank g (b + i))

least_is : (g : Program) (m b : ℕ) (ps : List Process) → IsLeast g m b ps (least_rank g m b ps)
least_is g m b [] = λ i p at. cc
least_is g m b (p ∷ ps) = by (includes m (monitors_of g p)) refl (least_rank g m (suc b) ps) (least_is g m (suc b) ps) where
  shift : (i : ℕ) → rank g (suc b + i) ≡ rank g (b + suc i)
  shift i = let z : suc b + i ≡ b + suc i = omega arith in ap (λ (n : ℕ). rank g n) z

  here : rank g (b + 0) ≡ rank g b
  here = let z : b + 0 ≡ b = omega arith in ap (λ (n : ℕ). rank g n) z

  none_either : includes m (monitors_of g p) ≡ false → IsLeast g m (suc b) ps None → (i : ℕ) (q : Process) → slice_get (p ∷ ps) i ≡ Some q → includes m (monitors_of g q) ≡ false
  none_either is none zero q at = ap (λ (x : Process). includes m (monitors_of g x)) (sym (one_some refl at)) ∙ is
  none_either is none (suc i) q at = none i q at

  bounded : (r : ℕ) → (includes m (monitors_of g p) ≡ true → r ≤ rank g b) → ((i : ℕ) (q : Process) → slice_get ps i ≡ Some q → includes m (monitors_of g q) ≡ true → r ≤ rank g (suc b + i))
      → (i : ℕ) (q : Process) → slice_get (p ∷ ps) i ≡ Some q → includes m (monitors_of g q) ≡ true → r ≤ rank g (b + i)
  bounded r first rest zero q at reach = let own : r ≤ rank g b = first (ap (λ (x : Process). includes m (monitors_of g x)) (one_some refl at) ∙ reach) in omega (arith, own, here)
  bounded r first rest (suc i) q at reach = let later : r ≤ rank g (suc b + i) = rest i q at reach in omega (arith, later, shift i)

  by : (t : Bool) → includes m (monitors_of g p) ≡ t → (o : Option ℕ) → IsLeast g m (suc b) ps o → IsLeast g m b (p ∷ ps) (cond t (Some (min_with (rank g b) o)) o)
  by false is None none = none_either is none
  by false is (Some r) least = (
    (suc least.0.0, least.0.1, least.0.2, least.0.3, sym (shift least.0.0) ∙ least.0.4),
    bounded r (λ now. absurd (let no_one : false ≡ true = sym is ∙ now in cc)) least.1,
  )
  by true is None none = (
    (0, p, refl, is, here),
    bounded (rank g b) (λ now. omega arith) (λ i q at reach. absurd (let no_one : false ≡ true = sym (none i q at) ∙ reach in cc)),
  )
  by true is (Some r) least = elim (cases_Bool (nat_lt (rank g b) r)) [
    | inl lt ↦
        let is_min : rank g b ≡ min (rank g b) r = grind (arith, nat_tests, lt) in
        subst (λ (x : ℕ). IsLeast g m b (p ∷ ps) (Some x)) is_min (
          (0, p, refl, is, here),
          bounded (rank g b) (λ now. omega arith) (λ i q at reach. (let later : r ≤ rank g (suc b + i) = least.1 i q at reach in below_all lt later)),
        )
    | inr ge ↦
        let is_min : r ≡ min (rank g b) r = grind (arith, nat_tests, ge) in
        subst (λ (x : ℕ). IsLeast g m b (p ∷ ps) (Some x)) is_min (
          (suc least.0.0, least.0.1, least.0.2, least.0.3, sym (shift least.0.0) ∙ least.0.4),
          bounded r (λ now. at_most ge) least.1,
        )
  ] where
    below_all : {x y z : ℕ} → nat_lt x y ≡ true → y ≤ z → x ≤ z
    below_all lt le = grind (arith, nat_tests, lt, le)

    at_most : {x y : ℕ} → nat_lt x y ≡ false → y ≤ x
    at_most ge = grind (arith, nat_tests, ge)

pub ceilings_agree : CeilingsAgree
ceilings_agree g us ranks ceilings uses ranked are m below = by (slice_index_or ceilings m None) (are.each m below) (ceiling g m) (least_is g m 0 (processes g)) where
  same_rank : (k : ℕ) → k < length us → slice_index ranks k ≡ rank g k
  same_rank k lt = ranks_agree g us ranks uses ranked k lt

  from_zero : (k : ℕ) → rank g (0 + k) ≡ rank g k
  from_zero k = let z : 0 + k ≡ k = omega arith in ap (λ (n : ℕ). rank g n) z

  by : (a : Option ℕ) → IsCeilingAmong (length us) us ranks m a → (b : Option ℕ) → IsLeast g m 0 (processes g) b → a ≡ b
  by None none None nobody = refl
  by None none (Some r) least = absurd (none least.0.0 (omega (arith, slice_get_within (processes g) least.0.0 least.0.1 least.0.2, uses.many)) ((uses.each least.0.0 least.0.1 least.0.2).reached m least.0.3))
  by (Some r) one None nobody =
      let p : (p : Process) × (slice_get (processes g) one.one.0 ≡ Some p) = some_at (processes g) one.one.0 (omega (arith, one.one.1, uses.many)) in
      absurd (let no_one : false ≡ true = sym (nobody one.one.0 p.0 p.1) ∙ (uses.each one.one.0 p.0 p.1).reaches m one.one.2 in cc)
  by (Some r) one (Some q) least =
      let p : (p : Process) × (slice_get (processes g) one.one.0 ≡ Some p) = some_at (processes g) one.one.0 (omega (arith, one.one.1, uses.many)) in
      let low : q ≤ rank g (0 + one.one.0) = least.1 one.one.0 p.0 p.1 ((uses.each one.one.0 p.0 p.1).reaches m one.one.2) in
      let inside : least.0.0 < length us = omega (arith, slice_get_within (processes g) least.0.0 least.0.1 least.0.2, uses.many) in
      let high : r ≤ slice_index ranks least.0.0 = one.least least.0.0 inside ((uses.each least.0.0 least.0.1 least.0.2).reached m least.0.3) in
      let same : r ≡ q = omega (arith, low, high, one.one.3, same_rank one.one.0 one.one.1, same_rank least.0.0 inside, from_zero one.one.0, from_zero least.0.0, least.0.4) in
      ap (λ (x : ℕ). Some x) same
