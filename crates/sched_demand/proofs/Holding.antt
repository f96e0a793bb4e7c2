-- The stays that hold a level up, by rank: at most one, and within the level's block.
use Rattle.std.proofs.Common.{◌≡◌, ℕ, ◌+◌, ◌<◌, ◌≤◌, ◌⊎◌, inl, inr, List, length, refl, arith, ap, sym, subst, ◌∙◌}
use Rattle.std.specs.Prelude.{Option, Some}
use Rattle.std.proofs.lemmas.Bool.{cases_eq}
use Rattle.sched_demand.specs.declared.tasks.DemandTask.{DemandTask}
use Rattle.sched_demand.specs.Demand.{task_at}
use Rattle.sched_theorem.specs.Charges.{total}
use Rattle.sched_theorem.specs.Dispatched.{Stay, TakesOne, KeepsStays}
use Rattle.sched_theorem.specs.Placed.{AreRanks}
use Rattle.sched_theorem.proofs.Totals.{total_mono, total_less, total_lone}
use Rattle.sched_demand.specs.Stacked.{AreApart}
use Rattle.sched_demand.specs.Earliest.{AreShort}
use Rattle.sched_demand.proofs.Rows.{HoldsUp, IsLevel}
use Rattle.sched_theorem.proofs.Ceilings.{held_above, held_cases, taken, held}

-- what is left of the stays that hold a level up
abbrev pub stay_at : ℕ → (ℕ → ℕ) → (ℕ → Option Stay) → ℕ → ℕ
stay_at n place inside level = total n (λ j. held level j (inside (place j)))

-- at most one stay holds a level up
one_stay : (n : ℕ) (rank place : ℕ → ℕ) (inside : ℕ → Option Stay) (level i j : ℕ) → AreRanks n rank place → AreApart n rank inside → i < j → j < n → (held level i (inside (place i)) ≡ 0) ⊎ (held level j (inside (place j)) ≡ 0)
one_stay n rank place inside level i j are apart less below = elim (held_cases level i (inside (place i))) [
  | inr none ↦ inl none
  | inl first ↦ elim (held_cases level j (inside (place j))) [
    | inr none ↦ inr none
    | inl second ↦
        let e = are.there i (omega arith) in
        let f = are.there j below in
        absurd (elim (apart (place i) (place j) first.stay second.stay (are.place_below i (omega arith)) (are.place_below j below) (λ same. let g = ap rank same in omega arith) first.is_inside second.is_inside) [
          | inl one ↦ omega (arith, first.lower, second.higher)
          | inr other ↦ omega (arith, second.lower, first.higher)
        ])
  ]
]

pub short_stay : (ts : List DemandTask) (rank place : ℕ → ℕ) (inside : ℕ → Option Stay) (ticks level : ℕ) → AreRanks (length ts) rank place → AreApart (length ts) rank inside → AreShort ts rank inside → IsLevel (length ts) (λ j. (task_at ts j).deadline) ticks level → stay_at (length ts) place inside level ≤ (task_at ts level).block
short_stay ts rank place inside ticks level are apart short is = total_lone (length ts) (task_at ts level).block (λ j. held level j (inside (place j)))
    (λ j below. elim (held_cases level j (inside (place j))) [
      | inr none ↦ omega arith
      | inl h ↦
          let e : (task_at ts (rank (place j))).deadline ≡ (task_at ts j).deadline = ap (λ i. (task_at ts i).deadline) (are.there j below) in
          let near : (task_at ts level).deadline ≤ ticks = is.within level (omega arith) in
          let far : ticks < (task_at ts j).deadline = is.beyond j h.lower below in
          let s = short level (place j) h.stay is.of_these (are.place_below j below) h.is_inside (omega arith) h.higher in
          omega (arith, h.is_left)
    ])
    (λ i j less below. one_stay (length ts) rank place inside level i j are apart less below)

-- where one of the level or above runs, the stays that hold the level up keep what they have left
pub kept_stay : (n : ℕ) (rank place : ℕ → ℕ) (inside inside_after : ℕ → Option Stay) (level p : ℕ) → AreRanks n rank place → rank p ≤ level → KeepsStays n (Some p) inside inside_after → stay_at n place inside_after level ≤ stay_at n place inside level
kept_stay n rank place inside inside_after level p are high keeps = total_mono n (λ j. held level j (inside_after (place j))) (λ j. held level j (inside (place j))) (λ j below. elim (cases_eq (place j) p) [
  | inl same ↦ let g = ap rank same in let f = are.there j below in let e = held_above level j (inside_after (place j)) (omega arith) in omega arith
  | inr other ↦ let e = ap (held level j) (keeps.others (place j) (are.place_below j below) (λ is. other (cc))) in omega arith
])

-- where a process that holds the level up runs, its stay loses a tick
pub lost_stay : (n : ℕ) (rank place : ℕ → ℕ) (inside inside_after : ℕ → Option Stay) (level p : ℕ) → AreRanks n rank place → p < n → HoldsUp rank level inside p → KeepsStays n (Some p) inside inside_after → stay_at n place inside_after level + 1 ≤ stay_at n place inside level
lost_stay n rank place inside inside_after level p are below h keeps =
    let back = are.back p below in
    let P : Option Stay → Type 0 = λ o. TakesOne o (inside_after p) in
    let takes : TakesOne (Some h.stay) (inside_after p) = subst P h.is_inside (keeps.takes p below refl) in
    let less = taken level (rank p) h.stay (inside_after p) h.lower h.higher takes in
    let e : held level (rank p) (inside p) ≡ held level (rank p) (Some h.stay) = ap (held level (rank p)) h.is_inside in
    let f : held level (rank p) (inside (place (rank p))) ≡ held level (rank p) (inside p) = ap (λ i. held level (rank p) (inside i)) back in
    let g : held level (rank p) (inside_after (place (rank p))) ≡ held level (rank p) (inside_after p) = ap (λ i. held level (rank p) (inside_after i)) back in
    let here : held level (rank p) (inside_after (place (rank p))) + 1 ≤ held level (rank p) (inside (place (rank p))) = omega arith in
    total_less n (rank p) (λ j. held level j (inside_after (place j))) (λ j. held level j (inside (place j))) (λ j within. elim (cases_eq j (rank p)) [
      | inl same ↦ let Q : ℕ → Type 0 = λ i. held level i (inside_after (place i)) ≤ held level i (inside (place i)) in subst Q (sym same) (omega arith)
      | inr other ↦ let k = ap (held level j) (keeps.others (place j) (are.place_below j within) (λ is. other (sym (are.there j within) ∙ ap rank (place_is (place j) is)))) in omega arith
    ]) (are.rank_below p below) here
  where
    place_is : (i : ℕ) → Some p ≡ Some i → i ≡ p
    place_is i is = cc
