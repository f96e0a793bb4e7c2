-- Priority ceilings: a busy tick in which nobody of the ranks up to a level runs or waits is one of a single stay.
use Rattle.std.proofs.Common.{◌≡◌, ℕ, suc, ◌+◌, ◌<◌, ◌≤◌, ◌⊎◌, inl, inr, List, length, refl, arith, ap, sym, subst, ◌∙◌}
use Rattle.std.specs.Prelude.{true, cond, not, ◌&&◌, Option, Some, None}
use Rattle.std.proofs.Math.Dec.{ltb}
use Rattle.std.proofs.lemmas.Bool.{cases_lt, cases_eq, lt-ltb, le-ltb}
use Rattle.sched_response.specs.declared.tasks.Task.{Task}
use Rattle.sched_theorem.specs.Charges.{Charge, Execution, Suspension, Blocking, total}
use Rattle.sched_theorem.specs.Stretches.{Life, NoneWait, SomeWait, SomeActive, IsCharged, Trace}
use Rattle.sched_response.specs.Demand.{task_at}
use Rattle.sched_theorem.specs.Ranked.{IsRanked}
use Rattle.sched_theorem.specs.Dispatched.{Stay, Dispatch, IsReady, active_rank, PicksOf, TakesOne, KeepsStays, AreStays, IsDispatched}
use Rattle.sched_theorem.proofs.Totals.{total_mono, total_less, total_lone, total_some, none_of_total}

-- what is left of a stay in a monitor with a ceiling at the level or above, of a process that ranks below the level
abbrev pub held : ℕ → ℕ → Option Stay → ℕ
held level j None = 0
held level j (Some s) = cond (ltb level j && not (ltb level s.ceiling)) s.left 0

-- such a stay
pub record Holds (level j : ℕ) (o : Option Stay) : Type 0 where
  pub stay : Stay
  pub is_inside : o ≡ Some stay
  pub lower : level < j
  pub higher : stay.ceiling ≤ level
  pub is_left : held level j o ≡ stay.left

pub held_in : (level j : ℕ) (s : Stay) → level < j → s.ceiling ≤ level → held level j (Some s) ≡ s.left
held_in level j s lower higher =
    let e = lt-ltb level j lower in
    let f = le-ltb level s.ceiling higher in
    ap (λ b. cond (b && not (ltb level s.ceiling)) s.left 0) e ∙ ap (λ b. cond (true && not b) s.left 0) f

pub held_above : (level j : ℕ) (o : Option Stay) → j ≤ level → held level j o ≡ 0
held_above level j None above = refl
held_above level j (Some s) above = ap (λ b. cond (b && not (ltb level s.ceiling)) s.left 0) (le-ltb level j above)

pub held_under : (level j : ℕ) (s : Stay) → level < j → level < s.ceiling → held level j (Some s) ≡ 0
held_under level j s lower under =
    let e = lt-ltb level j lower in
    let f = lt-ltb level s.ceiling under in
    ap (λ b. cond (b && not (ltb level s.ceiling)) s.left 0) e ∙ ap (λ b. cond (true && not b) s.left 0) f

pub held_cases : (level j : ℕ) (o : Option Stay) → Holds level j o ⊎ (held level j o ≡ 0)
held_cases level j None = inr refl
held_cases level j (Some s) = elim (cases_lt level j) [
  | inr above ↦ inr (held_above level j (Some s) above)
  | inl lower ↦ elim (cases_lt level s.ceiling) [
    | inl under ↦ inr (held_under level j s lower under)
    | inr higher ↦ inl (record { stay = s; is_inside = refl; lower = lower; higher = higher; is_left = held_in level j s lower higher })
  ]
]

-- what is left of the stays that hold a level up
abbrev pub stay_at : List Task → (ℕ → Option Stay) → ℕ → ℕ
stay_at ts inside level = total (length ts) (λ j. held level j (inside j))

-- at most one stay holds a level up
one_stay : (ts : List Task) (inside : ℕ → Option Stay) (level i j : ℕ) → AreStays ts inside → i < j → j < length ts → (held level i (inside i) ≡ 0) ⊎ (held level j (inside j) ≡ 0)
one_stay ts inside level i j are less below = elim (held_cases level i (inside i)) [
  | inr none ↦ inl none
  | inl first ↦ elim (held_cases level j (inside j)) [
    | inr none ↦ inr none
    | inl second ↦ absurd (elim (are.apart i j first.stay second.stay less below first.is_inside second.is_inside) [
      | inl one ↦ omega (arith, first.lower, second.higher)
      | inr other ↦ omega (arith, second.lower, first.higher)
    ])
  ]
]

short_stay : (ts : List Task) (inside : ℕ → Option Stay) (level : ℕ) → AreStays ts inside → stay_at ts inside level ≤ (task_at ts level).block
short_stay ts inside level are = total_lone (length ts) (task_at ts level).block (λ j. held level j (inside j))
    (λ j below. elim (held_cases level j (inside j)) [
      | inr none ↦ omega arith
      | inl h ↦ let s = are.short level j h.stay h.lower below h.is_inside h.higher in omega (arith, h.is_left)
    ])
    (λ i j less below. one_stay ts inside level i j are less below)

-- where one of the level or above runs, the stays that hold the level up keep what they have left
kept_stay : (ts : List Task) (inside inside_after : ℕ → Option Stay) (level p : ℕ) → p ≤ level → KeepsStays (length ts) (Some p) inside inside_after → stay_at ts inside_after level ≤ stay_at ts inside level
kept_stay ts inside inside_after level p high keeps = total_mono (length ts) (λ j. held level j (inside_after j)) (λ j. held level j (inside j)) (λ j below. elim (cases_eq j p) [
  | inl same ↦ let e = held_above level j (inside_after j) (omega arith) in omega arith
  | inr other ↦ let e = ap (held level j) (keeps.others j below (λ is. other (cc))) in omega arith
])

-- a tick inside takes one from what is left
pub taken : (level p : ℕ) (s : Stay) (o : Option Stay) → level < p → s.ceiling ≤ level → TakesOne (Some s) o → held level p o + 1 ≤ held level p (Some s)
taken level p s None lower higher takes = let e = held_in level p s lower higher in omega arith
taken level p s (Some t) lower higher takes =
    let e = held_in level p s lower higher in
    let f = held_in level p t lower (omega (arith, takes.0)) in
    omega (arith, takes.1)

-- where a lower process runs inside such a monitor, its stay loses a tick
lost_stay : (ts : List Task) (inside inside_after : ℕ → Option Stay) (level p : ℕ) (s : Stay) → level < p → p < length ts → inside p ≡ Some s → s.ceiling ≤ level → KeepsStays (length ts) (Some p) inside inside_after → stay_at ts inside_after level + 1 ≤ stay_at ts inside level
lost_stay ts inside inside_after level p s lower below is_inside higher keeps =
    let P : Option Stay → Type 0 = λ o. TakesOne o (inside_after p) in
    let takes : TakesOne (Some s) (inside_after p) = subst P is_inside (keeps.takes p below refl) in
    let less = taken level p s (inside_after p) lower higher takes in
    let e : held level p (inside p) ≡ held level p (Some s) = ap (held level p) is_inside in
    let here : held level p (inside_after p) + 1 ≤ held level p (inside p) = omega arith in
    total_less (length ts) p (λ j. held level j (inside_after j)) (λ j. held level j (inside j)) (λ j within. elim (cases_eq j p) [
      | inl same ↦ let Q : ℕ → Type 0 = λ i. held level i (inside_after i) ≤ held level i (inside i) in subst Q (sym same) (omega arith)
      | inr other ↦ let f = ap (held level j) (keeps.others j within (λ is. other (cc))) in omega arith
    ]) below here

-- who ranks below a level but has an active rank at the level or above is inside a monitor of such a ceiling
raised : (level p : ℕ) (o : Option Stay) → level < p → active_rank p o ≤ level → (s : Stay) × (o ≡ Some s) × (s.ceiling ≤ level)
raised level p None lower high = absurd (omega arith)
raised level p (Some s) lower high = (s, refl, high)

-- an active rank is at most the rank
at_most_rank : (j : ℕ) (o : Option Stay) → ((s : Stay) → o ≡ Some s → s.ceiling ≤ j) → active_rank j o ≤ j
at_most_rank j None above = omega arith
at_most_rank j (Some s) above = above s refl

-- a busy tick of a level in which nobody waits has somebody ready
ready_of : (n : ℕ) (lives : ℕ → Life) → SomeActive n lives → NoneWait n lives → (j : ℕ) × (j < n) × IsReady (lives j)
ready_of n lives some none = (some.0, some.1, record { active = some.2; free = none some.0 some.1 })

cases_wait : (n : ℕ) (lives : ℕ → Life) → SomeWait n lives ⊎ NoneWait n lives
cases_wait n lives = elim (cases_lt 0 (total n (λ j. (lives j).waiting))) [
  | inl some ↦ inl (total_some n (λ j. (lives j).waiting) some)
  | inr none ↦ inr (none_of_total n (λ j. (lives j).waiting) (omega arith))
]

-- each busy tick of a level has a charge
charge_of : (ts : List Task) (inside inside_after : ℕ → Option Stay) (a b : ℕ → Life) (level : ℕ) (picked : Option ℕ) → level < length ts → AreStays ts inside → PicksOf (length ts) inside a b picked → KeepsStays (length ts) picked inside inside_after → SomeActive (suc level) a → (c : Charge) × IsCharged (suc level) a b (stay_at ts inside level) (stay_at ts inside_after level) c
charge_of ts inside inside_after a b level None below are picks keeps busy = elim (cases_wait (suc level) a) [
  | inl some ↦ (Suspension, some)
  | inr none ↦ let r = ready_of (suc level) a busy none in absurd (picks r.0 (omega (arith, r.1)) r.2)
]
charge_of ts inside inside_after a b level (Some p) below are picks keeps busy = elim (cases_lt level p) [
  | inr high ↦ (Execution p, record { of_these = omega arith; falls = picks.falls; held = λ none. kept_stay ts inside inside_after level p high keeps })
  | inl lower ↦ elim (cases_wait (suc level) a) [
    | inl some ↦ (Suspension, some)
    | inr none ↦
        let r = ready_of (suc level) a busy none in
        let rank = at_most_rank r.0 (inside r.0) (λ s is. are.above r.0 s (omega (arith, r.1)) is) in
        let least = picks.least r.0 (omega (arith, r.1)) r.2 in
        let s = raised level p (inside p) lower (omega (arith, r.1)) in
        (Blocking, record { none_wait = none; falls = lost_stay ts inside inside_after level p s.0 lower picks.of_these s.1 s.2 keeps })
  ]
]

-- a run that is dispatched rightly has a charge for each busy tick of each level
pub is_ranked : (ts : List Task) (end : ℕ) (t : Trace) (d : Dispatch) → IsDispatched ts end t d → IsRanked ts end t (λ level k. stay_at ts (d.inside k) level)
is_ranked ts end t d run = record {
  idle_first = run.idle_first;
  run = run.run;
  spaced = run.spaced;
  charged = λ level below. record {
    stays = λ k within. short_stay ts (d.inside k) level (run.stays k within);
    charged = λ k within busy. charge_of ts (d.inside k) (d.inside (suc k)) (t.after k) (t.before (suc k)) level (d.picked k) below (run.stays k (omega arith)) (run.picks k within) (run.keeps k within) busy;
  };
}
