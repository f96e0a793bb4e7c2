-- The run of the activations with deadlines by a due tick alone, as the timing argument of fixed priorities sees it.
use Rattle.std.proofs.Common.{◌≡◌, ℕ, zero, suc, ◌+◌, ◌*◌, ◌<◌, ◌≤◌, inl, inr, List, length, refl, arith, ap, sym, subst, ◌∙◌}
use Rattle.std.specs.Prelude.{Bool, true, false, cond, nat_lt, Option, Some, None}
use Rattle.std.proofs.lemmas.Bool.{cases_lt, cases_eq, lt-ltb, le-ltb, cases_Bool}
use Rattle.sched_demand.specs.declared.tasks.DemandTask.{DemandTask}
use Rattle.sched_demand.specs.Demand.{task_at}
use Rattle.sched_theorem.specs.Charges.{ChargedCost}
use Rattle.sched_theorem.specs.Stretches.{Life, Opens, Acts, Trace, IsRun, flag}
use Rattle.sched_theorem.specs.Placed.{AreRanks}
use Rattle.sched_demand.specs.Activations.{Activation, Starts, Moves}
use Rattle.sched_demand.specs.Stacked.{AreStacked, AreDistinct}
use Rattle.sched_demand.specs.Earliest.{Run, IsEarliest, deadline_at}
use Rattle.sched_demand.proofs.Stacking.{kept_by_releases, kept_by_choice, moves_pass, stays_keep}

-- ---- an activation as far as it is due

abbrev pub due_life : ℕ → ℕ → Activation → Life
due_life due deadline a = record { run_left = cond (nat_lt due (a.release + deadline)) 0 a.left; suspension_left = 0; waits_left = 0; waiting = 0 }

abbrev pub due_cost : ℕ → ChargedCost
due_cost c = record { run = c; susp = 0; waits = 0 }

abbrev pub due_release : ℕ → ℕ → ℕ → Bool → Bool
due_release due deadline k released = cond (nat_lt due (k + deadline)) false released

pub is_due : (due deadline : ℕ) (a : Activation) → a.release + deadline ≤ due → (due_life due deadline a).run_left ≡ a.left
is_due due deadline a soon = ap (λ b. cond b 0 a.left) (le-ltb due (a.release + deadline) soon)

pub not_due : (due deadline : ℕ) (a : Activation) → due < a.release + deadline → (due_life due deadline a).run_left ≡ 0
not_due due deadline a late = ap (λ b. cond b 0 a.left) (lt-ltb due (a.release + deadline) late)

pub due_le : (due deadline : ℕ) (a : Activation) → (due_life due deadline a).run_left ≤ a.left
due_le due deadline a = elim (cases_lt due (a.release + deadline)) [
  | inl late ↦ let e = not_due due deadline a late in omega arith
  | inr soon ↦ let e = is_due due deadline a soon in omega arith
]

pub some_due : (due deadline : ℕ) (a : Activation) → 1 ≤ (due_life due deadline a).run_left → (a.release + deadline ≤ due) × (1 ≤ a.left)
some_due due deadline a some = elim (cases_lt due (a.release + deadline)) [
  | inl late ↦ let e = not_due due deadline a late in absurd (omega arith)
  | inr soon ↦ let e = is_due due deadline a soon in (soon, omega arith)
]

-- a release that counts is one, and its deadline is by the due tick
pub released_due : (due deadline k : ℕ) (released : Bool) → due_release due deadline k released ≡ true → (released ≡ true) × (k + deadline ≤ due)
released_due due deadline k released is = elim (cases_lt due (k + deadline)) [
  | inl late ↦ let e = ap (λ b. cond b false released) (lt-ltb due (k + deadline) late) in absurd (cc)
  | inr soon ↦ let e = ap (λ b. cond b false released) (le-ltb due (k + deadline) soon) in (sym e ∙ is, soon)
]

pub counts : (due deadline k : ℕ) (released : Bool) → k + deadline ≤ due → released ≡ true → due_release due deadline k released ≡ true
counts due deadline k released soon is = ap (λ b. cond b false released) (le-ltb due (k + deadline) soon) ∙ is

-- what is left after the start events
opened_run : (k due deadline cost : ℕ) (released : Bool) (a b : Activation) → Starts k released cost a b → (due_life due deadline b).run_left ≤ (due_life due deadline a).run_left + flag (due_release due deadline k released) * cost
opened_run k due deadline cost released a b starts = elim (cases_lt 0 a.left) [
  | inl active ↦ let e = ap (λ x. (due_life due deadline x).run_left) (starts.keeps active) in omega arith
  | inr none ↦
      let idle : a.left ≡ 0 = omega arith in
      elim (cases_Bool released) [
        | inr not_is ↦ let z = starts.rests idle not_is in let h = due_le due deadline b in omega arith
        | inl is ↦
            let since : b.release ≡ k = starts.since idle is in
            let costs : b.left ≤ cost = starts.costs idle is in
            elim (cases_lt due (k + deadline)) [
              | inl late ↦ let e = not_due due deadline b (omega arith) in omega arith
              | inr soon ↦
                  let one : flag (due_release due deadline k released) ≡ 1 = ap flag (counts due deadline k released soon is) in
                  let all : flag (due_release due deadline k released) * cost ≡ cost = ap (λ f. f * cost) one ∙ omega arith in
                  let h = due_le due deadline b in
                  omega arith
            ]
      ]
]

opened_starts : (k due deadline cost : ℕ) (released : Bool) (a b : Activation) → Starts k released cost a b → (1 ≤ a.left → a.release < k) → due_release due deadline k released ≡ true → 1 ≤ (due_life due deadline b).run_left
opened_starts k due deadline cost released a b starts past is =
    let parts = released_due due deadline k released is in
    elim (cases_lt 0 a.left) [
      | inl active ↦
          let same = starts.keeps active in
          let e = ap (λ x. (due_life due deadline x).run_left) same in
          let before : a.release < k = past active in
          let f = is_due due deadline a (omega (arith, parts.1)) in
          omega arith
      | inr none ↦
          let idle : a.left ≡ 0 = omega arith in
          let since = starts.since idle parts.0 in
          let some = starts.starts idle parts.0 in
          let f = is_due due deadline b (omega (arith, parts.1)) in
          omega arith
    ]

pub due_opens : (k due deadline cost : ℕ) (released : Bool) (a b : Activation) → Starts k released cost a b → (1 ≤ a.left → a.release < k) → Opens (due_release due deadline k released) (due_cost cost) (due_life due deadline a) (due_life due deadline b)
due_opens k due deadline cost released a b starts past = record {
  run = opened_run k due deadline cost released a b starts;
  susp = omega arith;
  waits = omega arith;
  waiting = omega arith;
  goes_on = λ some.
      let parts = some_due due deadline a some in
      let e = ap (λ x. (due_life due deadline x).run_left) (starts.keeps parts.1) in
      omega arith;
  starts = λ is. opened_starts k due deadline cost released a b starts past is;
}

-- the rest of a tick
pub due_acts : (due deadline : ℕ) (a b : Activation) → b.left ≤ a.left → (1 ≤ b.left → b.release ≡ a.release) → Acts (due_life due deadline a) (due_life due deadline b)
due_acts due deadline a b less same = record {
  run = elim (cases_lt 0 b.left) [
    | inr none ↦ let h = due_le due deadline b in omega arith
    | inl some ↦
        let e : b.release ≡ a.release = same some in
        elim (cases_lt due (a.release + deadline)) [
          | inl late ↦ let z = not_due due deadline b (omega arith) in omega arith
          | inr soon ↦ let f = is_due due deadline a soon in let h = due_le due deadline b in omega arith
        ]
  ];
  susp = omega arith;
  waits = omega arith;
  begins = omega arith;
}

-- who is active after the rest of a tick was so before it
pub moved : (n : ℕ) (picked : Option ℕ) (a b : ℕ → Activation) → Moves n picked a b → (p : ℕ) → p < n → ((b p).left ≤ (a p).left) × (1 ≤ (b p).left → (b p).release ≡ (a p).release)
moved n None a b moves p below =
    let e = moves.others p below (λ is. absurd (cc)) in
    (let h = ap (λ x. x.left) e in omega arith, λ some. ap (λ x. x.release) e)
moved n (Some r) a b moves p below = elim (cases_eq r p) [
  | inl e ↦ let runs = moves.runs p below (ap Some e) in (let h = runs.falls in omega arith, runs.same)
  | inr other ↦
      let e = moves.others p below (λ is. other (same_number r p is)) in
      (let h = ap (λ x. x.left) e in omega arith, λ some. ap (λ x. x.release) e)
]
  where
    same_number : (x y : ℕ) → Some x ≡ Some y → x ≡ y
    same_number x y is = cc

-- ---- the run

pub distinct : (n : ℕ) (rank place : ℕ → ℕ) → AreRanks n rank place → AreDistinct n rank
distinct n rank place are p q p_below q_below same = sym (are.back p p_below) ∙ ap place same ∙ are.back q q_below

-- the stack stands before each tick, and after its start events
pub stack_before : (ts : List DemandTask) (rank place : ℕ → ℕ) (end : ℕ) (r : Run) → AreRanks (length ts) rank place → IsEarliest ts rank end r → (k : ℕ) → k ≤ end → AreStacked (length ts) rank (deadline_at ts rank) k (r.before k) (r.inside k)
stack_before ts rank place end r are run zero within = record {
  past = λ p below some. absurd (let z = run.idle_first p below in omega arith);
  begun = λ q s below is. absurd (let z = run.free_first q below in cc);
  later = λ p q p_below q_below some begun is_before. absurd (let z = run.idle_first p p_below in omega arith);
  above = λ p q s p_below q_below begun is is_before. absurd (let z = run.free_first q q_below in cc);
}
stack_before ts rank place end r are run (suc k) within =
    let was = stack_before ts rank place end r are run k (omega arith) in
    let opened = kept_by_releases (length ts) rank (deadline_at ts rank) k (λ p. (task_at ts (rank p)).cost) (r.released k) (r.before k) (r.after k) (r.inside k) was (λ p below. run.opens k p (omega arith) below) in
    kept_by_choice (length ts) rank (deadline_at ts rank) (suc k) (r.after k) (r.before (suc k)) (r.inside k) (r.inside (suc k)) (r.picked k) (distinct (length ts) rank place are) opened (run.chooses k (omega arith)) (moves_pass (length ts) (r.picked k) (r.after k) (r.before (suc k)) (run.acts k (omega arith))) (stays_keep (length ts) (r.picked k) (r.inside k) (r.inside (suc k)) (run.keeps k (omega arith))) (λ p s below is. run.active (suc k) p s within below is)

pub stack_after : (ts : List DemandTask) (rank place : ℕ → ℕ) (end : ℕ) (r : Run) → AreRanks (length ts) rank place → IsEarliest ts rank end r → (k : ℕ) → k < end → AreStacked (length ts) rank (deadline_at ts rank) (suc k) (r.after k) (r.inside k)
stack_after ts rank place end r are run k within =
    kept_by_releases (length ts) rank (deadline_at ts rank) k (λ p. (task_at ts (rank p)).cost) (r.released k) (r.before k) (r.after k) (r.inside k) (stack_before ts rank place end r are run k (omega arith)) (λ p below. run.opens k p within below)

-- the run of those that are due, by rank
abbrev pub due_trace : List DemandTask → (place : ℕ → ℕ) → (due : ℕ) → Run → Trace
due_trace ts place due r = record {
  before = λ k j. due_life due (task_at ts j).deadline (r.before k (place j));
  after = λ k j. due_life due (task_at ts j).deadline (r.after k (place j));
  released = λ k j. due_release due (task_at ts j).deadline k (r.released k (place j));
}

abbrev pub cost_at : List DemandTask → ℕ → ChargedCost
cost_at ts j = due_cost (task_at ts j).cost

pub due_run : (ts : List DemandTask) (rank place : ℕ → ℕ) (end due : ℕ) (r : Run) → AreRanks (length ts) rank place → IsEarliest ts rank end r → IsRun (length ts) (cost_at ts) end (due_trace ts place due r)
due_run ts rank place end due r are run = record {
  whole = λ k j within below. record { no_susp = λ e. refl; no_waits = λ e. refl; no_waiting = λ e. refl };
  opens = λ k j within below.
      let here = are.place_below j below in
      let stack = stack_before ts rank place end r are run k (omega arith) in
      let P : ℕ → Type 0 = λ i. Starts k (r.released k (place j)) (task_at ts i).cost (r.before k (place j)) (r.after k (place j)) in
      due_opens k due (task_at ts j).deadline (task_at ts j).cost (r.released k (place j)) (r.before k (place j)) (r.after k (place j)) (subst P (are.there j below) (run.opens k (place j) within here)) (λ some. stack.past (place j) here some);
  acts = λ k j within below.
      let m = moved (length ts) (r.picked k) (r.after k) (r.before (suc k)) (run.acts k within) (place j) (are.place_below j below) in
      due_acts due (task_at ts j).deadline (r.after k (place j)) (r.before (suc k) (place j)) m.0 m.1;
}
