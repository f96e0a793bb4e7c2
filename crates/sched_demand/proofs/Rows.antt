-- The last row of ticks before a due tick: who is due was released in it, and who has begun but is not due was released before it.
use Rattle.std.proofs.Common.{◌≡◌, ℕ, zero, suc, ◌+◌, ◌<◌, ◌≤◌, inl, inr, List, length, arith, ap, sym, subst, ◌∙◌}
use Rattle.std.specs.Prelude.{Bool, Option, Some, None}
use Rattle.std.proofs.lemmas.Bool.{cases_lt, cases_eq}
use Rattle.sched_demand.specs.declared.tasks.DemandTask.{DemandTask}
use Rattle.sched_demand.specs.Demand.{task_at}
use Rattle.sched_theorem.specs.Stretches.{SomeActive, NoneActive}
use Rattle.sched_theorem.specs.Dispatched.{Stay}
use Rattle.sched_theorem.specs.Placed.{AreRanks}
use Rattle.sched_demand.specs.Activations.{Activation, IsBegun, IsChosen, Chooses, Starts, Moves}
use Rattle.sched_demand.specs.Stacked.{AreStacked}
use Rattle.sched_demand.specs.Earliest.{Run, IsEarliest, deadline_at}
use Rattle.sched_demand.proofs.Stacking.{sooner_le, opened, opened_begun, chosen_new}
use Rattle.sched_demand.proofs.Dues.{due_life, is_due, some_due, moved, stack_before, due_trace}

-- in a row that begins at a tick
pub record InRow (n : ℕ) (deadline : ℕ → ℕ) (start due : ℕ) (a : ℕ → Activation) : Type 0 where
  -- who is due was released in the row
  pub soon : (p : ℕ) → p < n → 1 ≤ (a p).left → (a p).release + deadline p ≤ due → start ≤ (a p).release
  -- who has begun and is not due was released before it
  pub late : (p : ℕ) → p < n → IsBegun (a p) → due < (a p).release + deadline p → (a p).release < start

-- somebody is due
pub record SomeDue (n : ℕ) (deadline : ℕ → ℕ) (due : ℕ) (a : ℕ → Activation) : Type 0 where
  pub place : ℕ
  pub of_these : place < n
  pub active : 1 ≤ (a place).left
  pub soon : (a place).release + deadline place ≤ due

row_opened : (n : ℕ) (deadline : ℕ → ℕ) (start due k : ℕ) (cost : ℕ → ℕ) (released : ℕ → Bool) (a b : ℕ → Activation) → start ≤ k → ((p : ℕ) → p < n → Starts k (released p) (cost p) (a p) (b p)) → InRow n deadline start due a → InRow n deadline start due b
row_opened n deadline start due k cost released a b later opens row = record {
  soon = λ p below active is. elim (opened k (cost p) (released p) (a p) (b p) (opens p below) active) [
    | inl was ↦ let e = ap (λ x. x.release) was.1 in let h = row.soon p below was.0 (omega arith) in omega arith
    | inr new ↦ omega (arith, new.2)
  ];
  late = λ p below begun is.
      let old = opened_begun k (cost p) (released p) (a p) (b p) (opens p below) begun in
      let e = ap (λ x. x.release) old.0 in
      let h = row.late p below old.1 (omega arith) in
      omega arith;
}

-- who begins is due, where somebody is
row_begun : (n : ℕ) (rank deadline : ℕ → ℕ) (start due : ℕ) (inside : ℕ → Option Stay) (a b : ℕ → Activation) (picked : Option ℕ) → SomeDue n deadline due a → Chooses n rank deadline inside a picked → Moves n picked a b → (p : ℕ) → p < n → IsBegun (b p) → due < (b p).release + deadline p → IsBegun (a p)
row_begun n rank deadline start due inside a b None some chooses moves p below begun late = absurd (chooses some.place some.of_these some.active)
row_begun n rank deadline start due inside a b (Some r) some chosen moves p below begun late =
    let m = moved n (Some r) a b moves p below in
    let active : 1 ≤ (a p).left = omega (arith, m.0, begun.active) in
    let same : (b p).release ≡ (a p).release = m.1 begun.active in
    elim (cases_lt 0 (a p).had) [
      | inl had ↦ record { active = active; had = had }
      | inr none ↦ elim (cases_eq r p) [
        | inl e ↦
            let new : (a r).had ≡ 0 = subst (λ i. (a i).had ≡ 0) (sym e) (omega arith) in
            let late_r : due < (a r).release + deadline r = subst (λ i. due < (a i).release + deadline i) (sym e) (omega arith) in
            let other : r ≡ some.place → ⊥ = λ is. let h : (a r).release + deadline r ≤ due = subst (λ i. (a i).release + deadline i ≤ due) (sym is) some.soon in omega arith in
            let first = (chosen_new n rank deadline inside a r chosen new).0 some.place some.of_these other some.active in
            let h = sooner_le _ _ _ _ first in
            absurd (omega (arith, some.soon))
        | inr other ↦ absurd (let e = moves.others p below (λ is. other (same_number r p is)) in let g = subst (λ x. 1 ≤ x.had) e begun.had in omega arith)
      ]
    ]
  where
    same_number : (x y : ℕ) → Some x ≡ Some y → x ≡ y
    same_number x y is = cc

row_moved : (n : ℕ) (rank deadline : ℕ → ℕ) (start due : ℕ) (inside : ℕ → Option Stay) (a b : ℕ → Activation) (picked : Option ℕ) → SomeDue n deadline due a → Chooses n rank deadline inside a picked → Moves n picked a b → InRow n deadline start due a → InRow n deadline start due b
row_moved n rank deadline start due inside a b picked some chooses moves row = record {
  soon = λ p below active is.
      let m = moved n picked a b moves p below in
      let same = m.1 active in
      let h = row.soon p below (omega (arith, m.0)) (omega arith) in
      omega arith;
  late = λ p below begun is.
      let m = moved n picked a b moves p below in
      let same = m.1 begun.active in
      let was = row_begun n rank deadline start due inside a b picked some chooses moves p below begun is in
      let h = row.late p below was (omega arith) in
      omega arith;
}

-- somebody is due by rank, and so by place
pub due_of : (ts : List DemandTask) (rank place : ℕ → ℕ) (due : ℕ) (a : ℕ → Activation) → AreRanks (length ts) rank place → SomeActive (length ts) (λ j. due_life due (task_at ts j).deadline (a (place j))) → SomeDue (length ts) (deadline_at ts rank) due a
due_of ts rank place due a are some =
    let parts = some_due due (task_at ts some.0).deadline (a (place some.0)) some.2 in
    let e : deadline_at ts rank (place some.0) ≡ (task_at ts some.0).deadline = ap (λ i. (task_at ts i).deadline) (are.there some.0 some.1) in
    record {
      place = place some.0;
      of_these = are.place_below some.0 some.1;
      active = parts.1;
      soon = omega (arith, parts.0);
    }

-- nobody is due before a tick: a row begins there
row_first : (ts : List DemandTask) (rank place : ℕ → ℕ) (end due start : ℕ) (r : Run) → AreRanks (length ts) rank place → IsEarliest ts rank end r → start ≤ end → NoneActive (length ts) ((due_trace ts place due r).before start) → InRow (length ts) (deadline_at ts rank) start due (r.before start)
row_first ts rank place end due start r are run within clear = record {
  soon = λ p below active is.
      let back = are.back p below in
      let none = clear (rank p) (are.rank_below p below) in
      let P : ℕ → Type 0 = λ i. (due_life due (task_at ts (rank p)).deadline (r.before start i)).run_left ≡ 0 in
      let here : (due_life due (task_at ts (rank p)).deadline (r.before start p)).run_left ≡ 0 = subst P back none in
      let e = is_due due (task_at ts (rank p)).deadline (r.before start p) is in
      absurd (omega arith);
  late = λ p below begun is. (stack_before ts rank place end r are run start within).past p below begun.active;
}

-- and goes on while somebody is
pub row_before : (ts : List DemandTask) (rank place : ℕ → ℕ) (end due start : ℕ) (r : Run) → AreRanks (length ts) rank place → IsEarliest ts rank end r → NoneActive (length ts) ((due_trace ts place due r).before start) → (i : ℕ) → start + i ≤ end → ((x : ℕ) → x < i → SomeDue (length ts) (deadline_at ts rank) due (r.after (start + x))) → InRow (length ts) (deadline_at ts rank) start due (r.before (start + i))
row_before ts rank place end due start r are run clear zero within busy =
    let e : start ≡ start + 0 = omega arith in
    let P : ℕ → Type 0 = λ k. InRow (length ts) (deadline_at ts rank) start due (r.before k) in
    subst P e (row_first ts rank place end due start r are run (omega arith) clear)
row_before ts rank place end due start r are run clear (suc i) within busy =
    let was = row_before ts rank place end due start r are run clear i (omega arith) (λ x less. busy x (omega arith)) in
    let here : start + i < end = omega arith in
    let open_row = row_opened (length ts) (deadline_at ts rank) start due (start + i) (λ p. (task_at ts (rank p)).cost) (r.released (start + i)) (r.before (start + i)) (r.after (start + i)) (omega arith) (λ p below. run.opens (start + i) p here below) was in
    let next = row_moved (length ts) rank (deadline_at ts rank) start due (r.inside (start + i)) (r.after (start + i)) (r.before (suc (start + i))) (r.picked (start + i)) (busy i (omega arith)) (run.chooses (start + i) here) (run.acts (start + i) here) open_row in
    let e : suc (start + i) ≡ start + suc i = omega arith in
    let P : ℕ → Type 0 = λ k. InRow (length ts) (deadline_at ts rank) start due (r.before k) in
    subst P e next

pub row_after : (ts : List DemandTask) (rank place : ℕ → ℕ) (end due start : ℕ) (r : Run) → AreRanks (length ts) rank place → IsEarliest ts rank end r → NoneActive (length ts) ((due_trace ts place due r).before start) → (i : ℕ) → start + i < end → ((x : ℕ) → x < i → SomeDue (length ts) (deadline_at ts rank) due (r.after (start + x))) → InRow (length ts) (deadline_at ts rank) start due (r.after (start + i))
row_after ts rank place end due start r are run clear i within busy =
    row_opened (length ts) (deadline_at ts rank) start due (start + i) (λ p. (task_at ts (rank p)).cost) (r.released (start + i)) (r.before (start + i)) (r.after (start + i)) (omega arith) (λ p below. run.opens (start + i) p within below) (row_before ts rank place end due start r are run clear i (omega arith) busy)

-- ---- who runs while it is not due

-- a process that is not due runs only inside a monitor whose ceiling is that of a level that may be due in the row
pub record HoldsUp (rank : ℕ → ℕ) (level : ℕ) (inside : ℕ → Option Stay) (p : ℕ) : Type 0 where
  pub stay : Stay
  pub is_inside : inside p ≡ Some stay
  pub lower : level < rank p
  pub higher : stay.ceiling ≤ level

-- the level up to which deadlines are within the ticks of a row
pub record IsLevel (n : ℕ) (deadline : ℕ → ℕ) (ticks level : ℕ) : Type 0 where
  pub of_these : level < n
  pub within : (j : ℕ) → j ≤ level → deadline j ≤ ticks
  pub beyond : (j : ℕ) → level < j → j < n → ticks < deadline j

pub due_level : (ts : List DemandTask) (rank : ℕ → ℕ) (start ticks due level : ℕ) (a : ℕ → Activation) (p : ℕ) → IsLevel (length ts) (λ j. (task_at ts j).deadline) ticks level → start + ticks ≡ due → InRow (length ts) (deadline_at ts rank) start due a → p < length ts → rank p < length ts → 1 ≤ (a p).left → (a p).release + deadline_at ts rank p ≤ due → rank p ≤ level
due_level ts rank start ticks due level a p is here row below rank_below active soon = elim (cases_lt level (rank p)) [
  | inr le ↦ le
  | inl lt ↦
      let far : ticks < (task_at ts (rank p)).deadline = is.beyond (rank p) lt rank_below in
      let h = row.soon p below active soon in
      absurd (omega arith)
]

pub late_level : (ts : List DemandTask) (rank : ℕ → ℕ) (start ticks due level : ℕ) (a : ℕ → Activation) (p : ℕ) → IsLevel (length ts) (λ j. (task_at ts j).deadline) ticks level → start + ticks ≡ due → InRow (length ts) (deadline_at ts rank) start due a → p < length ts → IsBegun (a p) → due < (a p).release + deadline_at ts rank p → level < rank p
late_level ts rank start ticks due level a p is here row below begun late = elim (cases_lt level (rank p)) [
  | inl lt ↦ lt
  | inr le ↦
      let near : (task_at ts (rank p)).deadline ≤ ticks = is.within (rank p) le in
      let h = row.late p below begun late in
      absurd (omega arith)
]

pub held_up : (ts : List DemandTask) (rank place : ℕ → ℕ) (start ticks due level now : ℕ) (a : ℕ → Activation) (inside : ℕ → Option Stay) (p : ℕ) → AreRanks (length ts) rank place → IsLevel (length ts) (λ j. (task_at ts j).deadline) ticks level → start + ticks ≡ due → InRow (length ts) (deadline_at ts rank) start due a → AreStacked (length ts) rank (deadline_at ts rank) now a inside → SomeDue (length ts) (deadline_at ts rank) due a → IsChosen (length ts) rank (deadline_at ts rank) inside a p → due < (a p).release + deadline_at ts rank p → HoldsUp rank level inside p
held_up ts rank place start ticks due level now a inside p are is here row stack some chosen late = elim chosen.choice [
  | inl taken ↦
      let other : p ≡ some.place → ⊥ = λ same. let h : (a p).release + deadline_at ts rank p ≤ due = subst (λ i. (a i).release + deadline_at ts rank i ≤ due) (sym same) some.soon in omega arith in
      let h = sooner_le _ _ _ _ (taken.first some.place some.of_these other some.active) in
      absurd (omega (arith, some.soon))
  | inr second ↦
      let front : ℕ = second.front in
      let back = second.held_back in
      let front_due : (a second.front).release + deadline_at ts rank second.front ≤ due = elim (cases_eq second.front some.place) [
        | inl same ↦ subst (λ i. (a i).release + deadline_at ts rank i ≤ due) (sym same) some.soon
        | inr other ↦ let h = sooner_le _ _ _ _ (second.is_first some.place some.of_these other some.active) in omega (arith, some.soon)
      ] in
      let high : rank second.front ≤ level = due_level ts rank start ticks due level a second.front is here row back.of_these (are.rank_below second.front back.of_these) back.active front_due in
      let low : level < rank p = late_level ts rank start ticks due level a p is here row chosen.of_these (record { active = chosen.active; had = second.begun }) late in
      elim (cases_eq p back.holder) [
        | inl same ↦ record { stay = back.stay; is_inside = ap inside same ∙ back.is_inside; lower = low; higher = omega (arith, back.ceiling) }
        | inr other ↦
            let holder = stack.begun back.holder back.stay back.holder_of_these back.is_inside in
            let before = second.first_begun back.holder back.holder_of_these other holder in
            let above = stack.above p back.holder back.stay chosen.of_these back.holder_of_these (record { active = chosen.active; had = second.begun }) back.is_inside before in
            absurd (omega (arith, back.ceiling))
      ]
]
