-- Each tick of the last row is charged to one that is due, or to the one stay that holds the row up.
use Rattle.std.proofs.Common.{◌≡◌, ℕ, zero, suc, ◌+◌, ◌<◌, ◌≤◌, inl, inr, List, length, refl, arith, sym, subst}
use Rattle.std.specs.Prelude.{Option, Some, None}
use Rattle.std.proofs.lemmas.Bool.{cases_lt}
use Rattle.sched_demand.specs.declared.tasks.DemandTask.{DemandTask}
use Rattle.sched_demand.specs.Demand.{task_at}
use Rattle.sched_theorem.specs.Charges.{Charge, Execution, Blocking, ChargedCost}
use Rattle.sched_theorem.specs.Stretches.{Life, Acts, SomeActive, NoneActive, IsCharged, Trace, IsRun, AreCharged, IsStretch}
use Rattle.sched_theorem.specs.Dispatched.{Stay, KeepsStays}
use Rattle.sched_theorem.specs.Placed.{AreRanks}
use Rattle.sched_theorem.proofs.Stretches.{began, active_before_acts}
use Rattle.sched_theorem.proofs.Accounts.{still_active}
use Rattle.sched_demand.specs.Activations.{Activation, Chooses, Moves}
use Rattle.sched_demand.specs.Stacked.{AreStacked}
use Rattle.sched_demand.specs.Earliest.{Run, IsEarliest, deadline_at}
use Rattle.sched_demand.proofs.Stacking.{apart_of}
use Rattle.sched_demand.proofs.Dues.{due_life, is_due, due_le, distinct, stack_before, stack_after, due_trace, cost_at, due_run}
use Rattle.sched_demand.proofs.Rows.{InRow, due_of, row_after, IsLevel, due_level, held_up}
use Rattle.sched_demand.proofs.Holding.{stay_at, short_stay, kept_stay, lost_stay}

-- the lives of those that are due, by rank
abbrev pub lives : List DemandTask → (ℕ → ℕ) → ℕ → (ℕ → Activation) → ℕ → Life
lives ts place due a j = due_life due (task_at ts j).deadline (a (place j))

charge_of : (ts : List DemandTask) (rank place : ℕ → ℕ) (start ticks due level now : ℕ) (a b : ℕ → Activation) (inside inside_after : ℕ → Option Stay) (picked : Option ℕ) → AreRanks (length ts) rank place → IsLevel (length ts) (λ j. (task_at ts j).deadline) ticks level → start + ticks ≡ due → InRow (length ts) (deadline_at ts rank) start due a → AreStacked (length ts) rank (deadline_at ts rank) now a inside → Chooses (length ts) rank (deadline_at ts rank) inside a picked → Moves (length ts) picked a b → KeepsStays (length ts) picked inside inside_after → SomeActive (length ts) (lives ts place due a) → (c : Charge) × IsCharged (length ts) (lives ts place due a) (lives ts place due b) (stay_at (length ts) place inside level) (stay_at (length ts) place inside_after level) c
charge_of ts rank place start ticks due level now a b inside inside_after None are is here row stack chooses moves keeps busy =
    let some = due_of ts rank place due a are busy in
    absurd (chooses some.place some.of_these some.active)
charge_of ts rank place start ticks due level now a b inside inside_after (Some p) are is here row stack chosen moves keeps busy =
    let some = due_of ts rank place due a are busy in
    let below : p < length ts = chosen.of_these in
    elim (cases_lt due ((a p).release + deadline_at ts rank p)) [
      | inl late ↦ (
        Blocking,
        record {
          none_wait = λ j low. refl;
          falls = lost_stay (length ts) rank place inside inside_after level p are below (held_up ts rank place start ticks due level now a inside p are is here row stack some chosen late) keeps;
        },
      )
      | inr soon ↦
          let back = are.back p below in
          let runs = moves.runs p below refl in
          let fall : (due_life due (deadline_at ts rank p) (b p)).run_left + 1 ≤ (due_life due (deadline_at ts rank p) (a p)).run_left = (
          let e = is_due due (deadline_at ts rank p) (a p) soon in
          let h = due_le due (deadline_at ts rank p) (b p) in
          omega (arith, runs.falls)) in
          let P : ℕ → Type 0 = λ i. (due_life due (deadline_at ts rank p) (b i)).run_left + 1 ≤ (due_life due (deadline_at ts rank p) (a i)).run_left in (
            Execution (rank p),
            record {
              of_these = are.rank_below p below;
              falls = subst P (sym back) fall;
              held = λ none. kept_stay (length ts) rank place inside inside_after level p are (due_level ts rank start ticks due level a p is here row below (are.rank_below p below) chosen.active soon) keeps;
            },
          )
    ]

-- ---- the last row

-- a row of ticks up to the due tick, of those that are due
pub record LastRow (ts : List DemandTask) (place : ℕ → ℕ) (due : ℕ) (r : Run) : Type 0 where
  pub start : ℕ
  pub ticks : ℕ
  pub here : start + ticks ≡ due
  pub stretch : IsStretch (length ts) (due_trace ts place due r) start ticks

pub last_row : (ts : List DemandTask) (rank place : ℕ → ℕ) (end due : ℕ) (r : Run) → AreRanks (length ts) rank place → IsEarliest ts rank end r → due ≤ end → SomeActive (length ts) ((due_trace ts place due r).before due) → LastRow ts place due r
last_row ts rank place end zero r are run within late =
    absurd (let h = due_le zero (task_at ts late.0).deadline (r.before zero (place late.0)) in let z = run.idle_first (place late.0) (are.place_below late.0 late.1) in omega (arith, late.2))
last_row ts rank place end (suc last) r are run within late =
    let n = length ts in
    let t = due_trace ts place (suc last) r in
    let of_due = due_run ts rank place end (suc last) r are run in
    let idle_first : NoneActive (length ts) ((due_trace ts place (suc last) r).before 0) = λ j below. let h = due_le (suc last) (task_at ts j).deadline (r.before 0 (place j)) in let z = run.idle_first (place j) (are.place_below j below) in omega arith in
    let busy : SomeActive (length ts) ((due_trace ts place (suc last) r).after last) = active_before_acts (length ts) _ _ (λ j below. of_due.acts last j (omega arith) below) late in
    let b = began (length ts) (cost_at ts) end (due_trace ts place (suc last) r) of_due idle_first last (omega arith) busy in
    record { start = b.start; ticks = suc b.ticks; here = omega (arith, b.here); stretch = b.stretch }

-- somebody is due in each of its ticks
pub busy_row : (ts : List DemandTask) (rank place : ℕ → ℕ) (end due : ℕ) (r : Run) → AreRanks (length ts) rank place → IsEarliest ts rank end r → due ≤ end → (l : LastRow ts place due r) → (x : ℕ) → x < l.ticks → SomeActive (length ts) ((due_trace ts place due r).after (l.start + x))
busy_row ts rank place end due r are run within l x below = elim (cases_lt 0 x) [
  | inr none ↦ let e : l.start ≡ l.start + x = omega arith in let P : ℕ → Type 0 = λ k. SomeActive (length ts) ((due_trace ts place due r).after k) in subst P e l.stretch.busy
  | inl some ↦
      let of_due = due_run ts rank place end due r are run in
      still_active (length ts) (cost_at ts) ((due_trace ts place due r).before (l.start + x)) ((due_trace ts place due r).after (l.start + x)) ((due_trace ts place due r).released (l.start + x)) (λ j low. of_due.opens (l.start + x) j (omega (arith, l.here)) low) (l.stretch.goes_on x some below)
]

pub due_row : (ts : List DemandTask) (rank place : ℕ → ℕ) (end due : ℕ) (r : Run) → AreRanks (length ts) rank place → IsEarliest ts rank end r → due ≤ end → (l : LastRow ts place due r) → (i : ℕ) → i < l.ticks → InRow (length ts) (deadline_at ts rank) l.start due (r.after (l.start + i))
due_row ts rank place end due r are run within l i below =
    row_after ts rank place end due l.start r are run l.stretch.clear i (omega (arith, l.here)) (λ x less. due_of ts rank place due (r.after (l.start + x)) are (busy_row ts rank place end due r are run within l x (omega arith)))

-- ---- the row as a run of its own

abbrev pub shifted : ℕ → Trace → Trace
shifted start t = record { before = λ k. t.before (start + k); after = λ k. t.after (start + k); released = λ k. t.released (start + k) }

pub shifted_run : (n : ℕ) (cost : ℕ → ChargedCost) (end : ℕ) (t : Trace) (start ticks : ℕ) → IsRun n cost end t → start + ticks ≤ end → IsRun n cost ticks (shifted start t)
shifted_run n cost end t start ticks run within = record {
  whole = λ k j low below. run.whole (start + k) j (omega arith) below;
  opens = λ k j low below. run.opens (start + k) j (omega arith) below;
  acts = λ k j low below.
      let e : suc (start + k) ≡ start + suc k = omega arith in
      let P : ℕ → Type 0 = λ i. Acts (t.after (start + k) j) (t.before i j) in
      subst P e (run.acts (start + k) j (omega arith) below);
}

pub shifted_stretch : (n : ℕ) (t : Trace) (start ticks : ℕ) → IsStretch n t start ticks → IsStretch n (shifted start t) 0 ticks
shifted_stretch n t start ticks stretch =
    let e : start ≡ start + 0 = omega arith in
    record {
      some = stretch.some;
      clear = let P : ℕ → Type 0 = λ i. NoneActive n (t.before i) in subst P e stretch.clear;
      busy = let P : ℕ → Type 0 = λ i. SomeActive n (t.after i) in subst P e stretch.busy;
      goes_on = λ k some below.
          let f : k ≡ 0 + k = omega arith in
          let P : ℕ → Type 0 = λ i. SomeActive n (t.before (start + i)) in
          subst P f (stretch.goes_on k some below);
    }

-- what is left of the stay that holds the row up
abbrev pub row_stay : List DemandTask → (ℕ → ℕ) → Run → (start level k : ℕ) → ℕ
row_stay ts place r start level k = stay_at (length ts) place (r.inside (start + k)) level

pub row_charged : (ts : List DemandTask) (rank place : ℕ → ℕ) (end due level : ℕ) (r : Run) → AreRanks (length ts) rank place → IsEarliest ts rank end r → due ≤ end → (l : LastRow ts place due r) → IsLevel (length ts) (λ j. (task_at ts j).deadline) l.ticks level → AreCharged (length ts) (task_at ts level).block l.ticks (shifted l.start (due_trace ts place due r)) (row_stay ts place r l.start level)
row_charged ts rank place end due level r are run within l is = record {
  stays = λ k low.
      let inside_end : l.start + k ≤ end = omega (arith, l.here) in
      let stack = stack_before ts rank place end r are run (l.start + k) inside_end in
      short_stay ts rank place (r.inside (l.start + k)) l.ticks level are (apart_of (length ts) rank (deadline_at ts rank) (l.start + k) (r.before (l.start + k)) (r.inside (l.start + k)) (distinct (length ts) rank place are) stack) (run.short (l.start + k) inside_end) is;
  charged = λ k low busy.
      let below : l.start + k < end = omega (arith, l.here) in
      let e : suc (l.start + k) ≡ l.start + suc k = omega arith in
      let stack = stack_after ts rank place end r are run (l.start + k) below in
      let row = due_row ts rank place end due r are run within l k low in
      let c = charge_of ts rank place l.start l.ticks due level (suc (l.start + k)) (r.after (l.start + k)) (r.before (suc (l.start + k))) (r.inside (l.start + k)) (r.inside (suc (l.start + k))) (r.picked (l.start + k)) are is l.here row stack (run.chooses (l.start + k) below) (run.acts (l.start + k) below) (run.keeps (l.start + k) below) busy in
      let P : ℕ → Type 0 = λ i. (c : Charge) × IsCharged (length ts) (lives ts place due (r.after (l.start + k))) (lives ts place due (r.before i)) (stay_at (length ts) place (r.inside (l.start + k)) level) (stay_at (length ts) place (r.inside i) level) c in
      subst P e c;
}
