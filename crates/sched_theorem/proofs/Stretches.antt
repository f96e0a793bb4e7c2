-- No busy stretch is longer than a solution of the recurrence.
use Rattle.std.proofs.Common.{◌≡◌, ℕ, zero, suc, ◌+◌, ◌*◌, ◌<◌, ◌≤◌, ◌⊎◌, inl, inr, arith, subst}
use Rattle.std.proofs.lemmas.Bool.{cases_lt}
use Rattle.std.proofs.Math.Nat.{mul-le-mul_right}
use Rattle.sched_theorem.specs.Charges.{total, ChargedCost, claim, claims}
use Rattle.sched_theorem.specs.Stretches.{Life, Acts, NoneActive, SomeActive, Trace, IsRun, AreCharged, releases, IsStretch, Began}
use Rattle.sched_theorem.proofs.Totals.{total_mono, total_some, none_of_total}
use Rattle.sched_theorem.proofs.Counting.{counting}
use Rattle.sched_theorem.proofs.Accounts.{account_of, paid_of}

-- the ticks of a stretch and the execution that is left are within one stay and what its activations ask for
pub within_claims : (n : ℕ) (cost : ℕ → ChargedCost) (most end : ℕ) (t : Trace) (stay : ℕ → ℕ) (start ticks : ℕ) → IsRun n cost end t → AreCharged n most end t stay → IsStretch n t start ticks → start + ticks ≤ end → ticks + total n (λ j. (t.before (start + ticks) j).run_left) ≤ most + claims n (λ j. releases (λ k. t.released k j) start ticks) cost most
within_claims n cost most end t stay start ticks run charged stretch within =
    let a = account_of n cost most end t stay start run charged stretch.clear stretch.busy ticks within stretch.goes_on in
    let count = λ (j : ℕ). releases (λ k. t.released k j) start ticks in
    let paid = paid_of n cost most count a.charges (t.before (start + ticks)) (stay (start + ticks)) a.ended a.account in
    let counted = counting n count cost most (1 + a.ended) (total n (λ j. (t.before (start + ticks) j).run_left)) a.charges paid in
    omega (arith, a.many)

-- more activations ask for more
pub claims_mono : (n : ℕ) (count counts : ℕ → ℕ) (cost : ℕ → ChargedCost) (stay : ℕ) → ((j : ℕ) → j < n → count j ≤ counts j) → claims n count cost stay ≤ claims n counts cost stay
claims_mono n count counts cost stay each = total_mono n (λ j. count j * claim stay (cost j)) (λ j. counts j * claim stay (cost j)) (λ j below. mul-le-mul_right (claim stay (cost j)) (each j below))

-- where so many ticks are as many as a stay and what is asked for in them, nobody is active after them
pub cleared : (n : ℕ) (cost : ℕ → ChargedCost) (most end : ℕ) (t : Trace) (stay : ℕ → ℕ) (start ticks : ℕ) (counts : ℕ → ℕ) → IsRun n cost end t → AreCharged n most end t stay → IsStretch n t start ticks → start + ticks ≤ end → ((j : ℕ) → j < n → releases (λ k. t.released k j) start ticks ≤ counts j) → most + claims n counts cost most ≤ ticks → NoneActive n (t.before (start + ticks))
cleared n cost most end t stay start ticks counts run charged stretch within few solves =
    let h = within_claims n cost most end t stay start ticks run charged stretch within in
    let m = claims_mono n (λ j. releases (λ k. t.released k j) start ticks) counts cost most few in
    none_of_total n (λ j. (t.before (start + ticks) j).run_left) (omega arith)

-- somebody or nobody
pub cases_active : (n : ℕ) (lives : ℕ → Life) → SomeActive n lives ⊎ NoneActive n lives
cases_active n lives = elim (cases_lt 0 (total n (λ j. (lives j).run_left))) [
  | inl some ↦ inl (total_some n (λ j. (lives j).run_left) some)
  | inr none ↦ inr (none_of_total n (λ j. (lives j).run_left) (omega arith))
]

pub not_both : (n : ℕ) (lives : ℕ → Life) → SomeActive n lives → NoneActive n lives → ⊥
not_both n lives some none = let e = none some.0 some.1 in omega (arith, some.2)

-- so no stretch is longer
pub no_longer : (n : ℕ) (cost : ℕ → ChargedCost) (most end : ℕ) (t : Trace) (stay : ℕ → ℕ) (start ticks bound : ℕ) (counts : ℕ → ℕ) → IsRun n cost end t → AreCharged n most end t stay → IsStretch n t start ticks → start + ticks ≤ end → 0 < bound → (start + bound ≤ end → (j : ℕ) → j < n → releases (λ k. t.released k j) start bound ≤ counts j) → most + claims n counts cost most ≤ bound → ticks ≤ bound
no_longer n cost most end t stay start ticks bound counts run charged stretch within pos few solves = elim (cases_lt bound ticks) [
  | inr le ↦ le
  | inl lt ↦
      let first : IsStretch n t start bound = record { some = pos; clear = stretch.clear; busy = stretch.busy; goes_on = λ k some below. stretch.goes_on k some (omega arith) } in
      let none = cleared n cost most end t stay start bound counts run charged first (omega arith) (few (omega arith)) solves in
      absurd (not_both n (t.before (start + bound)) (stretch.goes_on bound pos lt) none)
]

-- nobody who was idle is active after the acts of a tick
pub active_before_acts : (n : ℕ) (a b : ℕ → Life) → ((j : ℕ) → j < n → Acts (a j) (b j)) → SomeActive n b → SomeActive n a
active_before_acts n a b acts some = (some.0, some.1, omega (arith, (acts some.0 some.1).run, some.2))

-- each busy tick belongs to a stretch
pub began : (n : ℕ) (cost : ℕ → ChargedCost) (end : ℕ) (t : Trace) → IsRun n cost end t → NoneActive n (t.before 0) → (tick : ℕ) → tick < end → SomeActive n (t.after tick) → Began n t tick
began n cost end t run idle_first zero within busy = record {
  start = 0;
  ticks = 0;
  here = omega arith;
  stretch = record { some = omega arith; clear = idle_first; busy = busy; goes_on = λ k some below. absurd (omega arith) };
}
began n cost end t run idle_first (suc tick) within busy = elim (cases_active n (t.before (suc tick))) [
  | inr clear ↦ record {
    start = suc tick;
    ticks = 0;
    here = omega arith;
    stretch = record { some = omega arith; clear = clear; busy = busy; goes_on = λ k some below. absurd (omega arith) };
  }
  | inl active ↦
      let acts : (j : ℕ) → j < n → Acts (t.after tick j) (t.before (suc tick) j) = λ j below. run.acts tick j (omega arith) below in
      let was = began n cost end t run idle_first tick (omega arith) (active_before_acts n (t.after tick) (t.before (suc tick)) acts active) in
      let e : suc tick ≡ was.start + suc was.ticks = omega (arith, was.here) in
      let P : ℕ → Type 0 = λ k. SomeActive n (t.before k) in
      let last : SomeActive n (t.before (was.start + suc was.ticks)) = subst P e active in
      record {
        start = was.start;
        ticks = suc was.ticks;
        here = omega (arith, was.here);
        stretch = record {
          some = omega arith;
          clear = was.stretch.clear;
          busy = was.stretch.busy;
          goes_on = λ k some below. elim (cases_lt k (suc was.ticks)) [
            | inl low ↦ was.stretch.goes_on k some low
            | inr high ↦ let same : suc was.ticks ≡ k = omega arith in let Q : ℕ → Type 0 = λ i. SomeActive n (t.before (was.start + i)) in subst Q same last
          ];
        };
      }
]
