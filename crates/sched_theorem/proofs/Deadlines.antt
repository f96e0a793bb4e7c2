-- The demand of a stretch by its end, where only activations with deadlines by then count.
use Rattle.std.proofs.Common.{◌≡◌, ℕ, zero, suc, ◌+◌, ◌-◌, ◌/◌, ◌<◌, ◌≤◌, inl, inr, arith, ap, sym, subst}
use Rattle.std.specs.Prelude.{Bool, true, cond}
use Rattle.std.proofs.lemmas.Bool.{cases_lt, lt-ltb, le-ltb}
use Rattle.sched_theorem.specs.Charges.{total, ChargedCost}
use Rattle.sched_theorem.specs.Stretches.{SomeActive, NoneActive, Trace, IsRun, AreCharged, Spaced, releases}
use Rattle.sched_theorem.specs.Deadlines.{due_in, IsDueBy, AsksMore}
use Rattle.sched_theorem.proofs.Totals.{total_of_some}
use Rattle.sched_theorem.proofs.Releases.{releases_until, no_releases}
use Rattle.sched_theorem.proofs.Stretches.{within_claims, claims_mono, not_both, active_before_acts, began}

-- releases whose deadlines are within the ticks
few_due : (frame deadline end : ℕ) (released : ℕ → Bool) (start ticks : ℕ) → 0 < frame → Spaced frame end released → start + ticks ≤ end → ((k : ℕ) → released k ≡ true → k + deadline ≤ start + ticks) → releases released start ticks ≤ due_in ticks frame deadline
few_due frame deadline end released start ticks pos spaced within due = elim (cases_lt ticks deadline) [
  | inl late ↦
      let none = no_releases released start ticks (λ k below is. let h = due (start + k) is in absurd (omega arith)) in
      let e = ap (λ b. cond b 0 ((ticks - deadline) / frame + 1)) (lt-ltb ticks deadline late) in
      omega arith
  | inr soon ↦
      let few = releases_until frame end released start ticks (ticks - deadline) pos spaced within (λ k below is. let h = due (start + k) is in omega arith) in
      let e = ap (λ b. cond b 0 ((ticks - deadline) / frame + 1)) (le-ltb ticks deadline soon) in
      omega arith
]

-- a run in which somebody is active at the due tick
pub missed_asks_more : (n : ℕ) (cost : ℕ → ChargedCost) (frame deadline : ℕ → ℕ) (most end due : ℕ) (t : Trace) (stay : ℕ → ℕ) → IsRun n cost end t → AreCharged n most end t stay → IsDueBy n frame deadline end due t → NoneActive n (t.before 0) → due ≤ end → SomeActive n (t.before due) → AsksMore n cost frame deadline most due t
missed_asks_more n cost frame deadline most end zero t stay run charged is_due idle_first within late = absurd (not_both n (t.before 0) late idle_first)
missed_asks_more n cost frame deadline most end (suc last) t stay run charged is_due idle_first within late =
    let busy : SomeActive n (t.after last) = active_before_acts n (t.after last) (t.before (suc last)) (λ j below. run.acts last j (omega arith) below) late in
    let b = began n cost end t run idle_first last (omega arith) busy in
    let here : b.start + suc b.ticks ≡ suc last = omega (arith, b.here) in
    let h = within_claims n cost most end t stay b.start (suc b.ticks) run charged b.stretch (omega arith) in
    let P : ℕ → Type 0 = λ k. SomeActive n (t.before k) in
    let left : 1 ≤ total n (λ j. (t.before (b.start + suc b.ticks) j).run_left) = total_of_some n (λ j. (t.before (b.start + suc b.ticks) j).run_left) (subst P (sym here) late) in
    let m = claims_mono n (λ j. releases (λ k. t.released k j) b.start (suc b.ticks)) (λ j. due_in (suc b.ticks) (frame j) (deadline j)) cost most (λ j below. few_due (frame j) (deadline j) end (λ k. t.released k j) b.start (suc b.ticks) (is_due.framed j below) (is_due.spaced j below) (omega arith) (λ k is. let d = is_due.dated k j below is in omega arith)) in
    record { start = b.start; ticks = suc b.ticks; here = here; stretch = b.stretch; more = omega arith }
