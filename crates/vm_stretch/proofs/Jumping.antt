-- Jumps from one due tick to the next.
use Rattle.std.proofs.lemmas.Nat.{mod-mul-add, div-add-mod'}
use Rattle.std.proofs.Common.{◌≡◌, ◌≢◌, ◌≤◌, ◌<◌, ◌+◌, ◌-◌, ◌*◌, ◌/◌, ◌%◌, ◌++◌, inl, inr, ℕ, List, [], ◌∷◌, Option, Some, None, length, drop, arith, refl, ap, sym, subst, ◌∙◌, true, false, Bool, append_assoc}
use Rattle.std.specs.Prelude.{slice_get, nat_eq, nat_le, ◌&&◌}
use Rattle.std.proofs.lemmas.Bool.{cases_Bool, cases_lt, cases_eq}
use Rattle.std.proofs.lemmas.Bool.Decides.{nat_tests}
use Rattle.std.proofs.lemmas.Option.{slice_get_within, slice_get-get_or}
use Rattle.base.proofs.Lists.{some_at, get_drop}
use Rattle.base.specs.declared.event.Event.{Event}
use Rattle.machine_semantics.specs.Image.{Image, Process, Script, Line}
use Rattle.machine_semantics.specs.State.{Job, Thread, Waiting, State}
use Rattle.machine_semantics.specs.Starts.{is_periodic_due}
use Rattle.machine_semantics.specs.Run.{at_start, events, events_from}
use Rattle.vm_stretch.specs.Quiet.{IsQuiet, AreQuiet, line_tick}
use Rattle.vm_stretch.specs.StretchLaws.{IsTurn, turn, turned, turn_events}
use Rattle.vm_stretch.specs.StretchDue.{AreInOrder, ByTurns, Ends, Turns, HasSlots, IsNextRelease, NextIsAFrameLater, NoneBefore, SlotsAreQuiet, TurnsAreTheRun, first_tick, time_out_of}
use Rattle.vm_stretch.proofs.Runs.{turn_keeps_events}

turns_from : (image : Image) (script : Script) (t : ℕ) (s : State) (es : List Event) → ByTurns image script t s es → es ≡ events_from image script (script.end_tick - t) t s
unfolding events_from
turns_from image script t s es (Ends s') = let e : script.end_tick - script.end_tick ≡ 0 = omega arith in sym (ap (λ (n : ℕ). events_from image script n script.end_tick s') e)
turns_from image script t s es (Turns t' n s' more is within free rest) =
    let count : script.end_tick - t' ≡ n + (script.end_tick - (t' + n)) = omega arith in
    ap (λ (xs : List Event). turn_events image script t' n s' ++ xs) (turns_from image script (t' + n) (turned image script t' n s') more rest)
    ∙ sym (turn_keeps_events image script t' n (script.end_tick - (t' + n)) s' is free)
    ∙ ap (λ (m : ℕ). events_from image script m t' s') (sym count)

pub turns_are_the_run : TurnsAreTheRun
unfolding events
turns_are_the_run image script es turns =
    let e : script.end_tick - 0 ≡ script.end_tick = omega arith in
    turns_from image script 0 (at_start image) es turns ∙ ap (λ (n : ℕ). events_from image script n 0 (at_start image)) e

-- ---- slots

lines_quiet : (t n done : ℕ) (ls : List Line) (u i : ℕ) (l : Line) → ((i : ℕ) (l : Line) → slice_get ls i ≡ Some l → i < done → line_tick l ≤ t) → AreInOrder ls → ((r : ℕ) → first_tick (drop done ls) ≡ Some r → t + n ≤ r)
    → t < u → u < t + n → slice_get ls i ≡ Some l → line_tick l ≢ u
lines_quiet t n done ls u i l past order least low high at same =
    elim (cases_lt i done) [
      | inl early ↦ absurd (let le = past i l at early in omega arith)
      | inr late ↦
          let count : done + 0 ≡ done = omega arith in
          by_first (drop done ls) refl late
    ] where
      by_first : (rest : List Line) → drop done ls ≡ rest → done ≤ i → ⊥
      by_first [] is late =
          let e : done + (i - done) ≡ i = omega arith in
          let none : slice_get (drop done ls) (i - done) ≡ Some l = get_drop ls done (i - done) ∙ ap (λ (k : ℕ). slice_get ls k) e ∙ at in
          let no : slice_get [] (i - done) ≡ Some l = subst (λ (xs : List Line). slice_get xs (i - done) ≡ Some l) is none in cc
      by_first (m ∷ more) is late =
          let first : slice_get ls (done + 0) ≡ Some m = sym (get_drop ls done 0) ∙ ap (λ (xs : List Line). slice_get xs 0) is in
          let e : done + 0 ≡ done = omega arith in
          let first' : slice_get ls done ≡ Some m = subst (λ (k : ℕ). slice_get ls k ≡ Some m) e first in
          let le : t + n ≤ line_tick m = least (line_tick m) (ap (λ (xs : List Line). first_tick xs) is) in
          let up : line_tick m ≤ line_tick l = order done i m l first' at late in
          omega (arith, same, le, up)

release_quiet : (t u v : ℕ) (p : Process) (tick : Option ℕ) → IsNextRelease t p tick → ((r : ℕ) → tick ≡ Some r → v ≤ r) → t < u → u < v → is_periodic_due u p ≡ false
release_quiet t u v p (Some r) next least low high = next.2 u low (let le = least r refl in omega arith)
release_quiet t u v p None next least low high = next u low

pub slots_are_quiet : SlotsAreQuiet
slots_are_quiet image script t n done s slots has none u low high = record {
  lines = λ i l at. lines_quiet t n done script.lines u i l has.past has.order (λ r is. none (2 * length image.processes) r (has.line ∙ ap (λ (x : Option ℕ). Some x) is)) low high at;
  releases = λ k p at.
      let slot = some_at slots k (let within = slice_get_within image.processes k p at in omega (arith, has.count)) in
      release_quiet t u (t + n) p slot.0 (has.releases k p slot.0 at slot.1) (λ r is. none k r (slot.1 ∙ ap (λ (x : Option ℕ). Some x) is)) low high;
  waits = λ k c e job at.
      let below : k < length image.processes = has.threads k (Waiting c u e job) at in
      let slot = some_at slots (length image.processes + k) (omega (arith, has.count)) in
      let due : slot.0 ≡ Some u = has.waits k slot.0 below slot.1 ∙ ap (λ (x : Option Thread). time_out_of x) at in
      let le : t + n ≤ u = none (length image.processes + k) u (slot.1 ∙ ap (λ (x : Option ℕ). Some x) due) in
      omega arith;
}

-- ---- releases

record IsDue (t : ℕ) (p : Process) : Type 0 where
  pub kind : nat_eq p.kind 0 ≡ true
  pub begun : p.first ≤ t
  pub whole : (t - p.first) % p.frame ≡ 0

is_due : (t : ℕ) (p : Process) → is_periodic_due t p ≡ true → IsDue t p
is_due t p is = record { kind = grind (arith, nat_tests, is); begun = grind (arith, nat_tests, is); whole = grind (arith, nat_tests, is) }

due_is : (t : ℕ) (p : Process) → IsDue t p → is_periodic_due t p ≡ true
due_is t p due = let k = due.kind in let b = due.begun in let w = due.whole in grind (arith, nat_tests)

pub next_is_a_frame_later : NextIsAFrameLater
next_is_a_frame_later t p some is =
    let due : IsDue t p = is_due t p is in
    let since : ℕ = t - p.first in
    let q : ℕ = since / p.frame in
    let whole : since ≡ q * p.frame = omega (arith, div-add-mod' since p.frame, due.whole) in (
      due_is (t + p.frame) p (record {
        kind = due.kind;
        begun = let b = due.begun in omega arith;
        whole =
            let split : t + p.frame - p.first ≡ (q + 1) * p.frame + 0 = let b = due.begun in omega (arith, whole) in
            ap (λ (x : ℕ). x % p.frame) split ∙ mod-mul-add (q + 1) p.frame 0 some;
      }),
      omega arith,
      λ u low high.
          elim (cases_Bool (is_periodic_due u p)) [
            | inr isnt ↦ isnt
            | inl also ↦
                let other : IsDue u p = is_due u p also in
                let split : u - p.first ≡ q * p.frame + (u - t) = let b = due.begun in omega (arith, whole) in
                let rem : (u - p.first) % p.frame ≡ u - t = ap (λ (x : ℕ). x % p.frame) split ∙ mod-mul-add q p.frame (u - t) (omega arith) in
                absurd (omega (arith, rem, other.whole))
          ],
    )
