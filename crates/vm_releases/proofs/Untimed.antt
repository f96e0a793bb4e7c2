-- A tick at which no wait times out.
use Rattle.std.proofs.Common.{◌≡◌, ◌≢◌, ◌≤◌, ◌<◌, ◌+◌, ◌*◌, ◌++◌, inl, inr, ℕ, zero, suc, List, [], ◌∷◌, Option, Some, None, Bool, true, false, length, arith, refl, ap, sym, ◌∙◌}
use Rattle.std.specs.Prelude.{slice_get, cond, nat_eq}
use Rattle.std.proofs.lemmas.Bool.{cases_lt}
use Rattle.std.proofs.lemmas.List.{append-nil}
use Rattle.std.proofs.lemmas.Option.{slice_get_within}
use Rattle.base.proofs.Lists.{some_at}
use Rattle.base.specs.declared.event.Event.{Event}
use Rattle.machine_semantics.specs.Image.{Image, Process}
use Rattle.machine_semantics.specs.State.{State, Thread}
use Rattle.machine_semantics.specs.Starts.{Started, at_rank, time_out, time_outs, unchanged}
use Rattle.vm_stretch.specs.Due.{least}
use Rattle.vm_stretch.specs.Steps.{HasStarted, HasWaits}
use Rattle.vm_stretch.specs.StretchDue.{NoneBefore, time_out_of}
use Rattle.vm_stretch.specs.StartLawsDue.{moved_on}
use Rattle.vm_stretch.proofs.Parting.{none_then, time_out_none}
use Rattle.vm_stretch.proofs.Waiting.{due_of}
use Rattle.vm_releases.specs.Begin.{MovedBelow, WaitsAlone}
use Rattle.vm_releases.proofs.Least.{none_up_to}

-- ---- no wait is due

either : (b : Bool) (s : State) (a : Started) → a ≡ unchanged s → cond b a (unchanged s) ≡ unchanged s
either true s a none = none
either false s a none = refl

at_rank_rests : (image : Image) (t rank k : ℕ) (ps : List Process) (s : State) → ((j : ℕ) → due_of j s ≢ Some t) → at_rank image t rank k ps s ≡ unchanged s
at_rank_rests image t rank k [] s none = refl
at_rank_rests image t rank k (p ∷ ps) s none =
    let here : Started = time_out image t k p s (slice_get s.threads k) in
    none_then s (cond (nat_eq p.rank rank) here (unchanged s)) (at_rank image t rank (k + 1) ps) (either (nat_eq p.rank rank) s here (time_out_none image t k p s (none k))) ∙ at_rank_rests image t rank (k + 1) ps s none

time_outs_rest : (image : Image) (t rank n : ℕ) (s : State) → ((j : ℕ) → due_of j s ≢ Some t) → time_outs image t rank n s ≡ unchanged s
time_outs_rest image t rank zero s none = refl
time_outs_rest image t rank (suc n) s none =
    none_then s (at_rank image t rank 0 image.processes s) (time_outs image t (rank + 1) n) (at_rank_rests image t rank 0 image.processes s none) ∙ time_outs_rest image t (rank + 1) n s none

-- ---- slots once the releases are done

-- a slot that is moved on is not late
moved_late : (t frame : ℕ) (tick : Option ℕ) (r : ℕ) → ((u : ℕ) → tick ≡ Some u → t ≤ u) → moved_on t (Some (t + frame)) tick ≡ Some r → t ≤ r
moved_late t frame None r late is = absurd cc
moved_late t frame (Some u) r late is = by (nat_eq u t) is where
  by : (b : Bool) → cond b (Some (t + frame)) (Some u) ≡ Some r → t ≤ r
  by true same = let sum : t + frame ≡ r = cc in omega (arith, sum)
  by false same = let stays : u ≡ r = cc in (let low = late u refl in omega (arith, low, stays))

module _ (image : Image) (t : ℕ) (slots moved : List (Option ℕ)) (count : length slots ≡ 2 * length image.processes + 1) (late : NoneBefore t slots) (below : MovedBelow image t (length image.processes) slots moved) (differ : least moved ≢ Some t) where
  none_late : NoneBefore t moved
  none_late i r slot = elim (cases_lt i (length image.processes)) [
    | inl low ↦
        let p = some_at image.processes i low in
        let old = some_at slots i (omega (arith, low, count)) in
        let both : Some (moved_on t (Some (t + p.0.frame)) old.0) ≡ Some (Some r) = sym (below.moved i p.0 old.0 low p.1 old.1) ∙ slot in
        let is : moved_on t (Some (t + p.0.frame)) old.0 ≡ Some r = cc in
        moved_late t p.0.frame old.0 r (λ u same. late i u (old.1 ∙ ap (λ (x : Option ℕ). Some x) same)) is
    | inr high ↦ late i r (sym (below.others i high) ∙ slot)
  ]

  module _ (s : State) (waits : HasWaits (length image.processes) s moved) (threads : length s.threads ≡ length image.processes) where
    no_wait : (k : ℕ) → due_of k s ≢ Some t
    no_wait k due =
        let n = length image.processes in
        let low : k < n = within (slice_get s.threads k) refl due in
        let tick = some_at moved (n + k) (omega (arith, low, count, below.count)) in
        let same : tick.0 ≡ Some t = waits k tick.0 low tick.1 ∙ due in
        let past = none_up_to moved t none_late differ (n + k) t (tick.1 ∙ ap (λ (x : Option ℕ). Some x) same) in
        omega (arith, past) where
          within : (o : Option Thread) → slice_get s.threads k ≡ o → time_out_of o ≡ Some t → k < length image.processes
          within None is due = absurd cc
          within (Some x) is due = let low = slice_get_within s.threads k x is in omega (arith, low, threads)

    -- the time-outs of the tick are none
    pub untimed_started : (es : List Event) → HasStarted (time_outs image t 1 (length image.processes)) s es s es
    untimed_started es =
        let none = time_outs_rest image t 1 (length image.processes) s no_wait in
        record {
          state = sym (ap (λ (x : Started). x.state) none);
          events = sym (ap (λ (x : Started). es ++ x.events) none ∙ append-nil es);
          calm = ap (λ (x : Started). x.overrun) none;
        }

pub none_alone : (n : ℕ) (slots : List (Option ℕ)) → WaitsAlone n slots slots
none_alone n slots = record {
  count = refl;
  releases = λ k lt. refl;
  line = refl;
}
