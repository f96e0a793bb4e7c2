-- Ticks at once in a run, and one by one.
use Rattle.std.proofs.Common.{◌≡◌, ◌≤◌, ◌<◌, ◌+◌, ◌-◌, ◌++◌, ℕ, zero, suc, List, Option, Some, None, length, arith, refl, ap, sym, subst, ◌∙◌, true, false, append_assoc}
use Rattle.std.specs.Prelude.{ℤ, slice_get, slice_set, nat_lt}
use Rattle.std.proofs.lemmas.List.{length-set}
use Rattle.std.proofs.lemmas.Bool.Decides.{nat_tests}
use Rattle.base.specs.declared.event.Event.{Event}
use Rattle.machine_isa.specs.declared.instr.Instr.{Instr}
use Rattle.machine_isa.specs.Ticks.{ticks}
use Rattle.machine_semantics.specs.Image.{Image, Process, Script}
use Rattle.machine_semantics.specs.State.{Job, Thread, Ready, State}
use Rattle.machine_semantics.specs.Effect.{Own, Outcome, Goes}
use Rattle.machine_semantics.specs.Starts.{Started, starts, unchanged}
use Rattle.machine_semantics.specs.Tick.{Ticked, owned_of, settle}
use Rattle.vm_stretch.specs.Stretch.{FitsIn, FitsThread, left, left_at, left_of, outcome_at_once, outcomes, pass, pass_thread, place_of}
use Rattle.vm_stretch.specs.Quiet.{AreQuiet, IsQuiet}
use Rattle.vm_stretch.proofs.Quiet.{quiet_starts_nothing}
use Rattle.vm_stretch.proofs.Turning.{Goes_on, goes_on, one_tick}
use Rattle.edf_semantics.specs.Choice.{Mark, choose}
use Rattle.edf_semantics.specs.Run.{Marked, Passed, begin, begin_some, candidate, chosen_at, events_from, marks_during, marks_of, state_at, tick}
use Rattle.edf_semantics.specs.Turn.{IsUnstuck, TurnStaysInRun, begun, chosen, marked, started}
use Rattle.edf_semantics.proofs.Staying.{IsReady, choice_stays, chosen_ready, length_some, marks_few, marks_same, some_twice}

-- ---- one tick

abbrev pub both : State → List Mark → Marked
both s ms = record { state = s; marks = ms }

-- what passes in a tick, of what its start events and the process that runs come to
abbrev pub passed : Started → Ticked → List Mark → Passed
passed a r ms = record { state = both r.state ms; events = a.events ++ r.events; stuck = r.stuck; overrun = a.overrun }

place_candidate : (o : Option ℕ) → place_of (candidate o) ≡ o
place_candidate None = refl
place_candidate (Some k) = refl

pub tick_is : (image : Image) (script : Script) (t : ℕ) (s : Marked)
    → tick image script t s ≡ passed (starts image script t s.state) (pass image t 1 (starts image script t s.state).state (chosen_at image script t s)) (begin_some (chosen_at image script t s) (marks_during image script t s))
unfolding tick
tick_is image script t s =
    let a : Started = starts image script t s.state in
    let who : Option ℕ = chosen_at image script t s in
    let ms : List Mark = begin_some who (marks_during image script t s) in
    ap (λ (r : Ticked). passed a r ms) (one_tick image t a.state (candidate who) ∙ ap (λ (w : Option ℕ). pass image t 1 a.state w) (place_candidate who))

-- a quiet tick of the process that is chosen
pub quiet_tick : (image : Image) (script : Script) (t : ℕ) (s : State) (ms : List Mark) (who : Option ℕ) → IsQuiet image script t s → length ms ≤ length s.threads → choose image s.threads ms ≡ who
    → tick image script t (both s ms) ≡ passed (unchanged s) (pass image t 1 s who) (begin_some who ms)
quiet_tick image script t s ms who quiet few is =
    tick_is image script t (both s ms)
    ∙ ap (λ (a : Started). passed a (pass image t 1 a.state (choose image a.state.threads (marks_of t s.threads a.state.threads ms))) (begin_some (choose image a.state.threads (marks_of t s.threads a.state.threads ms)) (marks_of t s.threads a.state.threads ms))) (quiet_starts_nothing image script t s quiet)
    ∙ ap (λ (xs : List Mark). passed (unchanged s) (pass image t 1 s (choose image s.threads xs)) (begin_some (choose image s.threads xs) xs)) (marks_same t s.threads ms few)
    ∙ ap (λ (w : Option ℕ). passed (unchanged s) (pass image t 1 s w) (begin_some w ms)) is

pub next_state : (image : Image) (script : Script) (t : ℕ) → (tick image script t (state_at image script t)).state ≡ state_at image script (t + 1)
unfolding state_at
next_state image script t = let e : t + 1 ≡ suc t = omega arith in ap (λ (u : ℕ). state_at image script u) (sym e)

pub more_events : (image : Image) (script : Script) (n t : ℕ) (s : Marked) → events_from image script (suc n) t s ≡ (tick image script t s).events ++ events_from image script n (t + 1) (tick image script t s).state
unfolding events_from
more_events image script n t s = refl

-- ---- a tick that is not the last

-- one tick of what it is at, of which more are left, goes on within it
record GoesWithin (image : Image) (s : State) (job : Job) (owned : List ℤ) (b : ℕ) : Type 0 where
  pub o : Own
  pub goes : outcomes image s job owned 1 b ≡ Goes o
  pub inside : o.job.inside ≡ job.inside

goes_within : (image : Image) (s : State) (job : Job) (owned : List ℤ) (b : ℕ) → 1 < left_of b job.done (slice_get image.code job.place) → GoesWithin image s job owned b
goes_within image s job owned (suc b) more = record { o = record { job = record job { dispatch_ticks = suc b - 1 }; owned = owned; shared = s.shared }; goes = refl; inside = refl }
goes_within image s job owned zero more = record { o = record { job = record job { done = job.done + 1 }; owned = owned; shared = s.shared }; goes = by (slice_get image.code job.place) more; inside = refl } where
  by : (at : Option Instr) → 1 < left_at job.done at → outcome_at_once image s job owned 1 at ≡ Goes (record { job = record job { done = job.done + 1 }; owned = owned; shared = s.shared })
  by None low = absurd (omega (arith, low))
  by (Some instr) low =
      let test : nat_lt (job.done + 1) (ticks instr) ≡ true = (let l : job.done + 1 < ticks instr = omega (arith, low) in grind (arith, nat_tests, l)) in
      rw test refl

-- the state after it
one_moves : (image : Image) (t k : ℕ) (s : State) (p : Process) (job : Job) (next : State) → slice_get image.processes k ≡ Some p → slice_get s.threads k ≡ Some (Ready job) → 1 < left image job → (pass image t 1 s (Some k)).state ≡ next
    → (new : Job) × ((new.inside ≡ job.inside) × (next.threads ≡ slice_set s.threads k (Ready new)))
one_moves image t k s p job next process ready more is =
    let words : List ℤ = owned_of (slice_get s.owned k) in
    let g : GoesWithin image s job words job.dispatch_ticks = goes_within image s job words job.dispatch_ticks more in
    let all : pass image t 1 s (Some k) ≡ settle image (t + (1 - 1)) k p job s (Goes g.o) =
    ap (λ (x : Option Process). pass_thread image t 1 k s x (slice_get s.threads k)) process
    ∙ ap (λ (x : Option Thread). pass_thread image t 1 k s (Some p) x) ready
    ∙ ap (λ (r : Outcome). settle image (t + (1 - 1)) k p job s r) g.goes in
    (g.o.job, (g.inside, ap (λ (x : State). x.threads) (sym is) ∙ ap (λ (x : Ticked). x.state.threads) all))

-- the choice stays after it, and marks stay
record Stays (image : Image) (s : State) (ms : List Mark) (who : Option ℕ) (next : State) : Type 0 where
  pub chosen : choose image next.threads (begin_some who ms) ≡ who
  pub few : length (begin_some who ms) ≤ length next.threads

stays : (image : Image) (script : Script) (t n : ℕ) (s : State) (ms : List Mark) (who : Option ℕ) → choose image s.threads ms ≡ who → length ms ≤ length s.threads → 1 ≤ n → FitsIn image (suc n) s who
    → (next : State) → (pass image t 1 s who).state ≡ next → Stays image s ms who next
stays image script t n s ms None is few some fits next same = record {
  chosen = ap (λ (x : State). choose image x.threads ms) (sym same) ∙ is;
  few = subst (λ (x : State). length ms ≤ length x.threads) same few;
}
stays image script t n s ms (Some k) is few some fits next same =
    let r : IsReady image s.threads k = chosen_ready image s.threads ms k is in
    let fits_job : suc n ≤ left image r.job = subst (λ (x : Option Thread). FitsThread image (suc n) x) r.ready fits in
    let m = one_moves image t k s r.p r.job next r.process r.ready (omega (arith, fits_job, some)) same in
    record {
      chosen = ap (λ (ts : List Thread). choose image ts (begin k ms)) m.1.1 ∙ choice_stays image s.threads ms k r.job m.0 r.ready m.1.0 is;
      few = (let a = length_some (Some k) ms in let b = length-set s.threads k (Ready m.0) in let c = ap (λ (ts : List Thread). length ts) m.1.1 in omega (arith, a, b, c, few));
    }

-- ---- more ticks after one whose start events are done

record Reached (image : Image) (script : Script) (t n : ℕ) (s : State) (ms : List Mark) (who : Option ℕ) : Type 0 where
  pub free : (pass image t (suc n) s who).stuck ≡ false
  pub state : state_at image script (t + suc n) ≡ both (pass image t (suc n) s who).state (begin_some who ms)
  pub events : (m : ℕ) → (pass image t 1 s who).events ++ events_from image script (n + m) (t + 1) (state_at image script (t + 1))
      ≡ (pass image t (suc n) s who).events ++ events_from image script m (t + suc n) (state_at image script (t + suc n))

reached : (image : Image) (script : Script) → IsUnstuck image script → (n t : ℕ) (s : State) (ms : List Mark) (who : Option ℕ) → choose image s.threads ms ≡ who → length ms ≤ length s.threads → FitsIn image (suc n) s who → AreQuiet image script t (suc n) s
    → (pass image t 1 s who).stuck ≡ false → state_at image script (t + 1) ≡ both (pass image t 1 s who).state (begin_some who ms) → Reached image script t n s ms who
reached image script safe zero t s ms who is few fits quiet free there = record {
  free = free;
  state = there;
  events = λ m. (let e : 0 + m ≡ m = omega arith in ap (λ (k : ℕ). (pass image t 1 s who).events ++ events_from image script k (t + 1) (state_at image script (t + 1))) e);
}
reached image script safe (suc n) t s ms who is few fits quiet free there =
    let g : Goes_on image script t (suc n) s who = goes_on image script t (suc n) s who (omega arith) fits in
    let next : State = g.next in
    let new : List Mark = begin_some who ms in
    let st : Stays image s ms who next = stays image script t (suc n) s ms who is few (omega arith) fits next (ap (λ (x : Ticked). x.state) g.one) in
    let calm : IsQuiet image script (t + 1) next = g.quiet (t + 1) (quiet (t + 1) (omega arith) (omega arith)) in
    let at : state_at image script (t + 1) ≡ both next new = there ∙ ap (λ (x : Ticked). both x.state new) g.one in
    let ticked : tick image script (t + 1) (state_at image script (t + 1)) ≡ passed (unchanged next) (pass image (t + 1) 1 next who) new =
    ap (λ (x : Marked). tick image script (t + 1) x) at
    ∙ quiet_tick image script (t + 1) next new who calm st.few st.chosen
    ∙ ap (λ (xs : List Mark). passed (unchanged next) (pass image (t + 1) 1 next who) xs) (some_twice who ms) in
    let free' : (pass image (t + 1) 1 next who).stuck ≡ false = sym (ap (λ (x : Passed). x.stuck) ticked) ∙ safe (t + 1) in
    let there' : state_at image script (t + 1 + 1) ≡ both (pass image (t + 1) 1 next who).state (begin_some who new) =
    sym (next_state image script (t + 1)) ∙ ap (λ (x : Passed). x.state) ticked ∙ ap (λ (xs : List Mark). both (pass image (t + 1) 1 next who).state xs) (sym (some_twice who ms)) in
    let r : Reached image script (t + 1) n next new who = reached image script safe n (t + 1) next new who st.chosen st.few g.fits (λ u low high. g.quiet u (quiet u (omega arith) (omega arith))) free' there' in
    let all_free : (pass image t (suc (suc n)) s who).stuck ≡ false = sym g.stuck ∙ r.free in
    let time : t + 1 + suc n ≡ t + suc (suc n) = omega arith in
    record {
      free = all_free;
      state = ap (λ (u : ℕ). state_at image script u) (sym time) ∙ r.state ∙ ap (λ (x : Ticked). both x.state (begin_some who new)) (g.same all_free) ∙ ap (λ (xs : List Mark). both (pass image t (suc (suc n)) s who).state xs) (some_twice who ms);
      events = λ m.
          let count : suc n + m ≡ suc (n + m) = omega arith in
          let after : Marked = state_at image script (t + 1) in
          ap (λ (x : Ticked). x.events ++ events_from image script (suc n + m) (t + 1) after) g.one
          ∙ ap (λ (k : ℕ). events_from image script k (t + 1) after) count
          ∙ more_events image script (n + m) (t + 1) after
          ∙ ap (λ (x : Passed). x.events ++ events_from image script (n + m) (t + 1 + 1) (tick image script (t + 1) after).state) ticked
          ∙ ap (λ (x : Marked). (pass image (t + 1) 1 next who).events ++ events_from image script (n + m) (t + 1 + 1) x) (next_state image script (t + 1))
          ∙ r.events m
          ∙ ap (λ (x : Ticked). x.events ++ events_from image script m (t + 1 + suc n) (state_at image script (t + 1 + suc n))) (g.same all_free)
          ∙ ap (λ (u : ℕ). (pass image t (suc (suc n)) s who).events ++ events_from image script m u (state_at image script u)) time;
    }

-- ---- the law

pub turn_stays_in_run : TurnStaysInRun
turn_stays_in_run image script safe t zero it = absurd (let some = it.some in omega (arith, some))
turn_stays_in_run image script safe t (suc n) it =
    let s : State = begun image script t in
    let ms : List Mark = marked image script t in
    let who : Option ℕ = chosen image script t in
    let at : Marked = state_at image script t in
    let ticked : tick image script t at ≡ passed (starts image script t at.state) (pass image t 1 s who) (begin_some who ms) = tick_is image script t at in
    let r : Reached image script t n s ms who =
    reached image script safe n t s ms who refl (marks_few t at.state.threads s.threads at.marks) it.fits it.quiet (sym (ap (λ (x : Passed). x.stuck) ticked) ∙ safe t) (sym (next_state image script t) ∙ ap (λ (x : Passed). x.state) ticked) in
    record {
      free = r.free;
      state = r.state;
      events = λ m.
          let count : suc n + m ≡ suc (n + m) = omega arith in
          let now : List Event = started image script t in
          let one : List Event = (pass image t 1 s who).events in
          let all : List Event = (pass image t (suc n) s who).events in
          ap (λ (k : ℕ). events_from image script k t at) count
          ∙ more_events image script (n + m) t at
          ∙ ap (λ (x : Passed). x.events ++ events_from image script (n + m) (t + 1) (tick image script t at).state) ticked
          ∙ ap (λ (x : Marked). (now ++ one) ++ events_from image script (n + m) (t + 1) x) (next_state image script t)
          ∙ append_assoc now one (events_from image script (n + m) (t + 1) (state_at image script (t + 1)))
          ∙ ap (λ (es : List Event). now ++ es) (r.events m)
          ∙ sym (append_assoc now all (events_from image script m (t + suc n) (state_at image script (t + suc n))));
    }
