-- Runs by ranks go by turns and rows.
use Rattle.std.proofs.Common.{◌≡◌, ◌≤◌, ◌+◌, ◌++◌, inl, inr, ℕ, zero, suc, false, List, [], Some, arith, refl, ap, sym, subst, ◌∙◌, append_assoc}
use Rattle.std.specs.Prelude.{slice_get}
use Rattle.std.proofs.lemmas.Bool.{cases_lt}
use Rattle.base.specs.declared.event.Event.{Event}
use Rattle.machine_semantics.specs.Image.{Image, Script}
use Rattle.machine_semantics.specs.State.{Ready, State}
use Rattle.machine_semantics.specs.Starts.{Started, starts}
use Rattle.machine_semantics.specs.Effect.{Own}
use Rattle.machine_semantics.specs.Tick.{Ticked, pick, tick}
use Rattle.machine_semantics.specs.Run.{events_from, state_at}
use Rattle.vm_stretch.specs.Quiet.{IsQuiet}
use Rattle.vm_stretch.specs.RowLaws.{IsPicked, IsSafeRun, begun}
use Rattle.vm_stretch.specs.Silent.{Leads, with_process}
use Rattle.vm_stretch.specs.Stretch.{left, pass, place_of}
use Rattle.vm_stretch.specs.StretchLaws.{IsTurnOfRun}
use Rattle.vm_stretch.proofs.Quiet.{quiet_starts_nothing}
use Rattle.vm_stretch.proofs.Rowing.{row_is_safe, row_is_turn, row_keeps_events, row_stays_in_run, quiet_with}
use Rattle.vm_stretch.proofs.Runs.{turn_stays_in_run}
use Rattle.vm_turn.proofs.Safely.{Found, picked}
use Rattle.vm_runner.specs.ByRanks.{by_ranks}
use Rattle.vm_runner.specs.Course.{ComeTo, GoesBySteps, IsChosen, IsRow, IsThere, IsTurn}
use Rattle.vm_runner.specs.Course as course
use Rattle.vm_runner.specs.Runnable.{IsRunnable}
use Rattle.vm_runner.proofs.Passing.{none_from, turn_alone}
use Rattle.vm_runner.proofs.Turning.{at_start_is, starts_calm}

-- ---- events

module _ (image : Image) (script : Script) where
  next_state : (t : ℕ) → (tick image script t (state_at image script t)).state ≡ state_at image script (t + 1)
  unfolding state_at
  next_state t = let e : t + 1 ≡ suc t = omega arith in ap (λ (u : ℕ). state_at image script u) (sym e)

  more_events : (n t : ℕ) (s : State) → events_from image script (suc n) t s ≡ (tick image script t s).events ++ events_from image script n (t + 1) (tick image script t s).state
  unfolding events_from
  more_events n t s = refl

  pub cut : (n m t : ℕ) → events_from image script (n + m) t (state_at image script t) ≡ events_from image script n t (state_at image script t) ++ events_from image script m (t + n) (state_at image script (t + n))
  cut zero m t =
      let same : t ≡ t + 0 = omega arith in
      let none : 0 + m ≡ m = omega arith in
      ap (λ (k : ℕ). events_from image script k t (state_at image script t)) none
      ∙ (ap (λ (u : ℕ). events_from image script m u (state_at image script u)) same
      ∙ ap (λ (es : List Event). es ++ events_from image script m (t + 0) (state_at image script (t + 0))) (sym (none_from image script t (state_at image script t))))
  cut (suc n) m t =
      let s : State = state_at image script t in
      let first : List Event = (tick image script t s).events in
      let count : suc n + m ≡ suc (n + m) = omega arith in
      let there : t + 1 + n ≡ t + suc n = omega arith in
      let rest : events_from image script (n + m) (t + 1) (state_at image script (t + 1)) ≡ events_from image script n (t + 1) (state_at image script (t + 1)) ++ events_from image script m (t + 1 + n) (state_at image script (t + 1 + n)) =
      cut n m (t + 1) in
      ap (λ (k : ℕ). events_from image script k t s) count
      ∙ (more_events (n + m) t s
      ∙ (ap (λ (x : State). first ++ events_from image script (n + m) (t + 1) x) (next_state t)
      ∙ (ap (λ (es : List Event). first ++ es) rest
      ∙ (sym (append_assoc first (events_from image script n (t + 1) (state_at image script (t + 1))) (events_from image script m (t + 1 + n) (state_at image script (t + 1 + n))))
      ∙ (ap (λ (x : State). (first ++ events_from image script n (t + 1) x) ++ events_from image script m (t + 1 + n) (state_at image script (t + 1 + n))) (sym (next_state t))
      ∙ (ap (λ (es : List Event). es ++ events_from image script m (t + 1 + n) (state_at image script (t + 1 + n))) (sym (more_events n t s))
      ∙ ap (λ (u : ℕ). events_from image script (suc n) t s ++ events_from image script m u (state_at image script u)) there))))))

-- ---- rows

-- where n ticks have led
pub record HasLed (image : Image) (script : Script) (t n k m : ℕ) (o : Own) (all : Ticked) : Type 0 where
  pub free : all.stuck ≡ false
  pub state : state_at image script (t + n + m) ≡ all.state
  pub events : events_from image script (n + m) t (state_at image script t) ≡ (starts image script t (state_at image script t)).events ++ all.events

has_led : (image : Image) (script : Script) (t most k n m : ℕ) (first o : Own) → IsSafeRun image script → IsPicked image script t most k first → Leads image first n o → 1 ≤ m → m ≤ left image o.job → n + m ≤ most
    → HasLed image script t n k m o (pass image (t + n) m (with_process k o (begun image script t)) (Some k))
has_led image script t most k n m first o safe is leads some fits within =
    let s : State = begun image script t in
    let w : State = with_process k o s in
    let u : ℕ = t + n in
    let at : State = state_at image script u in
    let it = row_is_turn image script t most k first is n o leads (omega (arith, some, within)) m some fits within in
    let stay = turn_stays_in_run image script safe.unstuck u m it.0 in
    let all : Ticked = pass image u m w (Some k) in
    let more : events_from image script m u at ≡ (starts image script u at).events ++ all.events =
    turn_alone image script u m safe it.0 ∙ ap (λ (x : Ticked). (starts image script u at).events ++ x.events) it.1 in
    record {
      free = ap (λ (x : Ticked). x.stuck) (sym it.1) ∙ stay.0;
      state = stay.1 ∙ ap (λ (x : Ticked). x.state) it.1;
      events = elim (cases_lt 0 n) [
        | inl later ↦
            let quiet : IsQuiet image script u w = quiet_with image script u k o s (is.quiet u (omega (arith, later)) (omega (arith, some, within))) in
            let none : (starts image script u at).events ≡ [] =
            ap (λ (x : State). (starts image script u x).events) (row_stays_in_run image script t most k first is n o leads later (omega (arith, within))) ∙ ap (λ (a : Started). a.events) (quiet_starts_nothing image script u w quiet) in
            row_keeps_events image script t most k first is n o leads later (omega (arith, within)) m
            ∙ ap (λ (es : List Event). (starts image script t (state_at image script t)).events ++ es) (more ∙ ap (λ (es : List Event). es ++ all.events) none)
        | inr none ↦
            let same : u ≡ t = omega (arith, none) in
            let count : n + m ≡ m = omega (arith, none) in
            ap (λ (c : ℕ). events_from image script c t (state_at image script t)) count
            ∙ ap (λ (v : ℕ). events_from image script m v (state_at image script v)) (sym same)
            ∙ more
            ∙ ap (λ (v : ℕ). (starts image script v (state_at image script v)).events ++ all.events) same
      ];
    }

module _ (image : Image) (script : Script) where
  there : (t k : ℕ) → place_of (pick image (begun image script t).threads) ≡ Some k → IsThere image (begun image script t) k
  there t k at =
      let s : State = begun image script t in
      let f : Found image.processes s.threads 0 k = picked image s.threads k at in
      let same : f.i ≡ k = omega (arith, f.place_is) in
      record {
        p = f.p;
        process = subst (λ (m : ℕ). slice_get image.processes m ≡ Some f.p) same f.process;
        job = f.job;
        ready = subst (λ (m : ℕ). slice_get s.threads m ≡ Some (Ready f.job)) same f.ready;
      }

  abbrev is_picked : (t budget k : ℕ) (first : Own) → IsChosen (by_ranks image script) t budget k first → IsPicked image script t budget k first
  is_picked t budget k first is = record { p = is.p; process = is.process; picked = is.chosen; ready = is.ready; owned = is.owned; shared = is.shared; quiet = is.quiet }

  turns : IsSafeRun image script → (t n : ℕ) → IsTurn (by_ranks image script) t n → ComeTo (by_ranks image script) t n (course.turn (by_ranks image script) t n)
  turns safe t n is =
      let it : IsTurnOfRun image script t n = record { some = is.some; fits = is.fits; quiet = is.quiet } in
      let stay = turn_stays_in_run image script safe.unstuck t n it in
      record { free = stay.0; state = stay.1; events = turn_alone image script t n safe it }

  rows : IsSafeRun image script → (t n : ℕ) (is : IsRow (by_ranks image script) t n) → ComeTo (by_ranks image script) t n (course.row (by_ranks image script) t n is)
  rows safe t n is =
      let all : is.led + is.m ≡ n = is.all in
      let within : n ≤ is.budget = is.within in
      let l = has_led image script t is.budget is.k is.led is.m is.first is.o safe (is_picked t is.budget is.k is.first is.chosen) is.leads is.some is.fits (omega (arith, all, within)) in
      let there : t + n ≡ t + is.led + is.m = omega (arith, all) in
      record {
        free = l.free;
        state = ap (λ (v : ℕ). state_at image script v) there ∙ l.state;
        events = ap (λ (n : ℕ). events_from image script n t (state_at image script t)) (sym all) ∙ l.events;
      }

  pub goes_by_steps : IsRunnable image script → GoesBySteps (by_ranks image script)
  goes_by_steps runs = record {
    first = at_start_is image script;
    chosen = there;
    turns = turns runs.safe;
    rows = rows runs.safe;
    none = λ t. none_from image script t (state_at image script t);
    cut = cut image script;
    safe = λ t budget k first is burnt. row_is_safe image script t budget k first (is_picked t budget k first is) burnt runs.safe;
    stack = runs.safe.stack;
    early = runs.safe.early;
    calm = λ t before. starts_calm image script t (state_at image script t) runs.calm before refl;
    queued = runs.queued;
    still_queued = runs.still_queued;
    ranks = runs.ranks;
    order = runs.order;
    fits = runs.fits;
    short = runs.short;
  }
