-- The thread of a process before a tick, after its start events, and after the tick.
use Rattle.std.proofs.Common.{◌≡◌, ◌<◌, ◌⊎◌, inl, inr, ℕ, suc, List, Option, Some, None, length, arith, refl, ap, sym, subst, ◌∙◌, true, false, Bool}
use Rattle.std.specs.Prelude.{slice_get}
use Rattle.std.proofs.lemmas.Option.{slice_get_within}
use Rattle.base.proofs.Lists.{some_at}
use Rattle.base.specs.declared.event.Event.{Event}
use Rattle.machine_semantics.specs.Image.{Image, Process, Script}
use Rattle.machine_semantics.specs.State.{Job, Thread, Idle, Ready, Waiting, State}
use Rattle.machine_semantics.specs.Starts.{released}
use Rattle.machine_semantics.specs.Tick.{pick, run_picked, tick}
use Rattle.machine_semantics.specs.Run.{state_at}
use Rattle.machine_semantics.specs.Walk.{Where}
use Rattle.machine_semantics.specs.Safe.{Parts, ImageFits}
use Rattle.machine_semantics.specs.Whole.{StateFits}
use Rattle.machine_semantics.specs.Work.{runs}
use Rattle.machine_safety.proofs.Running.{state_fits}
use Rattle.machine_safety.proofs.Starting.{starts_keep}
use Rattle.machine_safety.proofs.Suspending.{IsWoken}
use Rattle.sched_timing.specs.Views.{during, is_due}
use Rattle.sched_timing.proofs.Begun.{TimesOut, maybe_released, begun}
use Rattle.sched_timing.proofs.Turns.{Turn, Turned, passes}

pub next_state : (image : Image) (script : Script) (t : ℕ) → state_at image script (suc t) ≡ (tick image script t (state_at image script t)).state
unfolding state_at
next_state image script t = refl

-- ---- what the start events do

-- a process that is idle is released where that is due, else it stays idle; any other is not idle after them
abbrev pub Opening : Image → Process → (due : Bool) → (old new : Thread) → Type 0
Opening image p true Idle new = new ≡ Ready (released image p)
Opening image p false Idle new = new ≡ Idle
Opening image p due (Ready job) new = new ≡ Ready job
Opening image p due (Waiting c d number job) new = (new ≡ Waiting c d number job) ⊎ ((after : Job) × (new ≡ Ready after) × (after.inside ≡ None))

opening : (image : Image) (p : Process) (due : Bool) (old new : Thread) → TimesOut (maybe_released image p due (Some old)) (Some new) → Opening image p due old new
opening image p true Idle new is = cc
opening image p false Idle new is = cc
opening image p true (Ready job) new is = cc
opening image p false (Ready job) new is = cc
opening image p true (Waiting c d number job) new (inl is) = inl (cc)
opening image p true (Waiting c d number job) new (inr is) = inr (is.0, (let at : Some new ≡ Some (Ready is.0) = is.1 in cc), is.2)
opening image p false (Waiting c d number job) new (inl is) = inl (cc)
opening image p false (Waiting c d number job) new (inr is) = inr (is.0, (let at : Some new ≡ Some (Ready is.0) = is.1 in cc), is.2)

-- ---- the tick of a process

module _ (e : Where) (ps : ℕ → Parts) (image_fits : ImageFits e ps) (script : Script) where
  abbrev pub before : ℕ → State
  before t = state_at e.image script t

  abbrev pub middle : ℕ → State
  middle t = during e.image script t

  pub fits_before : (t : ℕ) → StateFits e ps (before t)
  fits_before t = state_fits e ps script t image_fits

  pub fits_middle : (t : ℕ) → StateFits e ps (middle t)
  fits_middle t = starts_keep e ps image_fits script t (before t) (fits_before t)

  -- the threads of process k about tick t
  pub record Threads (t k : ℕ) (p : Process) : Type 0 where
    pub old : Thread
    pub mid : Thread
    pub new : Thread
    pub at_old : slice_get (before t).threads k ≡ Some old
    pub at_mid : slice_get (middle t).threads k ≡ Some mid
    pub at_new : slice_get (before (suc t)).threads k ≡ Some new
    pub opens : Opening e.image p (is_due script t p) old mid

  pub threads : (t k : ℕ) (p : Process) → slice_get e.image.processes k ≡ Some p → Threads t k p
  threads t k p process =
      let below : k < length e.image.processes = slice_get_within e.image.processes k p process in
      let o : (th : Thread) × (slice_get (before t).threads k ≡ Some th) = some_at (before t).threads k (omega (arith, below, (fits_before t).many)) in
      let m : (th : Thread) × (slice_get (middle t).threads k ≡ Some th) = some_at (middle t).threads k (omega (arith, below, (fits_middle t).many)) in
      let n : (th : Thread) × (slice_get (before (suc t)).threads k ≡ Some th) = some_at (before (suc t)).threads k (omega (arith, below, (fits_before (suc t)).many)) in
      let opened : TimesOut (maybe_released e.image p (is_due script t p) (slice_get (before t).threads k)) (slice_get (middle t).threads k) = begun e.image script t k p (before t) process in
      let at_o : TimesOut (maybe_released e.image p (is_due script t p) (Some o.0)) (slice_get (middle t).threads k) =
      subst (λ (x : Option Thread). TimesOut (maybe_released e.image p (is_due script t p) x) (slice_get (middle t).threads k)) o.1 opened in
      record {
        old = o.0;
        mid = m.0;
        new = n.0;
        at_old = o.1;
        at_mid = m.1;
        at_new = n.1;
        opens = opening e.image p (is_due script t p) o.0 m.0 (subst (λ (x : Option Thread). TimesOut (maybe_released e.image p (is_due script t p) (Some o.0)) x) m.1 at_o);
      }

  -- process k runs in tick t
  abbrev pub ran : (t k : ℕ) → Bool
  ran t k = runs e.image script t (before t) k

  -- the events of tick t after the start events
  abbrev pub acted : ℕ → List Event
  acted t = (run_picked e.image t (middle t) (pick e.image (middle t).threads)).events

  -- a process that runs takes its turn
  pub takes_turn : (t k : ℕ) (p : Process) (x : Threads t k p) → ran t k ≡ true → (job : Job) × (x.mid ≡ Ready job) × Turn t k job (Some x.new) (acted t)
  takes_turn t k p x is =
      let turned : Turned e ps image_fits t k (middle t) (tick e.image script t (before t)).state (acted t) = (passes e ps image_fits script t k (before t) (fits_before t)).runs_it is in
      let same : x.mid ≡ Ready turned.job = (let both : Some x.mid ≡ Some (Ready turned.job) = sym x.at_mid ∙ turned.ready in cc) in
      let now : slice_get (tick e.image script t (before t)).state.threads k ≡ Some x.new = ap (λ (s : State). slice_get s.threads k) (sym (next_state e.image script t)) ∙ x.at_new in
      (turned.job, same, subst (λ (o : Option Thread). Turn t k turned.job o (acted t)) now turned.turn)

  -- any other is as it was, or is taken out of a queue
  pub is_left : (t k : ℕ) (p : Process) (x : Threads t k p) → ran t k ≡ false → IsWoken e.image x.mid x.new
  is_left t k p x is =
      let left : (new : Thread) × (slice_get (tick e.image script t (before t)).state.threads k ≡ Some new) × IsWoken e.image x.mid new =
      (passes e ps image_fits script t k (before t) (fits_before t)).left x.mid is x.at_mid in
      let now : slice_get (tick e.image script t (before t)).state.threads k ≡ Some x.new = ap (λ (s : State). slice_get s.threads k) (sym (next_state e.image script t)) ∙ x.at_new in
      let same : left.0 ≡ x.new = (let both : Some left.0 ≡ Some x.new = sym left.1 ∙ now in cc) in
      subst (λ (th : Thread). IsWoken e.image x.mid th) same left.2
