-- A turn of the process that is chosen.
use Rattle.std.proofs.Common.{◌≡◌, ◌≤◌, ◌<◌, ◌+◌, ◌-◌, ◌++◌, ℕ, zero, suc, false, List, [], Option, Some, None, inl, length, arith, refl, ap, sym, subst, ◌∙◌}
use Rattle.std.specs.Prelude.{slice_get}
use Rattle.std.proofs.lemmas.List.{append-nil}
use Rattle.std.proofs.lemmas.Option.{slice_get_within}
use Rattle.base.specs.declared.event.Event.{Event}
use Rattle.machine_isa.specs.declared.instr.Instr.{Instr}
use Rattle.machine_semantics.specs.Image.{Image, Process}
use Rattle.machine_semantics.specs.State.{Job, Thread, Ready, State}
use Rattle.machine_semantics.specs.Tick.{Ticked, owned_of, settle}
use Rattle.vm_stretch.specs.Stretch.{FitsIn, FitsThread, left, left_of, outcomes, pass, pass_thread}
use Rattle.vm_stretch.specs.StretchDue.{time_out_of}
use Rattle.vm_stretch.specs.Quiet.{AreQuiet}
use Rattle.vm_turn.specs.Own.{IsEarly}
use Rattle.vm_turn.specs.Settled.{CanPass}
use Rattle.vm_turn.proofs.Safely.{can_of}
use Rattle.vm_runner.specs.Course.{ComeTo, Course, GoesBySteps, IsThere, IsTurn, begun, started, turn}
use Rattle.vm_runner.specs.Turn.{HasPassed}
use Rattle.vm_runner.specs.Waits.{WaitsFrom, is_some_at_queue}
use Rattle.vm_runner.proofs.Waiting.{settle_alone, settle_from, settle_same}

pub fits_left : (image : Image) (n k : ℕ) (s : State) (job : Job) → slice_get s.threads k ≡ Some (Ready job) → n ≤ left image job → FitsIn image n s (Some k)
fits_left image n k s job ready fits = subst (λ (x : Option Thread). FitsThread image n x) (sym ready) fits

module _ (c : Course) (goes : GoesBySteps c) (t : ℕ) where
  -- ---- who is chosen

  pub ready_now : (k : ℕ) (s : State) → s ≡ begun c t → (is : c.chosen t ≡ Some k) → slice_get s.threads k ≡ Some (Ready (goes.chosen t k is).job)
  ready_now k s same is = ap (λ (x : State). slice_get x.threads k) same ∙ (goes.chosen t k is).ready

  pub below : (k : ℕ) (s : State) → s ≡ begun c t → c.chosen t ≡ Some k → k < length s.threads
  below k s same is = slice_get_within s.threads k (Ready (goes.chosen t k is).job) (ready_now k s same is)

  early_now : (k : ℕ) (is : c.chosen t ≡ Some k) → IsEarly c.image (goes.chosen t k is).job
  early_now k is instr at = goes.early t k (goes.chosen t k is).job instr (goes.chosen t k is).ready at

  -- of what it is at some is left
  pub some_left : (k : ℕ) (is : c.chosen t ≡ Some k) → 1 ≤ left c.image (goes.chosen t k is).job
  some_left k is = by (goes.chosen t k is).job.dispatch_ticks (slice_get c.image.code (goes.chosen t k is).job.place) refl where
    by : (b : ℕ) (o : Option Instr) → slice_get c.image.code (goes.chosen t k is).job.place ≡ o → 1 ≤ left_of b (goes.chosen t k is).job.done o
    by (suc b) o at = omega arith
    by zero None at = omega arith
    by zero (Some instr) at = let below = early_now k is instr at in omega (arith, below)

  -- ---- the turn

  -- the process that is chosen has a turn of as many ticks as are left of what it is at, while nothing starts
  pub chosen_turn : (n most k : ℕ) (s : State) → s ≡ begun c t → c.chosen t ≡ Some k → 1 ≤ n → n ≤ most → FitsIn c.image n s (Some k) → AreQuiet c.image c.script t most s → IsTurn c t n
  chosen_turn n most k s same is some within fits quiet = record {
    some = some;
    fits = subst (λ (o : Option ℕ). FitsIn c.image n (begun c t) o) (sym is) (subst (λ (x : State). FitsIn c.image n x (Some k)) same fits);
    quiet = subst (λ (x : State). AreQuiet c.image c.script t n x) same (λ u low high. quiet u low (omega (arith, high, within)));
  }

  -- where none is chosen, ticks in which nothing starts are a turn
  idle_turn : (n : ℕ) (s : State) → s ≡ begun c t → c.chosen t ≡ None → 1 ≤ n → AreQuiet c.image c.script t n s → IsTurn c t n
  idle_turn n s same none some quiet = record {
    some = some;
    fits = subst (λ (o : Option ℕ). FitsIn c.image n (begun c t) o) (sym none) tt;
    quiet = subst (λ (x : State). AreQuiet c.image c.script t n x) same quiet;
  }

  pub turn_is : (n : ℕ) (who : Option ℕ) (s : State) → s ≡ begun c t → c.chosen t ≡ who → pass c.image t n s who ≡ turn c t n
  turn_is n who s same is = ap (λ (x : State). pass c.image t n x who) same ∙ ap (λ (o : Option ℕ). pass c.image t n (begun c t) o) (sym is)

  -- that of process k
  settled : (n k : ℕ) (is : c.chosen t ≡ Some k) → let r : IsThere c.image (begun c t) k = goes.chosen t k is in
      turn c t n ≡ settle c.image (t + (n - 1)) k r.p r.job (begun c t) (outcomes c.image (begun c t) r.job (owned_of (slice_get (begun c t).owned k)) n r.job.dispatch_ticks)
  settled n k is =
      let s : State = begun c t in
      let r : IsThere c.image s k = goes.chosen t k is in
      ap (λ (o : Option ℕ). pass c.image t n s o) is
      ∙ ap (λ (x : Option Process). pass_thread c.image t n k s x (slice_get s.threads k)) r.process
      ∙ ap (λ (x : Option Thread). pass_thread c.image t n k s (Some r.p) x) r.ready

  -- ---- what code asks for

  can_start : (n k : ℕ) → c.chosen t ≡ Some k → IsTurn c t n → CanPass c.image n k (begun c t)
  can_start n k is it =
      let image = c.image in
      let s : State = begun c t in
      let r : IsThere image s k = goes.chosen t k is in
      let u : ℕ = t + (n - 1) in
      let taken : ComeTo c t n (turn c t n) = goes.turns t n it in
      let all = settled n k is in
      record {
        p = r.p;
        process = r.process;
        job = r.job;
        ready = r.ready;
        some = it.some;
        fits = subst (λ (x : Option Thread). FitsThread image n x) r.ready (subst (λ (o : Option ℕ). FitsIn image n s o) is it.fits);
        early = early_now k is;
        can = can_of image u k r.p r.job s (outcomes image s r.job (owned_of (slice_get s.owned k)) n r.job.dispatch_ticks) (ap (λ (x : Ticked). x.stuck) (sym all) ∙ taken.free)
            (λ th at_th. goes.stack (t + n) k r.p th r.process (ap (λ (w : State). slice_get w.threads k) taken.state ∙ ap (λ (x : Ticked). slice_get x.state.threads k) all ∙ at_th)) r.ready;
      }

  pub can_pass : (n k : ℕ) (s : State) → s ≡ begun c t → c.chosen t ≡ Some k → IsTurn c t n → CanPass c.image n k s
  can_pass n k s same is it = subst (λ (x : State). CanPass c.image n k x) (sym same) (can_start n k is it)

  -- ---- what has passed

  -- a turn of process k
  pub turn_passes : (n k : ℕ) (s' : State) (es es' : List Event) → c.chosen t ≡ Some k → IsTurn c t n → s' ≡ (turn c t n).state → es' ≡ es ++ (turn c t n).events → HasPassed c t n s' es es'
  turn_passes n k s' es es' is it now told =
      let s : State = begun c t in
      let r : IsThere c.image s k = goes.chosen t k is in
      let taken : ComeTo c t n (turn c t n) = goes.turns t n it in
      let u : ℕ = t + (n - 1) in
      let all = settled n k is in
      let out = outcomes c.image s r.job (owned_of (slice_get s.owned k)) n r.job.dispatch_ticks in
      let last : t + n ≤ u + 1 = (let some = it.some in omega (arith, some)) in
      let there : s' ≡ (settle c.image u k r.p r.job s out).state = now ∙ ap (λ (x : Ticked). x.state) all in
      record {
        some = it.some;
        step = inl it;
        state = now ∙ sym taken.state;
        fell = (turn c t n).events;
        told = told;
        events = taken.events;
        waits = subst (λ (x : State). WaitsFrom (t + n) s.threads x.threads) (sym there) (settle_from c.image u k r.p r.job s out (t + n) last);
        same = λ quiet j.
            ap (λ (x : State). time_out_of (slice_get x.threads j)) there
            ∙ settle_same c.image u k r.p r.job s out j (sym (ap (λ (x : Ticked). is_some_at_queue x.events) all) ∙ quiet) r.ready;
        alone = λ quiet j apart.
            ap (λ (x : State). slice_get x.threads j) there
            ∙ settle_alone c.image u k r.p r.job s out j (sym (ap (λ (x : Ticked). is_some_at_queue x.events) all) ∙ quiet) (λ same. apart (is ∙ ap (λ (m : ℕ). Some m) same));
      }

  -- a turn in which nobody runs
  pub idle_passes : (n : ℕ) (s : State) (es : List Event) → s ≡ begun c t → c.chosen t ≡ None → 1 ≤ n → AreQuiet c.image c.script t n s → HasPassed c t n s es es
  idle_passes n s es is none some quiet =
      let it : IsTurn c t n = idle_turn n s is none some quiet in
      let taken : ComeTo c t n (turn c t n) = goes.turns t n it in
      let all : turn c t n ≡ record { state = s; events = []; stuck = false } = sym (turn_is n None s is none) in
      record {
        some = some;
        step = inl it;
        state = ap (λ (x : Ticked). x.state) (sym all) ∙ sym taken.state;
        fell = [];
        told = sym (append-nil es);
        events = taken.events ∙ ap (λ (x : Ticked). started c t ++ x.events) all;
        waits = λ j d due e job at. inl (ap (λ (x : State). slice_get x.threads j) (sym is) ∙ at);
        same = λ quiet j. ap (λ (x : State). time_out_of (slice_get x.threads j)) is;
        alone = λ quiet j apart. ap (λ (x : State). slice_get x.threads j) is;
      }
