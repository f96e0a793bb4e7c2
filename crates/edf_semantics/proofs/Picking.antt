-- The tick of any process that may run is not stuck; what it does to what the choice sees.
use Rattle.std.proofs.Common.{◌≡◌, ◌<◌, ℕ, List, Option, Some, None, length, arith, refl, ap, sym, subst, ◌∙◌, false}
use Rattle.std.specs.Prelude.{slice_get}
use Rattle.std.proofs.lemmas.Option.{slice_get_within}
use Rattle.base.proofs.Lists.{some_at}
use Rattle.machine_semantics.specs.Image.{Image, Process}
use Rattle.machine_semantics.specs.State.{Job, Thread, Ready, State}
use Rattle.machine_semantics.specs.Tick.{Candidate, owned_of, outcome, run_thread, run_picked}
use Rattle.machine_semantics.specs.Walk.{Where, WalkCost}
use Rattle.machine_semantics.specs.Safe.{Parts, ImageFits, TickFits}
use Rattle.machine_semantics.specs.Whole.{ThreadFits, ceiling_of, StateFits}
use Rattle.machine_safety.proofs.Picked.{ChosenOf}
use Rattle.machine_safety.proofs.Settling.{outcome_fits, settle_keeps}
use Rattle.sched_demand.specs.Activations.{Activation, Chooses}
use Rattle.sched_demand.specs.Stacked.{AreStacked}
use Rattle.sched_demand.proofs.Stacking.{chosen_above}
use Rattle.edf_semantics.specs.Choice.{Mark}
use Rattle.edf_semantics.specs.Run.{candidate}
use Rattle.edf_semantics.specs.Safe.{act, inside_of, stay_of, acts, insides, rank_at, deadline_at, rank_of_some}
use Rattle.edf_semantics.proofs.Choosing.{act_active}
use Rattle.edf_semantics.proofs.Marking.{has_mark}

-- whoever may run, its tick is not stuck, and the state fits after it
pub run_keeps : (e : Where) (ps : ℕ → Parts) → ImageFits e ps → (t : ℕ) (s : State) → StateFits e ps s → (o : Option Candidate) → ChosenOf e.image 0 e.image.processes s.threads o
    → ((run_picked e.image t s o).stuck ≡ false) × StateFits e ps (run_picked e.image t s o).state
run_keeps e ps image_fits t s fits None none = (refl, fits)
run_keeps e ps image_fits t s fits (Some c) ch =
    let at : ch.index ≡ c.place = omega (arith, ch.place) in
    let process : slice_get e.image.processes c.place ≡ Some ch.p = ap (λ (x : ℕ). slice_get e.image.processes x) (sym at) ∙ ch.process in
    let ready : slice_get s.threads c.place ≡ Some (Ready ch.job) = ap (λ (x : ℕ). slice_get s.threads x) (sym at) ∙ ch.ready in
    let f : ThreadFits e ch.p (ps c.place) (Ready ch.job) (owned_of (slice_get s.owned c.place)) s.shared = fits.threads c.place ch.p (Ready ch.job) process ready in
    let o : (l : WalkCost) × TickFits e ch.p (ps c.place) ch.job (owned_of (slice_get s.owned c.place)) s.shared l (outcome e.image s ch.job (owned_of (slice_get s.owned c.place)) ch.job.dispatch_ticks) =
    outcome_fits e ps image_fits s c ch c.place refl process fits f.0 f.1 ch.job.dispatch_ticks refl in
    subst (λ (x : Option Process). ((run_thread e.image t c.place s x (slice_get s.threads c.place)).stuck ≡ false) × StateFits e ps (run_thread e.image t c.place s x (slice_get s.threads c.place)).state) (sym process)
    (subst (λ (x : Option Thread). ((run_thread e.image t c.place s (Some ch.p) x).stuck ≡ false) × StateFits e ps (run_thread e.image t c.place s (Some ch.p) x).state) (sym ready)
    (settle_keeps e ps image_fits t s c ch c.place refl process ready fits o.0 (outcome e.image s ch.job (owned_of (slice_get s.owned c.place)) ch.job.dispatch_ticks) o.1))

-- who is chosen may run
pub may_run : (image : Image) (ts : List Thread) (ms : List Mark) (now : ℕ) → length ms ≡ length image.processes
    → AreStacked (length image.processes) (rank_at image) (deadline_at image) now (acts ts ms) (insides image ts)
    → (o : Option ℕ) → Chooses (length image.processes) (rank_at image) (deadline_at image) (insides image ts) (acts ts ms) o
    → ChosenOf image 0 image.processes ts (candidate o)
may_run image ts ms now many stack None chooses = λ j q other at_q at_t.
    (let below : j < length image.processes = slice_get_within image.processes j q at_q in
    let m = has_mark ms j (omega (arith, below, many)) in
    let e : acts ts ms j ≡ act (Some (Ready other)) (Some m.0) = ap (λ (x : Option Thread). act x (slice_get ms j)) at_t ∙ ap (λ (x : Option Mark). act (Some (Ready other)) x) m.1 in
    chooses j below (omega (arith, ap (λ (x : Activation). x.left) e)))
may_run image ts ms now many stack (Some k) chosen =
    let a = act_active (slice_get ts k) (slice_get ms k) chosen.active in
    let p = some_at image.processes k chosen.of_these in
    let rank : rank_at image k ≡ p.0.rank = ap (λ (x : Option Process). rank_of_some x) p.1 in
    record {
      index = k;
      place = omega arith;
      p = p.0;
      job = a.0;
      process = p.1;
      ready = a.2;
      free = λ outside j n q other at_q at_t inside.
          let below : j < length image.processes = slice_get_within image.processes j q at_q in
          let differ : k ≡ j → ⊥ = λ same. (
          let both : Some (Ready a.0) ≡ Some (Ready other) = sym a.2 ∙ ap (λ (x : ℕ). slice_get ts x) same ∙ at_t in
          let one : a.0 ≡ other = cc in
          let none : None ≡ Some n = sym outside ∙ ap (λ (x : Job). x.inside) one ∙ inside in
          absurd (cc)) in
          let there : insides image ts j ≡ Some (record { ceiling = ceiling_of image n; left = 0 }) = ap (λ (x : Option Thread). stay_of image (inside_of x)) at_t ∙ ap (λ (x : Option ℕ). stay_of image x) inside in
          let h : rank_at image k < ceiling_of image n = chosen_above (length image.processes) (rank_at image) (deadline_at image) now (acts ts ms) (insides image ts) k stack chosen j (record { ceiling = ceiling_of image n; left = 0 }) below differ there in
          omega (arith, rank);
    }
