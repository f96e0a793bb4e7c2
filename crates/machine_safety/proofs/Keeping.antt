-- Each process keeps as many words as it declares.
use Rattle.std.proofs.Common.{◌≡◌, ◌*◌, ℕ, zero, suc, List, [], ◌∷◌, Option, Some, None, length, map, arith, refl, ap, sym, subst, ◌∙◌, true, false, Bool}
use Rattle.std.specs.Prelude.{ℤ, slice_get, slice_set, cond, nat_eq}
use Rattle.base.specs.declared.event.Act.TheVariants as act
use Rattle.machine_semantics.specs.Image.{Process, Script}
use Rattle.machine_semantics.specs.State.{Job, Thread, Idle, Ready, Waiting, State, zeros}
use Rattle.machine_semantics.specs.Effect.{Outcome, Goes, Does, Signals, Broadcasts, Waits, Raises, Ends, Stuck}
use Rattle.machine_semantics.specs.Starts.{unchanged, told, release, release_thread, time_out, raised, without, queue_of, starts}
use Rattle.machine_semantics.specs.Tick.{Candidate, least, pick, settle, outcome, owned_of, run_thread, run_picked, tick}
use Rattle.machine_semantics.specs.Run.{at_start, state_at}
use Rattle.machine_semantics.specs.Walk.{Where, WalkCost}
use Rattle.machine_semantics.specs.Safe.{Parts, ImageFits, TickFits}
use Rattle.machine_semantics.specs.Whole.{ThreadFits, StateFits, WordsFit, RunKeepsWords}
use Rattle.machine_safety.proofs.Whole.{length_owned}
use Rattle.machine_safety.proofs.Picked.{ChosenOf, chosen}
use Rattle.machine_safety.proofs.Starting.{starts_pass, starts_keep}
use Rattle.machine_safety.proofs.Settling.{outcome_fits}
use Rattle.machine_safety.proofs.Running.{state_fits}
use Rattle.machine_safety.proofs.Jobs.{length-zeros}

module _ (e : Where) (ps : ℕ → Parts) (image_fits : ImageFits e ps) where
  release_words : (t k : ℕ) (p : Process) (s : State) → WordsFit e.image s → slice_get e.image.processes k ≡ Some p → WordsFit e.image (release e.image t k p s).state
  release_words t k p s fits process = by (slice_get s.threads k) where
    by : (o : Option Thread) → WordsFit e.image (release_thread e.image t k p s o).state
    by (Some Idle) = fits
    by (Some (Ready job)) = fits
    by (Some (Waiting c due number job)) = fits
    by None = fits

  time_out_words : (t k : ℕ) (p : Process) (s : State) → WordsFit e.image s → slice_get e.image.processes k ≡ Some p → WordsFit e.image (time_out e.image t k p s (slice_get s.threads k)).state
  time_out_words t k p s fits process = by (slice_get s.threads k) where
    by : (o : Option Thread) → WordsFit e.image (time_out e.image t k p s o).state
    by (Some Idle) = fits
    by (Some (Ready job)) = fits
    by None = fits
    by (Some (Waiting c due number job)) = by_due (nat_eq due t) where
      by_due : (d : Bool) → WordsFit e.image (cond d (told t k (act.TimeOut c number) (record s { queues = slice_set s.queues c (without k (queue_of s.queues c)) }) (Ready (record (raised p number job) { dispatch_ticks = 2 * e.image.over }))) (unchanged s)).state
      by_due true = fits
      by_due false = fits

  settle_words : (t k : ℕ) (p : Process) (job : Job) (s : State) (left : WalkCost) (out : Outcome) → TickFits e p (ps k) job (owned_of (slice_get s.owned k)) s.shared left out → WordsFit e.image s → WordsFit e.image (settle e.image t k p job s out).state
  settle_words t k p job s left out tick_fits fits = by out tick_fits where
    set : (w : List ℤ) → length w ≡ length (owned_of (slice_get s.owned k)) → (j : ℕ) (q : Process) → slice_get e.image.processes j ≡ Some q → length (owned_of (slice_get (slice_set s.owned k w) j)) ≡ q.words
    set w same j q at = length_owned s.owned k j w same ∙ fits j q at

    by : (out : Outcome) → TickFits e p (ps k) job (owned_of (slice_get s.owned k)) s.shared left out → WordsFit e.image (settle e.image t k p job s out).state
    by (Goes q) g = set q.owned g.owned
    by (Does a q) g = set q.owned g.owned
    by (Signals c q) g = set q.owned g.owned
    by (Broadcasts c q) g = set q.owned g.owned
    by (Waits c limit number q) g = set q.owned g.owned
    by (Raises number) g = fits
    by Ends g = fits
    by Stuck g = absurd g

  -- whoever may run
  pub chosen_keeps_words : (t : ℕ) (s : State) (o : Option Candidate) → ChosenOf e.image 0 e.image.processes s.threads o → StateFits e ps s → WordsFit e.image s → WordsFit e.image (run_picked e.image t s o).state
  chosen_keeps_words t s None none state_fits fits = fits
  chosen_keeps_words t s (Some c) ch state_fits fits =
      let at : ch.index ≡ c.place = omega (arith, ch.place) in
      let process : slice_get e.image.processes c.place ≡ Some ch.p = ap (λ (x : ℕ). slice_get e.image.processes x) (sym at) ∙ ch.process in
      let ready : slice_get s.threads c.place ≡ Some (Ready ch.job) = ap (λ (x : ℕ). slice_get s.threads x) (sym at) ∙ ch.ready in
      let f : ThreadFits e ch.p (ps c.place) (Ready ch.job) (owned_of (slice_get s.owned c.place)) s.shared = state_fits.threads c.place ch.p (Ready ch.job) process ready in
      let o : (l : WalkCost) × TickFits e ch.p (ps c.place) ch.job (owned_of (slice_get s.owned c.place)) s.shared l (outcome e.image s ch.job (owned_of (slice_get s.owned c.place)) ch.job.dispatch_ticks) =
      outcome_fits e ps image_fits s c ch c.place refl process state_fits f.0 f.1 ch.job.dispatch_ticks refl in
      subst (λ (x : Option Process). WordsFit e.image (run_thread e.image t c.place s x (slice_get s.threads c.place)).state) (sym process)
      (subst (λ (x : Option Thread). WordsFit e.image (run_thread e.image t c.place s (Some ch.p) x).state) (sym ready)
      (settle_words t c.place ch.p ch.job s o.0 (outcome e.image s ch.job (owned_of (slice_get s.owned c.place)) ch.job.dispatch_ticks) o.1 fits))

  pub starts_keep_words : (script : Script) (t : ℕ) (s : State) → WordsFit e.image s → WordsFit e.image (starts e.image script t s).state
  starts_keep_words script t s fits = starts_pass e (WordsFit e.image) release_words time_out_words (λ d v u now. now) script t s fits

  tick_words : (script : Script) (t : ℕ) (s : State) → StateFits e ps s → WordsFit e.image s → WordsFit e.image (tick e.image script t s).state
  unfolding tick pick
  tick_words script t s state_fits fits =
      let u : State = (starts e.image script t s).state in
      chosen_keeps_words t u (least e.image 0 e.image.processes u.threads) (chosen e.image 0 e.image.processes u.threads) (starts_keep e ps image_fits script t s state_fits) (starts_keep_words script t s fits)

pub words_at_start : (qs : List Process) (k : ℕ) (p : Process) → slice_get qs k ≡ Some p → length (owned_of (slice_get (map (λ (q : Process). zeros q.words) qs) k)) ≡ p.words
words_at_start [] k p at = absurd cc
words_at_start (q ∷ qs) zero p at = let same : q ≡ p = cc in length-zeros q.words ∙ ap (λ (x : Process). x.words) same
words_at_start (q ∷ qs) (suc k) p at = words_at_start qs k p at

pub run_keeps_words : RunKeepsWords
unfolding state_at at_start
run_keeps_words e ps script zero fits = words_at_start e.image.processes
run_keeps_words e ps script (suc t) fits = tick_words e ps fits script t (state_at e.image script t) (state_fits e ps script t fits) (run_keeps_words e ps script t fits)
