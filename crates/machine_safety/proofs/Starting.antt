-- The start of a tick keeps the state so.
use Rattle.std.proofs.Common.{◌≡◌, ◌≤◌, ◌+◌, ◌*◌, inl, inr, ℕ, zero, suc, List, [], ◌∷◌, Option, Some, None, length, arith, refl, subst, ◌∙◌, true, false, Bool, length-set}
use Rattle.std.specs.Prelude.{ℤ, slice_get, slice_set, cond, nat_eq, ◌&&◌}
use Rattle.base.specs.declared.event.Act.TheVariants as act
use Rattle.machine_semantics.specs.Image.{Process, Script, Line, Sets, Occurs, end_of}
use Rattle.machine_semantics.specs.State.{Job, Thread, Idle, Ready, Waiting, State}
use Rattle.machine_semantics.specs.Starts.{Started, unchanged, told, released, release_thread, release, occurs, line, lines, is_periodic_due, periodic, raised, without, queue_of, time_out, at_rank, time_outs, starts}
use Rattle.machine_semantics.specs.Tick.{owned_of}
use Rattle.machine_semantics.specs.Walk.{Where, WalkCost}
use Rattle.machine_semantics.specs.Safe.{Parts, ProcessFits, ImageFits, ReadyFits, own_of, part_of, spare}
use Rattle.machine_semantics.specs.Work.{worst_of}
use Rattle.machine_semantics.specs.Whole.{ThreadFits, StateFits}
use Rattle.machine_safety.proofs.Ticking.{some_ticks, at_start_of, raise_fits, based, Based, fits_at}
use Rattle.machine_safety.proofs.Whole.{thread_set}
use Rattle.machine_safety.proofs.Jobs.{length-zeros}

-- a process that is released fits its trees
pub released_fits : (e : Where) (p : Process) (ps : Parts) (owned shared : List ℤ) → ProcessFits e p ps → p.words ≤ length owned → ReadyFits e p ps (released e.image p) owned shared (worst_of ps)
released_fits e p ps owned shared fits enough = record {
  cost = record { run = ps.body_cost.run + 4; susp = ps.body_cost.susp; waits = ps.body_cost.waits; leave = ps.body_cost.leave + 4 };
  fits = inl (at_start_of e ps.body p p.body p.start (end_of p false) ps.body_cost (own_of (released e.image p) owned shared) fits.body fits.code fits.ends refl refl refl refl
      (omega (arith, length-zeros p.locals, fits.body.locals)) (omega (arith, enough, fits.body.owned)));
  early = λ instr at. some_ticks instr;
  ends = fits.ends;
  leave = λ k now. absurd cc;
  run = omega arith;
  susp = omega arith;
  waits = omega arith;
}

pub ready_burn : (e : Where) (p : Process) (ps : Parts) (job : Job) (b : ℕ) (owned shared : List ℤ) (left : WalkCost) → ReadyFits e p ps job owned shared left → ReadyFits e p ps (record job { dispatch_ticks = b }) owned shared left
ready_burn e p ps job b owned shared left r =
    record { cost = r.cost; fits = fits_at e (part_of ps job.handling) job job.done b owned owned shared shared r.cost (omega arith) r.fits; early = r.early; ends = r.ends; run = r.run; susp = r.susp; waits = r.waits; leave = r.leave }

-- the process has its words, whatever it does
pub has_words : (e : Where) (p : Process) (ps : Parts) (t : Thread) (owned shared : List ℤ) → ProcessFits e p ps → ThreadFits e p ps t owned shared → p.words ≤ length owned
has_words e p ps Idle owned shared fits f = f
has_words e p ps (Ready job) owned shared fits f = of_own job.handling (based e (part_of ps job.handling) (own_of job owned shared) f.1.cost f.1.fits).enough where
  of_own : (h : Bool) → (part_of ps h).owned ≤ length owned → p.words ≤ length owned
  of_own false enough = omega (arith, fits.body.owned, enough)
  of_own true enough = omega (arith, fits.handler.owned, enough)
has_words e p ps (Waiting c due n job) owned shared fits f = of_own job.handling f.1.fits.enough where
  of_own : (h : Bool) → (part_of ps h).owned ≤ length owned → p.words ≤ length owned
  of_own false enough = omega (arith, fits.body.owned, enough)
  of_own true enough = omega (arith, fits.handler.owned, enough)

-- ---- all start events, for anything that each of them keeps

module _ (e : Where) (P : State → Type 0)
    (on_release : (t k : ℕ) (p : Process) (s : State) → P s → slice_get e.image.processes k ≡ Some p → P (release e.image t k p s).state)
    (on_time_out : (t k : ℕ) (p : Process) (s : State) → P s → slice_get e.image.processes k ≡ Some p → P (time_out e.image t k p s (slice_get s.threads k)).state)
    (on_device : (d : ℕ) (v : ℤ) (s : State) → P s → P (record s { devices = slice_set s.devices d v })) where
  -- the list is that of the processes from k on
  abbrev IsFrom : ℕ → List Process → Type 0
  IsFrom k qs = (j : ℕ) (q : Process) → slice_get qs j ≡ Some q → slice_get e.image.processes (k + j) ≡ Some q

  first_of : (k : ℕ) (p : Process) (qs : List Process) → IsFrom k (p ∷ qs) → slice_get e.image.processes k ≡ Some p
  first_of k p qs from = let z : k + 0 ≡ k = omega arith in subst (λ (x : ℕ). slice_get e.image.processes x ≡ Some p) z (from 0 p refl)

  rest_from : (k : ℕ) (p : Process) (qs : List Process) → IsFrom k (p ∷ qs) → IsFrom (k + 1) qs
  rest_from k p qs from = λ j q at. (let z : k + suc j ≡ k + 1 + j = omega arith in subst (λ (x : ℕ). slice_get e.image.processes x ≡ Some q) z (from (suc j) q at))

  all_from : IsFrom 0 e.image.processes
  all_from = λ j q at. (let z : j ≡ 0 + j = omega arith in subst (λ (x : ℕ). slice_get e.image.processes x ≡ Some q) z at)

  either_passes : (b : Bool) (x y : Started) → P x.state → P y.state → P (cond b x y).state
  either_passes true x y p q = p
  either_passes false x y p q = q

  occurs_passes : (t n k : ℕ) (qs : List Process) (s : State) → IsFrom k qs → P s → P (occurs e.image t n k qs s).state
  occurs_passes t n k [] s from now = now
  occurs_passes t n k (p ∷ qs) s from now =
      occurs_passes t n (k + 1) qs _ (rest_from k p qs from)
      (either_passes (nat_eq p.kind 1 && nat_eq p.event n) (release e.image t k p s) (unchanged s) (on_release t k p s now (first_of k p qs from)) now)

  line_passes : (t : ℕ) (l : Line) (s : State) → P s → P (line e.image t l s).state
  line_passes t (Sets u d v) s now = either_passes (nat_eq u t) (unchanged (record s { devices = slice_set s.devices d v })) (unchanged s) (on_device d v s now) now
  line_passes t (Occurs u n) s now = either_passes (nat_eq u t) (occurs e.image t n 0 e.image.processes s) (unchanged s) (occurs_passes t n 0 e.image.processes s all_from now) now

  lines_pass : (t : ℕ) (ls : List Line) (s : State) → P s → P (lines e.image t ls s).state
  lines_pass t [] s now = now
  lines_pass t (l ∷ ls) s now = lines_pass t ls _ (line_passes t l s now)

  periodic_passes : (t k : ℕ) (qs : List Process) (s : State) → IsFrom k qs → P s → P (periodic e.image t k qs s).state
  periodic_passes t k [] s from now = now
  periodic_passes t k (p ∷ qs) s from now =
      periodic_passes t (k + 1) qs _ (rest_from k p qs from)
      (either_passes (is_periodic_due t p) (release e.image t k p s) (unchanged s) (on_release t k p s now (first_of k p qs from)) now)

  at_rank_passes : (t rank k : ℕ) (qs : List Process) (s : State) → IsFrom k qs → P s → P (at_rank e.image t rank k qs s).state
  at_rank_passes t rank k [] s from now = now
  at_rank_passes t rank k (p ∷ qs) s from now =
      at_rank_passes t rank (k + 1) qs _ (rest_from k p qs from)
      (either_passes (nat_eq p.rank rank) (time_out e.image t k p s (slice_get s.threads k)) (unchanged s) (on_time_out t k p s now (first_of k p qs from)) now)

  time_outs_pass : (t rank n : ℕ) (s : State) → P s → P (time_outs e.image t rank n s).state
  time_outs_pass t rank zero s now = now
  time_outs_pass t rank (suc n) s now = time_outs_pass t (rank + 1) n _ (at_rank_passes t rank 0 e.image.processes s all_from now)

  pub starts_pass : (script : Script) (t : ℕ) (s : State) → P s → P (starts e.image script t s).state
  unfolding starts
  starts_pass script t s now =
      time_outs_pass t 1 (length e.image.processes) _ (periodic_passes t 0 e.image.processes _ all_from (lines_pass t script.lines s now))

-- ---- each start event

module _ (e : Where) (ps : ℕ → Parts) (image_fits : ImageFits e ps) where
  pub release_keeps : (t k : ℕ) (p : Process) (s : State) → StateFits e ps s → slice_get e.image.processes k ≡ Some p → StateFits e ps (release e.image t k p s).state
  release_keeps t k p s fits process = by_thread (slice_get s.threads k) refl where
    by_thread : (o : Option Thread) → slice_get s.threads k ≡ o → StateFits e ps (release_thread e.image t k p s o).state
    by_thread (Some Idle) at =
        thread_set e ps s k p (Ready (released e.image p)) s.queues fits process refl
        (worst_of (ps k), released_fits e p (ps k) (owned_of (slice_get s.owned k)) s.shared (image_fits.processes k p process) (fits.threads k p Idle process at)) refl
    by_thread (Some (Ready job)) at = fits
    by_thread (Some (Waiting c due n job)) at = fits
    by_thread None at = fits

  pub time_out_keeps : (t k : ℕ) (p : Process) (s : State) → StateFits e ps s → slice_get e.image.processes k ≡ Some p → StateFits e ps (time_out e.image t k p s (slice_get s.threads k)).state
  time_out_keeps t k p s fits process = by_thread (slice_get s.threads k) refl where
    by_thread : (o : Option Thread) → slice_get s.threads k ≡ o → StateFits e ps (time_out e.image t k p s o).state
    by_thread (Some Idle) at = fits
    by_thread (Some (Ready job)) at = fits
    by_thread None at = fits
    by_thread (Some (Waiting c due n job)) at = by_due (nat_eq due t) where
      f : ThreadFits e p (ps k) (Waiting c due n job) (owned_of (slice_get s.owned k)) s.shared
      f = fits.threads k p (Waiting c due n job) process at

      own : List ℤ
      own = owned_of (slice_get s.owned k)

      b : Based (part_of (ps k) job.handling) (own_of job own s.shared) f.1.cost
      b = based e (part_of (ps k) job.handling) (own_of job own s.shared) f.1.cost (inr f.1.fits)

      left : WalkCost
      left = record { run = 4 + spare (ps k) job.handling; susp = 0; waits = 0; leave = 4 + spare (ps k) job.handling }

      queues : List (List ℕ)
      queues = slice_set s.queues c (without k (queue_of s.queues c))

      by_due : (d : Bool) → StateFits e ps (cond d (told t k (act.TimeOut c n) (record s { queues = queues }) (Ready (record (raised p n job) { dispatch_ticks = 2 * e.image.over }))) (unchanged s)).state
      by_due false = fits
      by_due true =
          thread_set e ps s k p (Ready (record (raised p n job) { dispatch_ticks = 2 * e.image.over })) queues fits process refl (
            left,
            ready_burn e p (ps k) (raised p n job) (2 * e.image.over) own s.shared left
                (raise_fits e p (ps k) job own s.shared n left (image_fits.processes k p process) f.1.ends b.locals b.enough (omega arith)),
          )
          (length-set s.queues c (without k (queue_of s.queues c)))

  pub device_keeps : (d : ℕ) (v : ℤ) (s : State) → StateFits e ps s → StateFits e ps (record s { devices = slice_set s.devices d v })
  device_keeps d v s fits =
      record { sized = record { queues = fits.sized.queues; devices = length-set s.devices d v ∙ fits.sized.devices; shared = fits.sized.shared }; many = fits.many; threads = fits.threads; apart = fits.apart }

  pub starts_keep : (script : Script) (t : ℕ) (s : State) → StateFits e ps s → StateFits e ps (starts e.image script t s).state
  starts_keep script t s fits = starts_pass e (StateFits e ps) release_keeps time_out_keeps device_keeps script t s fits
