-- The start events of a tick keep words of 32 bits.
use Rattle.std.proofs.Common.{◌+◌, ◌*◌, ℕ, zero, suc, ℤ, Bool, true, false, List, [], ◌∷◌, length, Option, Some, None}
use Rattle.std.specs.Prelude.{if◌then◌else◌, nat_eq, ◌&&◌, slice_get, slice_set}
use Rattle.base.specs.declared.event.Event.{Event}
use Rattle.base.specs.declared.event.Act.{Act}
use Rattle.base.specs.declared.event.Act.TheVariants as act
use Rattle.text_fields.specs.Fields.{Is32}
use Rattle.event_log.specs.Logs.{ActFits}
use Rattle.machine_semantics.specs.Image.{Image, Process, Script, Line, Sets, Occurs}
use Rattle.machine_semantics.specs.State.{Job, Thread, Idle, Ready, Waiting, State}
use Rattle.machine_semantics.specs.Starts.{Started, unchanged, told, followed, released, release_thread, release, occurs, line, lines, is_periodic_due, periodic, raised, without, queue_of, time_out, at_rank, time_outs, starts}
use Rattle.replay_law.specs.RunWords.{SetsWord}
use Rattle.replay_law.proofs.Words.{Each, Opt, joined_each, set_each, get_each, zeros_each, JobFits, ThreadFits, StateFits, own_locals_each}

abbrev pub EventFits : Event → Type 0
EventFits e = ActFits e.act

-- the words have 32 bits, and the events fit
pub record Good (st : Started) : Type 0 where
  pub state : StateFits st.state
  pub events : Each EventFits st.events

unchanged_good : (s : State) → StateFits s → Good (unchanged s)
unchanged_good s fits = record { state = fits; events = tt }

either_good : (b : Bool) (x y : Started) → Good x → Good y → Good (if b then x else y)
either_good true x y p q = p
either_good false x y p q = q

followed_good : (first : Started) (go : State → Started) → Good first → ((s : State) → StateFits s → Good (go s)) → Good (followed first go)
followed_good first go one rest =
    let two = rest first.state one.state in
    record { state = two.state; events = joined_each EventFits first.events (go first.state).events one.events two.events }

pub raised_fits : (p : Process) (e dispatch_ticks : ℕ) (job : Job) → JobFits job → JobFits (record (raised p e job) { dispatch_ticks = dispatch_ticks })
raised_fits p e dispatch_ticks job fits = record { locals = own_locals_each job.locals job.callers fits.locals fits.callers; operands = tt; callers = tt }

module _ (image : Image) (t : ℕ) where
  told_good : (k : ℕ) (a : Act) (s : State) (new : Thread) → ActFits a → ThreadFits new → StateFits s → Good (told t k a s new)
  told_good k a s new fine thread fits = record {
    state = record { threads = set_each ThreadFits s.threads k new thread fits.threads; owned = fits.owned; shared = fits.shared; devices = fits.devices };
    events = (fine, tt);
  }

  released_fits : (p : Process) → JobFits (released image p)
  released_fits p = record { locals = zeros_each p.locals; operands = tt; callers = tt }

  release_good : (k : ℕ) (p : Process) (s : State) → StateFits s → Good (release image t k p s)
  release_good k p s fits = by (slice_get s.threads k) where
    by : (o : Option Thread) → Good (release_thread image t k p s o)
    by (Some Idle) = told_good k act.Release s (Ready (released image p)) tt (released_fits p) fits
    by (Some (Ready job)) = record { state = fits; events = tt }
    by (Some (Waiting c due e job)) = record { state = fits; events = tt }
    by None = unchanged_good s fits

  occurs_good : (e k : ℕ) (ps : List Process) (s : State) → StateFits s → Good (occurs image t e k ps s)
  occurs_good e k [] s fits = unchanged_good s fits
  occurs_good e k (p ∷ ps) s fits =
      followed_good (if nat_eq p.kind 1 && nat_eq p.event e then release image t k p s else unchanged s) (occurs image t e (k + 1) ps)
      (either_good (nat_eq p.kind 1 && nat_eq p.event e) (release image t k p s) (unchanged s) (release_good k p s fits) (unchanged_good s fits))
      (λ r now. occurs_good e (k + 1) ps r now)

  periodic_good : (k : ℕ) (ps : List Process) (s : State) → StateFits s → Good (periodic image t k ps s)
  periodic_good k [] s fits = unchanged_good s fits
  periodic_good k (p ∷ ps) s fits =
      followed_good (if is_periodic_due t p then release image t k p s else unchanged s) (periodic image t (k + 1) ps)
      (either_good (is_periodic_due t p) (release image t k p s) (unchanged s) (release_good k p s fits) (unchanged_good s fits))
      (λ r now. periodic_good (k + 1) ps r now)

  device_fits : (s : State) (d : ℕ) (v : ℤ) → Is32 v → StateFits s → StateFits (record s { devices = slice_set s.devices d v })
  device_fits s d v value fits = record { threads = fits.threads; owned = fits.owned; shared = fits.shared; devices = set_each Is32 s.devices d v value fits.devices }

  line_good : (l : Line) (s : State) → SetsWord l → StateFits s → Good (line image t l s)
  line_good (Sets u d v) s value fits =
      either_good (nat_eq u t) (unchanged (record s { devices = slice_set s.devices d v })) (unchanged s)
      (unchanged_good (record s { devices = slice_set s.devices d v }) (device_fits s d v value fits)) (unchanged_good s fits)
  line_good (Occurs u e) s value fits = either_good (nat_eq u t) (occurs image t e 0 image.processes s) (unchanged s) (occurs_good e 0 image.processes s fits) (unchanged_good s fits)

  lines_good : (ls : List Line) (s : State) → Each SetsWord ls → StateFits s → Good (lines image t ls s)
  lines_good [] s values fits = unchanged_good s fits
  lines_good (l ∷ ls) s values fits = followed_good (line image t l s) (lines image t ls) (line_good l s values.0 fits) (λ r now. lines_good ls r values.1 now)

  time_out_good : (k : ℕ) (p : Process) (s : State) → StateFits s → Good (time_out image t k p s (slice_get s.threads k))
  time_out_good k p s fits = by (slice_get s.threads k) (get_each ThreadFits s.threads k fits.threads) where
    by : (o : Option Thread) → Opt ThreadFits o → Good (time_out image t k p s o)
    by (Some (Waiting c due e job)) thread =
        either_good (nat_eq due t)
        (told t k (act.TimeOut c e) (record s { queues = slice_set s.queues c (without k (queue_of s.queues c)) }) (Ready (record (raised p e job) { dispatch_ticks = 2 * image.over })))
        (unchanged s)
        (told_good k (act.TimeOut c e) (record s { queues = slice_set s.queues c (without k (queue_of s.queues c)) }) (Ready (record (raised p e job) { dispatch_ticks = 2 * image.over }))
        thread.0 (raised_fits p e (2 * image.over) job thread.1) (record { threads = fits.threads; owned = fits.owned; shared = fits.shared; devices = fits.devices }))
        (unchanged_good s fits)
    by (Some (Ready job)) thread = unchanged_good s fits
    by (Some Idle) thread = unchanged_good s fits
    by None thread = unchanged_good s fits

  at_rank_good : (rank k : ℕ) (ps : List Process) (s : State) → StateFits s → Good (at_rank image t rank k ps s)
  at_rank_good rank k [] s fits = unchanged_good s fits
  at_rank_good rank k (p ∷ ps) s fits =
      followed_good (if nat_eq p.rank rank then time_out image t k p s (slice_get s.threads k) else unchanged s) (at_rank image t rank (k + 1) ps)
      (either_good (nat_eq p.rank rank) (time_out image t k p s (slice_get s.threads k)) (unchanged s) (time_out_good k p s fits) (unchanged_good s fits))
      (λ r now. at_rank_good rank (k + 1) ps r now)

  time_outs_good : (n rank : ℕ) (s : State) → StateFits s → Good (time_outs image t rank n s)
  time_outs_good zero rank s fits = unchanged_good s fits
  time_outs_good (suc n) rank s fits =
      followed_good (at_rank image t rank 0 image.processes s) (time_outs image t (rank + 1) n) (at_rank_good rank 0 image.processes s fits) (λ r now. time_outs_good n (rank + 1) r now)

  pub starts_good : (script : Script) (s : State) → Each SetsWord script.lines → StateFits s → Good (starts image script t s)
  unfolding starts
  starts_good script s values fits =
      followed_good (lines image t script.lines s) (λ a. followed (periodic image t 0 image.processes a) (time_outs image t 1 (length image.processes))) (lines_good script.lines s values fits)
      (λ a now. followed_good (periodic image t 0 image.processes a) (time_outs image t 1 (length image.processes)) (periodic_good 0 image.processes a now) (λ r done. time_outs_good (length image.processes) 1 r done))
