-- The start events of a tick have lines.
use Rattle.std.proofs.Common.{◌≡◌, ◌≤◌, ◌<◌, ◌+◌, ◌*◌, ◌++◌, ◌⊎◌, inl, inr, ℕ, zero, suc, List, [], ◌∷◌, length, Option, Some, None, arith, refl, ap, sym, subst, ◌∙◌, true, false, Bool}
use Rattle.std.specs.Prelude.{All, if◌then◌else◌, nat_eq, ◌&&◌, slice_get, slice_set}
use Rattle.std.proofs.lemmas.List.Elements.{All-nil, All-cons, All-append}
use Rattle.base.specs.declared.event.Event.{Event}
use Rattle.base.specs.declared.event.Act.{Act}
use Rattle.base.specs.declared.event.Act.TheVariants as act
use Rattle.image.specs.declared.names.ImageNames.{ImageNames}
use Rattle.event_log.specs.InRange.{ActIsIn, AreIn}
use Rattle.machine_semantics.specs.Image.{Image, Process, Script, Line, Sets, Occurs}
use Rattle.machine_semantics.specs.State.{Job, Thread, Idle, Ready, Waiting, State}
use Rattle.machine_semantics.specs.Starts.{Started, unchanged, told, followed, released, release_thread, release, occurs, line, lines, is_periodic_due, periodic, raised, without, queue_of, time_out, at_rank, time_outs, starts}
use Rattle.vm_law.specs.Logged.{AreNamesOf}

-- an element of a list in which one was set is that one, or was there
set_or_old : {X : Type 0} (xs : List X) (k j : ℕ) (x y : X) → slice_get (slice_set xs k x) j ≡ Some y → (x ≡ y) ⊎ (slice_get xs j ≡ Some y)
set_or_old [] k j x y at = inr at
set_or_old (z ∷ zs) zero zero x y at = inl (let same : x ≡ y = cc in same)
set_or_old (z ∷ zs) zero (suc j) x y at = inr at
set_or_old (z ∷ zs) (suc k) zero x y at = inr at
set_or_old (z ∷ zs) (suc k) (suc j) x y at = set_or_old zs k j x y at

module _ (names : ImageNames) where
  -- who waits does so on a condition that has a name
  abbrev pub WaitAt : List Thread → Type 0
  WaitAt threads = (k c due e : ℕ) (job : Job) → slice_get threads k ≡ Some (Waiting c due e job) → c < length names.conditions

  -- the events have lines, and who waits still does so on a condition that has a name
  pub record Good (st : Started) : Type 0 where
    pub lines : All (AreIn names) st.events
    pub waits : WaitAt st.state.threads

  unchanged_good : (s : State) → WaitAt s.threads → Good (unchanged s)
  unchanged_good s waits = record { lines = All-nil (AreIn names); waits = waits }

  either_good : (b : Bool) (x y : Started) → Good x → Good y → Good (if b then x else y)
  either_good true x y p q = p
  either_good false x y p q = q

  followed_good : (first : Started) (go : State → Started) → Good first → ((s : State) → WaitAt s.threads → Good (go s)) → Good (followed first go)
  followed_good first go one rest =
      let two = rest first.state one.waits in
      record { lines = All-append (AreIn names) first.events (go first.state).events one.lines two.lines; waits = two.waits }

  set_ready : (threads : List Thread) (k : ℕ) (job : Job) → WaitAt threads → WaitAt (slice_set threads k (Ready job))
  set_ready threads k job waits j c due e other at = elim (set_or_old threads k j (Ready job) (Waiting c due e other) at) [
    | inl same ↦ absurd (let is : Ready job ≡ Waiting c due e other = same in cc)
    | inr old ↦ waits j c due e other old
  ]

  module _ (image : Image) (named : AreNamesOf names image) (t : ℕ) (early : t < 1000000000) where
    pub one_line : (k : ℕ) (a : Act) → k < length image.processes → ActIsIn names a → All (AreIn names) (record { tick = t; proc = k; act = a } ∷ [])
    one_line k a low fine =
        All-cons (AreIn names) (record { tick = t; proc = k; act = a }) [] (record { sound = named.sound; tick = early; process = omega (arith, low, named.processes); act = fine }) (All-nil (AreIn names))

    told_good : (k : ℕ) (a : Act) (s : State) (threads : List Thread) (job : Job) → k < length image.processes → ActIsIn names a → WaitAt threads → s.threads ≡ threads → Good (told t k a s (Ready job))
    told_good k a s threads job low fine waits same =
        record { lines = one_line k a low fine; waits = set_ready s.threads k job (subst (λ (ts : List Thread). WaitAt ts) (sym same) waits) }

    -- the list is that of the processes from k on
    abbrev IsFrom : ℕ → List Process → Type 0
    IsFrom k ps = k + length ps ≤ length image.processes

    release_good : (k : ℕ) (p : Process) (s : State) → k < length image.processes → WaitAt s.threads → Good (release image t k p s)
    release_good k p s low waits = by (slice_get s.threads k) where
      by : (o : Option Thread) → Good (release_thread image t k p s o)
      by (Some Idle) = told_good k act.Release s s.threads (released image p) low tt waits refl
      by (Some (Ready job)) = record { lines = All-nil (AreIn names); waits = waits }
      by (Some (Waiting c due e job)) = record { lines = All-nil (AreIn names); waits = waits }
      by None = unchanged_good s waits

    occurs_good : (e k : ℕ) (ps : List Process) (s : State) → IsFrom k ps → WaitAt s.threads → Good (occurs image t e k ps s)
    occurs_good e k [] s from waits = unchanged_good s waits
    occurs_good e k (p ∷ ps) s from waits =
        followed_good (if nat_eq p.kind 1 && nat_eq p.event e then release image t k p s else unchanged s) (occurs image t e (k + 1) ps)
        (either_good (nat_eq p.kind 1 && nat_eq p.event e) (release image t k p s) (unchanged s) (release_good k p s (omega (arith, from)) waits) (unchanged_good s waits))
        (λ r now. occurs_good e (k + 1) ps r (omega (arith, from)) now)

    periodic_good : (k : ℕ) (ps : List Process) (s : State) → IsFrom k ps → WaitAt s.threads → Good (periodic image t k ps s)
    periodic_good k [] s from waits = unchanged_good s waits
    periodic_good k (p ∷ ps) s from waits =
        followed_good (if is_periodic_due t p then release image t k p s else unchanged s) (periodic image t (k + 1) ps)
        (either_good (is_periodic_due t p) (release image t k p s) (unchanged s) (release_good k p s (omega (arith, from)) waits) (unchanged_good s waits))
        (λ r now. periodic_good (k + 1) ps r (omega (arith, from)) now)

    line_good : (l : Line) (s : State) → WaitAt s.threads → Good (line image t l s)
    line_good (Sets u d v) s waits = either_good (nat_eq u t) (unchanged (record s { devices = slice_set s.devices d v })) (unchanged s) (unchanged_good (record s { devices = slice_set s.devices d v }) waits) (unchanged_good s waits)
    line_good (Occurs u e) s waits = either_good (nat_eq u t) (occurs image t e 0 image.processes s) (unchanged s) (occurs_good e 0 image.processes s (omega arith) waits) (unchanged_good s waits)

    lines_good : (ls : List Line) (s : State) → WaitAt s.threads → Good (lines image t ls s)
    lines_good [] s waits = unchanged_good s waits
    lines_good (l ∷ ls) s waits = followed_good (line image t l s) (lines image t ls) (line_good l s waits) (λ r now. lines_good ls r now)

    time_out_good : (k : ℕ) (p : Process) (s : State) → k < length image.processes → WaitAt s.threads → Good (time_out image t k p s (slice_get s.threads k))
    time_out_good k p s low waits = by (slice_get s.threads k) refl where
      by : (o : Option Thread) → slice_get s.threads k ≡ o → Good (time_out image t k p s o)
      by (Some (Waiting c due e job)) at =
          either_good (nat_eq due t)
          (told t k (act.TimeOut c e) (record s { queues = slice_set s.queues c (without k (queue_of s.queues c)) }) (Ready (record (raised p e job) { dispatch_ticks = 2 * image.over })))
          (unchanged s)
          (told_good k (act.TimeOut c e) (record s { queues = slice_set s.queues c (without k (queue_of s.queues c)) }) s.threads (record (raised p e job) { dispatch_ticks = 2 * image.over }) low (waits k c due e job at) waits refl)
          (unchanged_good s waits)
      by (Some (Ready job)) at = unchanged_good s waits
      by (Some Idle) at = unchanged_good s waits
      by None at = unchanged_good s waits

    at_rank_good : (rank k : ℕ) (ps : List Process) (s : State) → IsFrom k ps → WaitAt s.threads → Good (at_rank image t rank k ps s)
    at_rank_good rank k [] s from waits = unchanged_good s waits
    at_rank_good rank k (p ∷ ps) s from waits =
        followed_good (if nat_eq p.rank rank then time_out image t k p s (slice_get s.threads k) else unchanged s) (at_rank image t rank (k + 1) ps)
        (either_good (nat_eq p.rank rank) (time_out image t k p s (slice_get s.threads k)) (unchanged s) (time_out_good k p s (omega (arith, from)) waits) (unchanged_good s waits))
        (λ r now. at_rank_good rank (k + 1) ps r (omega (arith, from)) now)

    time_outs_good : (n rank : ℕ) (s : State) → WaitAt s.threads → Good (time_outs image t rank n s)
    time_outs_good zero rank s waits = unchanged_good s waits
    time_outs_good (suc n) rank s waits =
        followed_good (at_rank image t rank 0 image.processes s) (time_outs image t (rank + 1) n) (at_rank_good rank 0 image.processes s (omega arith) waits) (λ r now. time_outs_good n (rank + 1) r now)

    pub starts_good : (script : Script) (s : State) → WaitAt s.threads → Good (starts image script t s)
    unfolding starts
    starts_good script s waits =
        followed_good (lines image t script.lines s) (λ a. followed (periodic image t 0 image.processes a) (time_outs image t 1 (length image.processes))) (lines_good script.lines s waits)
        (λ a now. followed_good (periodic image t 0 image.processes a) (time_outs image t 1 (length image.processes)) (periodic_good 0 image.processes a (omega arith) now) (λ r done. time_outs_good (length image.processes) 1 r done))
