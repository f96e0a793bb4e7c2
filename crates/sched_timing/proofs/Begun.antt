-- What the start events of a tick do to one process.
use Rattle.std.proofs.Common.{◌≡◌, ◌<◌, ◌+◌, ◌*◌, ◌⊎◌, inl, inr, ℕ, zero, suc, List, [], ◌∷◌, Option, Some, None, arith, refl, ap, sym, subst, ◌∙◌, ◌++◌, true, false, Bool, length}
use Rattle.std.specs.Prelude.{slice_get, slice_set, ℤ, cond, nat_eq, ◌&&◌, ◌||◌}
use Rattle.std.proofs.lemmas.Bool.{cases_eq}
use Rattle.base.proofs.Lists.{get_set, get_other}
use Rattle.base.specs.declared.event.Act.TheVariants as act
use Rattle.machine_semantics.specs.Image.{Image, Process, Script, Line, Sets, Occurs}
use Rattle.machine_semantics.specs.State.{Job, Thread, Idle, Ready, Waiting, State}
use Rattle.machine_semantics.specs.Starts.{Started, unchanged, told, followed, released, release, release_thread, occurs, line, lines, is_periodic_due, periodic, raised, without, queue_of, time_out, at_rank, time_outs, starts}
use Rattle.sched_timing.specs.Views.{occurs_at, is_event_due, is_due}

-- ---- releases

-- the thread of a process that is released, if it was idle
abbrev pub released_thread : Image → Process → Option Thread → Option Thread
released_thread image p (Some Idle) = Some (Ready (released image p))
released_thread image p (Some (Ready job)) = Some (Ready job)
released_thread image p (Some (Waiting c due number job)) = Some (Waiting c due number job)
released_thread image p None = None

-- the same where a test says so
abbrev pub maybe_released : Image → Process → Bool → Option Thread → Option Thread
maybe_released image p b o = cond b (released_thread image p o) o

pub released_twice : (image : Image) (p : Process) (o : Option Thread) → released_thread image p (released_thread image p o) ≡ released_thread image p o
released_twice image p (Some Idle) = refl
released_twice image p (Some (Ready job)) = refl
released_twice image p (Some (Waiting c due number job)) = refl
released_twice image p None = refl

pub maybe_twice : (image : Image) (p : Process) (a b : Bool) (o : Option Thread) → maybe_released image p b (maybe_released image p a o) ≡ maybe_released image p (a || b) o
maybe_twice image p false b o = refl
maybe_twice image p true false o = refl
maybe_twice image p true true o = released_twice image p o

-- the releases of those of a list that pass a test; the list is that of the processes from i on
abbrev pub each : Image → ℕ → (Process → Bool) → ℕ → List Process → State → Started
each image t test i [] s = unchanged s
each image t test i (q ∷ qs) s = followed (cond (test q) (release image t i q s) (unchanged s)) (each image t test (i + 1) qs)

followed_same : (a : Started) (go go' : State → Started) → go a.state ≡ go' a.state → followed a go ≡ followed a go'
followed_same a go go' same = ap (λ (x : Started). record { state = x.state; events = a.events ++ x.events; overrun = elim (a.overrun) [ true ↦ true | false ↦ x.overrun ] }) same

pub periodic_each : (image : Image) (t i : ℕ) (qs : List Process) (s : State) → periodic image t i qs s ≡ each image t (is_periodic_due t) i qs s
periodic_each image t i [] s = refl
periodic_each image t i (q ∷ qs) s =
    let a : Started = cond (is_periodic_due t q) (release image t i q s) (unchanged s) in
    followed_same a (periodic image t (i + 1) qs) (each image t (is_periodic_due t) (i + 1) qs) (periodic_each image t (i + 1) qs a.state)

-- the processes that an event releases
abbrev pub named : ℕ → Process → Bool
named n q = nat_eq q.kind 1 && nat_eq q.event n

pub occurs_each : (image : Image) (t n i : ℕ) (qs : List Process) (s : State) → occurs image t n i qs s ≡ each image t (named n) i qs s
occurs_each image t n i [] s = refl
occurs_each image t n i (q ∷ qs) s =
    let a : Started = cond (named n q) (release image t i q s) (unchanged s) in
    followed_same a (occurs image t n (i + 1) qs) (each image t (named n) (i + 1) qs) (occurs_each image t n (i + 1) qs a.state)

release_other : (image : Image) (t j k : ℕ) (q : Process) (s : State) → (j ≡ k → ⊥) → slice_get (release image t j q s).state.threads k ≡ slice_get s.threads k
release_other image t j k q s differ = by (slice_get s.threads j) where
  by : (o : Option Thread) → slice_get (release_thread image t j q s o).state.threads k ≡ slice_get s.threads k
  by None = refl
  by (Some Idle) = get_other s.threads j k (Ready (released image q)) differ
  by (Some (Ready job)) = refl
  by (Some (Waiting c due number job)) = refl

release_here : (image : Image) (t k : ℕ) (p : Process) (s : State) → slice_get (release image t k p s).state.threads k ≡ released_thread image p (slice_get s.threads k)
release_here image t k p s = by (slice_get s.threads k) refl where
  by : (o : Option Thread) → slice_get s.threads k ≡ o → slice_get (release_thread image t k p s o).state.threads k ≡ released_thread image p o
  by None at = at
  by (Some Idle) at = get_set s.threads k (Ready (released image p)) Idle at
  by (Some (Ready job)) at = at
  by (Some (Waiting c due number job)) at = at

pub maybe_other : (image : Image) (t j k : ℕ) (q : Process) (b : Bool) (s : State) → (j ≡ k → ⊥) → slice_get (cond b (release image t j q s) (unchanged s)).state.threads k ≡ slice_get s.threads k
maybe_other image t j k q true s differ = release_other image t j k q s differ
maybe_other image t j k q false s differ = refl

pub maybe_here : (image : Image) (t k : ℕ) (p : Process) (b : Bool) (s : State) → slice_get (cond b (release image t k p s) (unchanged s)).state.threads k ≡ maybe_released image p b (slice_get s.threads k)
maybe_here image t k p true s = release_here image t k p s
maybe_here image t k p false s = refl

pub each_past : (image : Image) (t : ℕ) (test : Process → Bool) (i k : ℕ) (qs : List Process) (s : State) → k < i → slice_get (each image t test i qs s).state.threads k ≡ slice_get s.threads k
each_past image t test i k [] s past = refl
each_past image t test i k (q ∷ qs) s past =
    each_past image t test (i + 1) k qs (cond (test q) (release image t i q s) (unchanged s)).state (omega (arith, past))
    ∙ maybe_other image t i k q (test q) s (λ same. absurd (omega (arith, same, past)))

pub each_here : (image : Image) (t : ℕ) (test : Process → Bool) (i j k : ℕ) (qs : List Process) (p : Process) (s : State) → slice_get qs j ≡ Some p → i + j ≡ k
    → slice_get (each image t test i qs s).state.threads k ≡ maybe_released image p (test p) (slice_get s.threads k)
each_here image t test i j k [] p s at is = absurd cc
each_here image t test i zero k (q ∷ qs) p s at is =
    let same : q ≡ p = cc in
    let here : i ≡ k = omega (arith, is) in
    each_past image t test (i + 1) k qs (cond (test q) (release image t i q s) (unchanged s)).state (omega (arith, here))
    ∙ subst (λ (x : ℕ). slice_get (cond (test q) (release image t x q s) (unchanged s)).state.threads k ≡ maybe_released image p (test p) (slice_get s.threads k)) (sym here)
    (maybe_here image t k q (test q) s ∙ ap (λ (x : Process). maybe_released image x (test x) (slice_get s.threads k)) same)
each_here image t test i (suc j) k (q ∷ qs) p s at is =
    each_here image t test (i + 1) j k qs p (cond (test q) (release image t i q s) (unchanged s)).state at (omega (arith, is))
    ∙ ap (λ (x : Option Thread). maybe_released image p (test p) x) (maybe_other image t i k q (test q) s (λ same. absurd (omega (arith, same, is))))

-- ---- the lines

pub line_here : (image : Image) (t k : ℕ) (p : Process) (u n : ℕ) (s : State) → slice_get image.processes k ≡ Some p
    → slice_get (line image t (Occurs u n) s).state.threads k ≡ maybe_released image p (nat_eq u t && named n p) (slice_get s.threads k)
line_here image t k p u n s process = by (nat_eq u t) where
  by : (b : Bool) → slice_get (cond b (occurs image t n 0 image.processes s) (unchanged s)).state.threads k ≡ maybe_released image p (b && named n p) (slice_get s.threads k)
  by false = refl
  by true = ap (λ (x : Started). slice_get x.state.threads k) (occurs_each image t n 0 image.processes s) ∙ each_here image t (named n) 0 k k image.processes p s process (omega arith)

pub sets_here : (image : Image) (t k u d : ℕ) (v : ℤ) (s : State) → (line image t (Sets u d v) s).state.threads ≡ s.threads
sets_here image t k u d v s = by (nat_eq u t) where
  by : (b : Bool) → (cond b (unchanged (record s { devices = slice_set s.devices d v })) (unchanged s)).state.threads ≡ s.threads
  by true = refl
  by false = refl

or_due : (x kind e o : Bool) → (x && (kind && e)) || (kind && o) ≡ kind && ((x && e) || o)
or_due false false e o = refl
or_due true false e o = refl
or_due false true e o = refl
or_due true true e o = refl

pub lines_here : (image : Image) (t k : ℕ) (p : Process) (ls : List Line) (s : State) → slice_get image.processes k ≡ Some p
    → slice_get (lines image t ls s).state.threads k ≡ maybe_released image p (nat_eq p.kind 1 && occurs_at ls t p.event) (slice_get s.threads k)
lines_here image t k p [] s process = by (nat_eq p.kind 1) where
  by : (b : Bool) → slice_get s.threads k ≡ maybe_released image p (b && false) (slice_get s.threads k)
  by true = refl
  by false = refl
lines_here image t k p (Sets u d v ∷ ls) s process =
    lines_here image t k p ls (line image t (Sets u d v) s).state process
    ∙ ap (λ (x : List Thread). maybe_released image p (nat_eq p.kind 1 && occurs_at ls t p.event) (slice_get x k)) (sets_here image t k u d v s)
lines_here image t k p (Occurs u n ∷ ls) s process =
    let now : Bool = nat_eq u t && named n p in
    let later : Bool = nat_eq p.kind 1 && occurs_at ls t p.event in
    lines_here image t k p ls (line image t (Occurs u n) s).state process
    ∙ (ap (λ (x : Option Thread). maybe_released image p later x) (line_here image t k p u n s process)
    ∙ (maybe_twice image p now later (slice_get s.threads k)
    ∙ ap (λ (b : Bool). maybe_released image p b (slice_get s.threads k)) (or_due (nat_eq u t) (nat_eq p.kind 1) (nat_eq p.event n) (occurs_at ls t p.event))))

-- ---- time-outs

-- what the time-outs make of a thread
abbrev pub TimesOut : Option Thread → Option Thread → Type 0
TimesOut (Some (Waiting c due number job)) u = (u ≡ Some (Waiting c due number job)) ⊎ ((new : Job) × (u ≡ Some (Ready new)) × (new.inside ≡ None))
TimesOut (Some Idle) u = u ≡ Some Idle
TimesOut (Some (Ready job)) u = u ≡ Some (Ready job)
TimesOut None u = u ≡ None

times_same : (o : Option Thread) → TimesOut o o
times_same None = refl
times_same (Some Idle) = refl
times_same (Some (Ready job)) = refl
times_same (Some (Waiting c due number job)) = inl refl

-- a wait may end
ends_wait : (o : Option Thread) (c due number : ℕ) (job new : Job) (u : Option Thread) → TimesOut o (Some (Waiting c due number job)) → u ≡ Some (Ready new) → new.inside ≡ None → TimesOut o u
ends_wait None c due number job new u is at out = absurd cc
ends_wait (Some Idle) c due number job new u is at out = absurd cc
ends_wait (Some (Ready old)) c due number job new u is at out = absurd cc
ends_wait (Some (Waiting c' due' number' job')) c due number job new u is at out = inr (new, at, out)

time_out_here : (image : Image) (t j k : ℕ) (q : Process) (s : State) (o : Option Thread) → TimesOut o (slice_get s.threads k) → TimesOut o (slice_get (time_out image t j q s (slice_get s.threads j)).state.threads k)
time_out_here image t j k q s o is = by (slice_get s.threads j) refl where
  by : (x : Option Thread) → slice_get s.threads j ≡ x → TimesOut o (slice_get (time_out image t j q s x).state.threads k)
  by None at = is
  by (Some Idle) at = is
  by (Some (Ready job)) at = is
  by (Some (Waiting c due number job)) at = by_due (nat_eq due t) where
    new : Job
    new = record (raised q number job) { dispatch_ticks = 2 * image.over }

    by_due : (d : Bool) → TimesOut o (slice_get (cond d (told t j (act.TimeOut c number) (record s { queues = slice_set s.queues c (without j (queue_of s.queues c)) }) (Ready new)) (unchanged s)).state.threads k)
    by_due false = is
    by_due true = elim (cases_eq j k) [
      | inr differ ↦ subst (λ (x : Option Thread). TimesOut o x) (sym (get_other s.threads j k (Ready new) differ)) is
      | inl same ↦
          let now : slice_get s.threads k ≡ Some (Waiting c due number job) = ap (λ (x : ℕ). slice_get s.threads x) (sym same) ∙ at in
          ends_wait o c due number job new (slice_get (slice_set s.threads j (Ready new)) k) (subst (λ (x : Option Thread). TimesOut o x) now is)
          (ap (λ (x : ℕ). slice_get (slice_set s.threads x (Ready new)) k) same ∙ get_set s.threads k (Ready new) (Waiting c due number job) now) refl
    ]

at_rank_here : (image : Image) (t rank i k : ℕ) (qs : List Process) (s : State) (o : Option Thread) → TimesOut o (slice_get s.threads k) → TimesOut o (slice_get (at_rank image t rank i qs s).state.threads k)
at_rank_here image t rank i k [] s o is = is
at_rank_here image t rank i k (q ∷ qs) s o is =
    at_rank_here image t rank (i + 1) k qs (cond (nat_eq q.rank rank) (time_out image t i q s (slice_get s.threads i)) (unchanged s)).state o (by (nat_eq q.rank rank)) where
      by : (b : Bool) → TimesOut o (slice_get (cond b (time_out image t i q s (slice_get s.threads i)) (unchanged s)).state.threads k)
      by true = time_out_here image t i k q s o is
      by false = is

time_outs_here : (image : Image) (t rank n k : ℕ) (s : State) (o : Option Thread) → TimesOut o (slice_get s.threads k) → TimesOut o (slice_get (time_outs image t rank n s).state.threads k)
time_outs_here image t rank zero k s o is = is
time_outs_here image t rank (suc n) k s o is = time_outs_here image t (rank + 1) n k (at_rank image t rank 0 image.processes s).state o (at_rank_here image t rank 0 k image.processes s o is)

-- ---- all start events

-- a process after the start events: it is released where that is due, and then times out
pub begun : (image : Image) (script : Script) (t k : ℕ) (p : Process) (s : State) → slice_get image.processes k ≡ Some p
    → TimesOut (maybe_released image p (is_due script t p) (slice_get s.threads k)) (slice_get (starts image script t s).state.threads k)
unfolding starts
begun image script t k p s process =
    let a : State = (lines image t script.lines s).state in
    let b : State = (periodic image t 0 image.processes a).state in
    let lined : slice_get a.threads k ≡ maybe_released image p (is_event_due script t p) (slice_get s.threads k) = lines_here image t k p script.lines s process in
    let released : slice_get b.threads k ≡ maybe_released image p (is_periodic_due t p) (slice_get a.threads k) =
    ap (λ (x : Started). slice_get x.state.threads k) (periodic_each image t 0 image.processes a) ∙ each_here image t (is_periodic_due t) 0 k k image.processes p a process (omega arith) in
    let both : slice_get b.threads k ≡ maybe_released image p (is_due script t p) (slice_get s.threads k) =
    released ∙ (ap (λ (x : Option Thread). maybe_released image p (is_periodic_due t p) x) lined ∙ maybe_twice image p (is_event_due script t p) (is_periodic_due t p) (slice_get s.threads k)) in
    time_outs_here image t 1 (length image.processes) k b (maybe_released image p (is_due script t p) (slice_get s.threads k))
    (subst (λ (x : Option Thread). TimesOut (maybe_released image p (is_due script t p) (slice_get s.threads k)) x) (sym both) (times_same (maybe_released image p (is_due script t p) (slice_get s.threads k))))
