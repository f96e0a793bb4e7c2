-- Each start event makes a process ready that was not.
use Rattle.std.proofs.Common.{◌≡◌, ◌≤◌, ◌+◌, ◌*◌, ℕ, zero, suc, List, [], ◌∷◌, Option, Some, None, length, arith, refl, ap, sym, subst, true, false, Bool, length-append}
use Rattle.std.specs.Prelude.{slice_get, slice_set, cond, nat_eq, ◌&&◌}
use Rattle.base.specs.declared.event.Act.TheVariants as act
use Rattle.machine_semantics.specs.Image.{Image, Process, Script, Line, Sets, Occurs}
use Rattle.machine_semantics.specs.State.{Job, Thread, Idle, Ready, Waiting, State}
use Rattle.machine_semantics.specs.Starts.{Started, unchanged, told, followed, released, release, release_thread, occurs, line, lines, is_periodic_due, periodic, raised, without, queue_of, time_out, at_rank, time_outs, starts}
use Rattle.vm_stretch.specs.StartLaws.{StartsAreFew}

-- how many are not ready
abbrev unready : List Thread → ℕ
unready [] = 0
unready (Idle ∷ ts) = suc (unready ts)
unready (Ready job ∷ ts) = unready ts
unready (Waiting c due number job ∷ ts) = suc (unready ts)

unready_few : (ts : List Thread) → unready ts ≤ length ts
unready_few [] = omega arith
unready_few (Idle ∷ ts) = omega (arith, unready_few ts)
unready_few (Ready job ∷ ts) = omega (arith, unready_few ts)
unready_few (Waiting c due number job ∷ ts) = omega (arith, unready_few ts)

abbrev IsUnready : Thread → Type 0
IsUnready Idle = Unit {0}
IsUnready (Ready job) = ⊥
IsUnready (Waiting c due number job) = Unit {0}

unready_here : (x : Thread) (ts : List Thread) → IsUnready x → unready (x ∷ ts) ≡ suc (unready ts)
unready_here Idle ts un = refl
unready_here (Ready job) ts un = absurd un
unready_here (Waiting c due number job) ts un = refl

unready_set : (ts : List Thread) (k : ℕ) (x : Thread) (job : Job) → slice_get ts k ≡ Some x → IsUnready x → suc (unready (slice_set ts k (Ready job))) ≡ unready ts
unready_set [] k x job at un = absurd cc
unready_set (y ∷ ts) zero x job at un = let same : x ≡ y = cc in sym (unready_here y ts (subst IsUnready same un))
unready_set (Idle ∷ ts) (suc k) x job at un = ap suc (unready_set ts k x job at un)
unready_set (Ready j ∷ ts) (suc k) x job at un = unready_set ts k x job at un
unready_set (Waiting c due number j ∷ ts) (suc k) x job at un = ap suc (unready_set ts k x job at un)

-- as many events as processes have become ready
abbrev Counts : State → Started → Type 0
Counts s st = length st.events + unready st.state.threads ≡ unready s.threads

counts_none : (s : State) → Counts s (unchanged s)
counts_none s = omega arith

counts_then : (s : State) (a : Started) (go : State → Started) → Counts s a → Counts a.state (go a.state) → Counts s (followed a go)
counts_then s a go first second = omega (arith, first, second, length-append a.events (go a.state).events)

counts_either : (b : Bool) (s : State) (x : Started) → Counts s x → Counts s (cond b x (unchanged s))
counts_either true s x counts = counts
counts_either false s x counts = counts_none s

release_counts : (image : Image) (t k : ℕ) (p : Process) (s : State) → Counts s (release image t k p s)
release_counts image t k p s = by (slice_get s.threads k) refl where
  by : (o : Option Thread) → slice_get s.threads k ≡ o → Counts s (release_thread image t k p s o)
  by None at = counts_none s
  by (Some (Ready job)) at = counts_none s
  by (Some (Waiting c due number job)) at = counts_none s
  by (Some Idle) at = omega (arith, unready_set s.threads k Idle (released image p) at tt)

occurs_counts : (image : Image) (t e k : ℕ) (ps : List Process) (s : State) → Counts s (occurs image t e k ps s)
occurs_counts image t e k [] s = counts_none s
occurs_counts image t e k (p ∷ ps) s =
    let first : Started = cond (nat_eq p.kind 1 && nat_eq p.event e) (release image t k p s) (unchanged s) in
    counts_then s first (occurs image t e (k + 1) ps) (counts_either (nat_eq p.kind 1 && nat_eq p.event e) s (release image t k p s) (release_counts image t k p s)) (occurs_counts image t e (k + 1) ps first.state)

line_counts : (image : Image) (t : ℕ) (l : Line) (s : State) → Counts s (line image t l s)
line_counts image t (Sets u d v) s = by (nat_eq u t) where
  by : (b : Bool) → Counts s (cond b (unchanged (record s { devices = slice_set s.devices d v })) (unchanged s))
  by true = omega arith
  by false = omega arith
line_counts image t (Occurs u e) s = counts_either (nat_eq u t) s (occurs image t e 0 image.processes s) (occurs_counts image t e 0 image.processes s)

lines_count : (image : Image) (t : ℕ) (ls : List Line) (s : State) → Counts s (lines image t ls s)
lines_count image t [] s = counts_none s
lines_count image t (l ∷ ls) s = counts_then s (line image t l s) (lines image t ls) (line_counts image t l s) (lines_count image t ls (line image t l s).state)

periodic_counts : (image : Image) (t k : ℕ) (ps : List Process) (s : State) → Counts s (periodic image t k ps s)
periodic_counts image t k [] s = counts_none s
periodic_counts image t k (p ∷ ps) s =
    let first : Started = cond (is_periodic_due t p) (release image t k p s) (unchanged s) in
    counts_then s first (periodic image t (k + 1) ps) (counts_either (is_periodic_due t p) s (release image t k p s) (release_counts image t k p s)) (periodic_counts image t (k + 1) ps first.state)

time_out_counts : (image : Image) (t k : ℕ) (p : Process) (s : State) → Counts s (time_out image t k p s (slice_get s.threads k))
time_out_counts image t k p s = by (slice_get s.threads k) refl where
  by : (o : Option Thread) → slice_get s.threads k ≡ o → Counts s (time_out image t k p s o)
  by None at = counts_none s
  by (Some Idle) at = counts_none s
  by (Some (Ready job)) at = counts_none s
  by (Some (Waiting c due e job)) at =
      let now : Started = told t k (act.TimeOut c e) (record s { queues = slice_set s.queues c (without k (queue_of s.queues c)) }) (Ready (record (raised p e job) { dispatch_ticks = 2 * image.over })) in
      counts_either (nat_eq due t) s now (omega (arith, unready_set s.threads k (Waiting c due e job) (record (raised p e job) { dispatch_ticks = 2 * image.over }) at tt))

at_rank_counts : (image : Image) (t rank k : ℕ) (ps : List Process) (s : State) → Counts s (at_rank image t rank k ps s)
at_rank_counts image t rank k [] s = counts_none s
at_rank_counts image t rank k (p ∷ ps) s =
    let first : Started = cond (nat_eq p.rank rank) (time_out image t k p s (slice_get s.threads k)) (unchanged s) in
    counts_then s first (at_rank image t rank (k + 1) ps) (counts_either (nat_eq p.rank rank) s (time_out image t k p s (slice_get s.threads k)) (time_out_counts image t k p s)) (at_rank_counts image t rank (k + 1) ps first.state)

time_outs_count : (image : Image) (t rank n : ℕ) (s : State) → Counts s (time_outs image t rank n s)
time_outs_count image t rank zero s = counts_none s
time_outs_count image t rank (suc n) s =
    let first : Started = at_rank image t rank 0 image.processes s in
    counts_then s first (time_outs image t (rank + 1) n) (at_rank_counts image t rank 0 image.processes s) (time_outs_count image t (rank + 1) n first.state)

starts_count : (image : Image) (script : Script) (t : ℕ) (s : State) → Counts s (starts image script t s)
unfolding starts
starts_count image script t s =
    let a : State = (lines image t script.lines s).state in
    let b : State = (periodic image t 0 image.processes a).state in
    let last : State → Started = time_outs image t 1 (length image.processes) in
    counts_then s (lines image t script.lines s) (λ (x : State). followed (periodic image t 0 image.processes x) last) (lines_count image t script.lines s)
    (counts_then a (periodic image t 0 image.processes a) last (periodic_counts image t 0 image.processes a) (time_outs_count image t 1 (length image.processes) b))

pub starts_are_few : StartsAreFew
starts_are_few image script t s = omega (arith, starts_count image script t s, unready_few s.threads)
