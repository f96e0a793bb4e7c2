-- Releases and ends are told.
use Rattle.std.proofs.Common.{◌≡◌, ◌+◌, ◌++◌, ℕ, zero, suc, List, [], ◌∷◌, Option, Some, length, arith, refl, ap, sym, subst, ◌∙◌, true, false, Bool}
use Rattle.std.specs.Prelude.{slice_get, cond, nat_eq, ◌&&◌, ◌||◌, Contains}
use Rattle.std.proofs.lemmas.List.Elements.{Contains-append_left, Contains-append_right}
use Rattle.std.proofs.lemmas.Bool.{and_parts}
use Rattle.base.specs.declared.event.Event.{Event}
use Rattle.base.specs.declared.event.Act.TheVariants as act
use Rattle.machine_semantics.specs.Image.{Image, Process, Script, Line, Sets, Occurs}
use Rattle.machine_semantics.specs.State.{Thread, Idle, State}
use Rattle.machine_semantics.specs.Starts.{Started, unchanged, release, release_thread, occurs, line, lines, is_periodic_due, periodic, time_outs, starts}
use Rattle.machine_semantics.specs.Tick.{pick, run_picked, tick}
use Rattle.machine_semantics.specs.Run.{state_at}
use Rattle.sched_timing.specs.Views.{occurs_at, is_event_due, is_due, during}
use Rattle.sched_timing.specs.Timed.{told_at}
use Rattle.sched_timing.proofs.Begun.{maybe_released, each, named, periodic_each, occurs_each, maybe_other, line_here, lines_here, sets_here}

-- process k is released at tick t
abbrev pub released_at : (t k : ℕ) → Event
released_at t k = record { tick = t; proc = k; act = act.Release }

here : (x : Event) → Contains (x ∷ []) x
here x = (0, omega arith, refl)

release_told : (image : Image) (t k : ℕ) (p : Process) (s : State) → slice_get s.threads k ≡ Some Idle → Contains (release image t k p s).events (released_at t k)
release_told image t k p s idle = subst (λ (o : Option Thread). Contains (release_thread image t k p s o).events (released_at t k)) (sym idle) (here (released_at t k))

maybe_told : (image : Image) (t k : ℕ) (p : Process) (b : Bool) (s : State) → b ≡ true → slice_get s.threads k ≡ Some Idle → Contains (cond b (release image t k p s) (unchanged s)).events (released_at t k)
maybe_told image t k p true s is idle = release_told image t k p s idle
maybe_told image t k p false s is idle = absurd cc

each_told : (image : Image) (t : ℕ) (test : Process → Bool) (i j k : ℕ) (qs : List Process) (p : Process) (s : State) → slice_get qs j ≡ Some p → i + j ≡ k → test p ≡ true → slice_get s.threads k ≡ Some Idle
    → Contains (each image t test i qs s).events (released_at t k)
each_told image t test i j k [] p s at is due idle = absurd cc
each_told image t test i zero k (q ∷ qs) p s at is due idle =
    let a : Started = cond (test q) (release image t i q s) (unchanged s) in
    let same : p ≡ q = cc in
    let at_i : k ≡ i = omega (arith, is) in
    Contains-append_left a.events (each image t test (i + 1) qs a.state).events (released_at t k)
    (subst (λ (x : ℕ). Contains a.events (released_at t x)) (sym at_i)
    (maybe_told image t i q (test q) s (sym (ap (λ (x : Process). test x) same) ∙ due) (ap (λ (x : ℕ). slice_get s.threads x) (sym at_i) ∙ idle)))
each_told image t test i (suc j) k (q ∷ qs) p s at is due idle =
    let a : Started = cond (test q) (release image t i q s) (unchanged s) in
    Contains-append_right a.events (each image t test (i + 1) qs a.state).events (released_at t k)
    (each_told image t test (i + 1) j k qs p a.state at (omega (arith, is)) due (maybe_other image t i k q (test q) s (λ same. absurd (omega (arith, same, is))) ∙ idle))

line_told : (image : Image) (t k : ℕ) (p : Process) (u n : ℕ) (s : State) → slice_get image.processes k ≡ Some p → nat_eq u t && named n p ≡ true → slice_get s.threads k ≡ Some Idle → Contains (line image t (Occurs u n) s).events (released_at t k)
line_told image t k p u n s process due idle = by (nat_eq u t) (and_parts (nat_eq u t) (named n p) due).0 where
  by : (b : Bool) → b ≡ true → Contains (cond b (occurs image t n 0 image.processes s) (unchanged s)).events (released_at t k)
  by false is = absurd cc
  by true is =
      subst (λ (x : Started). Contains x.events (released_at t k)) (sym (occurs_each image t n 0 image.processes s))
      (each_told image t (named n) 0 k k image.processes p s process (omega arith) (and_parts (nat_eq u t) (named n p) due).1 idle)

lines_told : (image : Image) (t k : ℕ) (p : Process) (ls : List Line) (s : State) → slice_get image.processes k ≡ Some p → nat_eq p.kind 1 && occurs_at ls t p.event ≡ true → slice_get s.threads k ≡ Some Idle
    → Contains (lines image t ls s).events (released_at t k)
lines_told image t k p [] s process due idle = absurd (let no : false ≡ true = (and_parts (nat_eq p.kind 1) false due).1 in cc)
lines_told image t k p (Sets u d v ∷ ls) s process due idle =
    Contains-append_right (line image t (Sets u d v) s).events (lines image t ls (line image t (Sets u d v) s).state).events (released_at t k)
    (lines_told image t k p ls (line image t (Sets u d v) s).state process due (ap (λ (x : List Thread). slice_get x k) (sets_here image t k u d v s) ∙ idle))
lines_told image t k p (Occurs u n ∷ ls) s process due idle = by (nat_eq u t && named n p) refl (lines_told image t k p ls (line image t (Occurs u n) s).state process) where
  split : (x kind e o : Bool) → kind && ((x && e) || o) ≡ true → x && (kind && e) ≡ false → kind && o ≡ true
  split true true true o due' is = absurd cc
  split true true false o due' is = due'
  split false true e o due' is = due'
  split x false e o due' is = absurd cc

  by : (b : Bool) → nat_eq u t && named n p ≡ b
      → (nat_eq p.kind 1 && occurs_at ls t p.event ≡ true → slice_get (line image t (Occurs u n) s).state.threads k ≡ Some Idle → Contains (lines image t ls (line image t (Occurs u n) s).state).events (released_at t k))
      → Contains (lines image t (Occurs u n ∷ ls) s).events (released_at t k)
  by true is later =
      Contains-append_left (line image t (Occurs u n) s).events (lines image t ls (line image t (Occurs u n) s).state).events (released_at t k) (line_told image t k p u n s process is idle)
  by false is later =
      Contains-append_right (line image t (Occurs u n) s).events (lines image t ls (line image t (Occurs u n) s).state).events (released_at t k)
      (later (split (nat_eq u t) (nat_eq p.kind 1) (nat_eq p.event n) (occurs_at ls t p.event) due is)
      (line_here image t k p u n s process ∙ (ap (λ (b : Bool). maybe_released image p b (slice_get s.threads k)) is ∙ idle)))

-- a release that is due is told, if its process is idle
pub release_is_told : (image : Image) (script : Script) (t k : ℕ) (p : Process) (s : State) → slice_get image.processes k ≡ Some p → is_due script t p ≡ true → slice_get s.threads k ≡ Some Idle
    → Contains (starts image script t s).events (released_at t k)
unfolding starts
release_is_told image script t k p s process due idle = by (is_event_due script t p) refl due where
  a : Started
  a = lines image t script.lines s

  b : Started
  b = periodic image t 0 image.processes a.state

  c : Started
  c = time_outs image t 1 (length image.processes) b.state

  by : (d : Bool) → is_event_due script t p ≡ d → d || is_periodic_due t p ≡ true → Contains (a.events ++ (b.events ++ c.events)) (released_at t k)
  by true is now = Contains-append_left a.events (b.events ++ c.events) (released_at t k) (lines_told image t k p script.lines s process is idle)
  by false is now =
      Contains-append_right a.events (b.events ++ c.events) (released_at t k)
      (Contains-append_left b.events c.events (released_at t k)
      (subst (λ (x : Started). Contains x.events (released_at t k)) (sym (periodic_each image t 0 image.processes a.state))
      (each_told image t (is_periodic_due t) 0 k k image.processes p a.state process (omega arith) now
      (lines_here image t k p script.lines s process ∙ (ap (λ (x : Bool). maybe_released image p x (slice_get s.threads k)) is ∙ idle)))))

-- the events of a tick are those of its start, then those of the process that runs
pub told_is : (image : Image) (script : Script) (t : ℕ)
    → told_at image script t ≡ (starts image script t (state_at image script t)).events ++ (run_picked image t (during image script t) (pick image (during image script t).threads)).events
unfolding tick
told_is image script t = refl

pub overrun_is : (image : Image) (script : Script) (t : ℕ) → (tick image script t (state_at image script t)).overrun ≡ (starts image script t (state_at image script t)).overrun
unfolding tick
overrun_is image script t = refl
