-- Where each process that is to be released is idle, and is released once, no start event is an overrun.
use Rattle.std.proofs.Common.{◌≡◌, ◌+◌, ◌*◌, ℕ, zero, suc, List, [], ◌∷◌, Option, Some, None, arith, refl, ap, sym, subst, ◌∙◌, true, false, Bool, length}
use Rattle.std.specs.Prelude.{slice_get, slice_set, cond, nat_eq, nat_le, ◌&&◌, ◌||◌}
use Rattle.std.proofs.lemmas.Bool.Decides.{nat_tests}
use Rattle.std.proofs.lemmas.Bool.{and_parts, or_right}
use Rattle.base.specs.declared.event.Act.TheVariants as act
use Rattle.machine_semantics.specs.Image.{Image, Process, Script, Line, Sets, Occurs}
use Rattle.machine_semantics.specs.State.{Thread, Idle, Ready, Waiting, State}
use Rattle.machine_semantics.specs.Starts.{Started, unchanged, told, followed, release, release_thread, occurs, line, lines, is_periodic_due, periodic, raised, without, queue_of, time_out, at_rank, time_outs, starts}
use Rattle.sched_timing.specs.Views.{occurs_at, is_event_due, is_due}
use Rattle.sched_timing.proofs.Begun.{maybe_released, each, named, periodic_each, occurs_each, maybe_other, line_here, lines_here, sets_here}

-- the first is no overrun, and what follows is none
both_in_time : (a : Started) (go : State → Started) → a.overrun ≡ false → (go a.state).overrun ≡ false → (followed a go).overrun ≡ false
both_in_time a go first second = ap (λ (b : Bool). elim b [ true ↦ true | false ↦ (go a.state).overrun ]) first ∙ second

release_in_time : (image : Image) (t k : ℕ) (p : Process) (s : State) → slice_get s.threads k ≡ Some Idle → (release image t k p s).overrun ≡ false
release_in_time image t k p s idle = ap (λ (o : Option Thread). (release_thread image t k p s o).overrun) idle

maybe_in_time : (image : Image) (t k : ℕ) (p : Process) (b : Bool) (s : State) → (b ≡ true → slice_get s.threads k ≡ Some Idle) → (cond b (release image t k p s) (unchanged s)).overrun ≡ false
maybe_in_time image t k p true s idle = release_in_time image t k p s (idle refl)
maybe_in_time image t k p false s idle = refl

each_in_time : (image : Image) (t : ℕ) (test : Process → Bool) (i : ℕ) (qs : List Process) (s : State)
    → ((j : ℕ) (q : Process) → slice_get qs j ≡ Some q → test q ≡ true → slice_get s.threads (i + j) ≡ Some Idle) → (each image t test i qs s).overrun ≡ false
each_in_time image t test i [] s idle = refl
each_in_time image t test i (q ∷ qs) s idle =
    let a : Started = cond (test q) (release image t i q s) (unchanged s) in
    both_in_time a (each image t test (i + 1) qs)
    (maybe_in_time image t i q (test q) s (λ is. (let z : i + 0 ≡ i = omega arith in subst (λ (x : ℕ). slice_get s.threads x ≡ Some Idle) z (idle 0 q refl is))))
    (each_in_time image t test (i + 1) qs a.state (λ j r at is.
    (let z : i + suc j ≡ i + 1 + j = omega arith in
    maybe_other image t i (i + 1 + j) q (test q) s (λ same. absurd (omega (arith, same)))
    ∙ subst (λ (x : ℕ). slice_get s.threads x ≡ Some Idle) z (idle (suc j) r at is))))

-- ---- the lines

-- no event of a process stands in two lines of the tick
abbrev pub Once : Image → ℕ → List Line → Type 0
Once image t [] = Unit {0}
Once image t (Sets u d v ∷ ls) = Once image t ls
Once image t (Occurs u n ∷ ls) = (u ≡ t → (k : ℕ) (p : Process) → slice_get image.processes k ≡ Some p → p.kind ≡ 1 → p.event ≡ n → occurs_at ls t n ≡ false) × Once image t ls

-- a process whose event is in the lines is idle
abbrev pub AreIdle : Image → ℕ → List Line → State → Type 0
AreIdle image t ls s = (k : ℕ) (p : Process) → slice_get image.processes k ≡ Some p → nat_eq p.kind 1 && occurs_at ls t p.event ≡ true → slice_get s.threads k ≡ Some Idle

pub due_now : (x kind e o : Bool) → x ≡ true → kind && e ≡ true → kind && ((x && e) || o) ≡ true
due_now false kind e o is due = absurd cc
due_now true false e o is due = due
due_now true true false o is due = absurd cc
due_now true true true o is due = refl

pub due_later : (x kind e o : Bool) → kind && o ≡ true → kind && ((x && e) || o) ≡ true
due_later x false e o due = due
due_later x true e false due = absurd cc
due_later false true e true due = refl
due_later true true false true due = refl
due_later true true true true due = refl

lines_in_time : (image : Image) (t : ℕ) (ls : List Line) (s : State) → Once image t ls → AreIdle image t ls s → (lines image t ls s).overrun ≡ false
lines_in_time image t [] s once idle = refl
lines_in_time image t (Sets u d v ∷ ls) s once idle =
    both_in_time (line image t (Sets u d v) s) (lines image t ls) (by (nat_eq u t))
    (lines_in_time image t ls (line image t (Sets u d v) s).state once (λ k p process due. ap (λ (x : List Thread). slice_get x k) (sets_here image t k u d v s) ∙ idle k p process due)) where
      by : (b : Bool) → (cond b (unchanged (record s { devices = slice_set s.devices d v })) (unchanged s)).overrun ≡ false
      by true = refl
      by false = refl
lines_in_time image t (Occurs u n ∷ ls) s once idle =
    both_in_time (line image t (Occurs u n) s) (lines image t ls) (by (nat_eq u t) refl)
    (lines_in_time image t ls (line image t (Occurs u n) s).state once.1 still) where
      by : (b : Bool) → nat_eq u t ≡ b → (cond b (occurs image t n 0 image.processes s) (unchanged s)).overrun ≡ false
      by false is = refl
      by true is =
          ap (λ (x : Started). x.overrun) (occurs_each image t n 0 image.processes s)
          ∙ each_in_time image t (named n) 0 image.processes s (λ j q at test.
          (let z : j ≡ 0 + j = omega arith in
          subst (λ (x : ℕ). slice_get s.threads x ≡ Some Idle) z (idle j q at (due_now (nat_eq u t) (nat_eq q.kind 1) (nat_eq q.event n) (occurs_at ls t q.event) is test))))

      not_now : (k : ℕ) (p : Process) → slice_get image.processes k ≡ Some p → nat_eq p.kind 1 && occurs_at ls t p.event ≡ true → (b : Bool) → nat_eq u t && named n p ≡ b → b ≡ false
      not_now k p process due false is = refl
      not_now k p process due true is =
          let now : (nat_eq u t ≡ true) × (named n p ≡ true) = and_parts (nat_eq u t) (named n p) is in
          let it : (nat_eq p.kind 1 ≡ true) × (nat_eq p.event n ≡ true) = and_parts (nat_eq p.kind 1) (nat_eq p.event n) now.1 in
          let tick_is : u ≡ t = grind (arith, nat_tests, now.0) in
          let kind_is : p.kind ≡ 1 = grind (arith, nat_tests, it.0) in
          let event_is : p.event ≡ n = grind (arith, nat_tests, it.1) in
          let none : occurs_at ls t n ≡ false = once.0 tick_is k p process kind_is event_is in
          let some : occurs_at ls t p.event ≡ true = (and_parts (nat_eq p.kind 1) (occurs_at ls t p.event) due).1 in
          absurd (let both : true ≡ false = sym some ∙ (ap (λ (x : ℕ). occurs_at ls t x) event_is ∙ none) in cc)

      still : AreIdle image t ls (line image t (Occurs u n) s).state
      still = λ k p process due.
          line_here image t k p u n s process
          ∙ (ap (λ (b : Bool). maybe_released image p b (slice_get s.threads k)) (not_now k p process due (nat_eq u t && named n p) refl)
          ∙ idle k p process (due_later (nat_eq u t) (nat_eq p.kind 1) (nat_eq p.event n) (occurs_at ls t p.event) due))

-- ---- time-outs

time_out_in_time : (image : Image) (t k : ℕ) (p : Process) (s : State) (o : Option Thread) → (time_out image t k p s o).overrun ≡ false
time_out_in_time image t k p s None = refl
time_out_in_time image t k p s (Some Idle) = refl
time_out_in_time image t k p s (Some (Ready job)) = refl
time_out_in_time image t k p s (Some (Waiting c due number job)) = by (nat_eq due t) where
  by : (d : Bool) → (cond d (told t k (act.TimeOut c number) (record s { queues = slice_set s.queues c (without k (queue_of s.queues c)) }) (Ready (record (raised p number job) { dispatch_ticks = 2 * image.over }))) (unchanged s)).overrun ≡ false
  by true = refl
  by false = refl

at_rank_in_time : (image : Image) (t rank i : ℕ) (qs : List Process) (s : State) → (at_rank image t rank i qs s).overrun ≡ false
at_rank_in_time image t rank i [] s = refl
at_rank_in_time image t rank i (q ∷ qs) s =
    let a : Started = cond (nat_eq q.rank rank) (time_out image t i q s (slice_get s.threads i)) (unchanged s) in
    both_in_time a (at_rank image t rank (i + 1) qs) (by (nat_eq q.rank rank)) (at_rank_in_time image t rank (i + 1) qs a.state) where
      by : (b : Bool) → (cond b (time_out image t i q s (slice_get s.threads i)) (unchanged s)).overrun ≡ false
      by true = time_out_in_time image t i q s (slice_get s.threads i)
      by false = refl

time_outs_in_time : (image : Image) (t rank n : ℕ) (s : State) → (time_outs image t rank n s).overrun ≡ false
time_outs_in_time image t rank zero s = refl
time_outs_in_time image t rank (suc n) s =
    both_in_time (at_rank image t rank 0 image.processes s) (time_outs image t (rank + 1) n) (at_rank_in_time image t rank 0 image.processes s) (time_outs_in_time image t (rank + 1) n (at_rank image t rank 0 image.processes s).state)

-- ---- all start events

or_left : (a b : Bool) → a ≡ true → a || b ≡ true
or_left true b is = refl
or_left false b is = absurd cc

-- a periodic process is released by no event
pub no_event : (script : Script) (t : ℕ) (p : Process) → is_periodic_due t p ≡ true → is_event_due script t p ≡ false
no_event script t p due =
    let kind : p.kind ≡ 0 = (let is : nat_eq p.kind 0 ≡ true = (and_parts (nat_eq p.kind 0) (nat_le p.first t) (and_parts (nat_eq p.kind 0 && nat_le p.first t) _ due).0).0 in grind (arith, nat_tests, is)) in
    let other : nat_eq p.kind 1 ≡ false = grind (arith, nat_tests, kind) in
    ap (λ (b : Bool). b && occurs_at script.lines t p.event) other

pub starts_in_time : (image : Image) (script : Script) (t : ℕ) (s : State) → Once image t script.lines
    → ((k : ℕ) (p : Process) → slice_get image.processes k ≡ Some p → is_due script t p ≡ true → slice_get s.threads k ≡ Some Idle) → (starts image script t s).overrun ≡ false
unfolding starts
starts_in_time image script t s once idle =
    let a : Started = lines image t script.lines s in
    let b : Started = periodic image t 0 image.processes a.state in
    let lined : a.overrun ≡ false = lines_in_time image t script.lines s once (λ k p process due. idle k p process (or_left (is_event_due script t p) (is_periodic_due t p) due)) in
    let released : b.overrun ≡ false =
    ap (λ (x : Started). x.overrun) (periodic_each image t 0 image.processes a.state)
    ∙ each_in_time image t (is_periodic_due t) 0 image.processes a.state (λ j q at due.
    (let z : j ≡ 0 + j = omega arith in
    let now : slice_get a.state.threads j ≡ Some Idle =
    lines_here image t j q script.lines s at
    ∙ (ap (λ (x : Bool). maybe_released image q x (slice_get s.threads j)) (no_event script t q due) ∙ idle j q at (or_right (is_event_due script t q) (is_periodic_due t q) due)) in
    subst (λ (x : ℕ). slice_get a.state.threads x ≡ Some Idle) z now)) in
    both_in_time a (λ x. followed (periodic image t 0 image.processes x) (time_outs image t 1 (length image.processes))) lined
    (both_in_time b (time_outs image t 1 (length image.processes)) released (time_outs_in_time image t 1 (length image.processes) b.state))
