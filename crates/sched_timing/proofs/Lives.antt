-- What is counted down of an activation is never less than what is owed.
use Rattle.std.proofs.Common.{◌≡◌, ◌≤◌, ◌+◌, ◌-◌, inl, inr, ℕ, zero, suc, List, [], ◌∷◌, Option, Some, map, arith, refl, ap, sym, subst, ◌∙◌, true, false, Bool}
use Rattle.std.specs.Prelude.{slice_get, ℤ, not, ◌&&◌}
use Rattle.std.proofs.lemmas.Bool.{cases_Bool}
use Rattle.machine_semantics.specs.Image.{Process, Script}
use Rattle.machine_semantics.specs.State.{Job, Thread, Idle, Ready, Waiting, State}
use Rattle.machine_semantics.specs.Effect.{Outcome, Goes, Does, Signals, Broadcasts, Waits, Raises, Ends, Stuck}
use Rattle.machine_semantics.specs.Tick.{owned_of, outcome_at, tick}
use Rattle.machine_semantics.specs.Run.{at_start, state_at}
use Rattle.machine_semantics.specs.Walk.{Where, WalkCost}
use Rattle.machine_semantics.specs.Safe.{Parts, ImageFits, ReadyFits, TickFits, own_of, part_of}
use Rattle.machine_semantics.specs.Whole.{StateFits}
use Rattle.machine_semantics.specs.Work.{HasLeft, Owes, IsBusy, Works, runs, worst_of, activation, work_of}
use Rattle.machine_semantics.specs.Waits.{Suspends, Spends, is_waiting}
use Rattle.machine_safety.proofs.Ticking.{tick_is_safe, based}
use Rattle.machine_safety.proofs.Working.{work_falls}
use Rattle.machine_safety.proofs.Suspending.{IsWoken, suspension_falls}
use Rattle.machine_safety.proofs.Beginning.{work_begins, suspension_begins}
use Rattle.sched_theorem.specs.Stretches.{Life, flag}
use Rattle.sched_timing.specs.Views.{during, declared, opened, spent, life_before, life_after}
use Rattle.sched_timing.proofs.Ranks.{IsTimedThriftily, Exact, exact}
use Rattle.sched_timing.proofs.Threads.{next_state, ran, fits_before, Threads, threads, takes_turn, is_left}

-- ---- more than enough

pub owes_more : (e : Where) (ps : ℕ → Parts) (s : State) (k n m : ℕ) → n ≤ m → Owes e ps s k n → Owes e ps s k m
owes_more e ps s k n m le o = record { p = o.p; thread = o.thread; left = o.left; process = o.process; there = o.there; has = o.has; work = omega (arith, le, o.work) }

suspends_more : (e : Where) (ps : ℕ → Parts) (s : State) (t k n m w v : ℕ) → n ≤ m → w ≤ v → Suspends e ps s t k n w → Suspends e ps s t k m v
suspends_more e ps s t k n m w v le less o = record { p = o.p; thread = o.thread; left = o.left; process = o.process; there = o.there; has = o.has; due = o.due; suspension = omega (arith, le, o.suspension); waits = omega (arith, less, o.waits) }

works_more : (e : Where) (ps : ℕ → Parts) (script : Script) (t : ℕ) (s : State) (k n m : ℕ) → n ≤ m → Works e ps script t s k n → Works e ps script t s k m
works_more e ps script t s k n m le w = (
  (λ is. (let f : (l : ℕ) × (n ≡ l + 1) × Owes e ps (tick e.image script t s).state k l = w.0 is in (m - 1, omega (arith, le, f.1), owes_more e ps (tick e.image script t s).state k f.0 (m - 1) (omega (arith, le, f.1)) f.2))),
  (λ is. owes_more e ps (tick e.image script t s).state k n m le (w.1 is)),
)

spends_more : (e : Where) (ps : ℕ → Parts) (s u : State) (t k n m w v : ℕ) → n ≤ m → w ≤ v → Spends e ps s u t k n w → Spends e ps s u t k m v
spends_more e ps s u t k n m w v le less x = record {
  waited = λ is. (let f : (l : ℕ) × (n ≡ l + 1) × Suspends e ps u (t + 1) k l w = x.waited is in (m - 1, omega (arith, le, f.1), suspends_more e ps u (t + 1) k f.0 (m - 1) w v (omega (arith, le, f.1)) less f.2));
  began = λ not_now then_it. (let f : (l : ℕ) × (w ≡ l + 1) × Suspends e ps u (t + 1) k n l = x.began not_now then_it in (v - 1, omega (arith, less, f.1), suspends_more e ps u (t + 1) k n m f.0 (v - 1) le (omega (arith, less, f.1)) f.2));
  ran = λ not_now not_then. suspends_more e ps u (t + 1) k n m w v le less (x.ran not_now not_then);
}

-- what is left after the tick
suspends_next : (e : Where) (ps : ℕ → Parts) (s u : State) (t k n w : ℕ) (a b : Bool) → is_waiting (slice_get s.threads k) ≡ a → is_waiting (slice_get u.threads k) ≡ b → Spends e ps s u t k n w
    → Suspends e ps u (t + 1) k (n - flag a) (w - flag (not a && b))
suspends_next e ps s u t k n w true b was is x = let f : (l : ℕ) × (n ≡ l + 1) × Suspends e ps u (t + 1) k l w = x.waited was in suspends_more e ps u (t + 1) k f.0 (n - 1) w (w - 0) (omega (arith, f.1)) (omega arith) f.2
suspends_next e ps s u t k n w false true was is x = let f : (l : ℕ) × (w ≡ l + 1) × Suspends e ps u (t + 1) k n l = x.began was is in suspends_more e ps u (t + 1) k n (n - 0) f.0 (w - 1) (omega arith) (omega (arith, f.1)) f.2
suspends_next e ps s u t k n w false false was is x = suspends_more e ps u (t + 1) k n (n - 0) w (w - 0) (omega arith) (omega arith) (x.ran was is)

-- ---- who is not idle owes something

fits_some : (e : Where) (p : Process) (ps : Parts) (job : Job) (owned words : List ℤ) (left : WalkCost) (out : Outcome) → TickFits e p ps job owned words left out → 1 ≤ left.run
fits_some e p ps job owned words left (Goes q) f = omega (arith, f.less)
fits_some e p ps job owned words left (Does a q) f = omega (arith, f.less)
fits_some e p ps job owned words left (Signals c q) f = omega (arith, f.less)
fits_some e p ps job owned words left (Broadcasts c q) f = omega (arith, f.less)
fits_some e p ps job owned words left (Waits c limit number q) f = omega (arith, f.less)
fits_some e p ps job owned words left (Raises number) f = omega (arith, f.less)
fits_some e p ps job owned words left Ends f = f
fits_some e p ps job owned words left Stuck f = absurd f

module _ (e : Where) (ps : ℕ → Parts) (image_fits : ImageFits e ps) where
  -- its next tick would be one in a state in which all monitors are free
  pub ready_some : (s : State) (k : ℕ) (p : Process) (job : Job) (owned : List ℤ) (left : WalkCost) → StateFits e ps s → slice_get e.image.processes k ≡ Some p → ReadyFits e p (ps k) job owned s.shared left → 1 ≤ left.run
  ready_some s k p job owned left fits process has =
      let free : State = record s { threads = [] } in
      fits_some e p (ps k) job owned s.shared left (outcome_at e.image free job owned (slice_get e.image.code job.place))
      (tick_is_safe e (ps k) free p job owned left image_fits.routines (image_fits.processes k p process) (record { queues = fits.sized.queues; devices = fits.sized.devices; shared = fits.sized.shared }) has (λ m mon there low out. refl))

  pub owes_some : (s : State) (k n : ℕ) (o : Owes e ps s k n) → StateFits e ps s → IsBusy o.thread → 1 ≤ n
  owes_some s k n o fits busy = by o.thread busy o.has o.work where
    by : (th : Thread) → IsBusy th → HasLeft e o.p (ps k) th (owned_of (slice_get s.owned k)) s.shared o.left → work_of e.image.over th o.left ≤ n → 1 ≤ n
    by Idle busy has work = absurd busy
    by (Ready job) busy has work = omega (arith, work, ready_some s k o.p job (owned_of (slice_get s.owned k)) o.left fits o.process has)
    by (Waiting c due number job) busy has work =
        omega (arith, work, has.run, (based e (part_of (ps k) job.handling) (own_of job (owned_of (slice_get s.owned k)) s.shared) has.cost (inr has.fits)).some)

-- ---- along the run

module _ (e : Where) (ps : ℕ → Parts) (image_fits : ImageFits e ps) (thrifty : IsTimedThriftily e ps) (script : Script) where
  abbrev pub at : ℕ → State
  at t = state_at e.image script t

  abbrev pub life : ℕ → ℕ → Life
  life t k = life_before e.image script t k

  abbrev pub later_life : ℕ → ℕ → Life
  later_life t k = life_after e.image script t k

  -- what is left of process k before tick t covers what it owes
  pub record Holds (t k : ℕ) : Type 0 where
    pub owes : (th : Thread) → slice_get (at t).threads k ≡ Some th → IsBusy th → Owes e ps (at t) k (life t k).run_left
    pub suspends : (th : Thread) → slice_get (at t).threads k ≡ Some th → IsBusy th → Suspends e ps (at t) t k (life t k).suspension_left (life t k).waits_left

  -- what is left of a process that is not idle after the start events
  pub record Middle (t k : ℕ) (new : Thread) (a : Life) : Type 0 where
    pub some : 1 ≤ a.run_left
    pub works : IsBusy new → Works e ps script t (at t) k a.run_left
    pub spends : IsBusy new → Spends e ps (during e.image script t) (tick e.image script t (at t)).state t k a.suspension_left a.waits_left

  -- what is left, in terms of the threads
  pub after_is : (t k : ℕ) (p : Process) → slice_get e.image.processes k ≡ Some p → (x : Threads e ps image_fits script t k p) → later_life t k ≡ opened (Some p) (Some x.old) (Some x.mid) (life t k)
  after_is t k p process x =
      ap (λ (o : Option Process). opened o (slice_get (at t).threads k) (slice_get (during e.image script t).threads k) (life t k)) process
      ∙ (ap (λ (o : Option Thread). opened (Some p) o (slice_get (during e.image script t).threads k) (life t k)) x.at_old
      ∙ ap (λ (o : Option Thread). opened (Some p) (Some x.old) o (life t k)) x.at_mid)

  pub next_is : (t k : ℕ) (p : Process) (x : Threads e ps image_fits script t k p) → life (suc t) k ≡ spent (runs e.image script t (at t) k) (Some x.mid) (Some x.new) (later_life t k)
  unfolding life_before
  next_is t k p x =
      ap (λ (o : Option Thread). spent (runs e.image script t (at t) k) o (slice_get (at (suc t)).threads k) (later_life t k)) x.at_mid
      ∙ ap (λ (o : Option Thread). spent (runs e.image script t (at t) k) (Some x.mid) o (later_life t k)) x.at_new

  now : (t k : ℕ) (th : Thread) → slice_get (at (suc t)).threads k ≡ Some th → slice_get (tick e.image script t (at t)).state.threads k ≡ Some th
  now t k th is = ap (λ (s : State). slice_get s.threads k) (sym (next_state e.image script t)) ∙ is

  idle_or : (th : Thread) → Some th ≡ Some Idle → IsBusy th → ⊥
  idle_or Idle is busy = busy
  idle_or (Ready job) is busy = absurd cc
  idle_or (Waiting c due number job) is busy = absurd cc

  -- a process that was idle has its whole activation
  whole_works : (t k : ℕ) (p : Process) → slice_get e.image.processes k ≡ Some p → (x : Threads e ps image_fits script t k p) → slice_get (at t).threads k ≡ Some Idle → Middle t k x.new (declared (Some p))
  whole_works t k p process x idle =
      let enough : Exact e ps thrifty k p = exact e ps thrifty k p process in
      record {
        some = omega (arith, enough.run);
        works = λ busy. (elim (work_begins e ps script t (at t) k image_fits (fits_before e ps image_fits script t) idle) [
          | inl still ↦ absurd (idle_or x.new (sym (now t k x.new x.at_new) ∙ still) busy)
          | inr works ↦ works_more e ps script t (at t) k (activation e.image.over (worst_of (ps k))) p.run enough.run works
        ]);
        spends = λ busy. (elim (suspension_begins e ps script t (at t) k image_fits thrifty.timed.ranked (fits_before e ps image_fits script t) idle) [
          | inl still ↦ absurd (idle_or x.new (sym (now t k x.new x.at_new) ∙ still) busy)
          | inr spends ↦ spends_more e ps (during e.image script t) (tick e.image script t (at t)).state t k (worst_of (ps k)).susp p.susp (worst_of (ps k)).waits p.waits enough.susp enough.waits spends
        ]);
      }

  -- a process that was not has what was left
  rest_works : (t k : ℕ) (old new : Thread) (waiting : ℕ) → slice_get (at t).threads k ≡ Some old → IsBusy old → Holds t k
      → Middle t k new (record { run_left = (life t k).run_left; suspension_left = (life t k).suspension_left; waits_left = (life t k).waits_left; waiting = waiting })
  rest_works t k old new waiting at_old busy holds =
      let o : Owes e ps (at t) k (life t k).run_left = holds.owes old at_old busy in
      let s : Suspends e ps (at t) t k (life t k).suspension_left (life t k).waits_left = holds.suspends old at_old busy in
      let same : old ≡ o.thread = (let both : Some old ≡ Some o.thread = sym at_old ∙ o.there in cc) in
      let same_s : old ≡ s.thread = (let both : Some old ≡ Some s.thread = sym at_old ∙ s.there in cc) in
      let busy_o : IsBusy o.thread = subst IsBusy same busy in
      let busy_s : IsBusy s.thread = subst IsBusy same_s busy in
      let fits : StateFits e ps (at t) = fits_before e ps image_fits script t in
      record {
        some = owes_some e ps image_fits (at t) k (life t k).run_left o fits busy_o;
        works = λ busy_new. work_falls e ps script t (at t) k (life t k).run_left image_fits fits o busy_o;
        spends = λ busy_new. suspension_falls e ps script t (at t) k (life t k).suspension_left (life t k).waits_left image_fits thrifty.timed.ranked fits s busy_s;
      }

  middle_of : (t k : ℕ) (p : Process) → slice_get e.image.processes k ≡ Some p → (x : Threads e ps image_fits script t k p) → Holds t k → (old mid : Thread) → slice_get (at t).threads k ≡ Some old → IsBusy mid
      → Middle t k x.new (opened (Some p) (Some old) (Some mid) (life t k))
  middle_of t k p process x holds Idle Idle is busy = absurd busy
  middle_of t k p process x holds Idle (Ready job) is busy = whole_works t k p process x is
  middle_of t k p process x holds Idle (Waiting c due number job) is busy = whole_works t k p process x is
  middle_of t k p process x holds (Ready old) Idle is busy = absurd busy
  middle_of t k p process x holds (Ready old) (Ready job) is busy = rest_works t k (Ready old) x.new 0 is tt holds
  middle_of t k p process x holds (Ready old) (Waiting c due number job) is busy = rest_works t k (Ready old) x.new 1 is tt holds
  middle_of t k p process x holds (Waiting c' due' number' job') Idle is busy = absurd busy
  middle_of t k p process x holds (Waiting c' due' number' job') (Ready job) is busy = rest_works t k (Waiting c' due' number' job') x.new 0 is tt holds
  middle_of t k p process x holds (Waiting c' due' number' job') (Waiting c due number job) is busy = rest_works t k (Waiting c' due' number' job') x.new 1 is tt holds

  pub middles : (t k : ℕ) (p : Process) → slice_get e.image.processes k ≡ Some p → (x : Threads e ps image_fits script t k p) → Holds t k → IsBusy x.mid → Middle t k x.new (later_life t k)
  middles t k p process x holds busy = subst (λ (a : Life). Middle t k x.new a) (sym (after_is t k p process x)) (middle_of t k p process x holds x.old x.mid x.at_old busy)

  -- who is not idle after the tick was not before its turn
  pub busy_before : (t k : ℕ) (p : Process) (x : Threads e ps image_fits script t k p) → IsBusy x.new → IsBusy x.mid
  busy_before t k p x busy = elim (cases_Bool (ran e ps image_fits script t k)) [
    | inl is ↦ subst IsBusy (sym (takes_turn e ps image_fits script t k p x is).1) tt
    | inr is_not ↦ by x.mid x.new (is_left e ps image_fits script t k p x is_not) busy
  ] where
    by : (mid new : Thread) → IsWoken e.image mid new → IsBusy new → IsBusy mid
    by Idle new (inl same) busy' = subst IsBusy same busy'
    by Idle new (inr woke) busy' = subst IsBusy woke busy'
    by (Ready job) new woke busy' = tt
    by (Waiting c due number job) new woke busy' = tt

  -- what is left of one that is not idle after the tick
  spent_busy : (was : Bool) (mid new : Thread) (a : Life) → IsBusy new → spent was (Some mid) (Some new) a ≡ record {
    run_left = a.run_left - flag was;
    suspension_left = a.suspension_left - flag (is_waiting (Some mid));
    waits_left = a.waits_left - flag (not (is_waiting (Some mid)) && is_waiting (Some new));
    waiting = flag (is_waiting (Some new));
  }
  spent_busy was mid Idle a busy = absurd busy
  spent_busy was mid (Ready job) a busy = refl
  spent_busy was mid (Waiting c due number job) a busy = refl

  holds_next : (t k : ℕ) (p : Process) → slice_get e.image.processes k ≡ Some p → Holds t k → Holds (suc t) k
  holds_next t k p process holds = record { owes = λ th is busy. (same th is busy).0; suspends = λ th is busy. (same th is busy).1 } where
    x : Threads e ps image_fits script t k p
    x = threads e ps image_fits script t k p process

    a : Life
    a = later_life t k

    u : State
    u = (tick e.image script t (at t)).state

    owes : IsBusy x.new → (was : Bool) → runs e.image script t (at t) k ≡ was → Works e ps script t (at t) k a.run_left → Owes e ps u k (a.run_left - flag was)
    owes busy true is works = (let f : (m : ℕ) × (a.run_left ≡ m + 1) × Owes e ps u k m = works.0 is in owes_more e ps u k f.0 (a.run_left - 1) (omega (arith, f.1)) f.2)
    owes busy false is works = owes_more e ps u k a.run_left (a.run_left - 0) (omega arith) (works.1 is)

    both : IsBusy x.new → Owes e ps (at (suc t)) k (life (suc t) k).run_left × Suspends e ps (at (suc t)) (suc t) k (life (suc t) k).suspension_left (life (suc t) k).waits_left
    both busy =
        let m : Middle t k x.new a = middles t k p process x holds (busy_before t k p x busy) in
        let l : life (suc t) k ≡ spent (runs e.image script t (at t) k) (Some x.mid) (Some x.new) a = next_is t k p x in
        let spends : Suspends e ps u (t + 1) k (a.suspension_left - flag (is_waiting (Some x.mid))) (a.waits_left - flag (not (is_waiting (Some x.mid)) && is_waiting (Some x.new))) =
        suspends_next e ps (during e.image script t) u t k a.suspension_left a.waits_left (is_waiting (Some x.mid)) (is_waiting (Some x.new))
        (ap (λ (o : Option Thread). is_waiting o) x.at_mid) (ap (λ (o : Option Thread). is_waiting o) (now t k x.new x.at_new)) (m.spends busy) in
        let later : t + 1 ≡ suc t = omega arith in
        subst (λ (b : Life). Owes e ps (at (suc t)) k b.run_left × Suspends e ps (at (suc t)) (suc t) k b.suspension_left b.waits_left)
        (sym (l ∙ spent_busy (runs e.image script t (at t) k) x.mid x.new a busy))
        (subst (λ (v : State). Owes e ps v k (a.run_left - flag (runs e.image script t (at t) k)) × Suspends e ps v (suc t) k (a.suspension_left - flag (is_waiting (Some x.mid))) (a.waits_left - flag (not (is_waiting (Some x.mid)) && is_waiting (Some x.new))))
        (sym (next_state e.image script t)) (
          owes busy (runs e.image script t (at t) k) refl (m.works busy),
          subst (λ (n : ℕ). Suspends e ps u n k (a.suspension_left - flag (is_waiting (Some x.mid))) (a.waits_left - flag (not (is_waiting (Some x.mid)) && is_waiting (Some x.new)))) later spends,
        ))

    same : (th : Thread) → slice_get (at (suc t)).threads k ≡ Some th → IsBusy th → Owes e ps (at (suc t)) k (life (suc t) k).run_left × Suspends e ps (at (suc t)) (suc t) k (life (suc t) k).suspension_left (life (suc t) k).waits_left
    same th is busy = both (subst IsBusy (let two : Some th ≡ Some x.new = sym is ∙ x.at_new in let one : th ≡ x.new = cc in one) busy)

  -- at first all are idle
  pub start_idle : (k : ℕ) (th : Thread) → slice_get (at 0).threads k ≡ Some th → IsBusy th → ⊥
  unfolding state_at at_start
  start_idle k th is busy = by e.image.processes k is where
    by : (qs : List Process) (j : ℕ) → slice_get (map (λ (q : Process). Idle) qs) j ≡ Some th → ⊥
    by [] j found = absurd cc
    by (q ∷ qs) zero found = idle_or th (sym found) busy
    by (q ∷ qs) (suc j) found = by qs j found

  pub holds : (t k : ℕ) (p : Process) → slice_get e.image.processes k ≡ Some p → Holds t k
  holds zero k p process = record { owes = λ th is busy. absurd (start_idle k th is busy); suspends = λ th is busy. absurd (start_idle k th is busy) }
  holds (suc t) k p process = holds_next t k p process (holds t k p process)

  -- a process that is not idle before a tick has something left
  pub some_left : (t k : ℕ) (p : Process) (th : Thread) → slice_get e.image.processes k ≡ Some p → slice_get (at t).threads k ≡ Some th → IsBusy th → 1 ≤ (life t k).run_left
  some_left t k p th process is busy =
      let o : Owes e ps (at t) k (life t k).run_left = (holds t k p process).owes th is busy in
      let same : th ≡ o.thread = (let both : Some th ≡ Some o.thread = sym is ∙ o.there in cc) in
      owes_some e ps image_fits (at t) k (life t k).run_left o (fits_before e ps image_fits script t) (subst IsBusy same busy)
