-- What the timing argument asks of each process in each tick, but for the stays in monitors.
use Rattle.std.proofs.Common.{◌≡◌, ◌≤◌, ◌+◌, ◌-◌, ◌⊎◌, inl, inr, ℕ, zero, suc, Option, Some, arith, refl, ap, sym, subst, ◌∙◌, true, false, Bool}
use Rattle.std.specs.Prelude.{slice_get, not, ◌&&◌}
use Rattle.std.proofs.lemmas.Bool.{cases_Bool}
use Rattle.machine_semantics.specs.Image.{Image, Process, Script}
use Rattle.machine_semantics.specs.State.{Job, Thread, Idle, Ready, Waiting, State}
use Rattle.machine_semantics.specs.Tick.{tick}
use Rattle.machine_semantics.specs.Run.{state_at}
use Rattle.machine_semantics.specs.Walk.{Where}
use Rattle.machine_semantics.specs.Safe.{Parts, ImageFits}
use Rattle.machine_semantics.specs.Work.{IsBusy, runs}
use Rattle.machine_semantics.specs.Waits.{Suspends, is_waiting}
use Rattle.machine_safety.proofs.Suspending.{IsWoken}
use Rattle.sched_response.specs.declared.tasks.Task.{Task}
use Rattle.sched_response.specs.Demand.{task_at}
use Rattle.sched_theorem.specs.Charges.{ChargedCost as Claim}
use Rattle.sched_theorem.specs.Stretches.{Life, IsLife, Opens, Acts, Spaced, flag}
use Rattle.sched_theorem.specs.Ranked.{cost_at}
use Rattle.valid_image.specs.Tasks.{task_of, tasks_of}
use Rattle.sched_timing.specs.Views.{during, inside_of, is_due, is_some_due, declared, opened, spent, nothing_left, life_before, life_after, rank_at}
use Rattle.sched_timing.specs.Timed.{RespectsFrames}
use Rattle.sched_timing.proofs.Ranks.{IsTimedThriftily, own_task}
use Rattle.sched_timing.proofs.Spacing.{releases_apart}
use Rattle.sched_timing.proofs.Turns.{Turn}
use Rattle.sched_timing.proofs.Threads.{next_state, ran, Opening, Threads, threads, takes_turn, is_left}
use Rattle.sched_timing.proofs.Lives.{Middle, start_idle, holds, middles, after_is, next_is, busy_before, some_left}

-- ---- threads, and what is left

-- the start events move nobody into a monitor or out of one
pub opening_inside : (image : Image) (p : Process) (due : Bool) (old mid : Thread) → Opening image p due old mid → inside_of (Some old) ≡ inside_of (Some mid)
opening_inside image p true Idle mid is = ap (λ (th : Thread). inside_of (Some th)) (sym is)
opening_inside image p false Idle mid is = ap (λ (th : Thread). inside_of (Some th)) (sym is)
opening_inside image p due (Ready job) mid is = ap (λ (th : Thread). inside_of (Some th)) (sym is)
opening_inside image p due (Waiting c d number job) mid (inl is) = ap (λ (th : Thread). inside_of (Some th)) (sym is)
opening_inside image p due (Waiting c d number job) mid (inr is) = sym (ap (λ (th : Thread). inside_of (Some th)) is.1 ∙ is.2)

opened_waits : (image : Image) (p : Process) (due : Bool) (old mid : Thread) (a : Life) → Opening image p due old mid → (opened (Some p) (Some old) (Some mid) a).waiting ≡ flag (is_waiting (Some mid))
opened_waits image p due old Idle a is = refl
opened_waits image p due (Ready job) (Ready mid) a is = refl
opened_waits image p due (Ready job) (Waiting c d number mid) a is = refl
opened_waits image p due (Waiting c' d' number' job) (Ready mid) a is = refl
opened_waits image p due (Waiting c' d' number' job) (Waiting c d number mid) a is = refl
opened_waits image p true Idle (Ready mid) a is = refl
opened_waits image p false Idle (Ready mid) a is = refl
opened_waits image p true Idle (Waiting c d number mid) a is = absurd cc
opened_waits image p false Idle (Waiting c d number mid) a is = absurd cc

-- nobody ends with the start events
opening_busy : (image : Image) (p : Process) (due : Bool) (old mid : Thread) → Opening image p due old mid → IsBusy old → IsBusy mid
opening_busy image p due Idle mid is busy = absurd busy
opening_busy image p due (Ready job) mid is busy = subst IsBusy (sym is) tt
opening_busy image p due (Waiting c d number job) mid (inl is) busy = subst IsBusy (sym is) tt
opening_busy image p due (Waiting c d number job) mid (inr is) busy = subst IsBusy (sym is.1) tt

-- no wait begins with them
opening_waits : (image : Image) (p : Process) (due : Bool) (old mid : Thread) → Opening image p due old mid → flag (is_waiting (Some mid)) ≤ flag (is_waiting (Some old))
opening_waits image p true Idle mid is = omega (arith, ap (λ (th : Thread). flag (is_waiting (Some th))) is)
opening_waits image p false Idle mid is = omega (arith, ap (λ (th : Thread). flag (is_waiting (Some th))) is)
opening_waits image p due (Ready job) mid is = omega (arith, ap (λ (th : Thread). flag (is_waiting (Some th))) is)
opening_waits image p due (Waiting c d number job) mid is = at_most (is_waiting (Some mid)) where
  at_most : (b : Bool) → flag b ≤ 1
  at_most true = omega arith
  at_most false = omega arith

opened_busy : (p : Process) (old mid : Thread) (a : Life) → IsBusy old → IsBusy mid
    → opened (Some p) (Some old) (Some mid) a ≡ record { run_left = a.run_left; suspension_left = a.suspension_left; waits_left = a.waits_left; waiting = flag (is_waiting (Some mid)) }
opened_busy p Idle mid a busy busy' = absurd busy
opened_busy p (Ready old) Idle a busy busy' = absurd busy'
opened_busy p (Ready old) (Ready mid) a busy busy' = refl
opened_busy p (Ready old) (Waiting c d number mid) a busy busy' = refl
opened_busy p (Waiting c' d' number' old) Idle a busy busy' = absurd busy'
opened_busy p (Waiting c' d' number' old) (Ready mid) a busy busy' = refl
opened_busy p (Waiting c' d' number' old) (Waiting c d number mid) a busy busy' = refl

-- the start events, for a process with so much left
opens_busy : (image : Image) (p : Process) (due : Bool) (cost : Claim) (old mid : Thread) (a b : Life) → Opening image p due old mid → b ≡ opened (Some p) (Some old) (Some mid) a
    → 1 ≤ b.run_left → a.waiting ≡ flag (is_waiting (Some old)) → IsBusy old → Opens due cost a b
opens_busy image p due cost old mid a b is of some waiting busy =
    let whole : b ≡ record { run_left = a.run_left; suspension_left = a.suspension_left; waits_left = a.waits_left; waiting = flag (is_waiting (Some mid)) } = of ∙ opened_busy p old mid a busy (opening_busy image p due old mid is busy) in
    record {
      run = omega (arith, ap (λ (l : Life). l.run_left) whole);
      susp = omega (arith, ap (λ (l : Life). l.suspension_left) whole);
      waits = omega (arith, ap (λ (l : Life). l.waits_left) whole);
      waiting = omega (arith, ap (λ (l : Life). l.waiting) whole, opening_waits image p due old mid is, waiting);
      goes_on = λ go. some;
      starts = λ released. some;
    }

opens_idle : (image : Image) (p : Process) (due : Bool) (cost : Claim) (mid : Thread) (a b : Life) → Opening image p due Idle mid → b ≡ opened (Some p) (Some Idle) (Some mid) a
    → p.run ≤ cost.run → p.susp ≤ cost.susp → p.waits ≤ cost.waits → (IsBusy mid → 1 ≤ b.run_left) → a ≡ nothing_left → Opens due cost a b
opens_idle image p true cost mid a b is of run susp waits some none =
    let whole : b ≡ declared (Some p) = of ∙ ap (λ (th : Thread). opened (Some p) (Some Idle) (Some th) a) is in
    record {
      run = omega (arith, ap (λ (l : Life). l.run_left) whole, run);
      susp = omega (arith, ap (λ (l : Life). l.suspension_left) whole, susp);
      waits = omega (arith, ap (λ (l : Life). l.waits_left) whole, waits);
      waiting = omega (arith, ap (λ (l : Life). l.waiting) whole);
      goes_on = λ go. absurd (omega (arith, go, ap (λ (l : Life). l.run_left) none));
      starts = λ released. some (subst IsBusy (sym is) tt);
    }
opens_idle image p false cost mid a b is of run susp waits some none =
    let whole : b ≡ nothing_left = of ∙ ap (λ (th : Thread). opened (Some p) (Some Idle) (Some th) a) is in
    record {
      run = omega (arith, ap (λ (l : Life). l.run_left) whole);
      susp = omega (arith, ap (λ (l : Life). l.suspension_left) whole);
      waits = omega (arith, ap (λ (l : Life). l.waits_left) whole);
      waiting = omega (arith, ap (λ (l : Life). l.waiting) whole);
      goes_on = λ go. absurd (omega (arith, go, ap (λ (l : Life). l.run_left) none));
      starts = λ released. absurd cc;
    }

-- ---- the rest of the tick

-- nobody who waits ends
pub woken_busy : (image : Image) (mid new : Thread) → IsWoken image mid new → IsBusy mid → IsBusy new
woken_busy image Idle new woke busy = absurd busy
woken_busy image (Ready job) new (inl same) busy = subst IsBusy (sym same) tt
woken_busy image (Ready job) new (inr woke) busy = subst IsBusy (sym woke) tt
woken_busy image (Waiting c d number job) new (inl same) busy = subst IsBusy (sym same) tt
woken_busy image (Waiting c d number job) new (inr woke) busy = subst IsBusy (sym woke) tt

is_waiting_mid : (mid : Thread) (job : Job) → mid ≡ Ready job → is_waiting (Some mid) ≡ false
is_waiting_mid mid job is = ap (λ (th : Thread). is_waiting (Some th)) is

-- the counts of a process that is not idle after the tick
acts_busy : (was waits_before waits_after : Bool) (a b : Life) → a.waiting ≡ flag waits_before → (waits_before ≡ true → 1 ≤ a.suspension_left) → (waits_before ≡ false → waits_after ≡ true → 1 ≤ a.waits_left)
    → b ≡ record { run_left = a.run_left - flag was; suspension_left = a.suspension_left - flag waits_before; waits_left = a.waits_left - flag (not waits_before && waits_after); waiting = flag waits_after } → Acts a b
acts_busy was true after a b waiting some_susp some_wait is = record {
  run = omega (arith, ap (λ (l : Life). l.run_left) is);
  susp = omega (arith, ap (λ (l : Life). l.suspension_left) is, waiting, some_susp refl);
  waits = omega (arith, ap (λ (l : Life). l.waits_left) is);
  begins = omega (arith, ap (λ (l : Life). l.waits_left) is, ap (λ (l : Life). l.waiting) is, waiting, at_most after);
} where
  at_most : (b : Bool) → flag b ≤ 1
  at_most true = omega arith
  at_most false = omega arith
acts_busy was false true a b waiting some_susp some_wait is = record {
  run = omega (arith, ap (λ (l : Life). l.run_left) is);
  susp = omega (arith, ap (λ (l : Life). l.suspension_left) is, waiting);
  waits = omega (arith, ap (λ (l : Life). l.waits_left) is);
  begins = omega (arith, ap (λ (l : Life). l.waits_left) is, ap (λ (l : Life). l.waiting) is, waiting, some_wait refl refl);
}
acts_busy was false false a b waiting some_susp some_wait is = record {
  run = omega (arith, ap (λ (l : Life). l.run_left) is);
  susp = omega (arith, ap (λ (l : Life). l.suspension_left) is, waiting);
  waits = omega (arith, ap (λ (l : Life). l.waits_left) is);
  begins = omega (arith, ap (λ (l : Life). l.waits_left) is, ap (λ (l : Life). l.waiting) is, waiting);
}

acts_idle : (a b : Life) → a.waiting ≡ 0 → b ≡ nothing_left → Acts a b
acts_idle a b waiting is = record {
  run = omega (arith, ap (λ (l : Life). l.run_left) is);
  susp = omega (arith, ap (λ (l : Life). l.suspension_left) is, waiting);
  waits = omega (arith, ap (λ (l : Life). l.waits_left) is);
  begins = omega (arith, ap (λ (l : Life). l.waits_left) is, ap (λ (l : Life). l.waiting) is);
}

spent_busy : (was : Bool) (mid new : Thread) (a : Life) → IsBusy new → spent was (Some mid) (Some new) a ≡ record {
  run_left = a.run_left - flag was;
  suspension_left = a.suspension_left - flag (is_waiting (Some mid));
  waits_left = a.waits_left - flag (not (is_waiting (Some mid)) && is_waiting (Some new));
  waiting = flag (is_waiting (Some new));
}
spent_busy was mid Idle a busy = absurd busy
spent_busy was mid (Ready job) a busy = refl
spent_busy was mid (Waiting c due number job) a busy = refl

pub busy_or_idle : (th : Thread) → (th ≡ Idle) ⊎ IsBusy th
busy_or_idle Idle = inl refl
busy_or_idle (Ready job) = inr tt
busy_or_idle (Waiting c due number job) = inr tt

-- ---- the facts

module _ (e : Where) (ps : ℕ → Parts) (image_fits : ImageFits e ps) (thrifty : IsTimedThriftily e ps) (script : Script) where
  -- the lives that are counted
  abbrev L : ℕ → ℕ → Life
  L t k = life_before e.image script t k

  abbrev M : ℕ → ℕ → Life
  M t k = life_after e.image script t k

  abbrev X : ℕ → ℕ → Process → Type 0
  X t k p = Threads e ps image_fits script t k p

  pub life_idle : (t k : ℕ) → slice_get (state_at e.image script t).threads k ≡ Some Idle → L t k ≡ nothing_left
  unfolding life_before
  life_idle zero k is = refl
  life_idle (suc t) k is =
      ap (λ (o : Option Thread). spent (runs e.image script t (state_at e.image script t) k) (slice_get (during e.image script t).threads k) o (M t k)) is

  waits_later : (t k : ℕ) (p : Process) → slice_get e.image.processes k ≡ Some p → (th : Thread) → slice_get (state_at e.image script (suc t)).threads k ≡ Some th → IsBusy th → (L (suc t) k).waiting ≡ flag (is_waiting (Some th))
  waits_later t k p process th at_t busy =
      let x : X t k p = threads e ps image_fits script t k p process in
      let same : th ≡ x.new = (let both : Some th ≡ Some x.new = sym at_t ∙ x.at_new in cc) in
      ap (λ (l : Life). l.waiting) (next_is e ps image_fits thrifty script t k p x ∙ spent_busy (runs e.image script t (state_at e.image script t) k) x.mid x.new (M t k) (subst IsBusy same busy))
      ∙ ap (λ (y : Thread). flag (is_waiting (Some y))) (sym same)

  life_waits : (t k : ℕ) (p : Process) → slice_get e.image.processes k ≡ Some p → (th : Thread) → slice_get (state_at e.image script t).threads k ≡ Some th → (L t k).waiting ≡ flag (is_waiting (Some th))
  life_waits t k p process Idle at_t = ap (λ (l : Life). l.waiting) (life_idle t k at_t)
  life_waits zero k p process (Ready job) at_t = absurd (start_idle e ps image_fits thrifty script k (Ready job) at_t tt)
  life_waits zero k p process (Waiting c d number job) at_t = absurd (start_idle e ps image_fits thrifty script k (Waiting c d number job) at_t tt)
  life_waits (suc t) k p process (Ready job) at_t = waits_later t k p process (Ready job) at_t tt
  life_waits (suc t) k p process (Waiting c d number job) at_t = waits_later t k p process (Waiting c d number job) at_t tt

  -- an idle process has nothing left
  pub whole : (t k : ℕ) (p : Process) → slice_get e.image.processes k ≡ Some p → IsLife (L t k)
  whole t k p process = elim (busy_or_idle x.old) [
    | inl idle ↦ (let none : L t k ≡ nothing_left = life_idle t k (x.at_old ∙ ap (λ (th : Thread). Some th) idle) in
        record { no_susp = λ is. ap (λ (l : Life). l.suspension_left) none; no_waits = λ is. ap (λ (l : Life). l.waits_left) none; no_waiting = λ is. ap (λ (l : Life). l.waiting) none })
    | inr busy ↦ (let some : 1 ≤ (L t k).run_left = some_left e ps image_fits thrifty script t k p x.old process x.at_old busy in
        record { no_susp = λ is. absurd (omega (arith, is, some)); no_waits = λ is. absurd (omega (arith, is, some)); no_waiting = λ is. absurd (omega (arith, is, some)) })
  ] where
    x : X t k p
    x = threads e ps image_fits script t k p process

  pub middle_some : (t k : ℕ) (p : Process) → slice_get e.image.processes k ≡ Some p → (x : X t k p) → IsBusy x.mid → 1 ≤ (M t k).run_left
  middle_some t k p process x busy = (middles e ps image_fits thrifty script t k p process x (holds e ps image_fits thrifty script t k p process) busy).some

  -- the start events of a tick
  pub opens : (t k : ℕ) (p : Process) → slice_get e.image.processes k ≡ Some p → Opens (is_some_due script t (slice_get e.image.processes k)) (cost_at (tasks_of e.image) (rank_at e.image k)) (L t k) (M t k)
  opens t k p process =
      let task : task_at (tasks_of e.image) (rank_at e.image k) ≡ task_of (Some p) = own_task e ps thrifty k p process in
      subst (λ (o : Option Process). Opens (is_some_due script t o) (cost_at (tasks_of e.image) (rank_at e.image k)) (L t k) (M t k)) (sym process)
      (elim (busy_or_idle x.old) [
        | inl idle ↦
            let at_idle : slice_get (state_at e.image script t).threads k ≡ Some Idle = x.at_old ∙ ap (λ (th : Thread). Some th) idle in
            opens_idle e.image p (is_due script t p) (cost_at (tasks_of e.image) (rank_at e.image k)) x.mid (L t k) (M t k)
            (subst (λ (th : Thread). Opening e.image p (is_due script t p) th x.mid) idle x.opens)
            (after_is e ps image_fits thrifty script t k p process x ∙ ap (λ (th : Thread). opened (Some p) (Some th) (Some x.mid) (L t k)) idle)
            (omega (arith, ap (λ (y : Task). y.run) task)) (omega (arith, ap (λ (y : Task). y.susp) task)) (omega (arith, ap (λ (y : Task). y.waits) task))
            (middle_some t k p process x) (life_idle t k at_idle)
        | inr busy ↦
            opens_busy e.image p (is_due script t p) (cost_at (tasks_of e.image) (rank_at e.image k)) x.old x.mid (L t k) (M t k) x.opens (after_is e ps image_fits thrifty script t k p process x)
            (middle_some t k p process x (opening_busy e.image p (is_due script t p) x.old x.mid x.opens busy)) (life_waits t k p process x.old x.at_old) busy
      ]) where
        x : X t k p
        x = threads e ps image_fits script t k p process

  -- what a process has left after the start events tells whether it waits
  pub middle_waits : (t k : ℕ) (p : Process) → slice_get e.image.processes k ≡ Some p → (x : X t k p) → (M t k).waiting ≡ flag (is_waiting (Some x.mid))
  middle_waits t k p process x = ap (λ (l : Life). l.waiting) (after_is e ps image_fits thrifty script t k p process x) ∙ opened_waits e.image p (is_due script t p) x.old x.mid (L t k) x.opens

  -- who waits after the start events has not ended after the tick
  waits_on : (t k : ℕ) (p : Process) (x : X t k p) → is_waiting (Some x.mid) ≡ true → IsBusy x.new
  waits_on t k p x waits = elim (cases_Bool (ran e ps image_fits script t k)) [
    | inl is ↦ absurd (let r : is_waiting (Some x.mid) ≡ false = (let turn : (job : Job) × (x.mid ≡ Ready job) × Turn t k job (Some x.new) _ = takes_turn e ps image_fits script t k p x is in is_waiting_mid x.mid turn.0 turn.1) in let both : true ≡ false = sym waits ∙ r in cc)
    | inr is_not ↦ woken_busy e.image x.mid x.new (is_left e ps image_fits script t k p x is_not) (by x.mid waits)
  ] where
    by : (mid : Thread) → is_waiting (Some mid) ≡ true → IsBusy mid
    by Idle is = absurd cc
    by (Ready job) is = tt
    by (Waiting c d number job) is = tt

  -- the rest of a tick
  pub acts : (t k : ℕ) (p : Process) → slice_get e.image.processes k ≡ Some p → Acts (M t k) (L (suc t) k)
  acts t k p process = elim (busy_or_idle x.new) [
    | inl idle ↦
        acts_idle (M t k) (L (suc t) k) (middle_waits t k p process x ∙ ap flag (none idle (is_waiting (Some x.mid)) refl))
        (next_is e ps image_fits thrifty script t k p x ∙ ap (λ (th : Thread). spent (runs e.image script t (state_at e.image script t) k) (Some x.mid) (Some th) (M t k)) idle)
    | inr busy ↦
        let m : Middle e ps image_fits thrifty script t k x.new (M t k) =
        middles e ps image_fits thrifty script t k p process x (holds e ps image_fits thrifty script t k p process) (busy_before e ps image_fits thrifty script t k p x busy) in
        acts_busy (runs e.image script t (state_at e.image script t) k) (is_waiting (Some x.mid)) (is_waiting (Some x.new)) (M t k) (L (suc t) k) (middle_waits t k p process x)
        (λ waits. (let f : (l : ℕ) × ((M t k).suspension_left ≡ l + 1) × Suspends e ps (tick e.image script t (state_at e.image script t)).state (t + 1) k l (M t k).waits_left =
        (m.spends busy).waited (ap (λ (o : Option Thread). is_waiting o) x.at_mid ∙ waits) in omega (arith, f.1)))
        (λ waits_not waits. (let f : (l : ℕ) × ((M t k).waits_left ≡ l + 1) × Suspends e ps (tick e.image script t (state_at e.image script t)).state (t + 1) k (M t k).suspension_left l =
        (m.spends busy).began (ap (λ (o : Option Thread). is_waiting o) x.at_mid ∙ waits_not) (ap (λ (o : Option Thread). is_waiting o) (ap (λ (s : State). slice_get s.threads k) (sym (next_state e.image script t)) ∙ x.at_new) ∙ waits) in omega (arith, f.1)))
        (next_is e ps image_fits thrifty script t k p x ∙ spent_busy (runs e.image script t (state_at e.image script t) k) x.mid x.new (M t k) busy)
  ] where
    x : X t k p
    x = threads e ps image_fits script t k p process

    none : x.new ≡ Idle → (b : Bool) → is_waiting (Some x.mid) ≡ b → b ≡ false
    none idle false is = refl
    none idle true is = absurd (subst IsBusy idle (waits_on t k p x is))

  -- releases stand a frame apart
  pub spaced : RespectsFrames e.image script → (end k : ℕ) (p : Process) → slice_get e.image.processes k ≡ Some p
      → Spaced (task_at (tasks_of e.image) (rank_at e.image k)).frame end (λ t. is_some_due script t (slice_get e.image.processes k))
  spaced respects end k p process t u below within first second =
      let task : task_at (tasks_of e.image) (rank_at e.image k) ≡ task_of (Some p) = own_task e ps thrifty k p process in
      let due : (v : ℕ) → is_some_due script v (slice_get e.image.processes k) ≡ true → is_due script v p ≡ true = λ v is. sym (ap (λ (o : Option Process). is_some_due script v o) process) ∙ is in
      omega (arith, ap (λ (y : Task). y.frame) task, releases_apart e.image script k t u p respects process (due t first) (due u second) below)
