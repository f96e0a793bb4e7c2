-- What is counted down of a stay is never less than what is left of it.
use Rattle.std.proofs.Common.{◌≡◌, ◌≤◌, ◌+◌, ◌-◌, ◌⊎◌, inl, inr, ℕ, zero, suc, List, [], ◌∷◌, Option, Some, None, map, arith, refl, ap, sym, subst, ◌∙◌, true, false, Bool}
use Rattle.std.specs.Prelude.{slice_get, ℤ}
use Rattle.std.proofs.lemmas.Bool.{cases_Bool}
use Rattle.machine_isa.specs.declared.instr.Instr.{Instr}
use Rattle.machine_isa.specs.declared.instr.Instr.TheVariants as i
use Rattle.machine_isa.specs.Ticks.{ticks}
use Rattle.sched_theorem.specs.Stretches.{flag}
use Rattle.machine_semantics.specs.Image.{Process, Script, Monitor}
use Rattle.machine_semantics.specs.State.{Job, Thread, Idle, Ready, Waiting, State}
use Rattle.machine_semantics.specs.Effect.{effect}
use Rattle.machine_semantics.specs.Tick.{owned_of, tick}
use Rattle.machine_semantics.specs.Run.{at_start, state_at}
use Rattle.machine_semantics.specs.Walk.{Where, At, Reaches, within}
use Rattle.machine_semantics.specs.Path.{next_own}
use Rattle.machine_semantics.specs.Job.{Keeps}
use Rattle.machine_semantics.specs.Safe.{Parts, ImageFits, own_of, part_of}
use Rattle.machine_semantics.specs.Whole.{ThreadFits, StateFits}
use Rattle.machine_semantics.specs.Stays.{StaysIn}
use Rattle.machine_safety.proofs.Jobs.{instruction_is_safe}
use Rattle.machine_safety.proofs.Settling.{own_limit}
use Rattle.machine_safety.proofs.Staying.{stay_falls}
use Rattle.machine_safety.proofs.Entering.{stay_begins}
use Rattle.machine_safety.proofs.Suspending.{IsWoken}
use Rattle.sched_timing.specs.Views.{during, inside_of, whole_stay, stayed, stay_left, is_due}
use Rattle.sched_timing.proofs.Turns.{Turn}
use Rattle.sched_timing.proofs.Threads.{next_state, ran, fits_before, fits_middle, Threads, threads, takes_turn, is_left, acted}
use Rattle.sched_timing.proofs.Facts.{opening_inside}

-- the monitor that a thread is inside is that of its job
inside_job : (th : Thread) (m : ℕ) → inside_of (Some th) ≡ Some m → (job : Job) × (th ≡ Ready job) × (job.inside ≡ Some m)
inside_job Idle m is = absurd cc
inside_job (Ready job) m is = (job, refl, is)
inside_job (Waiting c d number job) m is = absurd cc

module _ (e : Where) (ps : ℕ → Parts) (image_fits : ImageFits e ps) where
  -- a process inside a monitor has some ticks left in it
  pub stay_some : (s : State) (k m n : ℕ) → StateFits e ps s → StaysIn e ps s k m n → 1 ≤ n
  stay_some s k m n fits o =
      let free : State = record s { threads = [] } in
      let own : List ℤ = owned_of (slice_get s.owned k) in
      let inst : (instr : Instr) × At e o.job.place instr × Keeps e (part_of (ps k) o.job.handling) o.has.cost (ticks instr) (own_of o.job own s.shared) (effect e.image free instr (next_own (own_of o.job own s.shared))) × ((l : ℕ) → o.job.inside ≡ Some l → ticks instr ≤ o.has.cost.leave) =
      instruction_is_safe e free (part_of (ps k) o.job.handling) (own_of o.job own s.shared) o.has.cost image_fits.routines (record { queues = fits.sized.queues; devices = fits.sized.devices; shared = fits.sized.shared })
      (is_last o.job.handling) o.has.fits (λ l mon there low out. refl) in
      omega (arith, o.has.early inst.0 inst.1, inst.3 m o.inside, o.has.leave m o.inside, o.short) where
        is_last : (h : Bool) → (part_of (ps k) h).last ≡ i.End
        is_last false = (image_fits.processes k o.p o.process).body.last
        is_last true = (image_fits.processes k o.p o.process).handler.last

module _ (e : Where) (ps : ℕ → Parts) (image_fits : ImageFits e ps) (script : Script) where
  abbrev at : ℕ → State
  at t = state_at e.image script t

  abbrev left_at : ℕ → ℕ → ℕ
  left_at t k = stay_left e.image ps script t k

  abbrev X : ℕ → ℕ → Process → Type 0
  X t k p = Threads e ps image_fits script t k p

  -- process k is inside monitor m before tick t: what is left of its stay covers it, and is no longer than its part tells; and the ceiling is not above its rank
  pub record Inside (t k m : ℕ) (p : Process) : Type 0 where
    pub stays : StaysIn e ps (at t) k m (left_at t k)
    pub monitor : Monitor
    pub there : slice_get e.image.monitors m ≡ Some monitor
    pub low : monitor.ceiling ≤ p.rank
    pub handles : Bool
    pub short : left_at t k ≤ (part_of (ps k) handles).stays m

  now : (t k : ℕ) (th : Thread) → slice_get (at (suc t)).threads k ≡ Some th → slice_get (tick e.image script t (at t)).state.threads k ≡ Some th
  now t k th is = ap (λ (s : State). slice_get s.threads k) (sym (next_state e.image script t)) ∙ is

  pub left_is : (t k : ℕ) (p : Process) (x : X t k p) → left_at (suc t) k ≡ stayed (ps k) (ran e ps image_fits script t k) (Some x.mid) (inside_of (Some x.old)) (inside_of (Some x.new)) (left_at t k)
  unfolding stay_left
  left_is t k p x =
      ap (λ (o : Option Thread). stayed (ps k) (ran e ps image_fits script t k) o (inside_of (slice_get (at t).threads k)) (inside_of (slice_get (at (suc t)).threads k)) (left_at t k)) x.at_mid
      ∙ (ap (λ (o : Option Thread). stayed (ps k) (ran e ps image_fits script t k) (Some x.mid) (inside_of o) (inside_of (slice_get (at (suc t)).threads k)) (left_at t k)) x.at_old
      ∙ ap (λ (o : Option Thread). stayed (ps k) (ran e ps image_fits script t k) (Some x.mid) (inside_of (Some x.old)) (inside_of o) (left_at t k)) x.at_new)

  -- who is taken out of a queue is outside
  woken_outside : (t k : ℕ) (p : Process) → slice_get e.image.processes k ≡ Some p → (x : X t k p) → IsWoken e.image x.mid x.new → inside_of (Some x.mid) ≡ inside_of (Some x.new)
  woken_outside t k p process x woke = by x.mid x.new x.at_mid woke where
    by : (mid new : Thread) → slice_get (during e.image script t).threads k ≡ Some mid → IsWoken e.image mid new → inside_of (Some mid) ≡ inside_of (Some new)
    by mid new is (inl same) = ap (λ (th : Thread). inside_of (Some th)) (sym same)
    by Idle new is (inr woke') = ap (λ (th : Thread). inside_of (Some th)) (sym woke')
    by (Ready job) new is (inr woke') = ap (λ (th : Thread). inside_of (Some th)) (sym woke')
    by (Waiting c d number job) new is (inr woke') =
        let f : ThreadFits e p (ps k) (Waiting c d number job) (owned_of (slice_get (during e.image script t).owned k)) (during e.image script t).shared = (fits_middle e ps image_fits script t).threads k p (Waiting c d number job) process is in
        sym (ap (λ (th : Thread). inside_of (Some th)) woke' ∙ f.1.fits.outside)

  -- a process that does not run is where it was
  pub rests : (t k : ℕ) (p : Process) → slice_get e.image.processes k ≡ Some p → (x : X t k p) → ran e ps image_fits script t k ≡ false → inside_of (Some x.old) ≡ inside_of (Some x.new)
  rests t k p process x is_not = opening_inside e.image p (is_due script t p) x.old x.mid x.opens ∙ woken_outside t k p process x (is_left e ps image_fits script t k p x is_not)

  -- one that runs stays in its monitor, leaves it, or enters one from outside
  pub runs_on : (t k : ℕ) (p : Process) (x : X t k p) → ran e ps image_fits script t k ≡ true → (l m : ℕ) → inside_of (Some x.old) ≡ Some l → inside_of (Some x.new) ≡ Some m → l ≡ m
  runs_on t k p x is l m was now_in =
      let turn : (job : Job) × (x.mid ≡ Ready job) × Turn t k job (Some x.new) (acted e ps image_fits script t) = takes_turn e ps image_fits script t k p x is in
      let new : (job : Job) × (x.new ≡ Ready job) × (job.inside ≡ Some m) = inside_job x.new m now_in in
      let mid_in : turn.0.inside ≡ Some l = sym (ap (λ (th : Thread). inside_of (Some th)) turn.1) ∙ (sym (opening_inside e.image p (is_due script t p) x.old x.mid x.opens) ∙ was) in
      let t' : Turn t k turn.0 (Some (Ready new.0)) (acted e ps image_fits script t) = subst (λ (th : Thread). Turn t k turn.0 (Some th) (acted e ps image_fits script t)) new.1 turn.2 in
      elim t' [
        | inl same ↦ (let both : Some l ≡ Some m = sym mid_in ∙ (sym same ∙ new.2) in cc)
        | inr rest ↦ elim rest [
          | inl out ↦ absurd (let both : None ≡ Some m = sym out ∙ new.2 in cc)
          | inr out ↦ absurd (let both : None ≡ Some l = sym out ∙ mid_in in cc)
        ]
      ]

  -- in the tick that it stays in a monitor
  stays_next : (t k l m : ℕ) (p : Process) → slice_get e.image.processes k ≡ Some p → (x : X t k p) → inside_of (Some x.old) ≡ Some l → inside_of (Some x.new) ≡ Some m → Inside t k l p → Inside (suc t) k m p
  stays_next t k l m p process x was is ins = by (cases_Bool (ran e ps image_fits script t k)) where
    new : (job : Job) × (x.new ≡ Ready job) × (job.inside ≡ Some m)
    new = inside_job x.new m is

    u : State
    u = (tick e.image script t (at t)).state

    left : (b : Bool) → ran e ps image_fits script t k ≡ b → left_at (suc t) k ≡ left_at t k - flag b
    left b runs_so =
        left_is t k p x
        ∙ (ap (λ (o : Option ℕ). stayed (ps k) (ran e ps image_fits script t k) (Some x.mid) o (inside_of (Some x.new)) (left_at t k)) was
        ∙ (ap (λ (o : Option ℕ). stayed (ps k) (ran e ps image_fits script t k) (Some x.mid) (Some l) o (left_at t k)) is
        ∙ ap (λ (c : Bool). left_at t k - flag c) runs_so))

    finish : (b : Bool) → ran e ps image_fits script t k ≡ b → l ≡ m → StaysIn e ps u k m (left_at t k - flag b) → Inside (suc t) k m p
    finish b runs_so same stays = record {
      stays = subst (λ (s : State). StaysIn e ps s k m (left_at (suc t) k)) (sym (next_state e.image script t)) (subst (λ (n : ℕ). StaysIn e ps u k m n) (sym (left b runs_so)) stays);
      monitor = ins.monitor;
      there = ap (λ (n : ℕ). slice_get e.image.monitors n) (sym same) ∙ ins.there;
      low = ins.low;
      handles = ins.handles;
      short = omega (arith, left b runs_so, ins.short, ap (λ (n : ℕ). (part_of (ps k) ins.handles).stays n) same);
    }

    by : (ran e ps image_fits script t k ≡ true) ⊎ (ran e ps image_fits script t k ≡ false) → Inside (suc t) k m p
    by (inl runs_so) =
        let same : l ≡ m = runs_on t k p x runs_so l m was is in
        let stays : StaysIn e ps (at t) k m (left_at t k) = subst (λ (n : ℕ). StaysIn e ps (at t) k n (left_at t k)) same ins.stays in
        let f : (n : ℕ) × (left_at t k ≡ n + 1) × StaysIn e ps u k m n =
        (stay_falls e ps script t (at t) k m (left_at t k) image_fits (fits_before e ps image_fits script t) stays).0 runs_so new.0 (now t k x.new x.at_new ∙ ap (λ (th : Thread). Some th) new.1) new.2 in
        let less : f.0 ≡ left_at t k - 1 = omega (arith, f.1) in
        finish true runs_so same (subst (λ (n : ℕ). StaysIn e ps u k m n) less f.2)
    by (inr runs_not) =
        let both : Some l ≡ Some m = sym was ∙ (rests t k p process x runs_not ∙ is) in
        let same : l ≡ m = cc in
        let stays : StaysIn e ps (at t) k m (left_at t k) = subst (λ (n : ℕ). StaysIn e ps (at t) k n (left_at t k)) same ins.stays in
        let less : left_at t k ≡ left_at t k - 0 = omega arith in
        finish false runs_not same (subst (λ (n : ℕ). StaysIn e ps u k m n) less ((stay_falls e ps script t (at t) k m (left_at t k) image_fits (fits_before e ps image_fits script t) stays).1 runs_not))

  -- in the tick that it enters one
  enters_next : (t k m : ℕ) (p : Process) → slice_get e.image.processes k ≡ Some p → (x : X t k p) → inside_of (Some x.old) ≡ None → inside_of (Some x.new) ≡ Some m → Inside (suc t) k m p
  enters_next t k m p process x was is = by (cases_Bool (ran e ps image_fits script t k)) where
    new : (job : Job) × (x.new ≡ Ready job) × (job.inside ≡ Some m)
    new = inside_job x.new m is

    u : State
    u = (tick e.image script t (at t)).state

    by : (ran e ps image_fits script t k ≡ true) ⊎ (ran e ps image_fits script t k ≡ false) → Inside (suc t) k m p
    by (inr runs_not) = absurd (let both : None ≡ Some m = sym was ∙ (rests t k p process x runs_not ∙ is) in cc)
    by (inl runs_so) =
        let turn : (job : Job) × (x.mid ≡ Ready job) × Turn t k job (Some x.new) (acted e ps image_fits script t) = takes_turn e ps image_fits script t k p x runs_so in
        let outside : turn.0.inside ≡ None = sym (ap (λ (th : Thread). inside_of (Some th)) turn.1) ∙ (sym (opening_inside e.image p (is_due script t p) x.old x.mid x.opens) ∙ was) in
        let begun : StaysIn e ps u k m ((part_of (ps k) turn.0.handling).stays m) × Reaches (within e (part_of (ps k) turn.0.handling)) m =
        stay_begins e ps script t (at t) k m turn.0 new.0 image_fits (fits_before e ps image_fits script t) (x.at_mid ∙ ap (λ (th : Thread). Some th) turn.1) outside
        (now t k x.new x.at_new ∙ ap (λ (th : Thread). Some th) new.1) new.2 in
        let left : left_at (suc t) k ≡ (part_of (ps k) turn.0.handling).stays m =
        left_is t k p x
        ∙ (ap (λ (o : Option ℕ). stayed (ps k) (ran e ps image_fits script t k) (Some x.mid) o (inside_of (Some x.new)) (left_at t k)) was
        ∙ (ap (λ (o : Option ℕ). stayed (ps k) (ran e ps image_fits script t k) (Some x.mid) None o (left_at t k)) is
        ∙ ap (λ (th : Thread). whole_stay (ps k) (Some th) m) turn.1)) in
        record {
          stays = subst (λ (s : State). StaysIn e ps s k m (left_at (suc t) k)) (sym (next_state e.image script t)) (subst (λ (n : ℕ). StaysIn e ps u k m n) (sym left) begun.0);
          monitor = begun.1.monitor;
          there = begun.1.there;
          low = omega (arith, begun.1.low, own_limit e ps image_fits p (ps k) turn.0.handling (image_fits.processes k p process));
          handles = turn.0.handling;
          short = omega (arith, left);
        }

  start_outside : (k m : ℕ) → inside_of (slice_get (at 0).threads k) ≡ Some m → ⊥
  unfolding state_at at_start
  start_outside k m is = by e.image.processes k is where
    by : (qs : List Process) (j : ℕ) → inside_of (slice_get (map (λ (q : Process). Idle) qs) j) ≡ Some m → ⊥
    by [] j found = absurd cc
    by (q ∷ qs) zero found = absurd cc
    by (q ∷ qs) (suc j) found = by qs j found

  pub insides : (t k m : ℕ) (p : Process) → slice_get e.image.processes k ≡ Some p → inside_of (slice_get (at t).threads k) ≡ Some m → Inside t k m p
  insides zero k m p process is = absurd (start_outside k m is)
  insides (suc t) k m p process is = go (inside_of (Some x.old)) refl (λ l was. insides t k l p process was) where
    x : X t k p
    x = threads e ps image_fits script t k p process

    new : inside_of (Some x.new) ≡ Some m
    new = sym (ap (λ (o : Option Thread). inside_of o) x.at_new) ∙ is

    go : (o : Option ℕ) → inside_of (Some x.old) ≡ o → ((l : ℕ) → inside_of (slice_get (at t).threads k) ≡ Some l → Inside t k l p) → Inside (suc t) k m p
    go None was earlier = enters_next t k m p process x was new
    go (Some l) was earlier = stays_next t k l m p process x was new (earlier l (ap (λ (o : Option Thread). inside_of o) x.at_old ∙ was))

  pub some_stay : (t k m : ℕ) (p : Process) → Inside t k m p → 1 ≤ left_at t k
  some_stay t k m p ins = stay_some e ps image_fits (at t) k m (left_at t k) (fits_before e ps image_fits script t) ins.stays
