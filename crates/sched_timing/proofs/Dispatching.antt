-- The machine is a dispatcher under immediate priority ceilings.
use Rattle.std.proofs.Common.{◌≡◌, ◌≤◌, ◌<◌, ◌+◌, ◌-◌, inl, inr, ℕ, suc, Option, Some, None, length, arith, refl, ap, sym, subst, ◌∙◌, true, false, Bool}
use Rattle.std.specs.Prelude.{slice_get}
use Rattle.std.proofs.lemmas.Bool.Decides.{nat_tests}
use Rattle.std.proofs.lemmas.Option.{slice_get_within}
use Rattle.base.proofs.Lists.{some_at}
use Rattle.machine_semantics.specs.Image.{Image, Process, Script, Monitor}
use Rattle.machine_semantics.specs.State.{Job, Thread, Idle, Ready, Waiting, State}
use Rattle.machine_semantics.specs.Tick.{Candidate, least, pick}
use Rattle.machine_semantics.specs.Tick as machine
use Rattle.machine_semantics.specs.Run.{state_at}
use Rattle.machine_semantics.specs.Walk.{Where}
use Rattle.machine_semantics.specs.Safe.{Parts, ImageFits, part_of}
use Rattle.machine_semantics.specs.Whole.{ceiling_of, IsInside}
use Rattle.machine_semantics.specs.Work.{IsBusy, is_chosen, runs}
use Rattle.machine_semantics.specs.Waits.{is_waiting}
use Rattle.machine_safety.proofs.Picked.{LowestOf, lowest}
use Rattle.sched_response.specs.declared.tasks.Task.{Task}
use Rattle.sched_response.specs.Demand.{task_at}
use Rattle.sched_theorem.specs.Stretches.{Life, flag}
use Rattle.sched_theorem.specs.Dispatched.{Stay, IsReady, active_rank, TakesOne, KeepsStays}
use Rattle.sched_theorem.specs.Placed.{PicksAt, AreStaysAt}
use Rattle.valid_image.specs.Tasks.{process_at, task_of, tasks_of}
use Rattle.sched_timing.specs.Views.{during, inside_of, opened, spent, stayed, nothing_left, life_before, life_after, stay_left, stay_of, place_of, rank_at, rank_of_some}
use Rattle.sched_timing.proofs.Ranks.{IsTimedThriftily, At, at_place, task_of_rank, blocks, length_is}
use Rattle.sched_timing.proofs.Picking.{LeastOf, least_of}
use Rattle.sched_timing.proofs.Threads.{ran, fits_before, Threads, threads}
use Rattle.sched_timing.proofs.Lives.{after_is, next_is, middles, holds}
use Rattle.sched_timing.proofs.Facts.{opening_inside, middle_waits}
use Rattle.sched_timing.proofs.Stays.{Inside, insides, left_is, rests, runs_on, some_stay}

-- a stay as the timing argument sees it
stay_some : (image : Image) (o : Option ℕ) (left : ℕ) (s : Stay) → stay_of image o left ≡ Some s → (m : ℕ) × (o ≡ Some m) × (s ≡ record { ceiling = ceiling_of image m - 1; left = left })
stay_some image None left s is = absurd cc
stay_some image (Some m) left s is = (m, refl, (let both : Some (record { ceiling = ceiling_of image m - 1; left = left }) ≡ Some s = is in cc))

-- its active rank is the machine's, from 0
rank_is : (image : Image) (k : ℕ) (p : Process) (o : Option ℕ) (left : ℕ) → slice_get image.processes k ≡ Some p → active_rank (rank_at image k) (stay_of image o left) ≡ machine.active_rank image p o - 1
rank_is image k p None left process = ap (λ (x : Option Process). rank_of_some x) process
rank_is image k p (Some m) left process = refl

chosen_is : (c : Candidate) (k : ℕ) → Some c.place ≡ Some k → is_chosen k (Some c) ≡ true
chosen_is c k same = let is : c.place ≡ k = cc in grind (arith, nat_tests, is)

not_chosen : (o : Option Candidate) (k : ℕ) → (place_of o ≡ Some k → ⊥) → is_chosen k o ≡ false
not_chosen None k differ = refl
not_chosen (Some c) k differ = by (is_chosen k (Some c)) refl where
  by : (b : Bool) → is_chosen k (Some c) ≡ b → b ≡ false
  by false is = refl
  by true is = absurd (differ (let same : c.place ≡ k = grind (arith, nat_tests, is) in ap (λ (x : ℕ). Some x) same))

is_chosen_is : (o : Option Candidate) (k : ℕ) → place_of o ≡ Some k → is_chosen k o ≡ true
is_chosen_is None k is = absurd cc
is_chosen_is (Some c) k is = chosen_is c k is

module _ (e : Where) (ps : ℕ → Parts) (image_fits : ImageFits e ps) (thrifty : IsTimedThriftily e ps) (script : Script) where
  abbrev at : ℕ → State
  at t = state_at e.image script t

  abbrev L : ℕ → ℕ → Life
  L t k = life_before e.image script t k

  abbrev M : ℕ → ℕ → Life
  M t k = life_after e.image script t k

  abbrev X : ℕ → ℕ → Process → Type 0
  X t k p = Threads e ps image_fits script t k p

  -- process k as the dispatcher sees it before tick t
  abbrev pub held : ℕ → ℕ → Option Stay
  held t k = stay_of e.image (inside_of (slice_get (at t).threads k)) (stay_left e.image ps script t k)

  abbrev pub picked_at : ℕ → Option ℕ
  picked_at t = place_of (pick e.image (during e.image script t).threads)

  -- ---- who is picked

  -- who is ready to the timing argument is so to the machine
  ready_is : (t k : ℕ) (p : Process) → slice_get e.image.processes k ≡ Some p → (x : X t k p) → IsReady (M t k) → (job : Job) × (x.mid ≡ Ready job)
  ready_is t k p process x ready = by x.mid refl where
    by : (mid : Thread) → x.mid ≡ mid → (job : Job) × (mid ≡ Ready job)
    by (Ready job) is = (job, refl)
    by Idle is =
        absurd (let none : M t k ≡ nothing_left = after_is e ps image_fits thrifty script t k p process x ∙ ap (λ (th : Thread). opened (Some p) (Some x.old) (Some th) (L t k)) is in
        omega (arith, ready.active, ap (λ (l : Life). l.run_left) none))
    by (Waiting c d number job) is =
        absurd (let waits : (M t k).waiting ≡ 1 = middle_waits e ps image_fits thrifty script t k p process x ∙ ap (λ (th : Thread). flag (is_waiting (Some th))) is in
        omega (arith, ready.free, waits))

  -- the active rank of a process, before the tick and after the start events
  view_rank : (t k : ℕ) (p : Process) (x : X t k p) (job : Job) → slice_get e.image.processes k ≡ Some p → x.mid ≡ Ready job → active_rank (rank_at e.image k) (held t k) ≡ machine.active_rank e.image p job.inside - 1
  view_rank t k p x job process is =
      let same : inside_of (slice_get (at t).threads k) ≡ job.inside =
      ap (λ (o : Option Thread). inside_of o) x.at_old ∙ (opening_inside e.image p _ x.old x.mid x.opens ∙ ap (λ (th : Thread). inside_of (Some th)) is) in
      ap (λ (o : Option ℕ). active_rank (rank_at e.image k) (stay_of e.image o (stay_left e.image ps script t k))) same ∙ rank_is e.image k p job.inside (stay_left e.image ps script t k) process

  spent_falls : (mid new : Thread) (a : Life) → 1 ≤ a.run_left → (spent true (Some mid) (Some new) a).run_left + 1 ≤ a.run_left
  spent_falls mid Idle a some = omega (arith, some)
  spent_falls mid (Ready job) a some = omega (arith, some)
  spent_falls mid (Waiting c d number job) a some = omega (arith, some)

  pub picks : (t : ℕ) → PicksAt (length e.image.processes) (rank_at e.image) (held t) (M t) (L (suc t)) (picked_at t)
  unfolding pick
  picks t = by (least e.image 0 e.image.processes (during e.image script t).threads) refl (lowest e.image 0 e.image.processes (during e.image script t).threads) (least_of e.image 0 e.image.processes (during e.image script t).threads) where
    by : (o : Option Candidate) → pick e.image (during e.image script t).threads ≡ o → LowestOf e.image 0 e.image.processes (during e.image script t).threads o → LeastOf e.image e.image.processes (during e.image script t).threads o
        → PicksAt (length e.image.processes) (rank_at e.image) (held t) (M t) (L (suc t)) (place_of o)
    by None picked none low = λ q below ready.
        (let p : (r : Process) × (slice_get e.image.processes q ≡ Some r) = some_at e.image.processes q below in
        let x : X t q p.0 = threads e ps image_fits script t q p.0 p.1 in
        let job : (j : Job) × (x.mid ≡ Ready j) = ready_is t q p.0 p.1 x ready in
        none q p.0 job.0 p.1 (x.at_mid ∙ ap (λ (th : Thread). Some th) job.1))
    by (Some c) picked ch low =
        let index : ch.index ≡ c.place = omega (arith, ch.place) in
        let process : slice_get e.image.processes c.place ≡ Some ch.p = ap (λ (n : ℕ). slice_get e.image.processes n) (sym index) ∙ ch.process in
        let at_c : slice_get (during e.image script t).threads c.place ≡ Some (Ready ch.job) = ap (λ (n : ℕ). slice_get (during e.image script t).threads n) (sym index) ∙ ch.ready in
        let x : X t c.place ch.p = threads e ps image_fits script t c.place ch.p process in
        let mid : x.mid ≡ Ready ch.job = (let both : Some x.mid ≡ Some (Ready ch.job) = sym x.at_mid ∙ at_c in cc) in
        let some : 1 ≤ (M t c.place).run_left = (middles e ps image_fits thrifty script t c.place ch.p process x (holds e ps image_fits thrifty script t c.place ch.p process) (subst IsBusy (sym mid) tt)).some in
        let is : runs e.image script t (at t) c.place ≡ true = ap (λ (o : Option Candidate). is_chosen c.place o) picked ∙ chosen_is c c.place refl in
        let next : L (suc t) c.place ≡ spent true (Some x.mid) (Some x.new) (M t c.place) =
        next_is e ps image_fits thrifty script t c.place ch.p x ∙ ap (λ (b : Bool). spent b (Some x.mid) (Some x.new) (M t c.place)) is in
        record {
          of_these = slice_get_within e.image.processes c.place ch.p process;
          least = λ q below ready.
              (let r : (r : Process) × (slice_get e.image.processes q ≡ Some r) = some_at e.image.processes q below in
              let y : X t q r.0 = threads e ps image_fits script t q r.0 r.1 in
              let job : (j : Job) × (y.mid ≡ Ready j) = ready_is t q r.0 r.1 y ready in
              let less : c.rank ≤ machine.active_rank e.image r.0 job.0.inside = low q r.0 job.0 r.1 (y.at_mid ∙ ap (λ (th : Thread). Some th) job.1) in
              omega (arith, less, ch.rank, view_rank t c.place ch.p x ch.job process mid, view_rank t q r.0 y job.0 r.1 job.1));
          falls = omega (arith, ap (λ (l : Life). l.run_left) next, spent_falls x.mid x.new (M t c.place) some);
        }

  -- ---- who enters and leaves

  held_none : (t k : ℕ) → inside_of (slice_get (at t).threads k) ≡ None → held t k ≡ None
  held_none t k is = ap (λ (o : Option ℕ). stay_of e.image o (stay_left e.image ps script t k)) is

  held_some : (t k m : ℕ) → inside_of (slice_get (at t).threads k) ≡ Some m → held t k ≡ Some (record { ceiling = ceiling_of e.image m - 1; left = stay_left e.image ps script t k })
  held_some t k m is = ap (λ (o : Option ℕ). stay_of e.image o (stay_left e.image ps script t k)) is

  -- what is left of a stay that goes on
  left_on : (t k l m : ℕ) (p : Process) (x : X t k p) (b : Bool) → ran e ps image_fits script t k ≡ b → inside_of (Some x.old) ≡ Some l → inside_of (Some x.new) ≡ Some m → stay_left e.image ps script (suc t) k ≡ stay_left e.image ps script t k - flag b
  left_on t k l m p x b is was now_in =
      left_is e ps image_fits script t k p x ∙ both (ran e ps image_fits script t k) b (inside_of (Some x.old)) (inside_of (Some x.new)) is was now_in where
        both : (a b : Bool) (o n : Option ℕ) → a ≡ b → o ≡ Some l → n ≡ Some m → stayed (ps k) a (Some x.mid) o n (stay_left e.image ps script t k) ≡ stay_left e.image ps script t k - flag b
        both a b o n same was' now_in' =
            ap (λ (y : Option ℕ). stayed (ps k) a (Some x.mid) y n (stay_left e.image ps script t k)) was'
            ∙ (ap (λ (y : Option ℕ). stayed (ps k) a (Some x.mid) (Some l) y (stay_left e.image ps script t k)) now_in' ∙ ap (λ (y : Bool). stay_left e.image ps script t k - flag y) same)

  takes : (t k : ℕ) (p : Process) → slice_get e.image.processes k ≡ Some p → picked_at t ≡ Some k → TakesOne (held t k) (held (suc t) k)
  takes t k p process picked = by (inside_of (Some x.old)) (inside_of (Some x.new)) refl refl where
    x : X t k p
    x = threads e ps image_fits script t k p process

    is : ran e ps image_fits script t k ≡ true
    is = is_chosen_is (pick e.image (during e.image script t).threads) k picked

    by : (o n : Option ℕ) → inside_of (Some x.old) ≡ o → inside_of (Some x.new) ≡ n → TakesOne (held t k) (held (suc t) k)
    by None n was now_in = subst (λ (y : Option Stay). TakesOne y (held (suc t) k)) (sym (held_none t k (ap (λ (o : Option Thread). inside_of o) x.at_old ∙ was))) tt
    by (Some l) None was now_in =
        let at_l : inside_of (slice_get (at t).threads k) ≡ Some l = ap (λ (o : Option Thread). inside_of o) x.at_old ∙ was in
        subst (λ (y : Option Stay). TakesOne y (held (suc t) k)) (sym (held_some t k l at_l))
        (subst (λ (y : Option Stay). TakesOne (Some (record { ceiling = ceiling_of e.image l - 1; left = stay_left e.image ps script t k })) y)
        (sym (held_none (suc t) k (ap (λ (o : Option Thread). inside_of o) x.at_new ∙ now_in)))
        (some_stay e ps image_fits script t k l p (insides e ps image_fits script t k l p process at_l)))
    by (Some l) (Some m) was now_in =
        let at_l : inside_of (slice_get (at t).threads k) ≡ Some l = ap (λ (o : Option Thread). inside_of o) x.at_old ∙ was in
        let same : l ≡ m = runs_on e ps image_fits script t k p x is l m was now_in in
        let some : 1 ≤ stay_left e.image ps script t k = some_stay e ps image_fits script t k l p (insides e ps image_fits script t k l p process at_l) in
        let left : stay_left e.image ps script (suc t) k ≡ stay_left e.image ps script t k - 1 = left_on t k l m p x true is was now_in in
        subst (λ (y : Option Stay). TakesOne y (held (suc t) k)) (sym (held_some t k l at_l))
        (subst (λ (y : Option Stay). TakesOne (Some (record { ceiling = ceiling_of e.image l - 1; left = stay_left e.image ps script t k })) y)
        (sym (held_some (suc t) k m (ap (λ (o : Option Thread). inside_of o) x.at_new ∙ now_in)))
        (ap (λ (n : ℕ). ceiling_of e.image n - 1) (sym same), omega (arith, left, some)))

  others : (t k : ℕ) (p : Process) → slice_get e.image.processes k ≡ Some p → (picked_at t ≡ Some k → ⊥) → held (suc t) k ≡ held t k
  others t k p process differ = by (inside_of (Some x.old)) refl where
    x : X t k p
    x = threads e ps image_fits script t k p process

    is_not : ran e ps image_fits script t k ≡ false
    is_not = not_chosen (pick e.image (during e.image script t).threads) k differ

    same : inside_of (Some x.old) ≡ inside_of (Some x.new)
    same = rests e ps image_fits script t k p process x is_not

    by : (o : Option ℕ) → inside_of (Some x.old) ≡ o → held (suc t) k ≡ held t k
    by None was =
        held_none (suc t) k (ap (λ (o : Option Thread). inside_of o) x.at_new ∙ (sym same ∙ was))
        ∙ sym (held_none t k (ap (λ (o : Option Thread). inside_of o) x.at_old ∙ was))
    by (Some l) was =
        let left : stay_left e.image ps script (suc t) k ≡ stay_left e.image ps script t k - 0 = left_on t k l l p x false is_not was (sym same ∙ was) in
        let left' : stay_left e.image ps script (suc t) k ≡ stay_left e.image ps script t k = omega (arith, left) in
        held_some (suc t) k l (ap (λ (o : Option Thread). inside_of o) x.at_new ∙ (sym same ∙ was))
        ∙ (ap (λ (n : ℕ). Some (record { ceiling = ceiling_of e.image l - 1; left = n })) left'
        ∙ sym (held_some t k l (ap (λ (o : Option Thread). inside_of o) x.at_old ∙ was)))

  pub keeps : (t : ℕ) → KeepsStays (length e.image.processes) (picked_at t) (held t) (held (suc t))
  keeps t = record {
    takes = λ k below picked. (let p : (r : Process) × (slice_get e.image.processes k ≡ Some r) = some_at e.image.processes k below in takes t k p.0 p.1 picked);
    others = λ k below differ. (let p : (r : Process) × (slice_get e.image.processes k ≡ Some r) = some_at e.image.processes k below in others t k p.0 p.1 differ);
  }

  -- ---- who may be inside

  -- a process that the dispatcher sees inside a monitor
  record Seen (t k : ℕ) (s : Stay) : Type 0 where
    p : Process
    m : ℕ
    process : slice_get e.image.processes k ≡ Some p
    inside : inside_of (slice_get (at t).threads k) ≡ Some m
    stay : s ≡ record { ceiling = ceiling_of e.image m - 1; left = stay_left e.image ps script t k }
    is : Inside e ps image_fits script t k m p

  seen : (t k : ℕ) (s : Stay) → k < length e.image.processes → held t k ≡ Some s → Seen t k s
  seen t k s below is =
      let p : (r : Process) × (slice_get e.image.processes k ≡ Some r) = some_at e.image.processes k below in
      let it : (m : ℕ) × (inside_of (slice_get (at t).threads k) ≡ Some m) × (s ≡ record { ceiling = ceiling_of e.image m - 1; left = stay_left e.image ps script t k }) =
      stay_some e.image (inside_of (slice_get (at t).threads k)) (stay_left e.image ps script t k) s is in
      record { p = p.0; m = it.0; process = p.1; inside = it.1; stay = it.2; is = insides e ps image_fits script t k it.0 p.0 p.1 it.1 }

  rank_of : (k : ℕ) (p : Process) → slice_get e.image.processes k ≡ Some p → rank_at e.image k ≡ p.rank - 1
  rank_of k p process = ap (λ (o : Option Process). rank_of_some o) process

  own_ceiling : (m : ℕ) (monitor : Monitor) → slice_get e.image.monitors m ≡ Some monitor → ceiling_of e.image m ≡ monitor.ceiling
  own_ceiling m monitor there = ap (λ (o : Option Monitor). machine.ceiling o) there

  machine_inside : (t k m : ℕ) (p : Process) → slice_get e.image.processes k ≡ Some p → inside_of (slice_get (at t).threads k) ≡ Some m → IsInside e.image (at t).threads k m p
  machine_inside t k m p process is = by (slice_get (at t).threads k) refl is where
    by : (o : Option Thread) → slice_get (at t).threads k ≡ o → inside_of o ≡ Some m → IsInside e.image (at t).threads k m p
    by None at_k in_m = absurd cc
    by (Some Idle) at_k in_m = absurd cc
    by (Some (Ready job)) at_k in_m = record { process = process; job = job; ready = at_k; inside = in_m }
    by (Some (Waiting c d number job)) at_k in_m = absurd cc

  pub stays : (t : ℕ) → AreStaysAt (tasks_of e.image) (rank_at e.image) (held t)
  stays t = record {
    above = λ k s below is.
        (let v : Seen t k s = seen t k s (omega (arith, below, length_is e ps thrifty)) is in
        omega (arith, ap (λ (y : Stay). y.ceiling) v.stay, v.is.low, own_ceiling v.m v.is.monitor v.is.there, rank_of k v.p v.process));
    apart = λ j k s u below_j below_k differ is_j is_k.
        (let v : Seen t j s = seen t j s (omega (arith, below_j, length_is e ps thrifty)) is_j in
        let w : Seen t k u = seen t k u (omega (arith, below_k, length_is e ps thrifty)) is_k in
        elim ((fits_before e ps image_fits script t).apart j k v.m w.m v.p w.p differ (machine_inside t j v.m v.p v.process v.inside) (machine_inside t k w.m w.p w.process w.inside)) [
          | inl low ↦ inl (omega (arith, low, rank_of j v.p v.process, ap (λ (y : Stay). y.ceiling) w.stay, (thrifty.timed.ranked j v.p v.process).0))
          | inr low ↦ inr (omega (arith, low, rank_of k w.p w.process, ap (λ (y : Stay). y.ceiling) v.stay, (thrifty.timed.ranked k w.p w.process).0))
        ]);
    short = λ level k s lower below is reaches.
        (let v : Seen t k s = seen t k s (omega (arith, below, length_is e ps thrifty)) is in
        let own : rank_at e.image k ≡ v.p.rank - 1 = rank_of k v.p v.process in
        let within : level < length e.image.processes = omega (arith, lower, own, (thrifty.timed.ranked k v.p v.process).1) in
        let a : At e ps thrifty level = at_place e ps thrifty level within in
        let task : task_at (tasks_of e.image) level ≡ task_of (Some a.p) = task_of_rank e ps thrifty level within ∙ ap (λ (o : Option Process). task_of o) a.process in
        let block : (part_of (ps k) v.is.handles).stays v.m ≤ a.p.block =
        blocks e ps thrifty (process_at e.image level) k v.m a.p v.p v.is.monitor v.is.handles a.process v.process v.is.there (omega (arith, a.rank, lower, own)) (omega (arith, a.rank, reaches, own_ceiling v.m v.is.monitor v.is.there, ap (λ (y : Stay). y.ceiling) v.stay)) in
        omega (arith, ap (λ (y : Stay). y.left) v.stay, v.is.short, block, ap (λ (y : Task). y.block) task));
  }
