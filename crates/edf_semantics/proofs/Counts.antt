-- What is left of each activation, and of each stay, counted along the run.
use Rattle.std.proofs.Common.{◌≡◌, ◌≤◌, ◌+◌, ◌⊎◌, inl, inr, ℕ, Option, Some, None, length, arith, refl, ap, sym, subst, ◌∙◌, true, Bool}
use Rattle.std.specs.Prelude.{slice_get}
use Rattle.std.proofs.lemmas.Bool.{cases_eq}
use Rattle.machine_semantics.specs.Image.{Monitor, Process, Script}
use Rattle.machine_semantics.specs.State.{Job, Thread, Idle, Ready, Waiting, State}
use Rattle.machine_semantics.specs.Starts.{released, release_thread, starts}
use Rattle.machine_semantics.specs.Tick.{run_picked}
use Rattle.machine_semantics.specs.Walk.{Where}
use Rattle.machine_semantics.specs.Safe.{Parts, ImageFits, part_of}
use Rattle.machine_semantics.specs.Whole.{StateFits}
use Rattle.machine_semantics.specs.Work.{Owes, IsBusy, is_chosen, worst_of, activation}
use Rattle.machine_semantics.specs.Stays.{StaysIn}
use Rattle.machine_safety.proofs.Starting.{starts_pass, release_keeps}
use Rattle.machine_safety.proofs.Beginning.{begins_pass}
use Rattle.machine_safety.proofs.Working as work
use Rattle.machine_safety.proofs.Staying as stay
use Rattle.machine_safety.proofs.Entering.{Entered, tick_enters}
use Rattle.sched_timing.proofs.Turns.{Turn, passes_pick}
use Rattle.sched_demand.specs.Activations.{Chooses}
use Rattle.edf_semantics.specs.Run.{Marked, candidate, marks_during, chosen_at}
use Rattle.edf_semantics.specs.Safe.{acts, insides, rank_at, deadline_at, IsWaitless}
use Rattle.edf_semantics.proofs.Choosing.{act_active}
use Rattle.edf_semantics.proofs.Marking.{Opening, IsNotWaiting}
use Rattle.edf_semantics.proofs.Keeping.{Kept, About, After, after, fits_during, choice, picked, chosen_is, not_chosen, rests_same}
use Rattle.sched_timing.proofs.Lives.{owes_more}

-- inside a monitor that is there, with so much of the stay left, at most what a part tells
pub record IsIn (e : Where) (ps : ℕ → Parts) (s : State) (k m n : ℕ) : Type 0 where
  pub stays : StaysIn e ps s k m n
  pub handling : Bool
  pub short : n ≤ (part_of (ps k) handling).stays m
  pub monitor : Monitor
  pub there : slice_get e.image.monitors m ≡ Some monitor

-- what is left of process k, and of its stay
pub record Count (e : Where) (ps : ℕ → Parts) (s : State) (k : ℕ) : Type 0 where
  pub left : ℕ
  pub stay : ℕ
  pub idle : slice_get s.threads k ≡ Some Idle → left ≡ 0
  pub busy : (job : Job) → slice_get s.threads k ≡ Some (Ready job) → Owes e ps s k left
  pub inside : (job : Job) (m : ℕ) → slice_get s.threads k ≡ Some (Ready job) → job.inside ≡ Some m → IsIn e ps s k m stay

abbrev pub count_idle : (e : Where) (ps : ℕ → Parts) (s : State) (k : ℕ) → slice_get s.threads k ≡ Some Idle → Count e ps s k
count_idle e ps s k at = record {
  left = 0;
  stay = 0;
  idle = λ is. refl;
  busy = λ job is. absurd (let both : Some Idle ≡ Some (Ready job) = sym at ∙ is in cc);
  inside = λ job m is inside. absurd (let both : Some Idle ≡ Some (Ready job) = sym at ∙ is in cc);
}

module _ (e : Where) (ps : ℕ → Parts) (image_fits : ImageFits e ps) (waitless : IsWaitless e ps)
    (covered : (k : ℕ) (p : Process) → slice_get e.image.processes k ≡ Some p → activation e.image.over (worst_of (ps k)) ≤ p.run)
    (script : Script) (t : ℕ) (s : Marked) (kept : Kept e ps image_fits waitless t s) where
  abbrev pub mid : State
  mid = (starts e.image script t s.state).state

  -- ---- the start events

  pub record MidCount (k : ℕ) (p : Process) (x : About e ps image_fits waitless script t s kept k p) (c : Count e ps s.state k) : Type 0 where
    pub count : Count e ps (starts e.image script t s.state).state k
    pub old_left : (job : Job) → x.old ≡ Ready job → count.left ≡ c.left
    pub old_stay : (job : Job) → x.old ≡ Ready job → count.stay ≡ c.stay
    pub new_left : (job : Job) → x.old ≡ Idle → x.mid ≡ Ready job → count.left ≤ p.run

  released_owes : (k : ℕ) (p : Process) → slice_get e.image.processes k ≡ Some p → slice_get s.state.threads k ≡ Some Idle → (job : Job) → slice_get (starts e.image script t s.state).state.threads k ≡ Some (Ready job) → Owes e ps (starts e.image script t s.state).state k p.run
  unfolding work.Unfinished
  released_owes k p process idle job now =
      elim (begins_pass e ps image_fits k (work.Unfinished e ps image_fits k (activation e.image.over (worst_of (ps k)))) (work.release_busy e ps image_fits k (activation e.image.over (worst_of (ps k)))) (work.time_out_busy e ps image_fits k (activation e.image.over (worst_of (ps k)))) (work.device_busy e ps image_fits k (activation e.image.over (worst_of (ps k))))
      (λ u q v ok process_q at. (
        release_keeps e ps image_fits u k q v ok process_q,
        subst (λ (z : Option Thread). (o : Owes e ps (release_thread e.image u k q v z).state k (activation e.image.over (worst_of (ps k)))) × IsBusy o.thread) (sym at) (work.fresh e ps image_fits u k q v ok process_q at),
      )) script t s.state kept.fits idle) [
        | inl still ↦ absurd (let both : Some Idle ≡ Some (Ready job) = sym still ∙ now in cc)
        | inr u ↦ owes_more e ps (starts e.image script t s.state).state k (activation e.image.over (worst_of (ps k))) p.run (covered k p process) u.1.0
      ]

  kept_owes : (k n : ℕ) (job : Job) → slice_get s.state.threads k ≡ Some (Ready job) → Owes e ps s.state k n → Owes e ps (starts e.image script t s.state).state k n
  unfolding work.Unfinished
  kept_owes k n job at o =
      let same : o.thread ≡ Ready job = (let both : Some o.thread ≡ Some (Ready job) = sym o.there ∙ at in cc) in
      let u = starts_pass e (work.Unfinished e ps image_fits k n) (work.release_busy e ps image_fits k n) (work.time_out_busy e ps image_fits k n) (work.device_busy e ps image_fits k n) script t s.state (kept.fits, (o, subst IsBusy (sym same) tt)) in
      u.1.0

  kept_in : (k m n : ℕ) → IsIn e ps s.state k m n → IsIn e ps (starts e.image script t s.state).state k m n
  unfolding stay.Staying
  kept_in k m n i =
      let u = starts_pass e (stay.Staying e ps image_fits k m n) (stay.release_stays e ps image_fits k m n) (stay.time_out_stays e ps image_fits k m n) (stay.device_stays e ps image_fits k m n) script t s.state (kept.fits, i.stays) in
      record { stays = u.1; handling = i.handling; short = i.short; monitor = i.monitor; there = i.there }

  pub mid_count : (k : ℕ) (p : Process) → slice_get e.image.processes k ≡ Some p → (x : About e ps image_fits waitless script t s kept k p) → (c : Count e ps s.state k) → MidCount k p x c
  mid_count k p process x c = by x.old x.mid refl refl x.opens where
    by : (old mid : Thread) → x.old ≡ old → x.mid ≡ mid → Opening e.image p old mid → MidCount k p x c
    by Idle mid of_old of_mid (inl is) = record {
      count = count_idle e ps (starts e.image script t s.state).state k (x.at_mid ∙ ap (λ (y : Thread). Some y) (of_mid ∙ is));
      old_left = λ job old. absurd (let both : Idle ≡ Ready job = sym of_old ∙ old in cc);
      old_stay = λ job old. absurd (let both : Idle ≡ Ready job = sym of_old ∙ old in cc);
      new_left = λ job old now. omega arith;
    }
    by Idle mid of_old of_mid (inr is) =
        let at_idle : slice_get s.state.threads k ≡ Some Idle = x.at_old ∙ ap (λ (y : Thread). Some y) of_old in
        let at_now : slice_get (starts e.image script t s.state).state.threads k ≡ Some (Ready (released e.image p)) = x.at_mid ∙ ap (λ (y : Thread). Some y) (of_mid ∙ is) in
        record {
          count = record {
            left = p.run;
            stay = 0;
            idle = λ none. absurd (let both : Some Idle ≡ Some (Ready (released e.image p)) = sym none ∙ at_now in cc);
            busy = λ job now. released_owes k p process at_idle job now;
            inside = λ job m now inside. absurd (
                let both : Some (Ready (released e.image p)) ≡ Some (Ready job) = sym at_now ∙ now in
                let one : released e.image p ≡ job = cc in
                let none : None ≡ Some m = ap (λ (y : Job). y.inside) one ∙ inside in
                cc);
          };
          old_left = λ job old. absurd (let both : Idle ≡ Ready job = sym of_old ∙ old in cc);
          old_stay = λ job old. absurd (let both : Idle ≡ Ready job = sym of_old ∙ old in cc);
          new_left = λ job old now. omega arith;
        }
    by (Ready own) mid of_old of_mid is =
        let at_was : slice_get s.state.threads k ≡ Some (Ready own) = x.at_old ∙ ap (λ (y : Thread). Some y) of_old in
        let at_now : slice_get (starts e.image script t s.state).state.threads k ≡ Some (Ready own) = x.at_mid ∙ ap (λ (y : Thread). Some y) (of_mid ∙ is) in
        record {
          count = record {
            left = c.left;
            stay = c.stay;
            idle = λ none. absurd (let both : Some Idle ≡ Some (Ready own) = sym none ∙ at_now in cc);
            busy = λ job now. kept_owes k c.left own at_was (c.busy own at_was);
            inside = λ job m now inside.
                let both : Some (Ready own) ≡ Some (Ready job) = sym at_now ∙ now in
                let one : own ≡ job = cc in
                kept_in k m c.stay (c.inside own m at_was (ap (λ (y : Job). y.inside) one ∙ inside));
          };
          old_left = λ job old. refl;
          old_stay = λ job old. refl;
          new_left = λ job old now. absurd (let both : Ready own ≡ Idle = sym of_old ∙ old in cc);
        }
    by (Waiting c d number job) mid of_old of_mid is = absurd is

  -- ---- the tick of who is chosen

  pub record NextCount (k : ℕ) (p : Process) (x : About e ps image_fits waitless script t s kept k p) (c : Count e ps (starts e.image script t s.state).state k) : Type 0 where
    pub count : Count e ps (run_picked e.image t (starts e.image script t s.state).state (candidate (chosen_at e.image script t s))).state k
    pub falls : chosen_at e.image script t s ≡ Some k → count.left + 1 ≤ c.left
    pub same : (chosen_at e.image script t s ≡ Some k → ⊥) → count.left ≡ c.left
    -- its stay, where it was inside a monitor before the tick
    pub stay_falls : chosen_at e.image script t s ≡ Some k → (job new : Job) (m n : ℕ) → x.mid ≡ Ready job → job.inside ≡ Some m → slice_get (run_picked e.image t (starts e.image script t s.state).state (candidate (chosen_at e.image script t s))).state.threads k ≡ Some (Ready new) → new.inside ≡ Some n → (m ≡ n) × (count.stay + 1 ≤ c.stay)
    pub stay_same : (chosen_at e.image script t s ≡ Some k → ⊥) → count.stay ≡ c.stay

  -- who is chosen is ready
  pub chosen_ready : (k : ℕ) → chosen_at e.image script t s ≡ Some k → (job : Job) × (slice_get (starts e.image script t s.state).state.threads k ≡ Some (Ready job))
  chosen_ready k is =
      let chosen = subst (λ (o : Option ℕ). Chooses (length e.image.processes) (rank_at e.image) (deadline_at e.image) (insides e.image (starts e.image script t s.state).state.threads) (acts (starts e.image script t s.state).state.threads (marks_during e.image script t s)) o) is (choice e ps image_fits waitless script t s kept) in
      let a = act_active (slice_get (starts e.image script t s.state).state.threads k) (slice_get (marks_during e.image script t s) k) chosen.active in
      (a.0, a.2)

  -- chosen or not
  chosen_or : (k : ℕ) (o : Option ℕ) → (o ≡ Some k) ⊎ (o ≡ Some k → ⊥)
  chosen_or k None = inr (λ is. absurd (cc))
  chosen_or k (Some j) = elim (cases_eq j k) [ inl same ↦ inl (ap (λ (i : ℕ). Some i) same) | inr differ ↦ inr (λ is. differ (let h : j ≡ k = cc in h)) ]

  -- the count of who does not run
  rests : (k : ℕ) (p : Process) → slice_get e.image.processes k ≡ Some p → (x : About e ps image_fits waitless script t s kept k p) → (c : Count e ps (starts e.image script t s.state).state k) → (chosen_at e.image script t s ≡ Some k → ⊥) → NextCount k p x c
  rests k p process x c differ =
      let y = after e ps image_fits waitless script t s kept k p process x in
      let same = rests_same e ps image_fits waitless script t s kept k p x y differ in
      let at_same : slice_get (run_picked e.image t (starts e.image script t s.state).state (candidate (chosen_at e.image script t s))).state.threads k ≡ slice_get (starts e.image script t s.state).state.threads k = y.at_new ∙ ap (λ (z : Thread). Some z) same ∙ sym x.at_mid in
      let not = not_chosen e ps image_fits waitless script t s kept k (chosen_at e.image script t s) differ in
      record {
        count = record {
          left = c.left;
          stay = c.stay;
          idle = λ is. c.idle (sym at_same ∙ is);
          busy = λ job is. (work.work_of_tick e ps image_fits t (starts e.image script t s.state).state k c.left (c.busy job (sym at_same ∙ is)) (fits_during e ps image_fits waitless script t s kept) (candidate (chosen_at e.image script t s)) (picked e ps image_fits waitless script t s kept)).1 not;
          inside = λ job m is inside.
              let i = c.inside job m (sym at_same ∙ is) inside in
              record { stays = (stay.stay_of_tick e ps image_fits t (starts e.image script t s.state).state k m c.stay i.stays (fits_during e ps image_fits waitless script t s kept) (candidate (chosen_at e.image script t s)) (picked e ps image_fits waitless script t s kept)).1 not; handling = i.handling; short = i.short; monitor = i.monitor; there = i.there };
        };
        falls = λ is. absurd (differ is);
        same = λ d. refl;
        stay_falls = λ is. absurd (differ is);
        stay_same = λ d. refl;
      }

  -- what is left of the stay of who has run
  record NewStay (k : ℕ) (c : Count e ps (starts e.image script t s.state).state k) (job new : Job) : Type 0 where
    n : ℕ
    inside : (m : ℕ) → new.inside ≡ Some m → IsIn e ps (run_picked e.image t (starts e.image script t s.state).state (candidate (chosen_at e.image script t s))).state k m n
    falls : (m l : ℕ) → job.inside ≡ Some m → new.inside ≡ Some l → (m ≡ l) × (n + 1 ≤ c.stay)

  new_stay : (k : ℕ) (c : Count e ps (starts e.image script t s.state).state k) (job new : Job) → chosen_at e.image script t s ≡ Some k → slice_get (starts e.image script t s.state).state.threads k ≡ Some (Ready job)
      → slice_get (run_picked e.image t (starts e.image script t s.state).state (candidate (chosen_at e.image script t s))).state.threads k ≡ Some (Ready new) → NewStay k c job new
  unfolding Entered stay.Nearer
  new_stay k c job new is at now = by new.inside job.inside refl refl where
    it : is_chosen k (candidate (chosen_at e.image script t s)) ≡ true
    it = chosen_is e ps image_fits waitless script t s kept k is

    fits : StateFits e ps (starts e.image script t s.state).state
    fits = fits_during e ps image_fits waitless script t s kept

    by : (o r : Option ℕ) → new.inside ≡ o → job.inside ≡ r → NewStay k c job new
    by None r of_new of_job = record {
      n = 0;
      inside = λ m inside. absurd (let both : None ≡ Some m = sym of_new ∙ inside in cc);
      falls = λ m l was inside. absurd (let both : None ≡ Some l = sym of_new ∙ inside in cc);
    }
    by (Some l) None of_new of_job =
        let entered = tick_enters e ps image_fits t (starts e.image script t s.state).state k l job at of_job (fits_during e ps image_fits waitless script t s kept) (candidate (chosen_at e.image script t s)) (picked e ps image_fits waitless script t s kept) new now of_new in
        record {
          n = (part_of (ps k) job.handling).stays l;
          inside = λ m inside. (
              let both : Some l ≡ Some m = sym of_new ∙ inside in
              let one : l ≡ m = cc in
              subst (λ (i : ℕ). IsIn e ps (run_picked e.image t (starts e.image script t s.state).state (candidate (chosen_at e.image script t s))).state k i ((part_of (ps k) job.handling).stays l)) one
              (record { stays = entered.0; handling = job.handling; short = omega arith; monitor = entered.1.monitor; there = entered.1.there }));
          falls = λ m i was inside. absurd (let both : None ≡ Some m = sym of_job ∙ was in cc);
        }
    by (Some l) (Some m) of_new of_job =
        let i = c.inside job m at of_job in
        let turned = (passes_pick e ps image_fits t k (starts e.image script t s.state).state (fits_during e ps image_fits waitless script t s kept) (candidate (chosen_at e.image script t s)) (picked e ps image_fits waitless script t s kept)).runs_it (chosen_is e ps image_fits waitless script t s kept k is) in
        let same_job : turned.job ≡ job = (let both : Some (Ready turned.job) ≡ Some (Ready job) = sym turned.ready ∙ at in cc) in
        let own : Turn t k turned.job (Some (Ready new)) (run_picked e.image t (starts e.image script t s.state).state (candidate (chosen_at e.image script t s))).events =
        subst (λ (o : Option Thread). Turn t k turned.job o (run_picked e.image t (starts e.image script t s.state).state (candidate (chosen_at e.image script t s))).events) now turned.turn in
        let of_turned : turned.job.inside ≡ Some m = ap (λ (y : Job). y.inside) same_job ∙ of_job in
        let one : m ≡ l = elim own [
          | inl same ↦ (let both : Some m ≡ Some l = sym of_turned ∙ sym same ∙ of_new in cc)
          | inr other ↦ elim other [
            | inl leaves ↦ absurd (let both : None ≡ Some l = sym leaves ∙ of_new in cc)
            | inr outside ↦ absurd (let both : None ≡ Some m = sym outside ∙ of_turned in cc)
          ]
        ] in
        let still : new.inside ≡ Some m = of_new ∙ ap (λ (y : ℕ). Some y) (sym one) in
        let nearer = (stay.stay_of_tick e ps image_fits t (starts e.image script t s.state).state k m c.stay i.stays (fits_during e ps image_fits waitless script t s kept) (candidate (chosen_at e.image script t s)) (picked e ps image_fits waitless script t s kept)).0 (chosen_is e ps image_fits waitless script t s kept k is) new now still in
        record {
          n = nearer.0;
          inside = λ j inside. (
              let both : Some m ≡ Some j = sym still ∙ inside in
              let here : m ≡ j = cc in
              subst (λ (y : ℕ). IsIn e ps (run_picked e.image t (starts e.image script t s.state).state (candidate (chosen_at e.image script t s))).state k y nearer.0) here
              (record { stays = nearer.2; handling = i.handling; short = omega (arith, nearer.1, i.short); monitor = i.monitor; there = i.there }));
          falls = λ a b was inside. (
              let first : Some m ≡ Some a = sym of_job ∙ was in
              let second : Some l ≡ Some b = sym of_new ∙ inside in
              let m_is : m ≡ a = cc in
              let l_is : l ≡ b = cc in
              (sym m_is ∙ one ∙ l_is, omega (arith, nearer.1)));
        }

  -- the count of who runs
  runs : (k : ℕ) (p : Process) → slice_get e.image.processes k ≡ Some p → (x : About e ps image_fits waitless script t s kept k p) → (c : Count e ps (starts e.image script t s.state).state k) → chosen_at e.image script t s ≡ Some k → NextCount k p x c
  runs k p process x c is = by y.new refl y.calm where
    y : After e ps image_fits waitless script t s kept k p x
    y = after e ps image_fits waitless script t s kept k p process x

    ready : (job : Job) × (slice_get (starts e.image script t s.state).state.threads k ≡ Some (Ready job))
    ready = chosen_ready k is

    w : (m : ℕ) × (c.left ≡ m + 1) × Owes e ps (run_picked e.image t (starts e.image script t s.state).state (candidate (chosen_at e.image script t s))).state k m
    w = (work.work_of_tick e ps image_fits t (starts e.image script t s.state).state k c.left (c.busy ready.0 ready.1) (fits_during e ps image_fits waitless script t s kept) (candidate (chosen_at e.image script t s)) (picked e ps image_fits waitless script t s kept)).0 (chosen_is e ps image_fits waitless script t s kept k is)

    by : (new : Thread) → y.new ≡ new → IsNotWaiting new → NextCount k p x c
    by Idle of_new calm =
        let at_idle : slice_get (run_picked e.image t (starts e.image script t s.state).state (candidate (chosen_at e.image script t s))).state.threads k ≡ Some Idle = y.at_new ∙ ap (λ (z : Thread). Some z) of_new in
        record {
          count = count_idle e ps (run_picked e.image t (starts e.image script t s.state).state (candidate (chosen_at e.image script t s))).state k at_idle;
          falls = λ d. omega (arith, w.1);
          same = λ d. absurd (d is);
          stay_falls = λ d job new m n mid_is was now inside. absurd (let both : Some Idle ≡ Some (Ready new) = sym at_idle ∙ now in cc);
          stay_same = λ d. absurd (d is);
        }
    by (Ready new) of_new calm =
        let at_new : slice_get (run_picked e.image t (starts e.image script t s.state).state (candidate (chosen_at e.image script t s))).state.threads k ≡ Some (Ready new) = y.at_new ∙ ap (λ (z : Thread). Some z) of_new in
        let n = new_stay k c ready.0 new is ready.1 at_new in
        record {
          count = record {
            left = w.0;
            stay = n.n;
            idle = λ none. absurd (let both : Some Idle ≡ Some (Ready new) = sym none ∙ at_new in cc);
            busy = λ job now. w.2;
            inside = λ job m now inside.
                let both : Some (Ready new) ≡ Some (Ready job) = sym at_new ∙ now in
                let one : new ≡ job = cc in
                n.inside m (ap (λ (z : Job). z.inside) one ∙ inside);
          };
          falls = λ d. omega (arith, w.1);
          same = λ d. absurd (d is);
          stay_falls = λ d job other m l mid_is was now inside.
              let both : Some (Ready new) ≡ Some (Ready other) = sym at_new ∙ now in
              let one : new ≡ other = cc in
              let mids : Some (Ready ready.0) ≡ Some (Ready job) = sym ready.1 ∙ x.at_mid ∙ ap (λ (z : Thread). Some z) mid_is in
              let jobs : ready.0 ≡ job = cc in
              n.falls m l (ap (λ (z : Job). z.inside) jobs ∙ was) (ap (λ (z : Job). z.inside) one ∙ inside);
          stay_same = λ d. absurd (d is);
        }
    by (Waiting c0 d number job) of_new calm = absurd calm

  pub next_count : (k : ℕ) (p : Process) → slice_get e.image.processes k ≡ Some p → (x : About e ps image_fits waitless script t s kept k p) → (c : Count e ps (starts e.image script t s.state).state k) → NextCount k p x c
  next_count k p process x c = elim (chosen_or k (chosen_at e.image script t s)) [
    | inl is ↦ runs k p process x c is
    | inr differ ↦ rests k p process x c differ
  ]
