-- What each tick under the choice keeps: the state fits, nobody waits, and those that have begun stand in a stack.
use Rattle.std.proofs.Common.{◌≡◌, ◌<◌, ◌+◌, ◌⊎◌, inl, inr, ℕ, zero, suc, List, [], ◌∷◌, Option, Some, None, length, arith, refl, ap, sym, subst, ◌∙◌, true, false, Bool}
use Rattle.std.specs.Prelude.{slice_get, map}
use Rattle.std.proofs.lemmas.Bool.Decides.{nat_tests}
use Rattle.std.proofs.lemmas.Option.{slice_get_within, same_Some}
use Rattle.base.proofs.Lists.{some_at}
use Rattle.machine_semantics.specs.Image.{Process, Script}
use Rattle.machine_semantics.specs.State.{Thread, Idle, Ready, Waiting, State}
use Rattle.machine_semantics.specs.Starts.{release_thread, starts}
use Rattle.machine_semantics.specs.Tick.{owned_of, run_picked}
use Rattle.machine_semantics.specs.Run.{at_start}
use Rattle.machine_semantics.specs.Walk.{Where}
use Rattle.machine_semantics.specs.Safe.{Parts, ImageFits}
use Rattle.machine_semantics.specs.Whole.{StateFits, ceiling_of}
use Rattle.machine_semantics.specs.Work.{IsBusy, is_chosen, worst_of}
use Rattle.machine_semantics.specs.Waits.{Suspends, is_waiting}
use Rattle.machine_safety.proofs.Picked.{ChosenOf}
use Rattle.machine_safety.proofs.Starting.{starts_pass, release_keeps, starts_keep}
use Rattle.machine_safety.proofs.Beginning.{begins_pass}
use Rattle.machine_safety.proofs.Running.{start_fits, stack_fits, inside_is_ready}
use Rattle.machine_safety.proofs.Keeping.{words_at_start, starts_keep_words, chosen_keeps_words}
use Rattle.machine_safety.proofs.Suspending.{IsWoken, starts_not_due}
use Rattle.machine_safety.proofs.Suspending as wait
use Rattle.sched_theorem.specs.Dispatched.{Stay}
use Rattle.sched_demand.specs.Activations.{Chooses, Passes, KeepsCeilings}
use Rattle.sched_demand.specs.Stacked.{AreStacked, AreDistinct}
use Rattle.sched_demand.proofs.Stacking.{kept_by_releases, kept_by_choice}
use Rattle.sched_timing.specs.Views.{is_due}
use Rattle.sched_timing.proofs.Begun.{TimesOut, maybe_released, begun}
use Rattle.sched_timing.proofs.Turns.{Turn, passes_pick}
use Rattle.edf_semantics.specs.Choice.{Mark}
use Rattle.edf_semantics.specs.Run.{Marked, mark_of, begin_some, candidate, marks_during, chosen_at, first_marks, tick, state_at}
use Rattle.edf_semantics.specs.Safe.{act, inside_of, stay_of, acts, insides, rank_at, deadline_at, rank_of_some, IsWaitless, EveryRunIsSafe, RunKeepsWords}
use Rattle.edf_semantics.proofs.Choosing.{act_active, inside_ready, chooses}
use Rattle.edf_semantics.proofs.Marking.{marks_at, length_marks, length_begin, begin_at, begin_other, has_mark, Opening, IsNotWaiting, opening, is_new, starts_one, inside_one, opened_calm, starts_at, restacked}
use Rattle.edf_semantics.proofs.Picking.{run_keeps, may_run}

module _ (e : Where) (ps : ℕ → Parts) (image_fits : ImageFits e ps) (waitless : IsWaitless e ps) where
  pub distinct : AreDistinct (length e.image.processes) (rank_at e.image)
  distinct p q p_below q_below same =
      let a = some_at e.image.processes p p_below in
      let b = some_at e.image.processes q q_below in
      let rank_a : rank_at e.image p ≡ a.0.rank = ap (λ (x : Option Process). rank_of_some x) a.1 in
      let rank_b : rank_at e.image q ≡ b.0.rank = ap (λ (x : Option Process). rank_of_some x) b.1 in
      waitless.one_each p q a.0 b.0 a.1 b.1 (sym rank_a ∙ same ∙ rank_b)

  -- process k does not wait, and has no wait to come
  unfoldable pub Calm : ℕ → ℕ → State → Type 0
  Calm t k s = (th : Thread) × (slice_get s.threads k ≡ Some th) × IsNotWaiting th × ((th ≡ Idle) ⊎ ((m : ℕ) × (o : Suspends e ps s t k m 0) × IsBusy o.thread))

  pub record Kept (t : ℕ) (m : Marked) : Type 0 where
    pub fits : StateFits e ps m.state
    pub many : length m.marks ≡ length e.image.processes
    pub calm : (k : ℕ) (p : Process) → slice_get e.image.processes k ≡ Some p → Calm t k m.state
    pub stack : AreStacked (length e.image.processes) (rank_at e.image) (deadline_at e.image) t (acts m.state.threads m.marks) (insides e.image m.state.threads)

  -- ---- the start events

  module _ (script : Script) (t : ℕ) (s : Marked) (kept : Kept t s) where
    abbrev pub marks : List Mark
    marks = marks_during e.image script t s

    pub fits_during : StateFits e ps (starts e.image script t s.state).state
    fits_during = starts_keep e ps image_fits script t s.state kept.fits

    pub many_during : length (marks_during e.image script t s) ≡ length e.image.processes
    many_during = length_marks t s.state.threads (starts e.image script t s.state).state.threads s.marks (kept.fits.many ∙ sym kept.many) (fits_during.many ∙ sym kept.many) ∙ kept.many

    -- the threads and marks of process k about the start events
    pub record About (k : ℕ) (p : Process) : Type 0 where
      pub old : Thread
      pub mid : Thread
      pub m : Mark
      pub at_old : slice_get s.state.threads k ≡ Some old
      pub at_mid : slice_get (starts e.image script t s.state).state.threads k ≡ Some mid
      pub at_m : slice_get s.marks k ≡ Some m
      pub opens : Opening e.image p old mid
      pub exact : TimesOut (maybe_released e.image p (is_due script t p) (Some old)) (Some mid)
      pub busy : (old ≡ Idle) ⊎ ((w : ℕ) × (o : Suspends e ps s.state t k w 0) × IsBusy o.thread)

    pub about : (k : ℕ) (p : Process) → slice_get e.image.processes k ≡ Some p → About k p
    unfolding Calm
    about k p process =
        let below : k < length e.image.processes = slice_get_within e.image.processes k p process in
        let c = kept.calm k p process in
        let mid = some_at (starts e.image script t s.state).state.threads k (omega (arith, below, fits_during.many)) in
        let m = has_mark s.marks k (omega (arith, below, kept.many)) in
        let is : TimesOut (maybe_released e.image p (is_due script t p) (slice_get s.state.threads k)) (slice_get (starts e.image script t s.state).state.threads k) = begun e.image script t k p s.state process in
        let here : TimesOut (maybe_released e.image p (is_due script t p) (Some c.0)) (Some mid.0) =
        subst (λ (x : Option Thread). TimesOut (maybe_released e.image p (is_due script t p) (Some c.0)) x) mid.1 (subst (λ (x : Option Thread). TimesOut (maybe_released e.image p (is_due script t p) x) (slice_get (starts e.image script t s.state).state.threads k)) c.1 is) in
        record { old = c.0; mid = mid.0; m = m.0; at_old = c.1; at_mid = mid.1; at_m = m.1; opens = opening e.image p (is_due script t p) c.0 mid.0 c.2 here; exact = here; busy = c.3 }

    pub mark_during : (k : ℕ) (p : Process) (x : About k p) → slice_get (marks_during e.image script t s) k ≡ Some (mark_of t x.old x.mid x.m)
    mark_during k p x = marks_at t s.state.threads (starts e.image script t s.state).state.threads s.marks k x.old x.mid x.m x.at_old x.at_mid x.at_m

    -- how long it may still wait, which is not at all
    suspends_during : (k : ℕ) (p : Process) → slice_get e.image.processes k ≡ Some p → (x : About k p) → (x.mid ≡ Idle) ⊎ ((w : ℕ) × (o : Suspends e ps (starts e.image script t s.state).state t k w 0) × IsBusy o.thread)
    unfolding wait.Unfinished
    suspends_during k p process x = elim x.busy [
      | inr b ↦
          let u = starts_pass e (wait.Unfinished e ps image_fits t k b.0 0) (wait.release_unfinished e ps image_fits t k b.0 0) (wait.time_out_unfinished e ps image_fits t k b.0 0) (wait.device_unfinished e ps image_fits t k b.0 0) script t s.state (kept.fits, (b.1, b.2)) in
          inr (b.0, u.1.0, u.1.1)
      | inl idle ↦
          let w : ℕ = (worst_of (ps k)).susp in
          let at_idle : slice_get s.state.threads k ≡ Some Idle = x.at_old ∙ ap (λ (y : Thread). Some y) idle in
          elim (begins_pass e ps image_fits k (wait.Unfinished e ps image_fits t k (worst_of (ps k)).susp 0) (wait.release_unfinished e ps image_fits t k (worst_of (ps k)).susp 0) (wait.time_out_unfinished e ps image_fits t k (worst_of (ps k)).susp 0) (wait.device_unfinished e ps image_fits t k (worst_of (ps k)).susp 0)
          (λ u q v ok process_q at. (
            release_keeps e ps image_fits u k q v ok process_q,
            subst (λ (z : Option Thread). (o : Suspends e ps (release_thread e.image u k q v z).state t k (worst_of (ps k)).susp 0) × IsBusy o.thread) (sym at)
                (subst (λ (w : ℕ). (o : Suspends e ps (release_thread e.image u k q v (Some Idle)).state t k (worst_of (ps k)).susp w) × IsBusy o.thread) (waitless.no_waits k q process_q) (wait.fresh e ps image_fits t u k q v ok process_q at)),
          )) script t s.state kept.fits at_idle) [
            | inl still ↦ inl (let both : Some x.mid ≡ Some Idle = sym x.at_mid ∙ still in cc)
            | inr u ↦ inr ((worst_of (ps k)).susp, u.1.0, u.1.1)
          ]
    ]

    released_at : ℕ → Bool
    released_at k = is_new (slice_get s.state.threads k) (slice_get (starts e.image script t s.state).state.threads k)

    pub stack_during : AreStacked (length e.image.processes) (rank_at e.image) (deadline_at e.image) (suc t) (acts (starts e.image script t s.state).state.threads (marks_during e.image script t s)) (insides e.image (starts e.image script t s.state).state.threads)
    unfolding released_at
    stack_during =
        restacked (length e.image.processes) (rank_at e.image) (deadline_at e.image) (suc t) (acts (starts e.image script t s.state).state.threads (marks_during e.image script t s)) (insides e.image s.state.threads) (insides e.image (starts e.image script t s.state).state.threads)
        (λ q below.
        let p = some_at e.image.processes q below in
        let x = about q p.0 p.1 in
        ap (λ (o : Option Thread). stay_of e.image (inside_of o)) x.at_mid ∙ ap (λ (o : Option ℕ). stay_of e.image o) (inside_one e.image p.0 x.old x.mid x.opens) ∙ ap (λ (o : Option Thread). stay_of e.image (inside_of o)) (sym x.at_old))
        (kept_by_releases (length e.image.processes) (rank_at e.image) (deadline_at e.image) t (λ k. 1) released_at (acts s.state.threads s.marks) (acts (starts e.image script t s.state).state.threads (marks_during e.image script t s)) (insides e.image s.state.threads) kept.stack
        (λ q below.
        let p = some_at e.image.processes q below in
        let x = about q p.0 p.1 in
        starts_at t x.old x.mid x.m (mark_of t x.old x.mid x.m) (slice_get s.state.threads q) (slice_get (starts e.image script t s.state).state.threads q) (slice_get s.marks q) (slice_get (marks_during e.image script t s) q) x.at_old x.at_mid x.at_m (mark_during q p.0 x) (starts_one e.image p.0 t x.old x.mid x.m x.opens)))

    pub choice : Chooses (length e.image.processes) (rank_at e.image) (deadline_at e.image) (insides e.image (starts e.image script t s.state).state.threads) (acts (starts e.image script t s.state).state.threads (marks_during e.image script t s)) (chosen_at e.image script t s)
    choice = chooses e.image (starts e.image script t s.state).state.threads (marks_during e.image script t s) (suc t) distinct stack_during fits_during.many

    pub picked : ChosenOf e.image 0 e.image.processes (starts e.image script t s.state).state.threads (candidate (chosen_at e.image script t s))
    picked = may_run e.image (starts e.image script t s.state).state.threads (marks_during e.image script t s) (suc t) many_during stack_during (chosen_at e.image script t s) choice

    -- ---- the tick of who is chosen

    pub safe : ((run_picked e.image t (starts e.image script t s.state).state (candidate (chosen_at e.image script t s))).stuck ≡ false) × StateFits e ps (run_picked e.image t (starts e.image script t s.state).state (candidate (chosen_at e.image script t s))).state
    safe = run_keeps e ps image_fits t (starts e.image script t s.state).state fits_during (candidate (chosen_at e.image script t s)) picked

    -- the thread of process k after the tick
    pub record After (k : ℕ) (p : Process) (x : About k p) : Type 0 where
      pub new : Thread
      pub at_new : slice_get (run_picked e.image t (starts e.image script t s.state).state (candidate (chosen_at e.image script t s))).state.threads k ≡ Some new
      pub calm : IsNotWaiting new
      pub busy : (new ≡ Idle) ⊎ ((w : ℕ) × (o : Suspends e ps (run_picked e.image t (starts e.image script t s.state).state (candidate (chosen_at e.image script t s))).state (t + 1) k w 0) × IsBusy o.thread)

    pub chosen_is : (k : ℕ) → chosen_at e.image script t s ≡ Some k → is_chosen k (candidate (chosen_at e.image script t s)) ≡ true
    chosen_is k is = ap (λ (o : Option ℕ). is_chosen k (candidate o)) is ∙ grind (arith, nat_tests)

    pub not_chosen : (k : ℕ) (o : Option ℕ) → (o ≡ Some k → ⊥) → is_chosen k (candidate o) ≡ false
    not_chosen k None differ = refl
    not_chosen k (Some j) differ = grind (arith, nat_tests, (let h : j ≡ k → ⊥ = λ same. differ (ap (λ (x : ℕ). Some x) same) in h))

    not_waiting : (th : Thread) → IsNotWaiting th → is_waiting (Some th) ≡ false
    not_waiting Idle calm = refl
    not_waiting (Ready job) calm = refl
    not_waiting (Waiting c d number job) calm = absurd calm

    busy_of : (th : Thread) (k w : ℕ) (u : State) → slice_get u.threads k ≡ Some th → IsNotWaiting th → (o : Suspends e ps u (t + 1) k w 0) → (th ≡ Idle) ⊎ ((w : ℕ) × (o : Suspends e ps u (t + 1) k w 0) × IsBusy o.thread)
    busy_of Idle k w u at calm o = inl refl
    busy_of (Ready job) k w u at calm o = inr (w, o, (let both : Some o.thread ≡ Some (Ready job) = sym o.there ∙ at in let same : o.thread ≡ Ready job = cc in subst IsBusy (sym same) tt))
    busy_of (Waiting c d number job) k w u at calm o = absurd calm

    -- a thread that waits is told so
    calm_of : (th : Thread) → (is_waiting (Some th) ≡ true → ⊥) → IsNotWaiting th
    calm_of Idle none = tt
    calm_of (Ready job) none = tt
    calm_of (Waiting c d number job) none = none refl

    pub after : (k : ℕ) (p : Process) → slice_get e.image.processes k ≡ Some p → (x : About k p) → After k p x
    after k p process x =
        let u : State = (run_picked e.image t (starts e.image script t s.state).state (candidate (chosen_at e.image script t s))).state in
        let below : k < length e.image.processes = slice_get_within e.image.processes k p process in
        let new = some_at (run_picked e.image t (starts e.image script t s.state).state (candidate (chosen_at e.image script t s))).state.threads k (omega (arith, below, safe.1.many)) in
        let calm_mid = opened_calm e.image p x.old x.mid x.opens in
        let mid_not : is_waiting (slice_get (starts e.image script t s.state).state.threads k) ≡ false = ap is_waiting x.at_mid ∙ not_waiting x.mid calm_mid in
        elim (suspends_during k p process x) [
          | inl idle ↦
              -- an idle process does not run
              let rests : is_chosen k (candidate (chosen_at e.image script t s)) ≡ false = idle_rests (chosen_at e.image script t s) choice idle in
              let l = (passes_pick e ps image_fits t k (starts e.image script t s.state).state fits_during (candidate (chosen_at e.image script t s)) picked).left x.mid rests x.at_mid in
              let still : IsWoken e.image Idle l.0 = subst (λ (y : Thread). IsWoken e.image y l.0) idle l.2 in
              let is_idle : l.0 ≡ Idle = elim still [ inl same ↦ same | inr same ↦ same ] in
              record { new = l.0; at_new = l.1; calm = subst IsNotWaiting (sym is_idle) tt; busy = inl is_idle }
          | inr b ↦
              let spends = wait.tick_spends e ps image_fits t (starts e.image script t s.state).state k b.0 0 b.1 b.2 (starts_not_due e.image script t k p s.state waitless.ranked process) fits_during (candidate (chosen_at e.image script t s)) picked in
              let calm_new : IsNotWaiting new.0 = calm_of new.0 (λ is. let v = spends.began mid_not (ap is_waiting new.1 ∙ is) in omega (arith, v.1)) in
              let o = spends.ran mid_not (ap is_waiting new.1 ∙ not_waiting new.0 calm_new) in
              record { new = new.0; at_new = new.1; calm = calm_new; busy = busy_of new.0 k b.0 u new.1 calm_new o }
        ]
      where
        idle_rests : (o : Option ℕ) → Chooses (length e.image.processes) (rank_at e.image) (deadline_at e.image) (insides e.image (starts e.image script t s.state).state.threads) (acts (starts e.image script t s.state).state.threads (marks_during e.image script t s)) o → x.mid ≡ Idle → is_chosen k (candidate o) ≡ false
        idle_rests None chooses idle = refl
        idle_rests (Some j) chosen idle = not_chosen k (Some j) (λ same.
            let one : j ≡ k = same_Some j k same in
            let a = act_active (slice_get (starts e.image script t s.state).state.threads j) (slice_get (marks_during e.image script t s) j) chosen.active in
            let both : Some (Ready a.0) ≡ Some Idle = sym a.2 ∙ ap (λ (i : ℕ). slice_get (starts e.image script t s.state).state.threads i) one ∙ x.at_mid ∙ ap (λ (y : Thread). Some y) idle in
            absurd (cc))

    -- who does not run is as it was
    pub rests_same : (k : ℕ) (p : Process) (x : About k p) (y : After k p x) → (chosen_at e.image script t s ≡ Some k → ⊥) → y.new ≡ x.mid
    rests_same k p x y differ =
        let l = (passes_pick e ps image_fits t k (starts e.image script t s.state).state fits_during (candidate (chosen_at e.image script t s)) picked).left x.mid (not_chosen k (chosen_at e.image script t s) differ) x.at_mid in
        let same : y.new ≡ l.0 = (let both : Some y.new ≡ Some l.0 = sym y.at_new ∙ l.1 in cc) in
        same ∙ woken_same x.mid l.0 (opened_calm e.image p x.old x.mid x.opens) l.2
      where
        woken_same : (th u : Thread) → IsNotWaiting th → IsWoken e.image th u → u ≡ th
        woken_same Idle u calm (inl is) = is
        woken_same Idle u calm (inr is) = is
        woken_same (Ready job) u calm (inl is) = is
        woken_same (Ready job) u calm (inr is) = is
        woken_same (Waiting c d number job) u calm is = absurd calm

    pub marks_rest : (k : ℕ) (o : Option ℕ) (ms : List Mark) → (o ≡ Some k → ⊥) → slice_get (begin_some o ms) k ≡ slice_get ms k
    marks_rest k None ms differ = refl
    marks_rest k (Some j) ms differ = begin_other j k ms (λ same. differ (ap (λ (x : ℕ). Some x) same))

    length_next : (o : Option ℕ) (ms : List Mark) → length (begin_some o ms) ≡ length ms
    length_next None ms = refl
    length_next (Some k) ms = length_begin k ms

    passes : Passes (length e.image.processes) (chosen_at e.image script t s) (acts (starts e.image script t s.state).state.threads (marks_during e.image script t s)) (acts (run_picked e.image t (starts e.image script t s.state).state (candidate (chosen_at e.image script t s))).state.threads (begin_some (chosen_at e.image script t s) (marks_during e.image script t s)))
    passes = record {
      runs = λ k below is.
          let p = some_at e.image.processes k below in
          let x = about k p.0 p.1 in
          let m1 : Mark = mark_of t x.old x.mid x.m in
          let at_next : slice_get (begin_some (chosen_at e.image script t s) (marks_during e.image script t s)) k ≡ Some (record { release = (mark_of t x.old x.mid x.m).release; begun = true }) =
          ap (λ (o : Option ℕ). slice_get (begin_some o (marks_during e.image script t s)) k) is ∙ begin_at k (marks_during e.image script t s) (mark_of t x.old x.mid x.m) (mark_during k p.0 x) in
          let chosen = subst (λ (o : Option ℕ). Chooses (length e.image.processes) (rank_at e.image) (deadline_at e.image) (insides e.image (starts e.image script t s.state).state.threads) (acts (starts e.image script t s.state).state.threads (marks_during e.image script t s)) o) is choice in
          let a = act_active (slice_get (starts e.image script t s.state).state.threads k) (slice_get (marks_during e.image script t s) k) chosen.active in
          let was : (acts (starts e.image script t s.state).state.threads (marks_during e.image script t s) k).release ≡ (mark_of t x.old x.mid x.m).release =
          ap (λ (o : Option Thread). (act o (slice_get (marks_during e.image script t s) k)).release) a.2 ∙ ap (λ (o : Option Mark). (act (Some (Ready a.0)) o).release) (mark_during k p.0 x) in
          record {
            same = λ active.
                let b = act_active (slice_get (run_picked e.image t (starts e.image script t s.state).state (candidate (chosen_at e.image script t s))).state.threads k) (slice_get (begin_some (chosen_at e.image script t s) (marks_during e.image script t s)) k) active in
                ap (λ (o : Option Thread). (act o (slice_get (begin_some (chosen_at e.image script t s) (marks_during e.image script t s)) k)).release) b.2 ∙ ap (λ (o : Option Mark). (act (Some (Ready b.0)) o).release) at_next ∙ sym was;
            begins = λ active.
                let b = act_active (slice_get (run_picked e.image t (starts e.image script t s.state).state (candidate (chosen_at e.image script t s))).state.threads k) (slice_get (begin_some (chosen_at e.image script t s) (marks_during e.image script t s)) k) active in
                let h : (acts (run_picked e.image t (starts e.image script t s.state).state (candidate (chosen_at e.image script t s))).state.threads (begin_some (chosen_at e.image script t s) (marks_during e.image script t s)) k).had ≡ 1 =
                ap (λ (o : Option Thread). (act o (slice_get (begin_some (chosen_at e.image script t s) (marks_during e.image script t s)) k)).had) b.2 ∙ ap (λ (o : Option Mark). (act (Some (Ready b.0)) o).had) at_next in
                omega (arith, h);
          };
      others = λ k below differ.
          let p = some_at e.image.processes k below in
          let x = about k p.0 p.1 in
          let y = after k p.0 p.1 x in
          let same : slice_get (run_picked e.image t (starts e.image script t s.state).state (candidate (chosen_at e.image script t s))).state.threads k ≡ slice_get (starts e.image script t s.state).state.threads k =
          y.at_new ∙ ap (λ (z : Thread). Some z) (rests_same k p.0 x y differ) ∙ sym x.at_mid in
          ap (λ (o : Option Thread). act o (slice_get (begin_some (chosen_at e.image script t s) (marks_during e.image script t s)) k)) same
          ∙ ap (λ (o : Option Mark). act (slice_get (starts e.image script t s.state).state.threads k) o) (marks_rest k (chosen_at e.image script t s) (marks_during e.image script t s) differ);
    }

    keeps : KeepsCeilings (length e.image.processes) (chosen_at e.image script t s) (insides e.image (starts e.image script t s.state).state.threads) (insides e.image (run_picked e.image t (starts e.image script t s.state).state (candidate (chosen_at e.image script t s))).state.threads)
    keeps = record {
      was = λ k stay below is inside.
          let r = inside_ready e.image (slice_get (run_picked e.image t (starts e.image script t s.state).state (candidate (chosen_at e.image script t s))).state.threads k) stay inside in
          let turned = (passes_pick e ps image_fits t k (starts e.image script t s.state).state fits_during (candidate (chosen_at e.image script t s)) picked).runs_it (chosen_is k is) in
          let own : Turn t k turned.job (Some (Ready r.0)) (run_picked e.image t (starts e.image script t s.state).state (candidate (chosen_at e.image script t s))).events =
          subst (λ (o : Option Thread). Turn t k turned.job o (run_picked e.image t (starts e.image script t s.state).state (candidate (chosen_at e.image script t s))).events) r.2 turned.turn in
          let before : insides e.image (starts e.image script t s.state).state.threads k ≡ stay_of e.image turned.job.inside = ap (λ (o : Option Thread). stay_of e.image (inside_of o)) turned.ready in
          elim own [
            | inl same ↦ inr (record { ceiling = ceiling_of e.image r.1; left = 0 }, before ∙ ap (λ (o : Option ℕ). stay_of e.image o) (sym same ∙ r.3), sym r.4)
            | inr other ↦ elim other [
              | inl leaves ↦ absurd (let both : None ≡ Some r.1 = sym leaves ∙ r.3 in cc)
              | inr outside ↦ inl (before ∙ ap (λ (o : Option ℕ). stay_of e.image o) outside)
            ]
          ];
      others = λ k below differ.
          let p = some_at e.image.processes k below in
          let x = about k p.0 p.1 in
          let y = after k p.0 p.1 x in
          ap (λ (o : Option Thread). stay_of e.image (inside_of o)) (y.at_new ∙ ap (λ (z : Thread). Some z) (rests_same k p.0 x y differ) ∙ sym x.at_mid);
    }

    pub many_next : length (begin_some (chosen_at e.image script t s) (marks_during e.image script t s)) ≡ length e.image.processes
    many_next = length_next (chosen_at e.image script t s) (marks_during e.image script t s) ∙ many_during

    stack_next : AreStacked (length e.image.processes) (rank_at e.image) (deadline_at e.image) (suc t) (acts (run_picked e.image t (starts e.image script t s.state).state (candidate (chosen_at e.image script t s))).state.threads (begin_some (chosen_at e.image script t s) (marks_during e.image script t s))) (insides e.image (run_picked e.image t (starts e.image script t s.state).state (candidate (chosen_at e.image script t s))).state.threads)
    stack_next = kept_by_choice (length e.image.processes) (rank_at e.image) (deadline_at e.image) (suc t) (acts (starts e.image script t s.state).state.threads (marks_during e.image script t s)) (acts (run_picked e.image t (starts e.image script t s.state).state (candidate (chosen_at e.image script t s))).state.threads (begin_some (chosen_at e.image script t s) (marks_during e.image script t s))) (insides e.image (starts e.image script t s.state).state.threads) (insides e.image (run_picked e.image t (starts e.image script t s.state).state (candidate (chosen_at e.image script t s))).state.threads) (chosen_at e.image script t s) distinct stack_during choice passes keeps
        (λ k stay below inside.
        let r = inside_ready e.image (slice_get (run_picked e.image t (starts e.image script t s.state).state (candidate (chosen_at e.image script t s))).state.threads k) stay inside in
        let m = has_mark (begin_some (chosen_at e.image script t s) (marks_during e.image script t s)) k (omega (arith, below, many_next)) in
        let h : (acts (run_picked e.image t (starts e.image script t s.state).state (candidate (chosen_at e.image script t s))).state.threads (begin_some (chosen_at e.image script t s) (marks_during e.image script t s)) k).left ≡ 1 =
        ap (λ (o : Option Thread). (act o (slice_get (begin_some (chosen_at e.image script t s) (marks_during e.image script t s)) k)).left) r.2 ∙ ap (λ (o : Option Mark). (act (Some (Ready r.0)) o).left) m.1 in
        omega (arith, h))

    -- a tick is not stuck, and keeps it all
    pub tick_keeps : ((tick e.image script t s).stuck ≡ false) × Kept (suc t) (tick e.image script t s).state
    unfolding tick Calm
    tick_keeps = (
      safe.0,
      record {
        fits = safe.1;
        many = many_next;
        calm = λ k p process.
            let x = about k p process in
            let y = after k p process x in
            let e1 : t + 1 ≡ suc t = omega arith in
            (y.new, y.at_new, y.calm, subst (λ (i : ℕ). (y.new ≡ Idle) ⊎ ((w : ℕ) × (o : Suspends e ps (run_picked e.image t (starts e.image script t s.state).state (candidate (chosen_at e.image script t s))).state i k w 0) × IsBusy o.thread)) e1 y.busy);
        stack = stack_next;
      },
    )

  -- ---- the run

  idle_at : (qs : List Process) (k : ℕ) (th : Thread) → slice_get (map (λ (p : Process). Idle) qs) k ≡ Some th → th ≡ Idle
  idle_at [] k th at = absurd cc
  idle_at (q ∷ qs) zero th at = cc
  idle_at (q ∷ qs) (suc k) th at = idle_at qs k th at

  idle_there : (qs : List Process) (k : ℕ) (p : Process) → slice_get qs k ≡ Some p → slice_get (map (λ (p : Process). Idle) qs) k ≡ Some Idle
  idle_there [] k p at = absurd cc
  idle_there (q ∷ qs) zero p at = refl
  idle_there (q ∷ qs) (suc k) p at = idle_there qs k p at

  abbrev first_mark : Process → Mark
  first_mark p = record { release = 0; begun = false }

  length_map : {X : Type 0} (f : Process → X) (qs : List Process) → length (map f qs) ≡ length qs
  length_map f [] = refl
  length_map f (q ∷ qs) = ap suc (length_map f qs)

  none_active : (o : Option Thread) (m : Option Mark) → ((th : Thread) → o ≡ Some th → th ≡ Idle) → (act o m).left ≡ 0
  none_active None m idle = refl
  none_active (Some th) m idle = ap (λ (y : Thread). (act (Some y) m).left) (idle th refl)

  none_inside : (o : Option Thread) (s : Stay) → ((th : Thread) → o ≡ Some th → th ≡ Idle) → stay_of e.image (inside_of o) ≡ Some s → ⊥
  none_inside None s idle is = absurd cc
  none_inside (Some th) s idle is = let h : stay_of e.image (inside_of (Some Idle)) ≡ Some s = subst (λ (y : Thread). stay_of e.image (inside_of (Some y)) ≡ Some s) (idle th refl) is in absurd cc

  kept_first : Kept 0 (record { state = at_start e.image; marks = first_marks e.image })
  unfolding at_start Calm
  kept_first = record {
    fits = start_fits e ps image_fits;
    many = length_map (λ (p : Process). first_mark p) e.image.processes;
    calm = λ k p process. (Idle, idle_there e.image.processes k p process, tt, inl refl);
    stack = record {
      past = λ p below active. absurd (let h = none_active (slice_get (map (λ (p : Process). Idle) e.image.processes) p) (slice_get (first_marks e.image) p) (λ th at. idle_at e.image.processes p th at) in omega (arith, h, active));
      begun = λ q s below is. absurd (none_inside (slice_get (map (λ (p : Process). Idle) e.image.processes) q) s (λ th at. idle_at e.image.processes q th at) is);
      later = λ p q p_below q_below active begun before. absurd (let h = none_active (slice_get (map (λ (p : Process). Idle) e.image.processes) p) (slice_get (first_marks e.image) p) (λ th at. idle_at e.image.processes p th at) in omega (arith, h, active));
      above = λ p q s p_below q_below begun is before. absurd (none_inside (slice_get (map (λ (p : Process). Idle) e.image.processes) q) s (λ th at. idle_at e.image.processes q th at) is);
    };
  }

  pub kept : (script : Script) (t : ℕ) → Kept t (state_at e.image script t)
  unfolding state_at
  kept script zero = kept_first
  kept script (suc t) = (tick_keeps script t (state_at e.image script t) (kept script t)).1

pub every_run_is_safe : EveryRunIsSafe
every_run_is_safe e ps script t image_fits waitless =
    let k = kept e ps image_fits waitless script t in (
      (tick_keeps e ps image_fits waitless script t (state_at e.image script t) k).0,
      (λ j p th at_p at_t. stack_fits e p (ps j) th (owned_of (slice_get (state_at e.image script t).state.owned j)) (state_at e.image script t).state.shared (image_fits.processes j p at_p) (k.fits.threads j p th at_p at_t)),
      k.fits.apart,
      inside_is_ready e ps (state_at e.image script t).state k.fits,
    )

pub run_keeps_words : RunKeepsWords
unfolding tick state_at at_start
run_keeps_words e ps script zero fits waitless = words_at_start e.image.processes
run_keeps_words e ps script (suc t) fits waitless =
    let s : Marked = state_at e.image script t in
    let k : Kept e ps fits waitless t (state_at e.image script t) = kept e ps fits waitless script t in
    let words = starts_keep_words e ps fits script t s.state (run_keeps_words e ps script t fits waitless) in
    chosen_keeps_words e ps fits t (starts e.image script t s.state).state (candidate (chosen_at e.image script t s)) (picked e ps fits waitless script t s k) (fits_during e ps fits waitless script t s k) words
