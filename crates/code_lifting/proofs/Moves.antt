-- The process that runs stays in its monitor or outside, enters or leaves a monitor, and others are taken out of a queue: both sides stay the same.
use Rattle.std.proofs.Common.{◌≡◌, ◌<◌, ◌*◌, inl, inr, ℕ, zero, suc, List, [], ◌∷◌, Option, Some, None, length, arith, refl, ap, sym, subst, ◌∙◌, true, false, Bool}
use Rattle.std.specs.Prelude.{ℤ, slice_get, slice_set, position, cond, nat_eq, nat_lt, not, ◌&&◌}
use Rattle.std.specs.List.{position_or_len}
use Rattle.std.proofs.lemmas.Bool.Decides.{nat_tests}
use Rattle.std.proofs.lemmas.Option.{slice_get_within}
use Rattle.std.proofs.lemmas.Bool.{cases_eq}
use Rattle.base.proofs.Lists.{get_set, get_other, one_some, some_at}
use Rattle.syntax_tree.specs.Plain as tree
use Rattle.source_semantics.specs.Names.{processes}
use Rattle.source_semantics.specs.Store.{Vars}
use Rattle.source_semantics.specs.Config.{Doing, active, released_of, Job, Hold, hold_vars, is_process, changed, occupied, woken, wake_all, job_doing}
use Rattle.source_semantics.specs.Ranks.{monitors_of, includes}
use Rattle.machine_semantics.specs.Image.{Process}
use Rattle.machine_semantics.specs.State.{Thread, Idle, Ready, Waiting}
use Rattle.machine_semantics.specs.State as target
use Rattle.machine_semantics.specs.Effect.{Own}
use Rattle.machine_semantics.specs.Tick.{owned_of}
use Rattle.machine_semantics.specs.Tick as tick
use Rattle.machine_semantics.specs.Queues.{times, waits_on}
use Rattle.code_spec.specs.Boundary.{view, kept, SameOutside}
use Rattle.code_lifting.specs.Related.{Whole, Relations, own, inside_of, monitor_vars, Same, Related}
use Rattle.code_lifting.specs.Compiled.{IsCompiled}
use Rattle.code_lifting.proofs.Lists.{Changed, set_changes, changed_changes, not_changed, changed_again, length_changed}
use Rattle.code_lifting.proofs.Touch.{Text, text_of, touch_none, touch_one}

-- ---- the monitor that the process is inside has these variables

abbrev pub saving : Vars → Hold → Hold
saving vars h = record { vars = vars; occupant = h.occupant }

abbrev pub saved_holds : Option ℕ → Vars → List Hold → List Hold
saved_holds None vars holds = holds
saved_holds (Some m) vars holds = changed (saving vars) m holds

-- the hold of the monitor changes, and keeps its occupant
abbrev pub Saved : Option ℕ → (k : ℕ) → (before after : List Hold) → Type 0
Saved None k before after = after ≡ before
Saved (Some m) k before after = (h : Hold) × Changed before after m h × (h.occupant ≡ Some k)

or_len_past : {A : Type 0} (f : A → Bool) (x : A) (xs : List A) → position_or_len f (x ∷ xs) ≡ cond (f x) 0 (suc (position_or_len f xs))
or_len_past f x xs = by (f x) refl where
  by : (b : Bool) → f x ≡ b → position_or_len f (x ∷ xs) ≡ cond b 0 (suc (position_or_len f xs))
  by true is = grind (arith, nat_tests, is)
  by false is = grind (arith, nat_tests, is)

or_len_changed : {A : Type 0} (f : A → Bool) (g : A → A) → ((x : A) → f (g x) ≡ f x) → (xs : List A) (m : ℕ) → position_or_len f (changed g m xs) ≡ position_or_len f xs
or_len_changed f g same [] m = refl
or_len_changed f g same (x ∷ xs) zero = or_len_past f (g x) xs ∙ ap (λ b. cond b 0 (suc (position_or_len f xs))) (same x) ∙ sym (or_len_past f x xs)
or_len_changed f g same (x ∷ xs) (suc m) = or_len_past f x (changed g m xs) ∙ ap (λ n. cond (f x) 0 (suc n)) (or_len_changed f g same xs m) ∙ sym (or_len_past f x xs)

pub inside_saved : (o : Option ℕ) (k : ℕ) (vars : Vars) (holds : List Hold) → position (λ (h : Hold). is_process k h.occupant) (saved_holds o vars holds) ≡ position (λ (h : Hold). is_process k h.occupant) holds
inside_saved None k vars holds = refl
inside_saved (Some m) k vars holds =
    let f : Hold → Bool = λ (h : Hold). is_process k h.occupant in
    ap (λ n. cond (nat_lt n (length (changed (saving vars) m holds))) (Some n) None) (or_len_changed f (saving vars) (λ h. refl) holds m)
    ∙ ap (λ n. cond (nat_lt (position_or_len f holds) n) (Some (position_or_len f holds)) None) (length_changed (saving vars) holds m)

module _ (w : Whole) (r : Relations) (compiled : IsCompiled w r)
    (threads : List Thread) (owned : List (List ℤ)) (shared : List ℤ) (jobs : List Job) (holds : List Hold) (related : Related w r threads owned shared jobs holds)
    (k : ℕ) (p : Process) (at_process : slice_get w.image.processes k ≡ Some p) where
  pub words_of : (words : List ℤ) → Changed owned (slice_set owned k words) k words
  words_of words =
      let old : (x : List ℤ) × (slice_get owned k ≡ Some x) = some_at owned k (omega (arith, slice_get_within w.image.processes k p at_process, related.many_owned)) in
      set_changes owned k words old.0 old.1

  thread_of : (t old : Thread) → slice_get threads k ≡ Some old → Changed threads (slice_set threads k t) k t
  thread_of t old at = set_changes threads k t old at

  pub at_saved : (o : Option ℕ) (vars : Vars) → inside_of (slice_get threads k) ≡ o → Saved o k holds (saved_holds o vars holds)
  at_saved None vars in_o = refl
  at_saved (Some m) vars in_o =
      let hold : (h : Hold) × (slice_get holds m ≡ Some h) × (h.occupant ≡ Some k) = related.inside k m in_o in
      (saving vars hold.0, changed_changes (saving vars) holds m hold.0 hold.1, hold.2)

  pub monitor_saved : (o : Option ℕ) (vars : Vars) → inside_of (slice_get threads k) ≡ o → monitor_vars (saved_holds o vars holds) o ≡ kept o vars
  unfolding at_saved
  monitor_saved None vars in_o = refl
  monitor_saved (Some m) vars in_o = let saved : Saved (Some m) k holds (saved_holds (Some m) vars holds) = at_saved (Some m) vars in_o in ap (λ (h : Option Hold). hold_vars h) saved.1.here

  -- ---- the process goes on where it was

  pub goes_on : (job : target.Job) (q : Own) (jobs' : List Job) (j : Job) (holds' : List Hold) (released : ℕ) (vars : Vars) → slice_get threads k ≡ Some (Ready job) → Changed jobs jobs' k j → Saved job.inside k holds holds'
      → j.doing ≡ active released → q.job.inside ≡ job.inside → SameOutside w.image job.inside shared q.shared → monitor_vars holds' job.inside ≡ vars → r.stands k q (view j.calls j.vars vars j.handling)
      → Related w r (slice_set threads k (Ready q.job)) (slice_set owned k q.owned) q.shared jobs' holds'
  goes_on job q jobs' j holds' released vars at js saved doing inside words vars_are stands = by job.inside refl saved words where
    ts : Changed threads (slice_set threads k (Ready q.job)) k (Ready q.job)
    ts = thread_of (Ready q.job) (Ready job) at

    in_is : inside_of (slice_get threads k) ≡ job.inside
    in_is = ap (λ (o : Option Thread). inside_of o) at

    new : Same w r k holds' q.owned q.shared (Some (Ready q.job)) (Some j)
    new = (
      released,
      doing,
      subst (λ (o : Option ℕ). r.stands k q (view j.calls j.vars (monitor_vars holds' o) j.handling)) (sym inside)
          (subst (λ (vs : Vars). r.stands k q (view j.calls j.vars vs j.handling)) (sym vars_are) stands),
    )

    text : Text w r k p
    text = text_of w r compiled k p at_process

    by : (o : Option ℕ) → job.inside ≡ o → Saved o k holds holds' → SameOutside w.image o shared q.shared → Related w r (slice_set threads k (Ready q.job)) (slice_set owned k q.owned) q.shared jobs' holds'
    by None is same_holds same_words =
        subst (λ (hs : List Hold). Related w r (slice_set threads k (Ready q.job)) (slice_set owned k q.owned) q.shared jobs' hs) (sym same_holds)
        (touch_none w r compiled threads (slice_set threads k (Ready q.job)) owned (slice_set owned k q.owned) shared q.shared jobs jobs' holds k (Ready q.job) q.owned j related ts (words_of q.owned) js
        (in_is ∙ is) (inside ∙ is) same_words (subst (λ (hs : List Hold). Same w r k hs q.owned q.shared (Some (Ready q.job)) (Some j)) same_holds new))
    by (Some m) is saved_m same_words =
        touch_one w r compiled threads (slice_set threads k (Ready q.job)) owned (slice_set owned k q.owned) shared q.shared jobs jobs' holds holds' k m (Ready q.job) q.owned j saved_m.0 related ts (words_of q.owned) js saved_m.1
        (inl (in_is ∙ is)) (inl (inside ∙ is, saved_m.2)) same_words (λ text at_text. related.reaches k m text (in_is ∙ is) at_text) new

  -- ---- it changes outside monitors

  pub outside_it : (old t : Thread) (owned' : List (List ℤ)) (words shared' : List ℤ) (jobs' : List Job) (j : Job) → slice_get threads k ≡ Some old → inside_of (Some old) ≡ None → inside_of (Some t) ≡ None
      → Changed owned owned' k words → Changed jobs jobs' k j → SameOutside w.image None shared shared' → Same w r k holds words shared' (Some t) (Some j) → Related w r (slice_set threads k t) owned' shared' jobs' holds
  outside_it old t owned' words shared' jobs' j at was now os js words_same new =
      touch_none w r compiled threads (slice_set threads k t) owned owned' shared shared' jobs jobs' holds k t words j related (thread_of t old at) os js (ap (λ (o : Option Thread). inside_of o) at ∙ was) now words_same new

  -- ---- it leaves its monitor

  abbrev pub vacated : (m : ℕ) → Vars → List Hold
  vacated m vars = changed (occupied None) m (changed (saving vars) m holds)

  pub leaves_it : (m : ℕ) (old t : Thread) (owned' : List (List ℤ)) (words shared' : List ℤ) (jobs' : List Job) (j : Job) (vars : Vars) → slice_get threads k ≡ Some old → inside_of (Some old) ≡ Some m → inside_of (Some t) ≡ None
      → Changed owned owned' k words → Changed jobs jobs' k j → SameOutside w.image (Some m) shared shared' → r.free m shared' vars → Same w r k (vacated m vars) words shared' (Some t) (Some j)
      → Related w r (slice_set threads k t) owned' shared' jobs' (vacated m vars)
  leaves_it m old t owned' words shared' jobs' j vars at was now os js words_same free new =
      let in_m : inside_of (slice_get threads k) ≡ Some m = ap (λ (o : Option Thread). inside_of o) at ∙ was in
      let hold : (h : Hold) × (slice_get holds m ≡ Some h) × (h.occupant ≡ Some k) = related.inside k m in_m in
      let first : Changed holds (changed (saving vars) m holds) m (saving vars hold.0) = changed_changes (saving vars) holds m hold.0 hold.1 in
      let second : Changed (changed (saving vars) m holds) (vacated m vars) m (occupied None (saving vars hold.0)) = changed_changes (occupied None) (changed (saving vars) m holds) m (saving vars hold.0) first.here in
      touch_one w r compiled threads (slice_set threads k t) owned owned' shared shared' jobs jobs' holds (vacated m vars) k m t words j (occupied None (saving vars hold.0)) related (thread_of t old at) os js
      (changed_again holds (changed (saving vars) m holds) (vacated m vars) m (saving vars hold.0) (occupied None (saving vars hold.0)) first second)
      (inl in_m) (inr (now, refl, free)) words_same (λ text at_text. related.reaches k m text in_m at_text) new

  -- ---- it enters a monitor

  free_at : (m i : ℕ) (ts : List Thread) (t : Thread) → target.is_free m ts ≡ true → slice_get ts i ≡ Some t → target.thread_inside m t ≡ false
  free_at m i [] t free at = absurd cc
  free_at m zero (u ∷ ts) t free at = let same : u ≡ t = one_some refl at in ap (λ (x : Thread). target.thread_inside m x) (sym same) ∙ first (target.thread_inside m u) (target.is_free m ts) free where
    first : (a b : Bool) → not a && b ≡ true → a ≡ false
    first true b is = absurd cc
    first false b is = refl
  free_at m (suc i) (u ∷ ts) t free at = free_at m i ts t (later (target.thread_inside m u) (target.is_free m ts) free) at where
    later : (a b : Bool) → not a && b ≡ true → b ≡ true
    later true b is = absurd cc
    later false b is = is

  inside_thread : (m : ℕ) (t : Thread) → inside_of (Some t) ≡ Some m → target.thread_inside m t ≡ true
  inside_thread m Idle is = absurd cc
  inside_thread m (Ready job) is = ap (λ (o : Option ℕ). target.is_inside m o) is ∙ itself m where
    itself : (n : ℕ) → nat_eq n n ≡ true
    itself n = grind (arith, nat_tests)
  inside_thread m (Waiting c due number job) is = ap (λ (o : Option ℕ). target.is_inside m o) is ∙ itself m where
    itself : (n : ℕ) → nat_eq n n ≡ true
    itself n = grind (arith, nat_tests)

  pub nobody_inside : (m : ℕ) (h : Hold) → target.is_free m threads ≡ true → slice_get holds m ≡ Some h → h.occupant ≡ None
  nobody_inside m h free at = by h.occupant refl where
    at_thread : (i : ℕ) (o : Option Thread) → slice_get threads i ≡ o → inside_of o ≡ Some m → ⊥
    at_thread i None at_i in_m = cc
    at_thread i (Some t) at_i in_m = let fails : target.thread_inside m t ≡ false = free_at m i threads t free at_i in let holds_it : target.thread_inside m t ≡ true = inside_thread m t in_m in cc

    by : (o : Option ℕ) → h.occupant ≡ o → o ≡ None
    by None is = refl
    by (Some i) is = absurd (at_thread i (slice_get threads i) refl (related.occupants m i h at is))

  pub enters_it : (m : ℕ) (old t : Thread) (words : List ℤ) (jobs' : List Job) (j : Job) → slice_get threads k ≡ Some old → inside_of (Some old) ≡ None → inside_of (Some t) ≡ Some m
      → Changed jobs jobs' k j → (h : Hold) → slice_get holds m ≡ Some h → h.occupant ≡ None → ((text : tree.Process) → slice_get (processes w.program) k ≡ Some text → includes m (monitors_of w.program text) ≡ true)
      → Same w r k (changed (occupied (Some k)) m holds) words shared (Some t) (Some j) → Related w r (slice_set threads k t) (slice_set owned k words) shared jobs' (changed (occupied (Some k)) m holds)
  enters_it m old t words jobs' j at was now js h at_h nobody reached new =
      touch_one w r compiled threads (slice_set threads k t) owned (slice_set owned k words) shared shared jobs jobs' holds (changed (occupied (Some k)) m holds) k m t words j (occupied (Some k) h) related (thread_of t old at) (words_of words) js
      (changed_changes (occupied (Some k)) holds m h at_h) (inr (ap (λ (o : Option Thread). inside_of o) at ∙ was, h, at_h, nobody)) (inl (now, refl)) (λ v is. refl) reached new

-- ---- processes are taken out of a queue

abbrev pub IsBusy : Option Thread → Type 0
IsBusy None = ⊥
IsBusy (Some Idle) = ⊥
IsBusy (Some (Ready job)) = Unit {0}
IsBusy (Some (Waiting c due number job)) = Unit {0}

pub busy_waits : (c n : ℕ) (o : Option Thread) → suc n ≡ waits_on c o → IsBusy o
busy_waits c n None is = absurd (omega (arith, is))
busy_waits c n (Some Idle) is = absurd (omega (arith, is))
busy_waits c n (Some (Ready job)) is = tt
busy_waits c n (Some (Waiting d due number job)) is = tt

module _ (w : Whole) (r : Relations) (compiled : IsCompiled w r) (owned : List (List ℤ)) (shared : List ℤ) (holds : List Hold) where
  pub wake_one : (k : ℕ) (threads : List Thread) (jobs : List Job) → Related w r threads owned shared jobs holds → IsBusy (slice_get threads k) → Related w r (tick.wake w.image k threads) owned shared (changed woken k jobs) holds
  wake_one k threads jobs related busy = by (slice_get threads k) (slice_get jobs k) refl refl busy (related.same k) where
    words : List ℤ
    words = owned_of (slice_get owned k)

    words_there : (t : Thread) → slice_get threads k ≡ Some t → Changed owned owned k words
    words_there t at =
        let old : (x : List ℤ) × (slice_get owned k ≡ Some x) = some_at owned k (omega (arith, slice_get_within threads k t at, related.many_threads, related.many_owned)) in
        subst (λ (o : Option (List ℤ)). Changed owned owned k (owned_of o)) (sym old.1) (not_changed owned k old.0 old.1)

    by : (o : Option Thread) (j : Option Job) → slice_get threads k ≡ o → slice_get jobs k ≡ j → IsBusy o → Same w r k holds words shared o j → Related w r (slice_set threads k (tick.woken w.image (slice_get threads k))) owned shared (changed woken k jobs) holds
    by None j at at_j is s = absurd is
    by (Some Idle) j at at_j is s = absurd is
    by (Some (Ready job)) None at at_j is s = absurd s
    by (Some (Waiting c due number job)) None at at_j is s = absurd s
    by (Some (Ready job)) (Some j) at at_j is s =
        subst (λ (t : Option Thread). Related w r (slice_set threads k (tick.woken w.image t)) owned shared (changed woken k jobs) holds) (sym at) (again job.inside refl) where
          doing_same : woken j ≡ j
          doing_same = ap (λ (d : Doing). job_doing d j) (again_doing ∙ sym s.1) where
            again_doing : active (released_of j.doing) ≡ active s.0
            again_doing = ap (λ (d : Doing). active (released_of d)) s.1

          again : (o : Option ℕ) → job.inside ≡ o → Related w r (slice_set threads k (Ready job)) owned shared (changed woken k jobs) holds
          again None outside =
              touch_none w r compiled threads (slice_set threads k (Ready job)) owned owned shared shared jobs (changed woken k jobs) holds k (Ready job) words (woken j) related
              (set_changes threads k (Ready job) (Ready job) at) (words_there (Ready job) at) (changed_changes woken jobs k j at_j) (ap (λ (x : Option Thread). inside_of x) at ∙ outside) outside (λ v same. refl)
              (subst (λ (x : Job). Same w r k holds words shared (Some (Ready job)) (Some x)) (sym doing_same) s)
          again (Some m) inside =
              let in_m : inside_of (slice_get threads k) ≡ Some m = ap (λ (x : Option Thread). inside_of x) at ∙ inside in
              let hold : (h : Hold) × (slice_get holds m ≡ Some h) × (h.occupant ≡ Some k) = related.inside k m in_m in
              touch_one w r compiled threads (slice_set threads k (Ready job)) owned owned shared shared jobs (changed woken k jobs) holds holds k m (Ready job) words (woken j) hold.0 related
              (set_changes threads k (Ready job) (Ready job) at) (words_there (Ready job) at) (changed_changes woken jobs k j at_j) (not_changed holds m hold.0 hold.1) (inl in_m) (inl (inside, hold.2)) (λ v same. refl)
              (λ text at_text. related.reaches k m text in_m at_text) (subst (λ (x : Job). Same w r k holds words shared (Some (Ready job)) (Some x)) (sym doing_same) s)
    by (Some (Waiting c due number job)) (Some j) at at_j is s =
        let new : target.Job = record job { dispatch_ticks = 2 * w.image.over } in
        let p : (p : Process) × (slice_get w.image.processes k ≡ Some p) = some_at w.image.processes k (omega (arith, slice_get_within threads k (Waiting c due number job) at, related.many_threads)) in
        let text : Text w r k p.0 = text_of w r compiled k p.0 p.1 in
        subst (λ (t : Option Thread). Related w r (slice_set threads k (tick.woken w.image t)) owned shared (changed woken k jobs) holds) (sym at)
        (touch_none w r compiled threads (slice_set threads k (Ready new)) owned owned shared shared jobs (changed woken k jobs) holds k (Ready new) words (woken j) related
        (set_changes threads k (Ready new) (Waiting c due number job) at) (words_there (Waiting c due number job) at) (changed_changes woken jobs k j at_j) (ap (λ (x : Option Thread). inside_of x) at ∙ s.outside) s.outside (λ v same. refl) (
          s.released,
          ap (λ (d : Doing). active (released_of d)) s.doing,
          subst (λ (o : Option ℕ). r.stands k (own new words shared) (view j.calls j.vars (monitor_vars holds o) j.handling)) (sym s.outside)
              (text.is.faithful.stable (own job words shared) (view j.calls j.vars [] j.handling) job.done (2 * w.image.over) shared s.stands (λ v same. refl)),
        ))

  still_busy : (j i : ℕ) (threads : List Thread) → IsBusy (slice_get threads j) → IsBusy (slice_get threads i) → IsBusy (slice_get (tick.wake w.image j threads) i)
  still_busy j i threads busy_j busy_i = elim (cases_eq j i) [
    | inl is ↦ subst (λ (x : ℕ). IsBusy (slice_get (slice_set threads j (tick.woken w.image (slice_get threads j))) x)) is (woken_busy (slice_get threads j) refl busy_j)
    | inr differ ↦ subst IsBusy (sym (get_other threads j i (tick.woken w.image (slice_get threads j)) differ)) busy_i
  ] where
    woken_busy : (o : Option Thread) → slice_get threads j ≡ o → IsBusy o → IsBusy (slice_get (slice_set threads j (tick.woken w.image (slice_get threads j))) j)
    woken_busy None at busy = absurd busy
    woken_busy (Some Idle) at busy = absurd busy
    woken_busy (Some (Ready job)) at busy =
        subst IsBusy (sym (get_set threads j (tick.woken w.image (slice_get threads j)) (Ready job) at)) (subst (λ (o : Option Thread). IsBusy (Some (tick.woken w.image o))) (sym at) tt)
    woken_busy (Some (Waiting c due number job)) at busy =
        subst IsBusy (sym (get_set threads j (tick.woken w.image (slice_get threads j)) (Waiting c due number job) at)) (subst (λ (o : Option Thread). IsBusy (Some (tick.woken w.image o))) (sym at) tt)

  pub wake_whole : (js : List ℕ) (threads : List Thread) (jobs : List Job) → Related w r threads owned shared jobs holds → ((j : ℕ) → 0 < times j js → IsBusy (slice_get threads j))
      → Related w r (tick.wake_all w.image js threads) owned shared (wake_all js jobs) holds
  wake_whole [] threads jobs related busy = related
  wake_whole (j ∷ js) threads jobs related busy =
      wake_whole js (tick.wake w.image j threads) (changed woken j jobs) (wake_one j threads jobs related (busy j (front j)))
      (λ i stands. still_busy j i threads (busy j (front j)) (busy i (later i stands))) where
        front : (k : ℕ) → 0 < times k (k ∷ js)
        front k = let e : nat_eq k k ≡ true = grind (arith, nat_tests) in subst (λ (b : Bool). 0 < cond b (suc (times k js)) (times k js)) (sym e) (omega arith)

        later : (i : ℕ) → 0 < times i js → 0 < times i (j ∷ js)
        later i stands = by (nat_eq j i) where
          by : (b : Bool) → 0 < cond b (suc (times i js)) (times i js)
          by true = omega arith
          by false = stands
