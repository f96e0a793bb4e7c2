-- The machine's run meets the premises of the law on earliest deadlines.
use Rattle.std.proofs.Common.{◌≡◌, ◌≤◌, ◌<◌, ◌+◌, ◌-◌, ◌⊎◌, inl, inr, ℕ, zero, suc, List, [], ◌∷◌, Option, Some, None, length, arith, refl, ap, sym, subst, ◌∙◌, true, Bool}
use Rattle.std.specs.Prelude.{slice_get, map, Contains, ◌++◌}
use Rattle.std.proofs.lemmas.Bool.{cases_lt, cases_eq}
use Rattle.std.proofs.lemmas.Option.{slice_get_within}
use Rattle.std.proofs.lemmas.List.Elements.{Contains-append_left, Contains-append_right}
use Rattle.base.proofs.Lists.{some_at as process_at}
use Rattle.base.specs.declared.event.Event.{Event}
use Rattle.base.specs.declared.event.Act.TheVariants as act
use Rattle.machine_semantics.specs.Image.{Image, Monitor, Process, Script}
use Rattle.machine_semantics.specs.State.{Job, Thread, Idle, Ready, Waiting, State}
use Rattle.machine_semantics.specs.Starts.{starts}
use Rattle.machine_semantics.specs.Tick.{ceiling, run_picked}
use Rattle.machine_semantics.specs.Run.{at_start}
use Rattle.machine_semantics.specs.Walk.{Where}
use Rattle.machine_semantics.specs.Safe.{Parts, ImageFits}
use Rattle.machine_semantics.specs.Whole.{ceiling_of}
use Rattle.machine_semantics.specs.Work.{IsBusy}
use Rattle.sched_theorem.specs.Stretches.{Spaced}
use Rattle.sched_theorem.specs.Dispatched.{Stay, TakesOne}
use Rattle.sched_timing.specs.Views.{is_due, is_some_due}
use Rattle.sched_timing.specs.Timed.{RespectsFrames}
use Rattle.sched_timing.proofs.Lives.{owes_some}
use Rattle.sched_timing.proofs.Stays.{stay_some}
use Rattle.sched_timing.proofs.Spacing.{releases_apart, once}
use Rattle.sched_timing.proofs.Overruns.{starts_in_time}
use Rattle.sched_timing.proofs.Told.{release_is_told}
use Rattle.sched_timing.proofs.Turns.{Turn, passes_pick}
use Rattle.sched_demand.specs.declared.tasks.DemandTask.{DemandTask}
use Rattle.sched_demand.specs.Demand.{task_at}
use Rattle.sched_demand.specs.Activations.{Activation, Starts, Runs, Chooses}
use Rattle.sched_demand.specs.Earliest as law
use Rattle.sched_demand.proofs.Missing.{meets}
use Rattle.sched_demand.proofs.Demanding.{is_task}
use Rattle.edf_semantics.specs.Choice.{Mark}
use Rattle.edf_semantics.specs.Run.{Marked, mark_of, begin_some, candidate, marks_during, chosen_at, tick, state_at}
use Rattle.edf_semantics.specs.Safe.{act as seen, inside_of, stay_of, acts, insides, rank_at, deadline_at, rank_of_some, deadline_of_some, IsWaitless}
use Rattle.edf_semantics.proofs.Choosing.{act_active}
use Rattle.edf_semantics.proofs.Marking.{begin_at, has_mark, inside_one, IsNotWaiting, Opening}
use Rattle.edf_semantics.proofs.Keeping.{Kept, kept, About, After, about, after, fits_during, mark_during, choice, picked, chosen_is, rests_same, marks_rest}
use Rattle.edf_semantics.specs.InTime.{IsTaskOf, rank_from_zero, told_at, MeetsDeadlines, EveryRunMeetsDeadlines}
use Rattle.edf_semantics.proofs.Logging.{EndsSoon, log_ends}
use Rattle.edf_semantics.proofs.Caps.{IsUncapped, uncapped}
use Rattle.sched_demand.proofs.Reached.{reached}
use Rattle.edf_semantics.proofs.Counts.{Count, count_idle, MidCount, mid_count, NextCount, next_count, chosen_ready}
use Rattle.edf_semantics.proofs.Sights.{view, stay_view, view_active, view_is, Sight, starts_sight, runs_sight, takes_sight, stay_inside, IsSameSight, chooses_sight}

idle_there : (qs : List Process) (k : ℕ) (p : Process) → slice_get qs k ≡ Some p → slice_get (map (λ (p : Process). Idle) qs) k ≡ Some Idle
idle_there [] k p at = absurd cc
idle_there (q ∷ qs) zero p at = refl
idle_there (q ∷ qs) (suc k) p at = idle_there qs k p at

-- who is inside a monitor is ready
inside_job : (o : Option Thread) (m : ℕ) → inside_of o ≡ Some m → (job : Job) × (o ≡ Some (Ready job)) × (job.inside ≡ Some m)
inside_job (Some (Ready job)) m is = (job, refl, is)
inside_job (Some Idle) m is = absurd cc
inside_job (Some (Waiting c d number job)) m is = absurd cc
inside_job None m is = absurd cc

stay_same : (image : Image) (o r : Option ℕ) (n l : ℕ) → r ≡ o → ((m : ℕ) → o ≡ Some m → l ≡ n) → stay_view image r l ≡ stay_view image o n
stay_same image None r n l same stays = ap (λ (x : Option ℕ). stay_view image x l) same
stay_same image (Some m) r n l same stays = ap (λ (x : Option ℕ). stay_view image x l) same ∙ ap (λ (i : ℕ). stay_view image (Some m) i) (stays m refl)

act_view : (o : Option Thread) (n : Option Mark) (left : ℕ) → ((view o n left).release ≡ (seen o n).release) × ((view o n left).had ≡ (seen o n).had)
act_view (Some (Ready job)) (Some m) left = (refl, refl)
act_view (Some (Ready job)) None left = (refl, refl)
act_view (Some Idle) n left = (refl, refl)
act_view (Some (Waiting c d number job)) n left = (refl, refl)
act_view None n left = (refl, refl)

act_some : (o : Option Thread) (n : Option Mark) (left : ℕ) → 1 ≤ (view o n left).left → 1 ≤ (seen o n).left
act_some (Some (Ready job)) (Some m) left active = omega arith
act_some (Some (Ready job)) None left active = absurd (omega arith)
act_some (Some Idle) n left active = absurd (omega arith)
act_some (Some (Waiting c d number job)) n left active = absurd (omega arith)
act_some None n left active = absurd (omega arith)

module _ (e : Where) (ps : ℕ → Parts) (image_fits : ImageFits e ps) (waitless : IsWaitless e ps) (ts : List DemandTask) (place : ℕ → ℕ) (reach : ℕ) (feasible : IsUncapped e ps ts place reach) (script : Script) where
  abbrev at : ℕ → Marked
  at t = state_at e.image script t

  abbrev kept_at : (t : ℕ) → Kept e ps image_fits waitless t (state_at e.image script t)
  kept_at t = kept e ps image_fits waitless script t

  abbrev middle : ℕ → State
  middle t = (starts e.image script t (state_at e.image script t).state).state

  abbrev marks_at : ℕ → List Mark
  marks_at t = marks_during e.image script t (state_at e.image script t)

  abbrev picks : ℕ → Option ℕ
  picks t = chosen_at e.image script t (state_at e.image script t)

  abbrev Found : ℕ → Type 0
  Found k = (p : Process) × (slice_get e.image.processes k ≡ Some p)

  abbrev x_at : (k : ℕ) (f : Found k) (t : ℕ) → About e ps image_fits waitless script t (state_at e.image script t) (kept_at t) k f.0
  x_at k f t = about e ps image_fits waitless script t (state_at e.image script t) (kept_at t) k f.0 f.1

  abbrev y_at : (k : ℕ) (f : Found k) (t : ℕ) → After e ps image_fits waitless script t (state_at e.image script t) (kept_at t) k f.0 (x_at k f t)
  y_at k f t = after e ps image_fits waitless script t (state_at e.image script t) (kept_at t) k f.0 f.1 (x_at k f t)

  abbrev mids : (k : ℕ) (f : Found k) (t : ℕ) (c : Count e ps (state_at e.image script t).state k) → MidCount e ps image_fits waitless feasible.covered script t (state_at e.image script t) (kept_at t) k f.0 (x_at k f t) c
  mids k f t c = mid_count e ps image_fits waitless feasible.covered script t (state_at e.image script t) (kept_at t) k f.0 f.1 (x_at k f t) c

  abbrev nexts : (k : ℕ) (f : Found k) (t : ℕ) (c : Count e ps (state_at e.image script t).state k) → NextCount e ps image_fits waitless feasible.covered script t (state_at e.image script t) (kept_at t) k f.0 (x_at k f t) (mids k f t c).count
  nexts k f t c = next_count e ps image_fits waitless feasible.covered script t (state_at e.image script t) (kept_at t) k f.0 f.1 (x_at k f t) (mids k f t c).count

  -- what is left along the run
  unfoldable counts : (k : ℕ) (f : Found k) (t : ℕ) → Count e ps (state_at e.image script t).state k
  unfolding state_at at_start tick
  counts k f zero = count_idle e ps (at_start e.image) k (idle_there e.image.processes k f.0 f.1)
  counts k f (suc t) = (nexts k f t (counts k f t)).count

  left_next : (k : ℕ) (f : Found k) (t : ℕ) → (counts k f (suc t)).left ≡ (nexts k f t (counts k f t)).count.left
  unfolding counts state_at tick
  left_next k f t = refl

  stay_next : (k : ℕ) (f : Found k) (t : ℕ) → (counts k f (suc t)).stay ≡ (nexts k f t (counts k f t)).count.stay
  unfolding counts state_at tick
  stay_next k f t = refl

  threads_next : (t : ℕ) → (state_at e.image script (suc t)).state.threads ≡ (run_picked e.image t (middle t) (candidate (picks t))).state.threads
  unfolding state_at tick
  threads_next t = refl

  marks_next : (t : ℕ) → (state_at e.image script (suc t)).marks ≡ begin_some (picks t) (marks_at t)
  unfolding state_at tick
  marks_next t = refl

  -- ---- the trace

  lookup : (k : ℕ) → Found k ⊎ (length e.image.processes ≤ k)
  lookup k = elim (cases_lt k (length e.image.processes)) [ inl below ↦ inl (process_at e.image.processes k below) | inr above ↦ inr above ]

  abbrev left_of : (k : ℕ) → Found k ⊎ (length e.image.processes ≤ k) → ℕ → ℕ
  left_of k (inl f) t = (counts k f t).left
  left_of k (inr above) t = 0

  abbrev mid_of : (k : ℕ) → Found k ⊎ (length e.image.processes ≤ k) → ℕ → ℕ
  mid_of k (inl f) t = (mids k f t (counts k f t)).count.left
  mid_of k (inr above) t = 0

  abbrev stay_left : (k : ℕ) → Found k ⊎ (length e.image.processes ≤ k) → ℕ → ℕ
  stay_left k (inl f) t = (counts k f t).stay
  stay_left k (inr above) t = 0

  abbrev the_run : law.Run
  the_run = record {
    before = λ t k. view (slice_get (state_at e.image script t).state.threads k) (slice_get (state_at e.image script t).marks k) (left_of k (lookup k) t);
    after = λ t k. view (slice_get (middle t).threads k) (slice_get (marks_at t) k) (mid_of k (lookup k) t);
    released = λ t k. is_some_due script t (slice_get e.image.processes k);
    picked = λ t. picks t;
    inside = λ t k. stay_view e.image (inside_of (slice_get (state_at e.image script t).state.threads k)) (stay_left k (lookup k) t);
  }

  -- ---- one process

  busy_of : (th : Thread) (job : Job) → th ≡ Ready job → IsBusy th
  busy_of th job is = subst IsBusy (sym is) tt

  some_at : (k : ℕ) (f : Found k) (t : ℕ) (job : Job) → slice_get (state_at e.image script t).state.threads k ≡ Some (Ready job) → 1 ≤ (counts k f t).left
  some_at k f t job is =
      let o = (counts k f t).busy job is in
      let same : o.thread ≡ Ready job = (let both : Some o.thread ≡ Some (Ready job) = sym o.there ∙ is in cc) in
      owes_some e ps image_fits (state_at e.image script t).state k (counts k f t).left o (kept_at t).fits (busy_of o.thread job same)

  some_mid : (k : ℕ) (f : Found k) (t : ℕ) (job : Job) → slice_get (middle t).threads k ≡ Some (Ready job) → 1 ≤ (mids k f t (counts k f t)).count.left
  some_mid k f t job is =
      let o = (mids k f t (counts k f t)).count.busy job is in
      let same : o.thread ≡ Ready job = (let both : Some o.thread ≡ Some (Ready job) = sym o.there ∙ is in cc) in
      owes_some e ps image_fits (middle t) k (mids k f t (counts k f t)).count.left o (fits_during e ps image_fits waitless script t (state_at e.image script t) (kept_at t)) (busy_of o.thread job same)

  calm_old : (p : Process) (old mid : Thread) → Opening e.image p old mid → IsNotWaiting old
  calm_old p Idle mid is = tt
  calm_old p (Ready job) mid is = tt
  calm_old p (Waiting c d number job) mid is = is

  sight : (k : ℕ) (f : Found k) (t : ℕ) → Sight e.image f.0 (is_due script t f.0) (x_at k f t).old (x_at k f t).mid (counts k f t).left (mids k f t (counts k f t)).count.left f.0.run
  sight k f t = record {
    calm = calm_old f.0 (x_at k f t).old (x_at k f t).mid (x_at k f t).opens;
    exact = (x_at k f t).exact;
    same = λ job is. (mids k f t (counts k f t)).old_left job is;
    some_old = λ job is. some_at k f t job ((x_at k f t).at_old ∙ ap (λ (z : Thread). Some z) is);
    some_mid = λ job is. some_mid k f t job ((x_at k f t).at_mid ∙ ap (λ (z : Thread). Some z) is);
    within = λ job old now. (mids k f t (counts k f t)).new_left job old now;
  }

  rank_is : (k : ℕ) (f : Found k) → rank_at e.image k ≡ f.0.rank
  rank_is k f = ap (λ (o : Option Process). rank_of_some o) f.1

  own_task : (k : ℕ) (f : Found k) → IsTaskOf f.0 (task_at ts (rank_from_zero e.image k))
  own_task k f = subst (λ (r : ℕ). IsTaskOf f.0 (task_at ts (r - 1))) (sym (rank_is k f)) (feasible.task k f.0 f.1)

  due_is : (k : ℕ) (f : Found k) (t : ℕ) → is_some_due script t (slice_get e.image.processes k) ≡ is_due script t f.0
  due_is k f t = ap (λ (o : Option Process). is_some_due script t o) f.1

  opens_at : (k : ℕ) (l : Found k ⊎ (length e.image.processes ≤ k)) (t : ℕ) → k < length e.image.processes → Starts t (is_some_due script t (slice_get e.image.processes k)) (task_at ts (rank_from_zero e.image k)).cost
      (view (slice_get (state_at e.image script t).state.threads k) (slice_get (state_at e.image script t).marks k) (left_of k l t)) (view (slice_get (middle t).threads k) (slice_get (marks_at t) k) (mid_of k l t))
  opens_at k (inr above) t below = absurd (omega arith)
  opens_at k (inl f) t below =
      let x = x_at k f t in
      let cost : f.0.run ≡ (task_at ts (rank_from_zero e.image k)).cost = sym (own_task k f).cost in
      let s = starts_sight e.image f.0 t (is_due script t f.0) x.old x.mid x.m (counts k f t).left (mids k f t (counts k f t)).count.left f.0.run (slice_get (state_at e.image script t).state.threads k) (slice_get (middle t).threads k) (slice_get (state_at e.image script t).marks k) (slice_get (marks_at t) k) x.at_old x.at_mid x.at_m (mark_during e ps image_fits waitless script t (state_at e.image script t) (kept_at t) k f.0 x) (sight k f t) in
      subst (λ (b : Bool). Starts t b (task_at ts (rank_from_zero e.image k)).cost (view (slice_get (state_at e.image script t).state.threads k) (slice_get (state_at e.image script t).marks k) (counts k f t).left) (view (slice_get (middle t).threads k) (slice_get (marks_at t) k) (mids k f t (counts k f t)).count.left)) (sym (due_is k f t))
      (subst (λ (n : ℕ). Starts t (is_due script t f.0) n (view (slice_get (state_at e.image script t).state.threads k) (slice_get (state_at e.image script t).marks k) (counts k f t).left) (view (slice_get (middle t).threads k) (slice_get (marks_at t) k) (mids k f t (counts k f t)).count.left)) cost s)

  runs_at : (k : ℕ) (l : Found k ⊎ (length e.image.processes ≤ k)) (t : ℕ) → k < length e.image.processes → picks t ≡ Some k → Runs (view (slice_get (middle t).threads k) (slice_get (marks_at t) k) (mid_of k l t)) (view (slice_get (state_at e.image script (suc t)).state.threads k) (slice_get (state_at e.image script (suc t)).marks k) (left_of k l (suc t)))
  runs_at k (inr above) t below is = absurd (omega arith)
  runs_at k (inl f) t below is =
      let x = x_at k f t in
      let own : Mark = mark_of t x.old x.mid x.m in
      let at_m = mark_during e ps image_fits waitless script t (state_at e.image script t) (kept_at t) k f.0 x in
      let ready = chosen_ready e ps image_fits waitless feasible.covered script t (state_at e.image script t) (kept_at t) k is in
      let at_next : slice_get (state_at e.image script (suc t)).marks k ≡ Some (record { release = (mark_of t x.old x.mid x.m).release; begun = true }) =
      ap (λ (ms : List Mark). slice_get ms k) (marks_next t) ∙ ap (λ (o : Option ℕ). slice_get (begin_some o (marks_at t)) k) is ∙ begin_at k (marks_at t) (mark_of t x.old x.mid x.m) at_m in
      let less : (counts k f (suc t)).left + 1 ≤ (mids k f t (counts k f t)).count.left = (let h = (nexts k f t (counts k f t)).falls is in let g = left_next k f t in omega arith) in
      subst (λ (o : Option Mark). Runs (view (slice_get (middle t).threads k) (slice_get (marks_at t) k) (mids k f t (counts k f t)).count.left) (view (slice_get (state_at e.image script (suc t)).state.threads k) o (counts k f (suc t)).left)) (sym at_next)
      (runs_sight (slice_get (middle t).threads k) (slice_get (state_at e.image script (suc t)).state.threads k) (slice_get (marks_at t) k) (mark_of t x.old x.mid x.m) ready.0 (mids k f t (counts k f t)).count.left (counts k f (suc t)).left ready.1 at_m less)

  -- who does not run
  thread_rests : (k : ℕ) (f : Found k) (t : ℕ) → (picks t ≡ Some k → ⊥) → slice_get (state_at e.image script (suc t)).state.threads k ≡ slice_get (middle t).threads k
  thread_rests k f t differ =
      ap (λ (th : List Thread). slice_get th k) (threads_next t) ∙ (y_at k f t).at_new ∙ ap (λ (z : Thread). Some z) (rests_same e ps image_fits waitless script t (state_at e.image script t) (kept_at t) k f.0 (x_at k f t) (y_at k f t) differ) ∙ sym (x_at k f t).at_mid

  others_at : (k : ℕ) (l : Found k ⊎ (length e.image.processes ≤ k)) (t : ℕ) → k < length e.image.processes → (picks t ≡ Some k → ⊥) → view (slice_get (state_at e.image script (suc t)).state.threads k) (slice_get (state_at e.image script (suc t)).marks k) (left_of k l (suc t)) ≡ view (slice_get (middle t).threads k) (slice_get (marks_at t) k) (mid_of k l t)
  others_at k (inr above) t below differ = absurd (omega arith)
  others_at k (inl f) t below differ =
      ap (λ (o : Option Thread). view o (slice_get (state_at e.image script (suc t)).marks k) (counts k f (suc t)).left) (thread_rests k f t differ)
      ∙ ap (λ (o : Option Mark). view (slice_get (middle t).threads k) o (counts k f (suc t)).left) (ap (λ (ms : List Mark). slice_get ms k) (marks_next t) ∙ marks_rest e ps image_fits waitless script t (state_at e.image script t) (kept_at t) k (picks t) (marks_at t) differ)
      ∙ ap (λ (n : ℕ). view (slice_get (middle t).threads k) (slice_get (marks_at t) k) n) (left_next k f t ∙ (nexts k f t (counts k f t)).same differ)

  -- ---- stays

  inside_mid : (k : ℕ) (f : Found k) (t : ℕ) → inside_of (slice_get (middle t).threads k) ≡ inside_of (slice_get (state_at e.image script t).state.threads k)
  inside_mid k f t = let x = x_at k f t in ap inside_of x.at_mid ∙ inside_one e.image f.0 x.old x.mid x.opens ∙ ap inside_of (sym x.at_old)

  -- a ready process that was so before the start events is the same
  ready_mid : (k : ℕ) (f : Found k) (t : ℕ) (job : Job) → slice_get (state_at e.image script t).state.threads k ≡ Some (Ready job) → ((x_at k f t).old ≡ Ready job) × ((x_at k f t).mid ≡ Ready job)
  ready_mid k f t job is =
      let x = x_at k f t in
      let old : (x_at k f t).old ≡ Ready job = (let both : Some (x_at k f t).old ≡ Some (Ready job) = sym (x_at k f t).at_old ∙ is in cc) in
      (old, (let o : Opening e.image f.0 (Ready job) (x_at k f t).mid = subst (λ (z : Thread). Opening e.image f.0 z (x_at k f t).mid) old (x_at k f t).opens in o))

  takes_at : (k : ℕ) (l : Found k ⊎ (length e.image.processes ≤ k)) (t : ℕ) → k < length e.image.processes → picks t ≡ Some k → TakesOne (stay_view e.image (inside_of (slice_get (state_at e.image script t).state.threads k)) (stay_left k l t)) (stay_view e.image (inside_of (slice_get (state_at e.image script (suc t)).state.threads k)) (stay_left k l (suc t)))
  takes_at k (inr above) t below is = absurd (omega arith)
  takes_at k (inl f) t below is = takes_sight e.image (inside_of (slice_get (state_at e.image script t).state.threads k)) (inside_of (slice_get (state_at e.image script (suc t)).state.threads k)) (counts k f t).stay (counts k f (suc t)).stay
      (λ m inside.
      let j = inside_job (slice_get (state_at e.image script t).state.threads k) m inside in
      stay_some e ps image_fits (state_at e.image script t).state k m (counts k f t).stay (kept_at t).fits ((counts k f t).inside j.0 m j.1 j.2).stays)
      (λ m n inside now.
      let j = inside_job (slice_get (state_at e.image script t).state.threads k) m inside in
      let i = inside_job (slice_get (state_at e.image script (suc t)).state.threads k) n now in
      let r = ready_mid k f t j.0 j.1 in
      let at_new : slice_get (run_picked e.image t (middle t) (candidate (picks t))).state.threads k ≡ Some (Ready i.0) = ap (λ (th : List Thread). slice_get th k) (sym (threads_next t)) ∙ i.1 in
      let h = (nexts k f t (counts k f t)).stay_falls is j.0 i.0 m n r.1 j.2 at_new i.2 in
      let same = (mids k f t (counts k f t)).old_stay j.0 r.0 in
      let next = stay_next k f t in
      (h.0, omega (arith, h.1)))

  kept_stay : (k : ℕ) (l : Found k ⊎ (length e.image.processes ≤ k)) (t : ℕ) → k < length e.image.processes → (picks t ≡ Some k → ⊥) → stay_view e.image (inside_of (slice_get (state_at e.image script (suc t)).state.threads k)) (stay_left k l (suc t)) ≡ stay_view e.image (inside_of (slice_get (state_at e.image script t).state.threads k)) (stay_left k l t)
  kept_stay k (inr above) t below differ = absurd (omega arith)
  kept_stay k (inl f) t below differ = stay_same e.image (inside_of (slice_get (state_at e.image script t).state.threads k)) (inside_of (slice_get (state_at e.image script (suc t)).state.threads k)) (counts k f t).stay (counts k f (suc t)).stay
      (ap inside_of (thread_rests k f t differ) ∙ inside_mid k f t)
      (λ m inside.
      let j = inside_job (slice_get (state_at e.image script t).state.threads k) m inside in
      let r = ready_mid k f t j.0 j.1 in
      stay_next k f t ∙ (nexts k f t (counts k f t)).stay_same differ ∙ (mids k f t (counts k f t)).old_stay j.0 r.0)

  active_at : (k : ℕ) (l : Found k ⊎ (length e.image.processes ≤ k)) (t : ℕ) (s : Stay) → k < length e.image.processes → stay_view e.image (inside_of (slice_get (state_at e.image script t).state.threads k)) (stay_left k l t) ≡ Some s → 1 ≤ (view (slice_get (state_at e.image script t).state.threads k) (slice_get (state_at e.image script t).marks k) (left_of k l t)).left
  active_at k (inr above) t s below is = absurd (omega arith)
  active_at k (inl f) t s below is =
      let j = stay_inside e.image (slice_get (state_at e.image script t).state.threads k) (counts k f t).stay s is in
      let m = has_mark (state_at e.image script t).marks k (omega (arith, below, (kept_at t).many)) in
      let v = ap (λ (a : Activation). a.left) (view_is (slice_get (state_at e.image script t).state.threads k) (slice_get (state_at e.image script t).marks k) (counts k f t).left j.0 m.0 j.2 m.1) in
      let some = some_at k f t j.0 j.2 in
      omega arith

  short_at : (level k : ℕ) (l : Found k ⊎ (length e.image.processes ≤ k)) (t : ℕ) (s : Stay) → level < length ts → k < length e.image.processes → stay_view e.image (inside_of (slice_get (state_at e.image script t).state.threads k)) (stay_left k l t) ≡ Some s
      → (task_at ts level).deadline < (task_at ts (rank_from_zero e.image k)).deadline → s.ceiling ≤ level → s.left ≤ (task_at ts level).block
  short_at level k (inr above) t s low below is later high = absurd (omega arith)
  short_at level k (inl f) t s low below is later high =
      let j = stay_inside e.image (slice_get (state_at e.image script t).state.threads k) (counts k f t).stay s is in
      let i = (counts k f t).inside j.0 j.1 j.2 j.3 in
      let there = feasible.ranks.place_below level low in
      let g : Found (place level) = process_at e.image.processes (place level) (omega (arith, there, feasible.many)) in
      let level_is : rank_from_zero e.image (place level) ≡ level = feasible.ranks.there level low in
      let own : IsTaskOf g.0 (task_at ts level) = subst (λ (n : ℕ). IsTaskOf g.0 (task_at ts n)) level_is (own_task (place level) g) in
      let other = own_task k f in
      let ranked = waitless.ranked (place level) g.0 g.1 in
      let rank = rank_is (place level) g in
      let ceil : ceiling_of e.image j.1 ≡ i.monitor.ceiling = ap (λ (o : Option Monitor). ceiling o) i.there in
      let of_s : s.ceiling ≡ ceiling_of e.image j.1 - 1 = ap (λ (z : Stay). z.ceiling) j.4 in
      let left_s : s.left ≡ (counts k f t).stay = ap (λ (z : Stay). z.left) j.4 in
      let d1 = own.deadline in
      let d2 = other.deadline in
      let b : (task_at ts (g.0.rank - 1)).block ≡ (task_at ts level).block = ap (λ (n : ℕ). (task_at ts n).block) (ap (λ (r : ℕ). r - 1) (sym rank) ∙ level_is) in
      let h = feasible.blocks (place level) k j.1 g.0 f.0 i.monitor i.handling g.1 f.1 i.there (omega arith) (omega (arith, ranked.0)) in
      let short = i.short in
      omega arith

  -- ---- the choice

  same_sight : (t : ℕ) → IsSameSight (length e.image.processes) (rank_at e.image) (deadline_at e.image) (rank_from_zero e.image) (law.deadline_at ts (rank_from_zero e.image)) (insides e.image (middle t).threads) (λ k. stay_view e.image (inside_of (slice_get (state_at e.image script t).state.threads k)) (stay_left k (lookup k) t)) (acts (middle t).threads (marks_at t)) (λ k. view (slice_get (middle t).threads k) (slice_get (marks_at t) k) (mid_of k (lookup k) t))
  same_sight t = record {
    here = λ q below active. by_here q (lookup q) below active;
    there = λ q below active. act_some (slice_get (middle t).threads q) (slice_get (marks_at t) q) (mid_of q (lookup q) t) active;
    release = λ q below. (act_view (slice_get (middle t).threads q) (slice_get (marks_at t) q) (mid_of q (lookup q) t)).0;
    had = λ q below. (act_view (slice_get (middle t).threads q) (slice_get (marks_at t) q) (mid_of q (lookup q) t)).1;
    rank_is = λ q below. let f : Found q = process_at e.image.processes q below in let r = rank_is q f in let h = (waitless.ranked q f.0 f.1).0 in omega arith;
    deadline_is = λ q below. let f : Found q = process_at e.image.processes q below in (own_task q f).deadline ∙ sym (ap (λ (o : Option Process). deadline_of_some o) f.1);
    stay = λ q s below is. by_stay q (lookup q) s below is;
    stay_back = λ q r below is. by_back q (lookup q) r below is;
  }
    where
      by_here : (q : ℕ) (l : Found q ⊎ (length e.image.processes ≤ q)) → q < length e.image.processes → 1 ≤ (acts (middle t).threads (marks_at t) q).left → 1 ≤ (view (slice_get (middle t).threads q) (slice_get (marks_at t) q) (mid_of q l t)).left
      by_here q (inr above) below active = absurd (omega arith)
      by_here q (inl f) below active =
          let a = act_active (slice_get (middle t).threads q) (slice_get (marks_at t) q) active in
          let some = some_mid q f t a.0 a.2 in
          let v = ap (λ (z : Activation). z.left) (view_is (slice_get (middle t).threads q) (slice_get (marks_at t) q) (mids q f t (counts q f t)).count.left a.0 a.1 a.2 a.3) in
          omega arith

      by_stay : (q : ℕ) (l : Found q ⊎ (length e.image.processes ≤ q)) (s : Stay) → q < length e.image.processes → stay_view e.image (inside_of (slice_get (state_at e.image script t).state.threads q)) (stay_left q l t) ≡ Some s → (r : Stay) × (insides e.image (middle t).threads q ≡ Some r) × (s.ceiling ≡ r.ceiling - 1)
      by_stay q (inr above) s below is = absurd (omega arith)
      by_stay q (inl f) s below is =
          let j = stay_inside e.image (slice_get (state_at e.image script t).state.threads q) (counts q f t).stay s is in
          let inside : inside_of (slice_get (middle t).threads q) ≡ Some j.1 = inside_mid q f t ∙ ap inside_of j.2 ∙ j.3 in
          (record { ceiling = ceiling_of e.image j.1; left = 0 }, ap (λ (o : Option ℕ). stay_of e.image o) inside, ap (λ (z : Stay). z.ceiling) j.4)

      ceiling_in : Option Stay → ℕ
      ceiling_in None = 0
      ceiling_in (Some x) = x.ceiling

      by_back : (q : ℕ) (l : Found q ⊎ (length e.image.processes ≤ q)) (r : Stay) → q < length e.image.processes → insides e.image (middle t).threads q ≡ Some r → (s : Stay) × (stay_view e.image (inside_of (slice_get (state_at e.image script t).state.threads q)) (stay_left q l t) ≡ Some s) × (s.ceiling ≡ r.ceiling - 1)
      by_back q (inr above) r below is = absurd (omega arith)
      by_back q (inl f) r below is = back (inside_of (slice_get (state_at e.image script t).state.threads q)) (sym (ap (λ (o : Option ℕ). stay_of e.image o) (inside_mid q f t)) ∙ is)
        where
          back : (o : Option ℕ) → stay_of e.image o ≡ Some r → (s : Stay) × (stay_view e.image o (counts q f t).stay ≡ Some s) × (s.ceiling ≡ r.ceiling - 1)
          back None none = absurd cc
          back (Some m) some = (record { ceiling = ceiling_of e.image m - 1; left = (counts q f t).stay }, refl, ap (λ (o : Option Stay). ceiling_in o - 1) some)

  chooses_at : (t : ℕ) → Chooses (length e.image.processes) (rank_from_zero e.image) (law.deadline_at ts (rank_from_zero e.image)) (λ k. stay_view e.image (inside_of (slice_get (state_at e.image script t).state.threads k)) (stay_left k (lookup k) t)) (λ k. view (slice_get (middle t).threads k) (slice_get (marks_at t) k) (mid_of k (lookup k) t)) (picks t)
  chooses_at t = chooses_sight (length e.image.processes) (rank_at e.image) (deadline_at e.image) (rank_from_zero e.image) (law.deadline_at ts (rank_from_zero e.image)) (insides e.image (middle t).threads) (λ k. stay_view e.image (inside_of (slice_get (state_at e.image script t).state.threads k)) (stay_left k (lookup k) t)) (acts (middle t).threads (marks_at t)) (λ k. view (slice_get (middle t).threads k) (slice_get (marks_at t) k) (mid_of k (lookup k) t)) (same_sight t) (picks t) (choice e ps image_fits waitless script t (state_at e.image script t) (kept_at t))

  -- ---- the run

  idle_left : (k : ℕ) (l : Found k ⊎ (length e.image.processes ≤ k)) → k < length e.image.processes → (view (slice_get (state_at e.image script 0).state.threads k) (slice_get (state_at e.image script 0).marks k) (left_of k l 0)).left ≡ 0
  unfolding state_at at_start
  idle_left k l below =
      let f : Found k = process_at e.image.processes k below in
      ap (λ (o : Option Thread). (view o (slice_get (state_at e.image script 0).marks k) (left_of k l 0)).left) (idle_there e.image.processes k f.0 f.1)

  free_first : (k : ℕ) (n : ℕ) → k < length e.image.processes → stay_view e.image (inside_of (slice_get (state_at e.image script 0).state.threads k)) n ≡ None
  unfolding state_at at_start
  free_first k n below =
      let f : Found k = process_at e.image.processes k below in
      ap (λ (o : Option Thread). stay_view e.image (inside_of o) n) (idle_there e.image.processes k f.0 f.1)

  spaced_at : RespectsFrames e.image script → (k : ℕ) → k < length e.image.processes → Spaced (task_at ts (rank_from_zero e.image k)).frame script.end_tick (λ t. is_some_due script t (slice_get e.image.processes k))
  spaced_at respects k below t u less within is_t is_u =
      let f : Found k = process_at e.image.processes k below in
      let frame : (task_at ts (rank_from_zero e.image k)).frame ≡ f.0.frame = (own_task k f).frame in
      let h = releases_apart e.image script k t u f.0 respects f.1 (sym (due_is k f t) ∙ is_t) (sym (due_is k f u) ∙ is_u) less in
      omega arith

  number_is : (j k : ℕ) → Some j ≡ Some k → j ≡ k
  number_is j k is = cc

  is_earliest : RespectsFrames e.image script → law.IsEarliest ts (rank_from_zero e.image) script.end_tick the_run
  is_earliest respects = record {
    idle_first = λ k low. idle_left k (lookup k) (below k low);
    free_first = λ k low. free_first k (stay_left k (lookup k) 0) (below k low);
    opens = λ t k within low. opens_at k (lookup k) t (below k low);
    acts = λ t within. record {
      runs = λ k low is. runs_at k (lookup k) t (below k low) is;
      others = λ k low differ. others_at k (lookup k) t (below k low) differ;
    };
    spaced = λ k low. spaced_at respects k (below k low);
    chooses = λ t within. subst (λ (n : ℕ). Chooses n (rank_from_zero e.image) (law.deadline_at ts (rank_from_zero e.image)) (λ k. stay_view e.image (inside_of (slice_get (state_at e.image script t).state.threads k)) (stay_left k (lookup k) t)) (λ k. view (slice_get (middle t).threads k) (slice_get (marks_at t) k) (mid_of k (lookup k) t)) (picks t)) (sym feasible.many) (chooses_at t);
    keeps = λ t within. record {
      takes = λ k low is. takes_at k (lookup k) t (below k low) is;
      others = λ k low differ. kept_stay k (lookup k) t (below k low) differ;
    };
    active = λ t k s within low is. active_at k (lookup k) t s (below k low) is;
    short = λ t within level k s level_low low is later high. short_at level k (lookup k) t s level_low (below k low) is later high;
  }
    where
      below : (k : ℕ) → k < length ts → k < length e.image.processes
      below k low = omega (arith, feasible.many)

  -- who has nothing left is idle
  idle_of : (k : ℕ) (l : Found k ⊎ (length e.image.processes ≤ k)) (t : ℕ) → k < length e.image.processes → (view (slice_get (state_at e.image script t).state.threads k) (slice_get (state_at e.image script t).marks k) (left_of k l t)).left ≡ 0 → slice_get (state_at e.image script t).state.threads k ≡ Some Idle
  idle_of k (inr above) t below none = absurd (omega arith)
  idle_of k (inl f) t below none = by (x_at k f t).old refl (calm_old f.0 (x_at k f t).old (x_at k f t).mid (x_at k f t).opens) where
    by : (th : Thread) → (x_at k f t).old ≡ th → IsNotWaiting th → slice_get (state_at e.image script t).state.threads k ≡ Some Idle
    by Idle is calm = (x_at k f t).at_old ∙ ap (λ (z : Thread). Some z) is
    by (Ready job) is calm =
        let at_job : slice_get (state_at e.image script t).state.threads k ≡ Some (Ready job) = (x_at k f t).at_old ∙ ap (λ (z : Thread). Some z) is in
        let m = has_mark (state_at e.image script t).marks k (omega (arith, below, (kept_at t).many)) in
        let v = ap (λ (a : Activation). a.left) (view_is (slice_get (state_at e.image script t).state.threads k) (slice_get (state_at e.image script t).marks k) (counts k f t).left job m.0 at_job m.1) in
        let some = some_at k f t job at_job in
        absurd (omega arith)
    by (Waiting c d number job) is calm = absurd calm

  -- the events of a tick
  told_is : (t : ℕ) → told_at e.image script t ≡ (starts e.image script t (state_at e.image script t).state).events ++ (run_picked e.image t (middle t) (candidate (picks t))).events
  unfolding tick
  told_is t = refl

  overrun_is : (t : ℕ) → (tick e.image script t (state_at e.image script t)).overrun ≡ (starts e.image script t (state_at e.image script t).state).overrun
  unfolding tick
  overrun_is t = refl

  -- the end of an activation is told in the last tick of it
  end_told : (k : ℕ) (f : Found k) (t : ℕ) (n : ℕ) → 1 ≤ (view (slice_get (middle t).threads k) (slice_get (marks_at t) k) n).left → slice_get (state_at e.image script (suc t)).state.threads k ≡ Some Idle → (run_picked e.image t (middle t) (candidate (picks t))).events ≡ record { tick = t; proc = k; act = act.End } ∷ []
  end_told k f t n active idle =
      let a = view_active (slice_get (middle t).threads k) (slice_get (marks_at t) k) n active in
      elim (cases_pick (picks t)) [
        | inl is ↦
            let turned = (passes_pick e ps image_fits t k (middle t) (fits_during e ps image_fits waitless script t (state_at e.image script t) (kept_at t)) (candidate (picks t)) (picked e ps image_fits waitless script t (state_at e.image script t) (kept_at t))).runs_it (chosen_is e ps image_fits waitless script t (state_at e.image script t) (kept_at t) k is) in
            let now : slice_get (run_picked e.image t (middle t) (candidate (picks t))).state.threads k ≡ Some Idle = ap (λ (th : List Thread). slice_get th k) (sym (threads_next t)) ∙ idle in
            subst (λ (o : Option Thread). Turn t k turned.job o (run_picked e.image t (middle t) (candidate (picks t))).events) now turned.turn
        | inr differ ↦ absurd (let both : Some (Ready a.0) ≡ Some Idle = sym a.2 ∙ sym (thread_rests k f t differ) ∙ idle in cc)
      ]
    where
      cases_pick : (o : Option ℕ) → (o ≡ Some k) ⊎ (o ≡ Some k → ⊥)
      cases_pick None = inr (λ is. absurd (cc))
      cases_pick (Some j) = elim (cases_eq j k) [ inl same ↦ inl (ap (λ (i : ℕ). Some i) same) | inr differ ↦ inr (λ is. differ (number_is j k is)) ]

  pub machine_meets : RespectsFrames e.image script → script.end_tick ≤ 1000000000 → MeetsDeadlines e.image script
  machine_meets respects short =
      let m : law.MeetsDeadlines ts (rank_from_zero e.image) script.end_tick the_run = meets ts (rank_from_zero e.image) place script.end_tick reach the_run feasible.tasks feasible.ranks (is_earliest respects) short feasible.reaches feasible.feasible in
      let finds : (k t : ℕ) (p : Process) → slice_get e.image.processes k ≡ Some p → is_due script t p ≡ true → t < script.end_tick → slice_get (state_at e.image script t).state.threads k ≡ Some Idle = λ k t p process due within. (
      let below : k < length e.image.processes = slice_get_within e.image.processes k p process in
      let low : k < length ts = omega (arith, feasible.many) in
      idle_of k (lookup k) t below (m.idle t k low within (due_is k (p, process) t ∙ due))) in
      let soon : (k t : ℕ) (p : Process) → slice_get e.image.processes k ≡ Some p → is_due script t p ≡ true → t + p.deadline ≤ script.end_tick → EndsSoon e.image script k p.deadline t = λ k t p process due within. (
      let below : k < length e.image.processes = slice_get_within e.image.processes k p process in
      let low : k < length ts = omega (arith, feasible.many) in
      let deadline : law.deadline_at ts (rank_from_zero e.image) k ≡ p.deadline = (own_task k (p, process)).deadline in
      let ended = m.ends t k low (omega arith) (due_is k (p, process) t ∙ due) in
      let idle = idle_of k (lookup k) (suc ended.tick) below ended.idle in
      (ended.tick, ended.since, omega (arith, ended.soon), end_told k (p, process) ended.tick (mid_of k (lookup k) ended.tick) ended.active idle)) in
      record {
        idle = finds;
        log = λ k p process. log_ends e.image script k p.deadline p process (λ t due within. soon k t p process due within);
        no_overrun = λ t within. overrun_is t ∙ starts_in_time e.image script t (state_at e.image script t).state
            (once e.image script t respects (λ k p process.
            let own = own_task k (p, process) in
            let low : rank_from_zero e.image k < length ts = feasible.ranks.rank_below k (let b = slice_get_within e.image.processes k p process in omega (arith, feasible.many)) in
            let is = is_task ts (rank_from_zero e.image k) feasible.tasks low in
            let frame = own.frame in
            omega (arith, is.frame_low)))
            (λ k p process due. finds k t p process due within);
        ends = λ k t p process due within.
            let below : k < length e.image.processes = slice_get_within e.image.processes k p process in
            let low : k < length ts = omega (arith, feasible.many) in
            let deadline : law.deadline_at ts (rank_from_zero e.image) k ≡ p.deadline = (own_task k (p, process)).deadline in
            let rank_low : rank_from_zero e.image k < length ts = feasible.ranks.rank_below k low in
            let is = is_task ts (rank_from_zero e.image k) feasible.tasks rank_low in
            let some : 10 ≤ law.deadline_at ts (rank_from_zero e.image) k = is.deadline_low in
            let ended = m.ends t k low (omega arith) (due_is k (p, process) t ∙ due) in
            let idle = idle_of k (lookup k) (suc ended.tick) below ended.idle in
            let told = end_told k (p, process) ended.tick (mid_of k (lookup k) ended.tick) ended.active idle in
            record {
              begins = subst (λ (es : List Event). Contains es (record { tick = t; proc = k; act = act.Release })) (sym (told_is t))
                  (Contains-append_left (starts e.image script t (state_at e.image script t).state).events (run_picked e.image t (middle t) (candidate (picks t))).events (record { tick = t; proc = k; act = act.Release })
                  (release_is_told e.image script t k p (state_at e.image script t).state process due (finds k t p process due (omega arith))));
              tick = ended.tick;
              since = ended.since;
              soon = omega (arith, ended.soon);
              ends = subst (λ (es : List Event). Contains es (record { tick = ended.tick; proc = k; act = act.End })) (sym (told_is ended.tick))
                  (Contains-append_right (starts e.image script ended.tick (state_at e.image script ended.tick).state).events (run_picked e.image ended.tick (middle ended.tick) (candidate (picks ended.tick))).events (record { tick = ended.tick; proc = k; act = act.End })
                  (subst (λ (es : List Event). Contains es (record { tick = ended.tick; proc = k; act = act.End })) (sym told) (0, omega arith, refl)));
              idle = idle;
            };
      }

pub every_run_meets_deadlines : EveryRunMeetsDeadlines
every_run_meets_deadlines e ps script ts place count image_fits waitless demands judged respects short =
    let r = reached ts demands.tasks in
    machine_meets e ps image_fits waitless ts place r.0 (uncapped e ps ts place r.0 waitless.ranked demands r.1 (judged r.0 r.1).2) script respects short
