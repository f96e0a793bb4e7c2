-- The run of the machine is one that the timing argument speaks of, so it is in time.
use Rattle.std.proofs.Common.{◌≡◌, ◌<◌, ℕ, suc, Some, length, arith, refl, sym, subst}
use Rattle.std.specs.Prelude.{slice_get}
use Rattle.base.proofs.Lists.{some_at}
use Rattle.machine_semantics.specs.Image.{Process, Script}
use Rattle.machine_semantics.specs.Walk.{Where}
use Rattle.machine_semantics.specs.Safe.{Parts, ImageFits}
use Rattle.sched_theorem.specs.Dispatched.{KeepsStays}
use Rattle.sched_theorem.specs.Placed.{AreRanks, PicksAt, IsPlaced, IsInTimeAt}
use Rattle.sched_theorem.proofs.Places.{in_time_at}
use Rattle.valid_image.specs.Tasks.{process_at, tasks_of}
use Rattle.sched_timing.specs.Views.{life_before, trace_of, dispatch_of, rank_at, bound_at}
use Rattle.sched_timing.specs.Timed.{RespectsFrames}
use Rattle.sched_timing.proofs.Ranks.{IsTimedThriftily, length_is, are_tasks, are_ranks, are_bounds}
use Rattle.sched_timing.proofs.Facts.{whole, opens, acts, spaced}
use Rattle.sched_timing.proofs.Dispatching.{picks, keeps, stays}

module _ (e : Where) (ps : ℕ → Parts) (image_fits : ImageFits e ps) (thrifty : IsTimedThriftily e ps) (script : Script) (respects : RespectsFrames e.image script) where
  process : (k : ℕ) → k < length (tasks_of e.image) → (p : Process) × (slice_get e.image.processes k ≡ Some p)
  process k below = some_at e.image.processes k (omega (arith, below, length_is e ps thrifty))

  start_nothing : (k : ℕ) → (life_before e.image script 0 k).run_left ≡ 0
  unfolding life_before
  start_nothing k = refl

  pub is_placed : IsPlaced (tasks_of e.image) (rank_at e.image) script.end_tick (trace_of e.image script) (dispatch_of e.image ps script)
  is_placed =
      let many : length e.image.processes ≡ length (tasks_of e.image) = sym (length_is e ps thrifty) in
      record {
        idle_first = λ k below. start_nothing k;
        whole = λ t k within below. whole e ps image_fits thrifty script t k (process k below).0 (process k below).1;
        opens = λ t k within below. opens e ps image_fits thrifty script t k (process k below).0 (process k below).1;
        acts = λ t k within below. acts e ps image_fits thrifty script t k (process k below).0 (process k below).1;
        spaced = λ k below. spaced e ps image_fits thrifty script respects script.end_tick k (process k below).0 (process k below).1;
        picks = λ t within. subst (λ (n : ℕ). PicksAt n (rank_at e.image) ((dispatch_of e.image ps script).inside t) ((trace_of e.image script).after t) ((trace_of e.image script).before (suc t)) ((dispatch_of e.image ps script).picked t)) many (picks e ps image_fits thrifty script t);
        keeps = λ t within. subst (λ (n : ℕ). KeepsStays n ((dispatch_of e.image ps script).picked t) ((dispatch_of e.image ps script).inside t) ((dispatch_of e.image ps script).inside (suc t))) many (keeps e ps image_fits thrifty script t);
        stays = λ t within. stays e ps image_fits thrifty script t;
      }

  pub in_time : IsInTimeAt (tasks_of e.image) (rank_at e.image) (process_at e.image) (bound_at e.image) script.end_tick (trace_of e.image script)
  in_time =
      in_time_at (tasks_of e.image) (rank_at e.image) (process_at e.image) (bound_at e.image) script.end_tick (trace_of e.image script) (dispatch_of e.image ps script) (are_tasks e ps thrifty) (are_bounds e ps thrifty)
      (subst (λ (n : ℕ). AreRanks n (rank_at e.image) (process_at e.image)) (sym (length_is e ps thrifty)) (are_ranks e ps thrifty)) is_placed
