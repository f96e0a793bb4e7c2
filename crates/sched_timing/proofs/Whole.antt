-- The law.
use Rattle.std.proofs.Common.{◌≡◌, ◌≤◌, ◌<◌, ◌+◌, ◌-◌, ◌*◌, ℕ, suc, Option, Some, length, arith, refl, ap, sym, subst, ◌∙◌, true, false, Bool}
use Rattle.std.specs.Prelude.{slice_get}
use Rattle.machine_semantics.specs.Image.{Process, Script}
use Rattle.machine_semantics.specs.State.{Thread, Idle, Ready, Waiting}
use Rattle.machine_semantics.specs.Run.{state_at}
use Rattle.machine_semantics.specs.Walk.{Where}
use Rattle.base.specs.Capped.{cap}
use Rattle.machine_semantics.specs.Safe.{Parts, ImageFits, part_of}
use Rattle.machine_semantics.specs.Work.{IsBusy, worst_of}
use Rattle.sched_theorem.specs.Stretches.{NoneActive, SomeActive, Life}
use Rattle.sched_theorem.specs.Stretches as abstract
use Rattle.sched_theorem.specs.Placed.{by_rank}
use Rattle.valid_image.specs.Tasks.{process_at}
use Rattle.sched_timing.specs.Views.{during, is_idle, life_before, life_after, trace_of, rank_at, rank_of_some}
use Rattle.sched_timing.specs.Timed.{ImageIsTimed, IsCovered, RespectsFrames, NoneUnfinished, SomeUnfinished, IsStretch, IsInTime, EveryRunIsInTime}
use Rattle.sched_timing.proofs.Ranks.{IsTimedThriftily, At, Exact, at_place, back, exact, length_is}
use Rattle.sched_timing.proofs.Threads.{Threads, threads}
use Rattle.sched_timing.proofs.Lives.{some_left}
use Rattle.sched_timing.proofs.Facts.{life_idle, middle_some}
use Rattle.sched_timing.proofs.Placed.{in_time}
use Rattle.sched_timing.proofs.Told.{overrun_is}
use Rattle.sched_timing.proofs.Ended.{no_overrun, ends_within, ends_soon, own_bound}
use Rattle.sched_timing.proofs.Logs.{log_ends}
use Rattle.sched_timing.proofs.Thrift.{thrift_in, thrift_parts, image_fits_thriftily, tenth, no_more}
use Rattle.machine_safety.proofs.Working.{times_le}

idle_thread : (th : Thread) → is_idle (Some th) ≡ true → th ≡ Idle
idle_thread Idle is = refl
idle_thread (Ready job) is = absurd cc
idle_thread (Waiting c d number job) is = absurd cc

busy_thread : (th : Thread) → is_idle (Some th) ≡ false → IsBusy th
busy_thread Idle is = absurd cc
busy_thread (Ready job) is = tt
busy_thread (Waiting c d number job) is = tt

module _ (e : Where) (ps : ℕ → Parts) (image_fits : ImageFits e ps) (thrifty : IsTimedThriftily e ps) (script : Script) (respects : RespectsFrames e.image script) where
  -- nobody, or somebody, is unfinished, as the timing argument sees it
  none_active : (rank t : ℕ) → rank ≤ length e.image.processes → NoneUnfinished e.image rank (state_at e.image script t) → NoneActive rank ((by_rank (process_at e.image) (trace_of e.image script)).before t)
  none_active rank t within none j below =
      let a : At e ps thrifty j = at_place e ps thrifty j (omega (arith, within, below)) in
      let x : Threads e ps image_fits script t (process_at e.image j) a.p = threads e ps image_fits script t (process_at e.image j) a.p a.process in
      let idle : is_idle (slice_get (state_at e.image script t).threads (process_at e.image j)) ≡ true = none (process_at e.image j) a.p a.process (omega (arith, a.rank, below)) in
      let old : x.old ≡ Idle = idle_thread x.old (sym (ap (λ (o : Option Thread). is_idle o) x.at_old) ∙ idle) in
      ap (λ (l : Life). l.run_left) (life_idle e ps image_fits thrifty script t (process_at e.image j) (x.at_old ∙ ap (λ (th : Thread). Some th) old))

  -- somebody of the rank, with its rank from 0
  own_rank : (rank k : ℕ) (p : Process) → slice_get e.image.processes k ≡ Some p → p.rank ≤ rank → (rank_at e.image k < rank) × (process_at e.image (rank_at e.image k) ≡ k)
  own_rank rank k p process le =
      let is : rank_at e.image k ≡ p.rank - 1 = ap (λ (o : Option Process). rank_of_some o) process in
      (omega (arith, is, le, (thrifty.timed.ranked k p process).0), ap (λ (j : ℕ). process_at e.image j) is ∙ back e ps thrifty k p process)

  some_active : (rank t : ℕ) → SomeUnfinished e.image rank (state_at e.image script t) → SomeActive rank ((by_rank (process_at e.image) (trace_of e.image script)).before t)
  some_active rank t (k, p, process, le, busy) =
      let own : (rank_at e.image k < rank) × (process_at e.image (rank_at e.image k) ≡ k) = own_rank rank k p process le in
      let x : Threads e ps image_fits script t k p = threads e ps image_fits script t k p process in
      let some : 1 ≤ (life_before e.image script t k).run_left = some_left e ps image_fits thrifty script t k p x.old process x.at_old (busy_thread x.old (sym (ap (λ (o : Option Thread). is_idle o) x.at_old) ∙ busy)) in
      (rank_at e.image k, own.0, subst (λ (j : ℕ). 1 ≤ (life_before e.image script t j).run_left) (sym own.1) some)

  some_after : (rank t : ℕ) → SomeUnfinished e.image rank (during e.image script t) → SomeActive rank ((by_rank (process_at e.image) (trace_of e.image script)).after t)
  some_after rank t (k, p, process, le, busy) =
      let own : (rank_at e.image k < rank) × (process_at e.image (rank_at e.image k) ≡ k) = own_rank rank k p process le in
      let x : Threads e ps image_fits script t k p = threads e ps image_fits script t k p process in
      let some : 1 ≤ (life_after e.image script t k).run_left = middle_some e ps image_fits thrifty script t k p process x (busy_thread x.mid (sym (ap (λ (o : Option Thread). is_idle o) x.at_mid) ∙ busy)) in
      (rank_at e.image k, own.0, subst (λ (j : ℕ). 1 ≤ (life_after e.image script t j).run_left) (sym own.1) some)

  stretches : (k : ℕ) (p : Process) (start ticks : ℕ) → slice_get e.image.processes k ≡ Some p → IsStretch e.image script p.rank start ticks → start + ticks ≤ script.end_tick → ticks ≤ p.bound
  stretches k p start ticks process is within =
      let rank : rank_at e.image k ≡ p.rank - 1 = ap (λ (o : Option Process). rank_of_some o) process in
      let level : suc (rank_at e.image k) ≡ p.rank = omega (arith, rank, (thrifty.timed.ranked k p process).0) in
      let seen : abstract.IsStretch p.rank (by_rank (process_at e.image) (trace_of e.image script)) start ticks = record {
        some = is.some;
        clear = none_active p.rank start (thrifty.timed.ranked k p process).1 is.clear;
        busy = some_after p.rank start is.busy;
        goes_on = λ i low high. some_active p.rank (start + i) (is.goes_on i low high);
      } in
      omega (
        arith,
        own_bound e ps image_fits thrifty script respects k p process,
        (in_time e ps image_fits thrifty script respects).stretches (rank_at e.image k) start ticks (omega (arith, rank, length_is e ps thrifty, (thrifty.timed.ranked k p process).0, (thrifty.timed.ranked k p process).1))
            (subst (λ (n : ℕ). abstract.IsStretch n (by_rank (process_at e.image) (trace_of e.image script)) start ticks) (sym level) seen) within,
      )

  thrifty_runs : IsInTime e.image script
  thrifty_runs = record {
    bounds = λ k p process. (let x : Exact e ps thrifty k p = exact e ps thrifty k p process in (x.bound, x.deadline));
    no_overrun = λ t within. overrun_is e.image script t ∙ no_overrun e ps image_fits thrifty script respects t within;
    stretches = λ k p start ticks process is within. stretches k p start ticks process is within;
    ends = λ k p t process due within. ends_within e ps image_fits thrifty script respects k p t process due within;
    log = λ k p process. log_ends e.image script k p.bound p process (ends_soon e ps image_fits thrifty script respects k p process);
  }

-- the premise holds of thrifty costs too
timed_thriftily : (e : Where) (ps : ℕ → Parts) → ImageIsTimed e ps → IsTimedThriftily (thrift_in e) (thrift_parts ps)
timed_thriftily e ps timed = record {
  timed = record {
    some = timed.some;
    few = timed.few;
    limits = timed.limits;
    ranked = timed.ranked;
    one_each = timed.one_each;
    covered = λ k p at. (let c : IsCovered e.image.over (worst_of (ps k)) p = timed.covered k p at in
        let fewer : (worst_of (thrift_parts ps k)).waits ≤ (worst_of (ps k)).waits = no_more (ps k).body_cost in
        record {
          run = omega (arith, c.run, times_le (2 * e.image.over) (1 + (worst_of (thrift_parts ps k)).waits) (1 + (worst_of (ps k)).waits) (omega (arith, fewer)));
          susp = c.susp;
          waits = omega (arith, c.waits, fewer);
        });
    blocks = λ j k m p q monitor h at_j at_k there lower reaches. same_stays k m h p.block (timed.blocks j k m p q monitor h at_j at_k there lower reaches);
    solved = timed.solved;
  };
  few = λ k. omega (arith, tenth (ps k).body_cost);
} where
  same_stays : (k m : ℕ) (h : Bool) (n : ℕ) → cap ((part_of (ps k) h).stays m) ≤ n → cap ((part_of (thrift_parts ps k) h).stays m) ≤ n
  same_stays k m true n le = le
  same_stays k m false n le = le

pub every_run_is_in_time : EveryRunIsInTime
unfolding thrifty_runs
every_run_is_in_time e ps script image_fits timed respects = thrifty_runs (thrift_in e) (thrift_parts ps) (image_fits_thriftily e ps image_fits) (timed_thriftily e ps timed) script respects
