-- Ranks and tasks of a valid image.
use Rattle.std.proofs.Common.{◌≡◌, ◌≤◌, ◌<◌, ◌+◌, ◌-◌, ◌*◌, ◌⊎◌, inl, inr, ℕ, zero, suc, List, [], ◌∷◌, Option, Some, None, length, arith, refl, ap, sym, subst, ◌∙◌, true, false, Bool}
use Rattle.std.specs.Prelude.{slice_get, slice_index_or, cond, nat_eq}
use Rattle.std.proofs.lemmas.Bool.{cases_Bool}
use Rattle.std.proofs.lemmas.Bool.Decides.{nat_tests}
use Rattle.std.proofs.lemmas.Option.{slice_get_within}
use Rattle.base.proofs.Lists.{some_at}
use Rattle.base.specs.Capped.{cap}
use Rattle.sched_response.specs.declared.tasks.Task.{Task}
use Rattle.sched_response.specs.Demand.{task_at, IsTask, Solves}
use Rattle.sched_theorem.specs.Limited.{AreLimited}
use Rattle.sched_theorem.specs.InTime.{AreBounds}
use Rattle.sched_theorem.specs.Placed.{AreRanks}
use Rattle.sched_theorem.proofs.Demands.{task_is, covers_one, solution_covers}
use Rattle.machine_semantics.specs.Image.{Image, Monitor, Process}
use Rattle.machine_semantics.specs.Walk.{Where}
use Rattle.machine_semantics.specs.Safe.{Parts, part_of}
use Rattle.machine_semantics.specs.Work.{worst_of, activation}
use Rattle.valid_image.specs.Tasks.{with_rank, process_at, task_of, tasks_from, tasks_of}
use Rattle.sched_timing.specs.Views.{rank_at, bound_at, bound_of_some, rank_of_some}
use Rattle.sched_timing.proofs.Numbering.{AreBelow, AreDifferent, none_left_out}
use Rattle.sched_timing.specs.Timed.{IsCovered, ImageIsTimed}

-- ---- lists

length_tasks : (image : Image) (j n : ℕ) → length (tasks_from image j n) ≡ n
length_tasks image j zero = refl
length_tasks image j (suc n) = ap suc (length_tasks image (suc j) n)

pub tasks_at : (image : Image) (j n i : ℕ) (d : Task) → i < n → slice_index_or (tasks_from image j n) i d ≡ task_of (slice_get image.processes (process_at image (j + i)))
tasks_at image j zero i d below = absurd (omega (arith, below))
tasks_at image j (suc n) zero d below = let z : j ≡ j + 0 = omega arith in ap (λ (x : ℕ). task_of (slice_get image.processes (process_at image x))) z
tasks_at image j (suc n) (suc i) d below =
    let z : suc j + i ≡ j + suc i = omega arith in tasks_at image (suc j) n i d (omega (arith, below)) ∙ ap (λ (x : ℕ). task_of (slice_get image.processes (process_at image x))) z

-- where the search for a rank ends
record Ends (rank i : ℕ) (qs : List Process) : Type 0 where
  index : ℕ
  place : with_rank rank i qs ≡ i + index
  has : (q : Process) → slice_get qs index ≡ Some q → q.rank ≡ rank
  finds : (j : ℕ) (p : Process) → slice_get qs j ≡ Some p → p.rank ≡ rank → (q : Process) × (slice_get qs index ≡ Some q)

search_ends : (rank i : ℕ) (qs : List Process) → Ends rank i qs
search_ends rank i [] = record { index = 0; place = omega arith; has = λ q at. absurd cc; finds = λ j p at of. absurd cc }
search_ends rank i (p ∷ ps) = by (cases_Bool (nat_eq p.rank rank)) (search_ends rank (suc i) ps) where
  by : (nat_eq p.rank rank ≡ true) ⊎ (nat_eq p.rank rank ≡ false) → Ends rank (suc i) ps → Ends rank i (p ∷ ps)
  by (inl is) rest = record {
    index = 0;
    place = ap (λ (b : Bool). cond b i (with_rank rank (suc i) ps)) is ∙ omega arith;
    has = λ q at. (let same : p ≡ q = cc in let it : p.rank ≡ rank = grind (arith, nat_tests, is) in sym (ap (λ (x : Process). x.rank) same) ∙ it);
    finds = λ j q at of. (p, refl);
  }
  by (inr is_not) rest = record {
    index = suc rest.index;
    place = ap (λ (b : Bool). cond b i (with_rank rank (suc i) ps)) is_not ∙ omega (arith, rest.place);
    has = λ q at. rest.has q at;
    finds = later;
  } where
    later : (j : ℕ) (q : Process) → slice_get (p ∷ ps) j ≡ Some q → q.rank ≡ rank → (r : Process) × (slice_get ps rest.index ≡ Some r)
    later zero q at of = absurd (let same : p ≡ q = cc in let it : p.rank ≡ rank = ap (λ (x : Process). x.rank) same ∙ of in grind (arith, nat_tests, is_not, it))
    later (suc j) q at of = rest.finds j q at of

-- ---- ranks and places

-- the premise, with costs that have no more waits than a tenth of the ticks
pub record IsTimedThriftily (e : Where) (ps : ℕ → Parts) : Type 0 where
  pub timed : ImageIsTimed e ps
  pub few : (k : ℕ) → 10 * (worst_of (ps k)).waits ≤ (worst_of (ps k)).run

module _ (e : Where) (ps : ℕ → Parts) (thrifty : IsTimedThriftily e ps) where
  abbrev timed : ImageIsTimed e ps
  timed = thrifty.timed

  search : (j : ℕ) → Ends (suc j) 0 e.image.processes
  search j = search_ends (suc j) 0 e.image.processes

  -- a process stands at the place of its rank
  pub back : (k : ℕ) (p : Process) → slice_get e.image.processes k ≡ Some p → process_at e.image (p.rank - 1) ≡ k
  unfolding search
  back k p at =
      let x : Ends (suc (p.rank - 1)) 0 e.image.processes = search (p.rank - 1) in
      let of : p.rank ≡ suc (p.rank - 1) = omega (arith, (timed.ranked k p at).0) in
      let found : (q : Process) × (slice_get e.image.processes x.index ≡ Some q) = x.finds k p at of in
      let rank : found.0.rank ≡ p.rank = x.has found.0 found.1 ∙ sym of in
      let same : x.index ≡ k = timed.one_each x.index k found.0 p found.1 at rank in
      omega (arith, x.place, same)

  pub length_is : length (tasks_of e.image) ≡ length e.image.processes
  length_is = length_tasks e.image 0 (length e.image.processes)

  -- each rank has a process
  pub record At (j : ℕ) : Type 0 where
    pub p : Process
    pub process : slice_get e.image.processes (process_at e.image j) ≡ Some p
    pub rank : p.rank ≡ suc j

  rank_is : (k : ℕ) (p : Process) → slice_get e.image.processes k ≡ Some p → rank_at e.image k ≡ p.rank - 1
  rank_is k p at = ap (λ (x : Option Process). rank_of_some x) at

  ranks_below : AreBelow (length e.image.processes) (length e.image.processes) (rank_at e.image)
  ranks_below k below = let p : (q : Process) × (slice_get e.image.processes k ≡ Some q) = some_at e.image.processes k below in omega (arith, (timed.ranked k p.0 p.1).0, (timed.ranked k p.0 p.1).1, rank_is k p.0 p.1)

  ranks_different : AreDifferent (length e.image.processes) (rank_at e.image)
  ranks_different j k below_j below_k same =
      let p : (r : Process) × (slice_get e.image.processes j ≡ Some r) = some_at e.image.processes j below_j in
      let q : (r : Process) × (slice_get e.image.processes k ≡ Some r) = some_at e.image.processes k below_k in
      timed.one_each j k p.0 q.0 p.1 q.1 (omega (arith, same, rank_is j p.0 p.1, rank_is k q.0 q.1, (timed.ranked j p.0 p.1).0, (timed.ranked k q.0 q.1).0))

  pub at_place : (j : ℕ) → j < length e.image.processes → At j
  unfolding search
  at_place j below = by (slice_get e.image.processes (process_at e.image j)) refl where
    x : Ends (suc j) 0 e.image.processes
    x = search j

    index : process_at e.image j ≡ x.index
    index = omega (arith, x.place)

    by : (o : Option Process) → slice_get e.image.processes (process_at e.image j) ≡ o → At j
    by (Some q) some = record { p = q; process = some; rank = x.has q (ap (λ (y : ℕ). slice_get e.image.processes y) (sym index) ∙ some) }
    by None none = absurd (none_left_out (length e.image.processes) (rank_at e.image) j ranks_below ranks_different below (λ k low is.
        (let p : (q : Process) × (slice_get e.image.processes k ≡ Some q) = some_at e.image.processes k low in
        let of : p.0.rank ≡ suc j = omega (arith, is, rank_is k p.0 p.1, (timed.ranked k p.0 p.1).0) in
        let found : (q : Process) × (slice_get e.image.processes x.index ≡ Some q) = x.finds k p.0 p.1 of in
        (let both : None ≡ Some found.0 = sym none ∙ (ap (λ (y : ℕ). slice_get e.image.processes y) index ∙ found.1) in absurd cc))))

  -- the task of a rank is that of the process at its place
  task_there : (j : ℕ) (d : Task) → j < length e.image.processes → slice_index_or (tasks_of e.image) j d ≡ task_of (slice_get e.image.processes (process_at e.image j))
  task_there j d below = let z : 0 + j ≡ j = omega arith in tasks_at e.image 0 (length e.image.processes) j d below ∙ ap (λ (x : ℕ). task_of (slice_get e.image.processes (process_at e.image x))) z

  pub task_of_rank : (j : ℕ) → j < length e.image.processes → task_at (tasks_of e.image) j ≡ task_of (slice_get e.image.processes (process_at e.image j))
  task_of_rank j below = task_there j (record { frame = 0; deadline = 0; run = 0; susp = 0; waits = 0; block = 0 }) below

  -- the tasks are in their limits
  pub are_tasks : AreLimited (tasks_of e.image)
  are_tasks j d below =
      let a : At j = at_place j (omega (arith, below, length_is)) in
      subst IsTask (sym (task_there j d (omega (arith, below, length_is)) ∙ ap (λ (o : Option Process). task_of o) a.process)) (timed.limits (process_at e.image j) a.p a.process)

  pub are_ranks : AreRanks (length e.image.processes) (rank_at e.image) (process_at e.image)
  are_ranks = record {
    rank_below = λ k below. (let p : (q : Process) × (slice_get e.image.processes k ≡ Some q) = some_at e.image.processes k below in
        omega (arith, (timed.ranked k p.0 p.1).0, (timed.ranked k p.0 p.1).1, ap (λ (x : Option Process). rank_of_some x) p.1));
    place_below = λ j below. slice_get_within e.image.processes (process_at e.image j) (at_place j below).p (at_place j below).process;
    there = λ j below. omega (arith, (at_place j below).rank, ap (λ (x : Option Process). rank_of_some x) (at_place j below).process);
    back = λ k below. (let p : (q : Process) × (slice_get e.image.processes k ≡ Some q) = some_at e.image.processes k below in
        ap (λ (x : Option Process). process_at e.image (rank_of_some x)) p.1 ∙ back k p.0 p.1);
  }

  pub are_bounds : AreBounds (tasks_of e.image) (bound_at e.image)
  are_bounds = λ level below.
      (let a : At level = at_place level (omega (arith, below, length_is)) in
      let solves : Solves (tasks_of e.image) (a.p.rank - 1) a.p.bound = timed.solved (process_at e.image level) a.p a.process in
      let rank : a.p.rank - 1 ≡ level = omega (arith, a.rank) in
      let bound : a.p.bound ≡ bound_at e.image level = sym (ap (λ (x : Option Process). bound_of_some x) a.process) in
      subst (λ (x : ℕ). Solves (tasks_of e.image) level x) bound (subst (λ (x : ℕ). Solves (tasks_of e.image) x a.p.bound) rank solves))

  -- the task of the rank of a process is its own
  pub own_task : (k : ℕ) (p : Process) → slice_get e.image.processes k ≡ Some p → task_at (tasks_of e.image) (rank_at e.image k) ≡ task_of (Some p)
  own_task k p at =
      let rank : rank_at e.image k ≡ p.rank - 1 = ap (λ (x : Option Process). rank_of_some x) at in
      let low : p.rank - 1 < length e.image.processes = omega (arith, (timed.ranked k p at).0, (timed.ranked k p at).1) in
      ap (λ (x : ℕ). task_at (tasks_of e.image) x) rank
      ∙ (task_of_rank (p.rank - 1) low ∙ ap (λ (x : Option Process). task_of x) (ap (λ (x : ℕ). slice_get e.image.processes x) (back k p at) ∙ at))

  -- ---- no cap is hit

  -- the declared numbers cover what an activation takes, exactly
  pub record Exact (k : ℕ) (p : Process) : Type 0 where
    pub run : activation e.image.over (worst_of (ps k)) ≤ p.run
    pub susp : (worst_of (ps k)).susp ≤ p.susp
    pub waits : (worst_of (ps k)).waits ≤ p.waits
    pub frame : 1 ≤ p.frame
    pub block : p.block ≤ 1000000000
    pub bound : p.bound ≤ p.deadline
    pub deadline : p.deadline ≤ p.frame

  uncapped : (x y : ℕ) → cap x ≤ y → y ≤ 1000000000 → x ≤ y
  uncapped x y le low = omega (arith, le, low)

  pub exact : (k : ℕ) (p : Process) → slice_get e.image.processes k ≡ Some p → Exact k p
  exact k p at =
      let c : IsCovered e.image.over (worst_of (ps k)) p = timed.covered k p at in
      let level : ℕ = rank_at e.image k in
      let rank : level ≡ p.rank - 1 = ap (λ (x : Option Process). rank_of_some x) at in
      let below : level < length (tasks_of e.image) = omega (arith, rank, length_is, (timed.ranked k p at).0, (timed.ranked k p at).1) in
      let own : task_at (tasks_of e.image) level ≡ task_of (Some p) = own_task k p at in
      let solves : Solves (tasks_of e.image) level p.bound = subst (λ (x : ℕ). Solves (tasks_of e.image) x p.bound) (sym rank) (timed.solved k p at) in
      let is : IsTask (task_of (Some p)) = subst IsTask own (task_is (tasks_of e.image) level are_tasks below) in
      let meets : p.bound ≤ p.deadline = omega (arith, solves.within, ap (λ (x : Task). x.deadline) own) in
      let within : p.bound ≤ p.frame = omega (arith, meets, is.deadline_high) in
      let one : p.run + p.susp + p.waits * p.block ≤ p.bound =
      subst (λ (x : Task). x.run + x.susp + x.waits * x.block ≤ p.bound) own (covers_one (tasks_of e.image) level p.bound level are_tasks below solves (omega arith)) in
      let block : p.block ≤ p.bound = omega (arith, solution_covers (tasks_of e.image) level p.bound are_tasks below solves, ap (λ (x : Task). x.block) own) in
      let run : activation e.image.over (worst_of (ps k)) ≤ p.run = uncapped (activation e.image.over (worst_of (ps k))) p.run c.run (omega (arith, one, within, is.frame_high)) in
      record {
        run = run;
        susp = uncapped (worst_of (ps k)).susp p.susp c.susp (omega (arith, one, within, is.frame_high));
        waits = omega (arith, c.waits, thrifty.few k, run, one, within, is.frame_high);
        frame = omega (arith, is.frame_low);
        block = omega (arith, block, within, is.frame_high);
        bound = meets;
        deadline = is.deadline_high;
      }

  -- the block of a process covers each stay of one that ranks below, in a monitor that reaches its rank
  pub blocks : (j k m : ℕ) (p q : Process) (monitor : Monitor) (h : Bool) → slice_get e.image.processes j ≡ Some p → slice_get e.image.processes k ≡ Some q → slice_get e.image.monitors m ≡ Some monitor
      → p.rank < q.rank → monitor.ceiling ≤ p.rank → (part_of (ps k) h).stays m ≤ p.block
  blocks j k m p q monitor h at_j at_k there lower reaches = uncapped ((part_of (ps k) h).stays m) p.block (timed.blocks j k m p q monitor h at_j at_k there lower reaches) (exact j p at_j).block
