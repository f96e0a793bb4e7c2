-- Timely is in time, late is not, and bounds are those of the text.
use Rattle.std.specs.Prelude.{◌≡◌, ◌<◌, ◌-◌, ℕ, List, Some, length, slice_get}
use Rattle.std.proofs.Common.{sym, ap, subst, ◌∙◌, arith}
use Rattle.std.proofs.lemmas.Option.{slice_get_within}
use Rattle.base.proofs.Lists.{some_at}
use Rattle.syntax_tree.specs.Placed.{Prog, plain}
use Rattle.syntax_tree.specs.Plain.{Program}
use Rattle.syntax_tree.specs.declared.place.Place.{Place}
use Rattle.source_semantics.specs.Names.{processes}
use Rattle.source_semantics.specs.Ranks.{rank}
use Rattle.machine_semantics.specs.Image.{Image, Process}
use Rattle.sched_response.specs.declared.tasks.Task.{Task}
use Rattle.sched_response.specs.Demand.{Solves, IsBound}
use Rattle.valid_image.specs.Tasks.{tasks_of}
use Rattle.built_image_law.specs.Small.{KeepsSizes}
use Rattle.static_semantics.specs.Static.{IsChecked}
use Rattle.built_image.specs.Built.{IsShaped, IsTimely, IsLate}
use Rattle.sched_program.specs.Tasks.{AreTasksOf, IsInTime, IsNotInTime, IsBoundOf}
use Rattle.sched_program.specs.Once.{TasksAreOne, NeverInTimeAndNot}
use Rattle.sched_program.proofs.Levels.{rank_low, rank_high, had}
use Rattle.built_tasks_law.specs.Tasks.{RanksAreOfTheText, TasksAreOfTheText}
use Rattle.built_tasks_law.specs.Judged.{TimelyIsInTime, LateIsNotInTime, ShapesAreJudgedAlike, BoundsAreOfTheText, BuiltIsInTime}
use Rattle.built_tasks_law.proofs.Tasks.{tasks_long}

-- what is known of an image of the shape of a program
record Alike (g : Program) (over : ℕ) (m : Image) : Type 0 where
  tasks : AreTasksOf g over (tasks_of m)
  rank_is : (k : ℕ) (x : Process) → slice_get m.processes k ≡ Some x → x.rank ≡ rank g k

module _ (g : Program) (over : ℕ) (m : Image) (a : Alike g over m) where
  many : length m.processes ≡ length (processes g)
  many = sym (tasks_long m 0 (length m.processes)) ∙ a.tasks.one_each

  -- the process of a level
  process_of : (level : ℕ) → level < length (tasks_of m) → (k : ℕ) × (x : Process) × (slice_get m.processes k ≡ Some x) × (x.rank - 1 ≡ level)
  process_of level low =
      let h = had g level (omega (arith, low, a.tasks.one_each)) in
      let x = some_at m.processes h.0 (omega (arith, h.1, many)) in
      (h.0, x.0, x.1, ap (λ n. n - 1) (a.rank_is h.0 x.0 x.1) ∙ h.2)

  level_there : (k : ℕ) (x : Process) → slice_get m.processes k ≡ Some x → x.rank - 1 < length (tasks_of m)
  level_there k x at =
      let below : k < length (processes g) = omega (arith, many, slice_get_within m.processes k x at) in
      omega (arith, rank_low g k, rank_high g k below, a.rank_is k x at, a.tasks.one_each)

  in_time : ((k : ℕ) (x : Process) → slice_get m.processes k ≡ Some x → (r : ℕ) × Solves (tasks_of m) (x.rank - 1) r) → IsInTime g over
  in_time each = record {
    tasks = tasks_of m;
    are = a.tasks;
    each = λ level low. (
        let p = process_of level low in
        let r = each p.0 p.1 p.2 in
        (r.0, subst (λ (n : ℕ). Solves (tasks_of m) n r.0) p.3 r.1));
  }

  not_in_time : (k : ℕ) (x : Process) → slice_get m.processes k ≡ Some x → ((r : ℕ) → ¬ Solves (tasks_of m) (x.rank - 1) r) → IsNotInTime g over
  not_in_time k x at none = record { tasks = tasks_of m; are = a.tasks; level = x.rank - 1; there = level_there k x at; unsolved = none }

  timely : TasksAreOne → IsInTime g over → (k : ℕ) (x : Process) → slice_get m.processes k ≡ Some x → (r : ℕ) × Solves (tasks_of m) (x.rank - 1) r
  timely one is k x at =
      let same : is.tasks ≡ tasks_of m = one g over is.tasks (tasks_of m) is.are a.tasks in
      let r = is.each (x.rank - 1) (omega (arith, level_there k x at, ap (λ (ts : List Task). length ts) same)) in
      (r.0, subst (λ (ts : List Task). Solves ts (x.rank - 1) r.0) same r.1)

  record Late : Type 0 where
    number : ℕ
    process : Process
    there : slice_get m.processes number ≡ Some process
    unsolved : (r : ℕ) → ¬ Solves (tasks_of m) (process.rank - 1) r

  late : TasksAreOne → IsNotInTime g over → Late
  late one is =
      let same : is.tasks ≡ tasks_of m = one g over is.tasks (tasks_of m) is.are a.tasks in
      let p = process_of is.level (omega (arith, is.there, ap (λ (ts : List Task). length ts) same)) in
      record {
        number = p.0;
        process = p.1;
        there = p.2;
        unsolved = λ r solves. is.unsolved r (subst (λ (ts : List Task). Solves ts is.level r) (sym same) (subst (λ (n : ℕ). Solves (tasks_of m) n r) p.3 solves));
      }

  bound : (k : ℕ) (x : Process) → slice_get m.processes k ≡ Some x → IsBound (tasks_of m) (x.rank - 1) x.bound → IsBoundOf g over k x.bound
  bound k x at least = record { tasks = tasks_of m; are = a.tasks; least = subst (λ (n : ℕ). IsBound (tasks_of m) (n - 1) x.bound) (a.rank_is k x at) least }

-- ---- the laws

alike : TasksAreOfTheText → RanksAreOfTheText → (g : Prog Place) (over : ℕ) (m : Image) → IsChecked g → KeepsSizes g → IsShaped (plain g) over m → Alike (plain g) over m
alike tasks ranks g over m checked sizes shaped = record { tasks = tasks g over m checked sizes shaped; rank_is = ranks g over m checked sizes shaped }

pub timely_is_in_time : TasksAreOfTheText → RanksAreOfTheText → TimelyIsInTime
timely_is_in_time tasks ranks g over checked sizes t = in_time (plain g) over t.image (alike tasks ranks g over t.image checked sizes t.shaped) t.each

pub late_is_not_in_time : TasksAreOfTheText → RanksAreOfTheText → LateIsNotInTime
late_is_not_in_time tasks ranks g over checked sizes l =
    not_in_time (plain g) over l.image (alike tasks ranks g over l.image checked sizes l.shaped) l.number l.process l.there l.unsolved

pub shapes_are_judged_alike : TasksAreOfTheText → RanksAreOfTheText → TasksAreOne → TimelyIsInTime → LateIsNotInTime → ShapesAreJudgedAlike
shapes_are_judged_alike tasks ranks one timely_law late_law g over m checked sizes shaped =
    let a = alike tasks ranks g over m checked sizes shaped in
    record { timely = (timely_law g over checked sizes, back a); late = (late_law g over checked sizes, later a) }
  where
    back : Alike (plain g) over m → IsInTime (plain g) over → IsTimely (plain g) over
    back a is = record { image = m; shaped = shaped; each = λ k x at. timely (plain g) over m a one is k x at }

    later : Alike (plain g) over m → IsNotInTime (plain g) over → IsLate (plain g) over
    later a is =
        let l = late (plain g) over m a one is in
        record { image = m; shaped = shaped; number = l.number; process = l.process; there = l.there; unsolved = l.unsolved }

pub bounds_are_of_the_text : TasksAreOfTheText → RanksAreOfTheText → BoundsAreOfTheText
bounds_are_of_the_text tasks ranks g over n checked sizes built k x at =
    bound (plain g) over n.image (alike tasks ranks g over n.image checked sizes built.shaped) k x at (built.bounds k x at)

pub built_is_in_time : TimelyIsInTime → NeverInTimeAndNot → BuiltIsInTime
built_is_in_time timely_law never g over n checked sizes built =
    let is : IsInTime (plain g) over =
    timely_law g over checked sizes (record { image = n.image; shaped = built.shaped; each = λ k x at. (x.bound, (built.bounds k x at).solves) }) in
    record { is = is; never = λ not. never (plain g) over is not }
