-- Levels that are read from the image are those of the program.
use Rattle.std.specs.Prelude.{◌≡◌, ◌≤◌, ◌<◌, ◌+◌, ◌-◌, ◌↔◌, ℕ, suc, Bool, true, false, List, [], ◌∷◌, Option, Some, None, All, IfNone, IfSome, IsSome, length, slice_get, unwrap_or}
use Rattle.std.proofs.Common.{refl, sym, ap, subst, ◌∙◌, arith, get_or}
use Rattle.std.proofs.lemmas.List.Elements.{All-cons, All-nil, All-get_or}
use Rattle.std.proofs.lemmas.Bool.{false≢true}
use Rattle.std.proofs.lemmas.Option.{get_or_from_slice_get, slice_get_within}
use Rattle.base.proofs.Lists.{all_of, same_elements}
use Rattle.syntax_tree.specs.declared.place.Place.{Place}
use Rattle.syntax_tree.specs.Placed.{Prog, plain}
use Rattle.syntax_tree.specs.Plain.{Process}
use Rattle.source_semantics.specs.Names.{processes}
use Rattle.source_semantics.specs.Ranks.{rank}
use Rattle.image.specs.declared.raw.RawImage.{RawImage}
use Rattle.image.specs.Raw.{image_of}
use Rattle.valid_image.specs.Tasks.{process_at, tasks_of}
use Rattle.sched_response.specs.declared.tasks.Task.{Task}
use Rattle.sched_response.specs.Demand.{task_at, AreTasks, IsBound, IsTask, Solves}
use Rattle.sched_table.specs.Table.{IsBoundAt}
use Rattle.sched_sections.specs.declared.levels.Level.{Level}
use Rattle.sched_sections.specs.Levels.{level_at, shown_at, tasks_in}
use Rattle.sched_sections.specs.Sections.{bounds_text}
use Rattle.sched_sections.proofs.Tasks as sections
use Rattle.sched_program.specs.Tasks.{AreTasksOf}
use Rattle.sched_program.proofs.Levels.{rank_low, rank_high}
use Rattle.sched_program.specs.Blockers.{IsBlockerOf}
use Rattle.sched_program.specs.Levels.{order, IsLevelOf, IsWhyText}
use Rattle.compile.specs.Steps.{IsRanked}
use Rattle.analysis_command.specs.Analysed.{AreLevels}
use Rattle.analysis_command.specs.Told.{IsJudged}
use Rattle.analysis_command.proofs.Shape as shape

-- ---- bounds that are there or not

record Unbounded (ls : List Level) : Type 0 where
  at : ℕ
  low : at < length ls
  none : (level_at ls at).bound ≡ None

later : (l : Level) (ls : List Level) → Unbounded ls → Unbounded (l ∷ ls)
later l ls u = record { at = suc u.at; low = omega (arith, u.low); none = u.none }

unbounded : (ls : List Level) → (All (λ l. IsSome l.bound) ls → ⊥) → Unbounded ls
unbounded [] not = absurd (not (All-nil (λ l. IsSome l.bound)))
unbounded (l ∷ ls) not = by l.bound refl (λ more. unbounded ls more) where
  by : (o : Option ℕ) → l.bound ≡ o → ((All (λ l. IsSome l.bound) ls → ⊥) → Unbounded ls) → Unbounded (l ∷ ls)
  by None e rest = record { at = 0; low = omega arith; none = e }
  by (Some r) e rest = later l ls (rest (λ every. not (All-cons (λ l. IsSome l.bound) l ls (subst (λ (o : Option ℕ). IsSome o) (sym e) refl) every)))

some_of_bound : (o : Option ℕ) → IsSome o → (r : ℕ) × (o ≡ Some r)
some_of_bound None h = absurd (false≢true h)
some_of_bound (Some r) h = (r, refl)

-- the bound that is found, or none
pub bound_is : (ts : List Task) (level : ℕ) (o : Option ℕ) → IfSome o (IsBound ts level) → IfNone o ((r : ℕ) → ¬ Solves ts level r) → IsBoundAt ts level o
bound_is ts level None some none = none
bound_is ts level (Some r) some none = some

module _ (g : Prog Place) (over : ℕ) (raw : RawImage) (is : IsRanked g over raw) (ls : List Level) (are : AreLevels g raw ls) where
  pub tasks_same : tasks_in ls ≡ tasks_of (image_of raw)
  tasks_same = same_elements (tasks_in ls) (tasks_of (image_of raw)) (omega (arith, sections.many ls, are.one_each, shape.as_long g over raw is)) each where
    each : (k : ℕ) (x y : Task) → slice_get (tasks_in ls) k ≡ Some x → slice_get (tasks_of (image_of raw)) k ≡ Some y → x ≡ y
    each k x y at there =
        let low : k < length raw.processes = (let w = slice_get_within (tasks_of (image_of raw)) k y there in omega (arith, w, shape.as_long g over raw is)) in
        sym (get_or_from_slice_get (tasks_in ls) k x _ at)
        ∙ (sym (sections.task_of ls k _ (omega (arith, low, are.one_each))) ∙ ((are.each k low).task ∙ get_or_from_slice_get (tasks_of (image_of raw)) k y _ there))

  pub are_tasks : AreTasks (tasks_in ls)
  are_tasks = subst (λ (ts : List Task). AreTasks ts) (sym tasks_same) (shape.sound g over raw is)

  -- a bound is within the deadline, and no deadline is longer than 1,000,000,000 ticks
  pub shown_low : All (λ l. shown_at l ≤ 1000000000) ls
  shown_low = all_of (λ l. shown_at l ≤ 1000000000) ls each where
    shown : (level : ℕ) (t : Task) (o : Option ℕ) → level < length (tasks_of (image_of raw)) → t ≡ task_at (tasks_of (image_of raw)) level → IsBoundAt (tasks_of (image_of raw)) level o → unwrap_or o t.deadline ≤ 1000000000
    shown level t None low same bound =
        let task : IsTask (task_at (tasks_of (image_of raw)) level) = All-get_or IsTask (tasks_of (image_of raw)) level _ low (shape.sound g over raw is).each in
        omega (arith, task.deadline_high, task.frame_high, ap (λ (x : Task). x.deadline) same)
    shown level t (Some r) low same bound =
        let task : IsTask (task_at (tasks_of (image_of raw)) level) = All-get_or IsTask (tasks_of (image_of raw)) level _ low (shape.sound g over raw is).each in
        omega (arith, task.deadline_high, task.frame_high, bound.solves.within)

    each : (k : ℕ) (l : Level) → slice_get ls k ≡ Some l → shown_at l ≤ 1000000000
    each k l at =
        let low : k < length raw.processes = (let w = slice_get_within ls k l at in omega (arith, w, are.one_each)) in
        let one = are.each k low in
        subst (λ (x : Level). shown_at x ≤ 1000000000) (get_or_from_slice_get ls k l _ at)
        (shown k (level_at ls k).task (level_at ls k).bound (omega (arith, low, shape.as_long g over raw is)) one.task one.bound)

  module _ (all : length raw.processes ≡ length (processes (plain g))) (at_level : (k : ℕ) → k < length raw.processes → process_at (image_of raw) (rank (plain g) k - 1) ≡ k) (tasks : AreTasksOf (plain g) over (tasks_of (image_of raw))) where
    level_of : (k : ℕ) (p : Process) → slice_get (processes (plain g)) k ≡ Some p → IsLevelOf (plain g) (tasks_in ls) k p (level_at ls (rank (plain g) k - 1))
    level_of k p at =
        let low : k < length raw.processes = (let w = slice_get_within (processes (plain g)) k p at in omega (arith, w, all)) in
        let below : rank (plain g) k - 1 < length raw.processes = (let r = rank_low (plain g) k in let h = rank_high (plain g) k (omega (arith, low, all)) in omega (arith, r, h, all)) in
        let one = are.each (rank (plain g) k - 1) below in
        let up : rank (plain g) k - 1 + 1 ≡ rank (plain g) k = (let r = rank_low (plain g) k in omega (arith, r)) in
        record {
          name = one.name ∙ (ap (λ n. get_or raw.names.processes n []) (at_level k low) ∙ shape.name_is g over raw is k p at);
          bound = subst (λ (ts : List Task). IsBoundAt ts (rank (plain g) k - 1) (level_at ls (rank (plain g) k - 1)).bound) (sym tasks_same) one.bound;
          blocker = subst (λ (n : ℕ). IsBlockerOf (plain g) n (level_at ls (rank (plain g) k - 1)).task.block (level_at ls (rank (plain g) k - 1)).blocker) up one.blocker;
        }

    pub why_is : (text os : List ℕ) → os ≡ order (plain g) → text ≡ bounds_text ls os → IsWhyText (plain g) over text
    why_is text os ordered told = record {
      levels = ls;
      are = record { tasks = subst (λ (ts : List Task). AreTasksOf (plain g) over ts) (sym tasks_same) tasks; each = level_of };
      is = told ∙ ap (λ ns. bounds_text ls ns) ordered;
    }

    pub judged : (in_time : Bool) → (in_time ≡ true) ↔ All (λ l. IsSome l.bound) ls → IsJudged (plain g) over in_time
    judged true is_all = record {
      tasks = tasks_of (image_of raw);
      are = tasks;
      each = λ level low. (
          let below : level < length raw.processes = omega (arith, low, shape.as_long g over raw is) in
          let some = some_of_bound (level_at ls level).bound (All-get_or (λ l. IsSome l.bound) ls level _ (omega (arith, below, are.one_each)) (is_all.0 refl)) in
          let least = subst (λ (o : Option ℕ). IsBoundAt (tasks_of (image_of raw)) level o) some.1 (are.each level below).bound in
          (some.0, least.solves));
    }
    judged false is_all =
        let u = unbounded ls (λ every. let bad : false ≡ true = is_all.1 every in cc) in
        let below : u.at < length raw.processes = omega (arith, u.low, are.one_each) in
        record {
          tasks = tasks_of (image_of raw);
          are = tasks;
          level = u.at;
          there = omega (arith, below, shape.as_long g over raw is);
          unsolved = subst (λ (o : Option ℕ). IsBoundAt (tasks_of (image_of raw)) u.at o) u.none (are.each u.at below).bound;
        }
