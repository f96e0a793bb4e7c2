-- The tasks of a program are one.
use Rattle.std.proofs.Common.{◌≡◌, ◌≤◌, ◌<◌, ◌-◌, inl, inr, ℕ, List, Some, length, arith, ap, sym, subst, ◌∙◌}
use Rattle.std.specs.Prelude.{slice_get}
use Rattle.std.proofs.lemmas.Option.{slice_get_within, get_or_from_slice_get}
use Rattle.base.proofs.Lists.{some_at, same_elements}
use Rattle.syntax_tree.specs.Plain.{Process, Program}
use Rattle.source_semantics.specs.Names.{processes}
use Rattle.source_semantics.specs.Ranks.{rank}
use Rattle.sched_response.specs.declared.tasks.Task.{Task}
use Rattle.sched_response.specs.Demand.{task_at, Solves}
use Rattle.sched_response.specs.Ranked.{IsGreatest}
use Rattle.sched_program.specs.Tasks.{IsTaskOf, AreTasksOf}
use Rattle.sched_program.specs.Once.{TasksAreOne, NeverInTimeAndNot}
use Rattle.sched_program.proofs.Levels.{had}

-- ---- the greatest number is one

no_more : (P : ℕ → Type 0) (a b : ℕ) → IsGreatest P a → IsGreatest P b → a ≤ b
no_more P a b x y = elim x.one [ inl none ↦ omega (arith, none) | inr some ↦ y.most a some ]

pub greatest_once : (P : ℕ → Type 0) (a b : ℕ) → IsGreatest P a → IsGreatest P b → a ≡ b
greatest_once P a b x y = let up = no_more P a b x y in let down = no_more P b a y x in omega (arith, up, down)

-- ---- tasks

same_task : (t u : Task) → t.frame ≡ u.frame → t.deadline ≡ u.deadline → t.run ≡ u.run → t.susp ≡ u.susp → t.waits ≡ u.waits → t.block ≡ u.block → t ≡ u
same_task t u frame deadline run susp waits block = λ i. record { frame = frame i; deadline = deadline i; run = run i; susp = susp i; waits = waits i; block = block i }

module _ (g : Program) (over : ℕ) where
  pub task_once : (k : ℕ) (p : Process) (t u : Task) → IsTaskOf g over k p t → IsTaskOf g over k p u → t ≡ u
  task_once k p t u x y =
      same_task t u (x.frame ∙ sym y.frame) (x.deadline ∙ sym y.deadline) (x.run ∙ sym y.run) (x.susp ∙ sym y.susp) (x.waits ∙ sym y.waits)
      (greatest_once _ t.block u.block x.block y.block)

  tasks_once : (ts us : List Task) → AreTasksOf g over ts → AreTasksOf g over us → ts ≡ us
  tasks_once ts us a b = same_elements ts us (a.one_each ∙ sym b.one_each) (λ level t u at there. one level t u at there (had g level (omega (arith, slice_get_within ts level t at, a.one_each)))) where
    one : (level : ℕ) (t u : Task) → slice_get ts level ≡ Some t → slice_get us level ≡ Some u → (k : ℕ) × (k < length (processes g)) × (rank g k - 1 ≡ level) → t ≡ u
    one level t u at there h =
        let p = some_at (processes g) h.0 h.1 in
        let first : task_at ts (rank g h.0 - 1) ≡ t = ap (λ n. task_at ts n) h.2 ∙ get_or_from_slice_get ts level t _ at in
        let second : task_at us (rank g h.0 - 1) ≡ u = ap (λ n. task_at us n) h.2 ∙ get_or_from_slice_get us level u _ there in
        sym first ∙ (task_once h.0 p.0 (task_at ts (rank g h.0 - 1)) (task_at us (rank g h.0 - 1)) (a.each h.0 p.0 p.1) (b.each h.0 p.0 p.1) ∙ second)

pub tasks_are_one : TasksAreOne
tasks_are_one g over ts us a b = tasks_once g over ts us a b

pub never_in_time_and_not : TasksAreOne → NeverInTimeAndNot
never_in_time_and_not one g over is not =
    let same : is.tasks ≡ not.tasks = one g over is.tasks not.tasks is.are not.are in
    let r = is.each not.level (omega (arith, not.there, ap (λ (ts : List Task). length ts) same)) in
    not.unsolved r.0 (subst (λ (ts : List Task). Solves ts not.level r.0) same r.1)
