-- The tasks of an image are those of the text.
use Rattle.std.specs.Prelude.{◌≡◌, ◌≤◌, ◌<◌, ◌+◌, ◌-◌, ℕ, zero, suc, Some, None, length, slice_get}
use Rattle.std.proofs.Common.{refl, sym, ap, subst, ◌∙◌, arith}
use Rattle.std.proofs.lemmas.Option.{slice_get_within}
use Rattle.base.proofs.Lists.{some_at}
use Rattle.base.specs.Capped.{cap}
use Rattle.syntax_tree.specs.Placed.{plain}
use Rattle.syntax_tree.specs.Plain.{Process, Program}
use Rattle.source_semantics.specs.Names.{processes}
use Rattle.source_semantics.specs.Ranks.{rank}
use Rattle.machine_semantics.specs.Image as image
use Rattle.sched_response.specs.declared.tasks.Task.{Task}
use Rattle.sched_response.specs.Demand.{task_at}
use Rattle.valid_image.specs.Tasks.{process_at, task_of, tasks_from, tasks_of}
use Rattle.valid_image.specs.Times.{needed_block, rank_fault}
use Rattle.valid_image_law.proofs.Ranking.{ranked, one_each}
use Rattle.valid_image_law.proofs.Timing.{search}
use Rattle.sched_timing.proofs.Ranks.{tasks_at}
use Rattle.code_spec.specs.Compiled.{IsCodeOf}
use Rattle.code_cost_spec.specs.Levels.{cost_of_process}
use Rattle.code_measures.specs.Declared.{Declares}
use Rattle.code_measures.specs.Whole.{HasRanks}
use Rattle.code_measures.proofs.Valid.{no_rank_fault}
use Rattle.codegen_law.proofs.Rows.{process_of}
use Rattle.static_semantics.specs.WellFormed.{IsWellFormed}
use Rattle.built_image_law.specs.Ready.{CheckedProgramsAreReady}
use Rattle.built_image_law.specs.Small.{GeneratedCodeIsCode}
use Rattle.sched_program.specs.Tasks.{with_dispatches, IsBlock, IsTaskOf}
use Rattle.sched_program.proofs.Levels.{rank_high}
use Rattle.built_tasks_law.specs.Ranks.{RanksAreOfTheMeaning}
use Rattle.built_tasks_law.proofs.Whole.{as_many_processes}
use Rattle.built_tasks_law.specs.Tasks.{BlocksAreOfTheText, RanksAreOfTheText, TasksAreOfTheText}

pub tasks_long : (m : image.Image) (j n : ℕ) → length (tasks_from m j n) ≡ n
tasks_long m j zero = refl
tasks_long m j (suc n) = ap (λ k. suc k) (tasks_long m (suc j) n)

-- at the level of its rank a process has its own task
own_task : (m : image.Image) → HasRanks m → (k : ℕ) (x : image.Process) → slice_get m.processes k ≡ Some x → task_at (tasks_of m) (x.rank - 1) ≡ task_of (Some x)
own_task m has k x at =
    let none : rank_fault m ≡ None = no_rank_fault m has in
    let r = ranked m none k x at in
    let rank : suc (x.rank - 1) ≡ x.rank = omega (arith, r.0) in
    let place : process_at m (x.rank - 1) ≡ 0 + k = search (suc (x.rank - 1)) 0 k m.processes x at (sym rank) (λ l q there of. one_each m none l k q x there at (of ∙ rank)) in
    let z : 0 + (x.rank - 1) ≡ x.rank - 1 = omega arith in
    let y : 0 + k ≡ k = omega arith in
    let here : process_at m (0 + (x.rank - 1)) ≡ k = ap (λ n. process_at m n) z ∙ (place ∙ y) in
    tasks_at m 0 (length m.processes) (x.rank - 1) _ (omega (arith, r.0, r.1)) ∙ ap (λ o. task_of o) (ap (λ n. slice_get m.processes n) here ∙ at)

-- ---- the image of a program

pub record IsOfText (g : Program) (over : ℕ) (m : image.Image) : Type 0 where
  pub overhead : m.over ≡ over
  pub form : IsWellFormed g
  pub code : IsCodeOf g m
  pub declares : Declares g m
  pub ranks : HasRanks m
  pub rank_is : (k : ℕ) (x : image.Process) → slice_get m.processes k ≡ Some x → x.rank ≡ rank g k
  pub block_is : (held : ℕ) → held < 65535 → IsBlock g held (needed_block m held)

module _ (g : Program) (over : ℕ) (m : image.Image) (of : IsOfText g over m) where
  pub many : length m.processes ≡ length (processes g)
  many = as_many_processes g m.code 0 of.code.between (length m.code) (processes g) m.processes of.code.process_code

  pub as_long : length (tasks_of m) ≡ length (processes g)
  as_long = tasks_long m 0 (length m.processes) ∙ many

  own : (k : ℕ) (p : Process) (x : image.Process) → slice_get (processes g) k ≡ Some p → slice_get m.processes k ≡ Some x → IsTaskOf g over k p (task_of (Some x))
  own k p x at there =
      let e = process_of g m.code 0 of.code.between (length m.code) (processes g) m.processes k p x of.code.process_code at there in
      let d = of.declares.bodies k p x at there in
      let low : rank g k < 65535 = (let high = rank_high g k (slice_get_within (processes g) k p at) in let few : length (processes g) ≤ 64 = of.form.counts_fit.few_processes in omega (arith, high, few)) in
      record {
        frame = e.2.frame;
        deadline = e.2.deadline;
        run = d.run ∙ ap (λ n. cap (with_dispatches n (cost_of_process g k p))) of.overhead;
        susp = d.susp;
        waits = d.waits;
        block = subst (λ (n : ℕ). IsBlock g (rank g k) n) (sym (of.ranks.blocks k x there ∙ ap (λ n. needed_block m n) (of.rank_is k x there))) (of.block_is (rank g k) low);
      }

  pub each : (k : ℕ) (p : Process) → slice_get (processes g) k ≡ Some p → IsTaskOf g over k p (task_at (tasks_of m) (rank g k - 1))
  each k p at =
      let x = some_at m.processes k (omega (arith, many, slice_get_within (processes g) k p at)) in
      let place : task_of (Some x.0) ≡ task_at (tasks_of m) (rank g k - 1) = sym (ap (λ n. task_at (tasks_of m) (n - 1)) (sym (of.rank_is k x.0 x.1)) ∙ own_task m of.ranks k x.0 x.1) in
      subst (λ (t : Task). IsTaskOf g over k p t) place (own k p x.0 at x.1)

pub ranks_are : GeneratedCodeIsCode → RanksAreOfTheMeaning → RanksAreOfTheText
ranks_are code ranks g over m checked sizes shaped k x at = shaped.ranks.ranks k x at ∙ ranks (plain g) m (code g m checked sizes shaped.code) k

pub tasks_are : CheckedProgramsAreReady → GeneratedCodeIsCode → RanksAreOfTheText → BlocksAreOfTheText → TasksAreOfTheText
tasks_are ready code ranks blocks g over m checked sizes shaped =
    let r = ready g checked in
    let is : IsCodeOf (plain g) m = code g m checked sizes shaped.code in
    let of : IsOfText (plain g) over m = record {
      overhead = shaped.overhead;
      form = r.formed;
      code = is;
      declares = shaped.declares;
      ranks = shaped.ranks;
      rank_is = ranks g over m checked sizes shaped;
      block_is = λ held low. blocks (plain g) m held r.formed r.apart is shaped.declares shaped.ranks low;
    } in
    record { one_each = as_long (plain g) over m of; each = λ k p at. each (plain g) over m of k p at }
