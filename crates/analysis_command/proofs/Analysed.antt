-- What a level is read from.
use Rattle.std.specs.Prelude.{◌≡◌, ◌<◌, ◌+◌, ◌-◌, ℕ, List, length, slice_get, slice_index}
use Rattle.std.proofs.Common.{sym, ap, subst, ◌∙◌, arith}
use Rattle.base.proofs.Lists.{some_at}
use Rattle.syntax_tree.specs.declared.place.Place.{Place}
use Rattle.syntax_tree.specs.Placed.{Prog, plain}
use Rattle.source_semantics.specs.Names.{processes}
use Rattle.source_semantics.specs.Ranks.{rank}
use Rattle.image.specs.declared.raw.RawImage.{RawImage}
use Rattle.image.specs.Raw.{image_of}
use Rattle.valid_image.specs.Tasks.{process_at, task_of, tasks_of}
use Rattle.sched_response.specs.declared.tasks.Task.{Task}
use Rattle.sched_response.specs.Demand.{task_at}
use Rattle.sched_timing.proofs.Ranks.{tasks_at}
use Rattle.sched_program.specs.Tasks.{IsBlock}
use Rattle.sched_program.proofs.Levels.{rank_low, had}
use Rattle.built_tasks_law.specs.Ranks.{RanksAreOfTheMeaning}
use Rattle.analysis_command.specs.declared.graph.CallGraph.{CallGraph}
use Rattle.analysis_command.proofs.Pieces as pieces
use Rattle.analysis_command.specs.Analysed.{IsAnalysed}
use Rattle.analysis_command.proofs.Shape as shape

module _ (ranks : RanksAreOfTheMeaning) (g : Prog Place) (raw : RawImage) (graph : CallGraph) (ts : List Task) (a : IsAnalysed g raw graph ts) where
  pub all : length raw.processes ≡ length (processes (plain g))
  all = sym (shape.many g raw.overhead raw a.ranked) ∙ pieces.many (plain g) (image_of raw) a.text ranks

  pub as_long : length ts ≡ length raw.processes
  as_long = ap (λ (xs : List Task). length xs) a.is ∙ shape.as_long g raw.overhead raw a.ranked

  -- the process of a level
  pub record Of (level : ℕ) : Type 0 where
    pub low : process_at (image_of raw) level < length raw.processes
    pub is_rank : rank (plain g) (process_at (image_of raw) level) ≡ level + 1

  pub process_of_level : (level : ℕ) → level < length raw.processes → Of level
  process_of_level level low =
      let k = had (plain g) level (omega (arith, low, all)) in
      let there : k.0 < length (image_of raw).processes = omega (arith, k.1, all, shape.many g raw.overhead raw a.ranked) in
      let here : process_at (image_of raw) level ≡ k.0 = ap (λ n. process_at (image_of raw) n) (sym k.2) ∙ pieces.at_level (plain g) (image_of raw) a.text ranks k.0 there in
      record {
        low = omega (arith, k.1, all, here);
        is_rank = ap (λ n. rank (plain g) n) here ∙ (let l = rank_low (plain g) k.0 in omega (arith, l, k.2));
      }

  pub ranked_there : (level : ℕ) → level < length ts → level < length graph.ranked.items
  ranked_there level low = omega (arith, low, as_long, a.calls.ranked.one_each, shape.many g raw.overhead raw a.ranked)

  pub ranked_is : (level : ℕ) → level < length ts → slice_index graph.ranked.items level ≡ process_at (image_of raw) level
  ranked_is level low = a.calls.ranked.each level (omega (arith, low, as_long, shape.many g raw.overhead raw a.ranked))

  pub name_there : (level : ℕ) → level < length ts → process_at (image_of raw) level < length raw.names.processes
  name_there level low = (let o = process_of_level level (omega (arith, low, as_long)) in omega (arith, o.low, all, shape.names_many g raw.overhead raw a.ranked))

  pub task_is : (level : ℕ) → level < length ts → task_at (tasks_of (image_of raw)) level ≡ task_of (slice_get (image_of raw).processes (process_at (image_of raw) level))
  task_is level low =
      tasks_at (image_of raw) 0 (length (image_of raw).processes) level _ (omega (arith, low, as_long, shape.many g raw.overhead raw a.ranked))
      ∙ (let z : 0 + level ≡ level = omega arith in ap (λ n. task_of (slice_get (image_of raw).processes (process_at (image_of raw) n))) z)

  pub block_is : (level : ℕ) → level < length ts → IsBlock (plain g) (level + 1) (task_at (tasks_of (image_of raw)) level).block
  block_is level low =
      let o = process_of_level level (omega (arith, low, as_long)) in
      let p = some_at (processes (plain g)) (process_at (image_of raw) level) (omega (arith, o.low, all)) in
      let of = a.are.each (process_at (image_of raw) level) p.0 p.1 in
      let at : rank (plain g) (process_at (image_of raw) level) - 1 ≡ level = omega (arith, o.is_rank) in
      subst (λ (n : ℕ). IsBlock (plain g) n (task_at (tasks_of (image_of raw)) level).block) o.is_rank
      (subst (λ (n : ℕ). IsBlock (plain g) (rank (plain g) (process_at (image_of raw) level)) (task_at (tasks_of (image_of raw)) n).block) at of.block)

  pub process_is : (level process : ℕ) (ps : List ℕ) → level < length ts → ps ≡ graph.ranked.items → process ≡ slice_index ps level → process ≡ process_at (image_of raw) level
  process_is level process ps low same is = is ∙ (ap (λ (xs : List ℕ). slice_index xs level) same ∙ ranked_is level low)

  pub own_task : (level process : ℕ) (t : Task) → level < length ts → process ≡ process_at (image_of raw) level → t ≡ task_of (slice_get (image_of raw).processes process) → t ≡ task_at (tasks_of (image_of raw)) level
  own_task level process t low at is = is ∙ (ap (λ (k : ℕ). task_of (slice_get (image_of raw).processes k)) at ∙ sym (task_is level low))
