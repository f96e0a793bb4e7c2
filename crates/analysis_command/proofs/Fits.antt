-- What fits of the tasks of the image fits the program.
use Rattle.std.specs.Prelude.{◌≡◌, ◌<◌, ◌-◌, ℕ, List, Some, length, map, slice_get, slice_index}
use Rattle.std.proofs.Common.{sym, subst, ◌∙◌, arith}
use Rattle.std.proofs.lemmas.Option.{slice_get_within}
use Rattle.syntax_tree.specs.declared.place.Place.{Place}
use Rattle.syntax_tree.specs.Placed.{Prog, plain}
use Rattle.syntax_tree.specs.Plain.{Process}
use Rattle.source_semantics.specs.Names.{processes}
use Rattle.source_semantics.specs.Ranks.{rank}
use Rattle.image.specs.declared.raw.RawImage.{RawImage}
use Rattle.image.specs.Raw.{image_of, process_of}
use Rattle.valid_image.specs.Tasks.{tasks_of}
use Rattle.static_semantics.specs.Static.{IsChecked}
use Rattle.sched_sensitivity.specs.Overhead.{with_overhead}
use Rattle.sched_sensitivity.specs.declared.rows.ProcessFit.{ProcessFit}
use Rattle.sched_sensitivity.specs.Rows.{IsFitOf}
use Rattle.sched_program.specs.Tasks.{AreTasksOf}
use Rattle.sched_program.specs.Once.{TasksAreOne}
use Rattle.sched_program.specs.Fits.{IsFitText}
use Rattle.sched_program.specs.WhyLaw.{OverheadsAreAdded, OverheadsThatFitAreOfTheText}
use Rattle.built_tasks_law.specs.Tasks.{RanksAreOfTheText, TasksAreOfTheText}
use Rattle.compile.specs.Steps.{IsRanked}
use Rattle.analysis_command.specs.Fitted.{CanFit, IsFitOfImage}
use Rattle.analysis_command.proofs.Shape as shape

pub fit_is : TasksAreOfTheText → RanksAreOfTheText → TasksAreOne → OverheadsAreAdded → OverheadsThatFitAreOfTheText → (g : Prog Place) (over : ℕ) (raw : RawImage) → IsChecked g → IsRanked g 0 raw
    → (text : List ℕ) → IsFitOfImage raw over text → IsFitText (plain g) over text
fit_is tasks_law ranks one added fitting g over raw checked is text f = record {
  greatest = f.greatest;
  is_greatest = fitting (plain g) (tasks_of (image_of raw)) f.greatest (λ k xs ys a b. one (plain g) k xs ys a b) are f.fit;
  tasks = with_overhead (tasks_of (image_of raw)) over;
  are = added (plain g) over (tasks_of (image_of raw)) are;
  rows = f.rows;
  one_each = f.are.one_each ∙ shape.names_many g 0 raw is;
  each = each;
  is = f.is;
} where
  are : AreTasksOf (plain g) 0 (tasks_of (image_of raw))
  are = tasks_law g 0 (image_of raw) checked is.fits is.shaped

  all : length raw.processes ≡ length (processes (plain g))
  all = sym (shape.as_long g 0 raw is) ∙ are.one_each

  each : (k : ℕ) (p : Process) (row : ProcessFit) → slice_get (processes (plain g)) k ≡ Some p → slice_get f.rows k ≡ Some row → IsFitOf (with_overhead (tasks_of (image_of raw)) over) (rank (plain g) k - 1) p.name row
  each k p row at there =
      let low : k < length raw.processes = (let w = slice_get_within (processes (plain g)) k p at in omega (arith, w, all)) in
      let level : slice_index (map (λ q. (process_of q).rank - 1) raw.processes) k ≡ rank (plain g) k - 1 = shape.level_is g 0 raw is ranks checked all k low in
      subst (λ (n : ℕ). IsFitOf (with_overhead (tasks_of (image_of raw)) over) n p.name row) level
      (subst (λ (n : List ℕ). IsFitOf (with_overhead (tasks_of (image_of raw)) over) (slice_index (map (λ q. (process_of q).rank - 1) raw.processes) k) n row) (shape.name_is g 0 raw is k p at) (f.are.each k row there))

-- the image without an overhead has what is asked
pub can_fit : TasksAreOfTheText → (g : Prog Place) (raw : RawImage) → IsChecked g → IsRanked g 0 raw → CanFit raw
can_fit tasks_law g raw checked is =
    let are : AreTasksOf (plain g) 0 (tasks_of (image_of raw)) = tasks_law g 0 (image_of raw) checked is.fits is.shaped in
    record { limits = is.limits; ranks = is.shaped.ranks; named = shape.names_many g 0 raw is ∙ (sym are.one_each ∙ shape.as_long g 0 raw is) }
