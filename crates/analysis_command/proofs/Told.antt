-- The text that is told of an image is that of its program.
use Rattle.std.specs.Prelude.{◌≡◌, ◌<◌, ◌-◌, ◌↔◌, ℕ, Bool, List, All, IsSome, IsTrue, length, map}
use Rattle.std.proofs.Common.{sym, ap, subst, ◌∙◌, arith}
use Rattle.syntax_tree.specs.declared.place.Place.{Place}
use Rattle.syntax_tree.specs.Placed.{Prog, plain}
use Rattle.source_semantics.specs.Names.{processes}
use Rattle.image.specs.declared.raw.RawImage.{RawImage}
use Rattle.image.specs.Raw.{image_of, process_of}
use Rattle.valid_image.specs.Tasks.{tasks_of}
use Rattle.built_image_law.specs.Ready.{CheckedProgramsAreReady}
use Rattle.built_image_law.specs.Small.{GeneratedCodeIsCode}
use Rattle.built_tasks_law.specs.Ranks.{RanksAreOfTheMeaning}
use Rattle.static_semantics.specs.Static.{IsChecked}
use Rattle.sched_program.specs.Tasks.{AreTasksOf}
use Rattle.sched_sections.specs.declared.levels.Level.{Level}
use Rattle.sched_sections.specs.Sections.{bounds_text}
use Rattle.built_tasks_law.specs.Tasks.{RanksAreOfTheText, TasksAreOfTheText}
use Rattle.compile.specs.Steps.{IsRanked}
use Rattle.analysis_command.specs.Analysed.{AreLevels}
use Rattle.analysis_command.specs.Told.{IsWhyOf}
use Rattle.analysis_command.proofs.Apart as apart
use Rattle.analysis_command.proofs.Pieces as pieces
use Rattle.analysis_command.proofs.Shape as shape

-- the level of each process, in the order of the text
abbrev levels_of : RawImage → List ℕ
levels_of raw = map (λ p. (process_of p).rank - 1) raw.processes

module _ (ready : CheckedProgramsAreReady) (code : GeneratedCodeIsCode) (tasks : TasksAreOfTheText) (ranks : RanksAreOfTheText) (meaning : RanksAreOfTheMeaning)
    (g : Prog Place) (over : ℕ) (raw : RawImage) (checked : IsChecked g) (is : IsRanked g over raw) (ls : List Level) (are : AreLevels g raw ls) where
  own : AreTasksOf (plain g) over (tasks_of (image_of raw))
  own = tasks g over (image_of raw) checked is.fits is.shaped

  all : length raw.processes ≡ length (processes (plain g))
  all = sym (shape.as_long g over raw is) ∙ own.one_each

  -- each level that is shown is one of them
  pub order_low : (shown : List Level) (order : List ℕ) → shown ≡ ls → order ≡ levels_of raw → All (λ level. level < length shown) order
  order_low shown order shown_is order_is =
      let long : length raw.processes ≡ length shown = sym are.one_each ∙ ap (λ (xs : List Level). length xs) (sym shown_is) in
      subst (λ (os : List ℕ). All (λ level. level < length shown) os) (sym order_is)
      (subst (λ (n : ℕ). All (λ level. level < n) (levels_of raw)) long (shape.levels_there g over raw is ranks checked all))

  pub is_why : (shown judged : List Level) (order text : List ℕ) (in_time : Bool) → shown ≡ ls → order ≡ levels_of raw → judged ≡ ls → text ≡ bounds_text shown order
      → IsTrue in_time ↔ All (λ l. IsSome l.bound) judged → IsWhyOf (plain g) over (record { text = text; in_time = in_time })
  is_why shown judged order text in_time shown_is order_is judged_is told bounded =
      let at_level = pieces.at_level (plain g) (image_of raw) (shape.image_of_text ready code g over raw checked is) meaning in
      let many = shape.many g over raw is in
      record {
        text = apart.why_is g over raw is ls are all (λ k low. at_level k (omega (arith, low, many))) own text order (order_is ∙ shape.in_order g over raw is ranks checked all)
            (told ∙ ap (λ (xs : List Level). bounds_text xs order) shown_is);
        judged = apart.judged g over raw is ls are all (λ k low. at_level k (omega (arith, low, many))) own in_time
            (subst (λ (xs : List Level). IsTrue in_time ↔ All (λ l. IsSome l.bound) xs) judged_is bounded);
      }
