-- The image of a program, all but its bounds: its processes, their names and their ranks.
use Rattle.std.specs.Prelude.{◌≡◌, ◌≤◌, ◌<◌, ◌+◌, ◌-◌, ℕ, suc, List, [], ◌∷◌, All, None, Some, length, map, slice_get, slice_index, slice_index_or}
use Rattle.std.proofs.Common.{refl, sym, ap, ◌∙◌, arith}
use Rattle.std.proofs.lemmas.List.{length-map}
use Rattle.std.proofs.lemmas.Option.{get_or_from_slice_get, slice_get_within}
use Rattle.base.proofs.Lists.{all_of, map_get, some_at}
use Rattle.syntax_tree.specs.declared.place.Place.{Place}
use Rattle.syntax_tree.specs.Placed.{Prog, plain}
use Rattle.syntax_tree.specs.Plain as tree
use Rattle.source_semantics.specs.Names.{processes}
use Rattle.source_semantics.specs.Ranks.{numbers_from, rank}
use Rattle.image.specs.declared.names.ImageNames.{ImageNames}
use Rattle.image.specs.declared.raw.RawImage.{RawImage}
use Rattle.image.specs.Raw.{image_of, process_of}
use Rattle.valid_image.specs.Tasks.{tasks_of}
use Rattle.valid_image.specs.Times.{rank_fault}
use Rattle.code_measures.proofs.Valid.{no_rank_fault}
use Rattle.built_image_law.specs.Ready.{CheckedProgramsAreReady}
use Rattle.built_image_law.specs.Small.{GeneratedCodeIsCode}
use Rattle.static_semantics.specs.Static.{IsChecked}
use Rattle.sched_response.specs.Demand.{AreTasks}
use Rattle.sched_program.proofs.Levels.{rank_low, rank_high}
use Rattle.sched_program.specs.Levels.{order}
use Rattle.loader.proofs.InOrder.{are_tasks, tasks_long}
use Rattle.built_tasks_law.specs.Tasks.{RanksAreOfTheText}
use Rattle.compile.specs.Steps.{IsRanked}
use Rattle.analysis_command.specs.Graphs.{IsImageOfText}

-- ---- numbers from the first on

listed : (f : ℕ → ℕ) (k : ℕ) (xs : List ℕ) → ((j : ℕ) → j < length xs → slice_index xs j ≡ f (k + j)) → xs ≡ map f (numbers_from (length xs) k)
listed f k [] each = refl
listed f k (x ∷ xs) each =
    let same : k + 0 ≡ k = omega arith in
    let here : x ≡ f k = each 0 (omega arith) ∙ ap f same in
    let later : (j : ℕ) → j < length xs → slice_index xs j ≡ f (suc k + j) = λ j less. let on : k + suc j ≡ suc k + j = omega arith in each (suc j) (omega (arith, less)) ∙ ap f on in
    ap (λ y. y ∷ xs) here ∙ ap (λ ys. f k ∷ ys) (listed f (suc k) xs later)

pub image_of_text : CheckedProgramsAreReady → GeneratedCodeIsCode → (g : Prog Place) (over : ℕ) (raw : RawImage) → IsChecked g → IsRanked g over raw → IsImageOfText (plain g) (image_of raw)
image_of_text ready code g over raw checked is =
    let r = ready g checked in
    record { form = r.formed; names = r.apart; code = code g (image_of raw) checked is.fits is.shaped.code; declares = is.shaped.declares; ranks = is.shaped.ranks }

module _ (g : Prog Place) (over : ℕ) (raw : RawImage) (is : IsRanked g over raw) where
  pub none : rank_fault (image_of raw) ≡ None
  none = no_rank_fault (image_of raw) is.shaped.ranks

  pub sound : AreTasks (tasks_of (image_of raw))
  sound = are_tasks (image_of raw) is.limits none

  pub many : length (image_of raw).processes ≡ length raw.processes
  many = length-map raw.processes process_of

  pub as_long : length (tasks_of (image_of raw)) ≡ length raw.processes
  as_long = tasks_long (image_of raw) 0 (length (image_of raw).processes) ∙ many

  pub few : length raw.processes ≤ 64
  few = (let s = sound.few in omega (arith, s, as_long))

  pub names_many : length raw.names.processes ≡ length (processes (plain g))
  names_many = ap (λ (n : ImageNames). length n.processes) is.names ∙ length-map (processes (plain g)) (λ (p : tree.Process). p.name)

  pub name_is : (k : ℕ) (p : tree.Process) → slice_get (processes (plain g)) k ≡ Some p → slice_index_or raw.names.processes k [] ≡ p.name
  name_is k p at = ap (λ (n : ImageNames). slice_index_or n.processes k []) is.names
      ∙ get_or_from_slice_get (map (λ (q : tree.Process). q.name) (processes (plain g))) k p.name [] (map_get (λ (q : tree.Process). q.name) (processes (plain g)) k p at)

  module _ (ranks : RanksAreOfTheText) (checked : IsChecked g) (all : length raw.processes ≡ length (processes (plain g))) where
    pub level_is : (k : ℕ) → k < length raw.processes → slice_index (map (λ p. (process_of p).rank - 1) raw.processes) k ≡ rank (plain g) k - 1
    level_is k low =
        let p = some_at raw.processes k low in
        let there : slice_get (image_of raw).processes k ≡ Some (process_of p.0) = map_get process_of raw.processes k p.0 p.1 in
        get_or_from_slice_get (map (λ q. (process_of q).rank - 1) raw.processes) k ((process_of p.0).rank - 1) 0 (map_get (λ q. (process_of q).rank - 1) raw.processes k p.0 p.1)
        ∙ ap (λ n. n - 1) (ranks g over (image_of raw) checked is.fits is.shaped k (process_of p.0) there)

    pub in_order : map (λ p. (process_of p).rank - 1) raw.processes ≡ order (plain g)
    in_order =
        let long : length (map (λ p. (process_of p).rank - 1) raw.processes) ≡ length raw.processes = length-map raw.processes (λ p. (process_of p).rank - 1) in
        listed (λ k. rank (plain g) k - 1) 0 (map (λ p. (process_of p).rank - 1) raw.processes)
        (λ j low. level_is j (omega (arith, low, long)) ∙ (let z : j ≡ 0 + j = omega arith in ap (λ k. rank (plain g) k - 1) z))
        ∙ ap (λ n. map (λ k. rank (plain g) k - 1) (numbers_from n 0)) (long ∙ all)

    pub levels_there : All (λ level. level < length raw.processes) (map (λ p. (process_of p).rank - 1) raw.processes)
    levels_there = all_of (λ level. level < length raw.processes) (map (λ p. (process_of p).rank - 1) raw.processes) each where
      each : (k level : ℕ) → slice_get (map (λ p. (process_of p).rank - 1) raw.processes) k ≡ Some level → level < length raw.processes
      each k level at =
          let long : length (map (λ p. (process_of p).rank - 1) raw.processes) ≡ length raw.processes = length-map raw.processes (λ p. (process_of p).rank - 1) in
          let low : k < length raw.processes = (let w = slice_get_within (map (λ p. (process_of p).rank - 1) raw.processes) k level at in omega (arith, w, long)) in
          let value : level ≡ rank (plain g) k - 1 = sym (get_or_from_slice_get (map (λ p. (process_of p).rank - 1) raw.processes) k level 0 at) ∙ level_is k low in
          (let l = rank_low (plain g) k in let h = rank_high (plain g) k (omega (arith, low, all)) in omega (arith, l, h, value, all))
