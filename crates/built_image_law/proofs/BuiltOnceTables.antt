-- The table of a program is one.
use Rattle.std.proofs.Common.{◌≡◌, ◌<◌, ◌-◌, ℕ, List, [], ◌∷◌, length, Option, Some, map, arith, refl, ap, sym, ◌∙◌}
use Rattle.std.specs.Prelude.{slice_get}
use Rattle.std.proofs.lemmas.Option.{slice_get_within}
use Rattle.base.proofs.Lists.{some_at, same_elements}
use Rattle.machine_semantics.specs.Image.{Image, Process}
use Rattle.valid_image.specs.Tasks.{tasks_of}
use Rattle.sched_table.specs.declared.table.Row.{Row}
use Rattle.built_image.specs.Filled.{without_bound, without_bounds}
use Rattle.built_image.specs.Shown.{row_of, rows_of, table_of, AreLeast}
use Rattle.built_image_law.proofs.Tasks.{least_is_kept}
use Rattle.built_image_law.specs.FilledLaws.{ShapesAgree}
use Rattle.built_image_law.specs.Once.{TablesAreOne}
use Rattle.built_image_law.proofs.Bounds.{one_bound_or_none}

-- the least bounds of an image are one
least_are_one : (m : Image) (bs cs : List (Option ℕ)) → AreLeast m bs → AreLeast m cs → bs ≡ cs
least_are_one m bs cs one two = same_elements bs cs (one.one_each ∙ sym two.one_each) each_is_one where
  each_is_one : (k : ℕ) (b c : Option ℕ) → slice_get bs k ≡ Some b → slice_get cs k ≡ Some c → b ≡ c
  each_is_one k b c at there =
      let low : k < length bs = slice_get_within bs k b at in
      let p = some_at m.processes k (omega (arith, low, one.one_each)) in
      one_bound_or_none (tasks_of m) (p.0.rank - 1) b c (one.each k p.0 b p.1 at) (two.each k p.0 c p.1 there)

-- the bounds that an image declares do not stand in its table
rows_same : (ps : List Process) (bs : List (Option ℕ)) → rows_of (map without_bound ps) bs ≡ rows_of ps bs
rows_same [] bs = refl
rows_same (p ∷ ps) [] = refl
rows_same (p ∷ ps) (b ∷ bs) = ap (λ (rows : List Row). row_of p b ∷ rows) (rows_same ps bs)

table_same : (m : Image) (bs : List (Option ℕ)) → table_of (without_bounds m) bs ≡ table_of m bs
table_same m bs = ap (λ (rows : List Row). record (table_of m bs) { rows = rows }) (rows_same m.processes bs)

tables_agree : (m n : Image) → without_bounds m ≡ without_bounds n → (bs : List (Option ℕ)) → table_of m bs ≡ table_of n bs
tables_agree m n same bs = sym (table_same m bs) ∙ (ap (λ (i : Image). table_of i bs) same ∙ table_same n bs)

pub tables_are_one : ShapesAgree → TablesAreOne
tables_are_one shapes g over t u one two =
    let same : without_bounds one.image ≡ without_bounds two.image = shapes g over two.image one.image two.shaped one.shaped in
    let bounds : one.bounds ≡ two.bounds = least_are_one one.image one.bounds two.bounds one.least (least_is_kept one.image two.image two.bounds same two.least) in
    one.is ∙ (tables_agree one.image two.image same one.bounds ∙ (ap (λ (bs : List (Option ℕ)). table_of two.image bs) bounds ∙ sym two.is))
