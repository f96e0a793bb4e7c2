-- Each row of the table is that of its routine.
use Rattle.std.specs.Prelude.{◌≡◌, ◌<◌, ◌+◌, ◌++◌, ℕ, zero, suc, List, [], ◌∷◌, Some, length, take, slice_get}
use Rattle.std.proofs.Common.{refl, sym, ap, subst, ◌∙◌, arith}
use Rattle.base.proofs.Lists.{take_get}
use Rattle.syntax_tree.specs.Plain.{Program}
use Rattle.valid_image.specs.Tables.{table}
use Rattle.code_spec.specs.Numbering.{Text, numbered, number_of}
use Rattle.code_cost_spec.specs.Levels.{calls_of}
use Rattle.code_measures.specs.Declared.{IsBelow, IsSound}
use Rattle.code_measures.proofs.Firsts.{table_length, row_is}
use Rattle.code_measures.proofs.Maps.{map_routine}
use Rattle.code_cost.specs.declared.measure.RoutineMeasure.{RoutineMeasure}
use Rattle.code_cost.specs.Sums.{held, row_or}
use Rattle.code_cost.specs.Parts.{rows_from, rows_of}
use Rattle.code_measures.specs.MeasuredTexts.{IsRow}
use Rattle.code_cost.specs.Sizes.{IsRowOf}
use Rattle.code_measures.specs.Defined.{LoopsFit}
use Rattle.code_measures.proofs.Levels.{known_as}
use Rattle.code_measures.proofs.CostParts.{next_row, row_is_of}

is_table : (g : Program) (ts : List Text) (rows : List RoutineMeasure) → rows_from g ts rows ≡ table (next_row g) rows ts
is_table g [] rows = refl
is_table g (t ∷ ts) rows = is_table g ts (rows ++ next_row g rows t ∷ [])

pub as_many_rows : (g : Program) → length (rows_of g) ≡ length (numbered g)
as_many_rows g =
    let long : length (table (next_row g) [] (numbered g)) ≡ 0 + length (numbered g) = table_length (next_row g) [] (numbered g) in
    ap (λ rs. length rs) (is_table g (numbered g) []) ∙ omega (arith, long)

made_there : (g : Program) (r : ℕ) (t : Text) → slice_get (numbered g) r ≡ Some t → slice_get (rows_of g) r ≡ Some (next_row g (take r (rows_of g)) t)
made_there g r t at = subst (λ rs. slice_get rs r ≡ Some (next_row g (take r rs) t)) (sym (is_table g (numbered g) [])) (row_is (next_row g) (numbered g) r t at)

module _ (g : Program) (sound : IsSound g) (fits : LoopsFit g) where
  pub record HasRow (r : ℕ) (t : Text) : Type 0 where
    pub row : RoutineMeasure
    pub there : slice_get (rows_of g) r ≡ Some row
    pub is : IsRowOf g t row

  -- it tells what is known of the routine where it is called
  pub tells : (rows : List RoutineMeasure) (t : Text) (row : RoutineMeasure) → slice_get rows (number_of g t) ≡ Some row → IsRowOf g t row → slice_get (numbered g) (number_of g t) ≡ Some t → IsRow g rows (calls_of g) t
  tells rows t row at is there =
      let known = known_as g sound (number_of g t) t there in
      record {
        run = ap (λ o. (row_or o).cost.run) at ∙ (ap (λ c. c.run) is.cost ∙ sym known.cost.run);
        susp = ap (λ o. (row_or o).cost.susp) at ∙ (ap (λ c. c.susp) is.cost ∙ sym known.cost.susp);
        waits = ap (λ o. (row_or o).cost.waits) at ∙ (ap (λ c. c.waits) is.cost ∙ sym known.cost.waits);
        height = ap (λ o. (row_or o).height) at ∙ (is.height ∙ ap (λ h. held h) (sym known.height));
        words = ap (λ o. (row_or o).words) at ∙ is.words;
      }

  abbrev Before : ℕ → Type 0
  Before r = (q : ℕ) (u : Text) → q < r → slice_get (numbered g) q ≡ Some u → HasRow q u

  told_before : (r : ℕ) → Before r → (t : Text) → IsBelow g r t → IsRow g (take r (rows_of g)) (calls_of g) t
  told_before r before t low =
      let b = before (number_of g t) t low.low low.there in
      tells (take r (rows_of g)) t b.row (take_get r (number_of g t) (rows_of g) low.low ∙ b.there) b.is low.there

  next : (r : ℕ) → Before r → (t : Text) → slice_get (numbered g) r ≡ Some t → HasRow r t
  next r before t at =
      let rows = take r (rows_of g) in
      record {
        row = next_row g rows t;
        there = made_there g r t at;
        is = row_is_of g rows t (map_routine g (λ y. IsBelow g r y) (λ y. IsRow g rows (calls_of g) y) (λ u low. told_before r before u low) t (sound.routines r t at)) (fits.routines r t at);
      }

  below : (n r : ℕ) (t : Text) → r < n → slice_get (numbered g) r ≡ Some t → HasRow r t
  below zero r t lt at = absurd (omega (arith, lt))
  below (suc n) r t lt at = next r (λ q u less there. below n q u (omega (arith, less, lt)) there) t at

  -- each routine has its row
  pub row_of : (r : ℕ) (t : Text) → slice_get (numbered g) r ≡ Some t → HasRow r t
  row_of r t at = below (suc r) r t (omega arith) at

  -- all that have numbers are told of
  pub told : (t : Text) → IsBelow g (length (numbered g)) t → IsRow g (rows_of g) (calls_of g) t
  told t low = let b = row_of (number_of g t) t low.there in tells (rows_of g) t b.row b.there b.is low.there
