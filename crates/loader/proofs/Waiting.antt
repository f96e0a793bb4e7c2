-- Waits by rows that say the same, one routine after the other.
use Rattle.std.proofs.Common.{◌≡◌, ◌+◌, ◌++◌, inl, inr, ℕ, Bool, List, [], ◌∷◌, length, Option, Some, None, arith, refl, ap, sym, ◌∙◌, map}
use Rattle.std.specs.Prelude.{◌&&◌, ◌||◌, not, nat_eq, option_map, take, slice_get}
use Rattle.std.proofs.lemmas.Bool.{cases_lt}
use Rattle.std.proofs.lemmas.List.{length-map, length-append}
use Rattle.std.proofs.lemmas.Option.{slice_get-map, slice_get_past}
use Rattle.base.proofs.Lists.{map_get, take_get, take_past}
use Rattle.image.specs.declared.raw.RawImage.{RawImage}
use Rattle.image.specs.declared.raw.RawProcess.{RawProcess}
use Rattle.image.specs.declared.raw.RawRoutine.{RawRoutine}
use Rattle.image.specs.Raw.{image_of, routine_of, process_of}
use Rattle.machine_semantics.specs.Trees.{Seg, Segs, Line, Fork, Rep, Call, Stay, Wait, Exit, Nil, Cons}
use Rattle.machine_semantics.specs.Image.{Process}
use Rattle.valid_image.specs.Fault.{Fault, unless, of_some}
use Rattle.valid_image.specs.Shape.{is_handler}
use Rattle.valid_image.specs.Tables.{Reach, handler_start, waits_of, waits_at, seg_waits, tree_waits, reach, reach_of}
use Rattle.loader_code.proofs.Searching.{of_element}
use Rattle.loader.specs.Handlers.{is_right}
use Rattle.loader.specs.Waits.{bare, IsAlike}
use Rattle.loader.proofs.Rows.{table_length, row_is}
use Rattle.loader.proofs.Shaping.{cases, pushed_before, pushed_last, pushed_past}

mutual
  seg_same : (xs ys : List Reach) (seg : Seg) → IsAlike xs ys → seg_waits xs seg ≡ seg_waits ys seg
  seg_same xs ys (Line n) same = refl
  seg_same xs ys (Fork first second) same = ap (λ b. b || tree_waits xs second) (tree_same xs ys first same) ∙ ap (λ b. tree_waits ys first || b) (tree_same xs ys second same)
  seg_same xs ys (Rep n body) same = tree_same xs ys body same
  seg_same xs ys (Call r) same = same r
  seg_same xs ys (Stay m body) same = tree_same xs ys body same
  seg_same xs ys Wait same = refl
  seg_same xs ys Exit same = refl

  pub tree_same : (xs ys : List Reach) (tree : Segs) → IsAlike xs ys → tree_waits xs tree ≡ tree_waits ys tree
  tree_same xs ys Nil same = refl
  tree_same xs ys (Cons head rest) same = ap (λ b. b || tree_waits xs rest) (seg_same xs ys head same) ∙ ap (λ b. seg_waits ys head || b) (tree_same xs ys rest same)

abbrev pub rows_of : RawImage → List Reach
rows_of raw = reach (image_of raw)

-- before routine r
pub record BeforeRow (raw : RawImage) (waits : List Bool) (r : ℕ) : Type 0 where
  pub count : length waits ≡ r
  pub alike : IsAlike (map bare waits) (take r (rows_of raw))

next_alike : (raw : RawImage) (waits : List Bool) (next : Bool) (r : ℕ) (x : RawRoutine) → BeforeRow raw waits r → slice_get raw.routines r ≡ Some x → next ≡ tree_waits (map bare waits) x.tree
    → IsAlike (map bare (waits ++ next ∷ [])) (take (r + 1) (rows_of raw))
next_alike raw waits next r x before at is j = elim (cases j r) [
  | inl low ↦
      slice j ∙ ap (λ o. waits_of (option_map bare o)) (pushed_before waits next j (omega (arith, low, before.count))) ∙ sym (whole j) ∙ before.alike j
      ∙ ap waits_of (take_get r j (rows_of raw) low ∙ sym (take_get (r + 1) j (rows_of raw) (omega (arith, low))))
  | inr rest ↦ elim rest [
    | inl same ↦
        slice j ∙ ap (λ o. waits_of (option_map bare o)) (pushed_last waits next j (omega (arith, same, before.count)))
        ∙ is ∙ tree_same (map bare waits) (take r (rows_of raw)) x.tree before.alike
        ∙ ap waits_of (sym (row_is (reach_of (image_of raw)) (image_of raw).routines r (routine_of x) (map_get routine_of raw.routines r x at)) ∙ ap (λ n. slice_get (rows_of raw) n) (sym same) ∙ sym (take_get (r + 1) j (rows_of raw) (omega (arith, same))))
    | inr past ↦
        slice j ∙ ap (λ o. waits_of (option_map bare o)) (pushed_past waits next j (omega (arith, past, before.count)))
        ∙ ap waits_of (sym (take_past (r + 1) j (rows_of raw) (omega (arith, past))))
  ]
] where
  slice : (i : ℕ) → waits_at (map bare (waits ++ next ∷ [])) i ≡ waits_of (option_map bare (slice_get (waits ++ next ∷ []) i))
  slice i = ap waits_of (slice_get-map bare (waits ++ next ∷ []) i)

  whole : (i : ℕ) → waits_at (map bare waits) i ≡ waits_of (option_map bare (slice_get waits i))
  whole i = ap waits_of (slice_get-map bare waits i)

pub next_row : (raw : RawImage) (waits new : List Bool) (next : Bool) (r : ℕ) (x : RawRoutine) → BeforeRow raw waits r → slice_get raw.routines r ≡ Some x → next ≡ tree_waits (map bare waits) x.tree
    → new ≡ waits ++ next ∷ [] → BeforeRow raw new (r + 1)
next_row raw waits new next r x before at is pushed = record {
  count = ap length pushed ∙ length-append waits (next ∷ []) ∙ ap (λ n. n + 1) before.count;
  alike = λ j. ap (λ ws. waits_at (map bare ws) j) pushed ∙ next_alike raw waits next r x before at is j;
}

pub all_rows : (raw : RawImage) (waits : List Bool) (r : ℕ) → BeforeRow raw waits r → r ≡ length raw.routines → IsAlike (map bare waits) (rows_of raw)
all_rows raw waits r before all j = elim (cases_lt j r) [
  | inl low ↦ before.alike j ∙ ap waits_of (take_get r j (rows_of raw) low)
  | inr past ↦
      ap waits_of (slice_get_past (map bare waits) j (omega (arith, past, length-map waits bare, before.count))
      ∙ sym (slice_get_past (rows_of raw) j (omega (arith, past, all, length-map raw.routines routine_of, table_length (reach_of (image_of raw)) [] (image_of raw).routines))))
]

-- ---- handlers

right_same : (raw : RawImage) (rows : List Reach) (p : Process) (tree : Option Segs) → IsAlike rows (rows_of raw) → is_right rows p tree ≡ is_handler (image_of raw) p tree
right_same raw rows p None same = refl
right_same raw rows p (Some tree) same = ap (λ b. nat_eq p.handler (handler_start p) && not b) (tree_same rows (rows_of raw) tree same)

abbrev pub handler_at : RawImage → ℕ → Option Fault
handler_at raw k = of_some (λ (p : Process). unless (is_handler (image_of raw) p p.handler_tree) k 0) (slice_get (map process_of raw.processes) k)

pub handler_tested : (raw : RawImage) (waits : List Bool) (k : ℕ) (p : RawProcess) (b : Bool) → IsAlike (map bare waits) (rows_of raw) → slice_get raw.processes k ≡ Some p
    → b ≡ is_right (map bare waits) (process_of p) (process_of p).handler_tree → handler_at raw k ≡ unless b k 0
handler_tested raw waits k p b same at is =
    of_element (λ (q : Process). unless (is_handler (image_of raw) q q.handler_tree) k 0) _ (process_of p) (map_get process_of raw.processes k p at)
    ∙ ap (λ t. unless t k 0) (sym (is ∙ right_same raw (map bare waits) (process_of p) (process_of p).handler_tree same))
