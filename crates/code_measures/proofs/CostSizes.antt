-- Each size is that of its process; and the whole table.
use Rattle.std.specs.Prelude.{◌≡◌, ◌+◌, ◌++◌, ℕ, zero, suc, List, [], ◌∷◌, Some, length, slice_get}
use Rattle.std.proofs.Common.{refl, sym, ap, subst, ◌∙◌, arith, append_assoc, append-nil}
use Rattle.syntax_tree.specs.Plain.{Process, Program}
use Rattle.source_semantics.specs.Names.{processes}
use Rattle.code_spec.specs.Numbering.{Text, numbered}
use Rattle.code_spec.specs.Compiled.{process_scope}
use Rattle.code_cost_spec.specs.Levels.{calls_of}
use Rattle.code_measures.specs.Declared.{IsBelow, IsSound}
use Rattle.code_measures.proofs.Maps.{map_process}
use Rattle.code_cost.specs.declared.measure.RoutineMeasure.{RoutineMeasure}
use Rattle.code_cost.specs.declared.program.ProcessMeasure.{ProcessMeasure}
use Rattle.code_cost.specs.Parts.{rows_of, process_size, sizes_from}
use Rattle.code_measures.specs.MeasuredTexts.{IsRow}
use Rattle.code_cost.specs.Sizes.{IsRowOf, IsSizeOf}
use Rattle.code_measures.specs.Defined.{LoopsFit, MeasuresAreDefined}
use Rattle.code_measures.proofs.CostParts.{size_is_of}
use Rattle.code_measures.proofs.CostRows.{as_many_rows, row_of, told}

-- ---- the sizes of processes from a number on

abbrev sized : Program → List RoutineMeasure → ℕ → List Process → List ProcessMeasure
sized g rows n [] = []
sized g rows n (p ∷ ps) = process_size g (process_scope g n p) rows p ∷ sized g rows (n + 1) ps

are_sized : (g : Program) (rows : List RoutineMeasure) (n : ℕ) (ps : List Process) (sizes : List ProcessMeasure) → sizes_from g rows n ps sizes ≡ sizes ++ sized g rows n ps
are_sized g rows n [] sizes = sym (append-nil sizes)
are_sized g rows n (p ∷ ps) sizes =
    let x = process_size g (process_scope g n p) rows p in
    are_sized g rows (n + 1) ps (sizes ++ x ∷ []) ∙ append_assoc sizes (x ∷ []) (sized g rows (n + 1) ps)

sized_length : (g : Program) (rows : List RoutineMeasure) (n : ℕ) (ps : List Process) → length (sized g rows n ps) ≡ length ps
sized_length g rows n [] = refl
sized_length g rows n (p ∷ ps) = let e : length (sized g rows (n + 1) ps) ≡ length ps = sized_length g rows (n + 1) ps in omega (arith, e)

sized_at : (g : Program) (rows : List RoutineMeasure) (n : ℕ) (ps : List Process) (k : ℕ) (p : Process) → slice_get ps k ≡ Some p → slice_get (sized g rows n ps) k ≡ Some (process_size g (process_scope g (n + k) p) rows p)
sized_at g rows n [] k p at = absurd cc
sized_at g rows n (q ∷ qs) zero p at =
    let same : q ≡ p = cc in
    subst (λ j. Some (process_size g (process_scope g n q) rows q) ≡ Some (process_size g (process_scope g j p) rows p)) (flat n) (ap (λ z. Some (process_size g (process_scope g n z) rows z)) same)
  where
    flat : (n : ℕ) → n ≡ n + 0
    flat n = omega arith
sized_at g rows n (q ∷ qs) (suc k) p at =
    subst (λ j. slice_get (sized g rows (n + 1) qs) k ≡ Some (process_size g (process_scope g j p) rows p)) (further n k) (sized_at g rows (n + 1) qs k p at)
  where
    further : (n k : ℕ) → n + 1 + k ≡ n + suc k
    further n k = omega arith

as_many_sizes : (g : Program) → length (sizes_from g (rows_of g) 0 (processes g) []) ≡ length (processes g)
as_many_sizes g = ap (λ xs. length xs) (are_sized g (rows_of g) 0 (processes g) []) ∙ sized_length g (rows_of g) 0 (processes g)

size_there : (g : Program) (k : ℕ) (p : Process) → slice_get (processes g) k ≡ Some p → slice_get (sizes_from g (rows_of g) 0 (processes g) []) k ≡ Some (process_size g (process_scope g k p) (rows_of g) p)
size_there g k p at =
    ap (λ xs. slice_get xs k) (are_sized g (rows_of g) 0 (processes g) [])
    ∙ subst (λ j. slice_get (sized g (rows_of g) 0 (processes g)) k ≡ Some (process_size g (process_scope g j p) (rows_of g) p)) (plain k) (sized_at g (rows_of g) 0 (processes g) k p at)
  where
    plain : (k : ℕ) → 0 + k ≡ k
    plain k = omega arith

-- ---- the table

one : {A : Type 0} {x y : A} → Some x ≡ Some y → x ≡ y
one e = cc

pub measures_defined : MeasuresAreDefined
measures_defined g sound fits = record {
  rows = as_many_rows g;
  sizes = as_many_sizes g;
  routines = λ r t row at there. let b = row_of g sound fits r t at in subst (λ x. IsRowOf g t x) (one (sym b.there ∙ there)) b.is;
  bodies = λ k p size at there. subst (λ x. IsSizeOf g k p x) (one (sym (size_there g k p at) ∙ there)) (body_is k p at);
}
  where
    body_is : (k : ℕ) (p : Process) → slice_get (processes g) k ≡ Some p → IsSizeOf g k p (process_size g (process_scope g k p) (rows_of g) p)
    body_is k p at =
        size_is_of g (rows_of g) k p (map_process g (λ y. IsBelow g (length (numbered g)) y) (λ y. IsRow g (rows_of g) (calls_of g) y) (λ u low. told g sound fits u low) k p (sound.bodies k p at)) (fits.bodies k p at)
