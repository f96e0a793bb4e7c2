-- The lengths of a table add up to the number of instructions, as far as that is counted.
use Rattle.std.specs.Prelude.{◌≡◌, ◌≤◌, ◌<◌, ◌+◌, ℕ, zero, suc, List, [], ◌∷◌, Some, length, slice_get, sum_by}
use Rattle.std.proofs.Common.{refl, sym, subst, arith}
use Rattle.std.proofs.lemmas.List.Sums.{sum_by-cons}
use Rattle.syntax_tree.specs.Plain.{Process, Program}
use Rattle.source_semantics.specs.Names.{processes}
use Rattle.code_spec.specs.Numbering.{Text, numbered}
use Rattle.code_cost_spec.specs.Lengths.{routine_length, process_length}
use Rattle.code_cost_spec.specs.Levels.{routine_names, process_names, routines_length, processes_length, code_length}
use Rattle.code_cost.specs.declared.measure.RoutineMeasure.{RoutineMeasure}
use Rattle.code_cost.specs.declared.program.ProcessMeasure.{ProcessMeasure}
use Rattle.code_cost.specs.declared.program.Measures.{Measures}
use Rattle.code_cost.specs.Sums.{held}
use Rattle.code_cost.specs.Sizes.{AreDefined}
use Rattle.code_measures.specs.Defined.{total, TotalIsDefined}

sum_held : (a b c d : ℕ) → a ≡ held b → held c ≡ held d → held (a + c) ≡ held (b + d)
sum_held a b c d e f = omega (arith, e, f)

both_held : (a b c d : ℕ) → held a ≡ held b → held c ≡ held d → held (a + c) ≡ held (b + d)
both_held a b c d e f = omega (arith, e, f)

abbrev rows_total : List RoutineMeasure → ℕ
rows_total rows = sum_by (λ r. r.length) rows

abbrev sizes_total : List ProcessMeasure → ℕ
sizes_total sizes = sum_by (λ p. p.length) sizes

rows_add_up : (g : Program) (ts : List Text) (rows : List RoutineMeasure) → length rows ≡ length ts
    → ((r : ℕ) (t : Text) (row : RoutineMeasure) → slice_get ts r ≡ Some t → slice_get rows r ≡ Some row → row.length ≡ held (routine_length g (routine_names g t) t))
    → held (rows_total rows) ≡ held (routines_length g ts)
rows_add_up g [] [] long is = refl
rows_add_up g [] (row ∷ rows) long is = absurd (omega (arith, long))
rows_add_up g (t ∷ ts) [] long is = absurd (omega (arith, long))
rows_add_up g (t ∷ ts) (row ∷ rows) long is =
    let rest : held (rows_total rows) ≡ held (routines_length g ts) = rows_add_up g ts rows (omega (arith, long)) (λ r u x at there. is (suc r) u x at there) in
    let more : rows_total (row ∷ rows) ≡ row.length + rows_total rows = sum_by-cons (λ r. r.length) row rows in
    subst (λ n. held n ≡ held (routine_length g (routine_names g t) t + routines_length g ts)) (sym more)
    (sum_held row.length (routine_length g (routine_names g t) t) (rows_total rows) (routines_length g ts) (is 0 t row refl refl) rest)

sizes_add_up : (g : Program) (n : ℕ) (ps : List Process) (sizes : List ProcessMeasure) → length sizes ≡ length ps
    → ((k : ℕ) (p : Process) (size : ProcessMeasure) → slice_get ps k ≡ Some p → slice_get sizes k ≡ Some size → size.length ≡ held (process_length g (process_names g (n + k) p) p))
    → held (sizes_total sizes) ≡ held (processes_length g n ps)
sizes_add_up g n [] [] long is = refl
sizes_add_up g n [] (size ∷ sizes) long is = absurd (omega (arith, long))
sizes_add_up g n (p ∷ ps) [] long is = absurd (omega (arith, long))
sizes_add_up g n (p ∷ ps) (size ∷ sizes) long is =
    let rest : held (sizes_total sizes) ≡ held (processes_length g (suc n) ps) =
    sizes_add_up g (suc n) ps sizes (omega (arith, long)) (λ k q x at there. subst (λ j. x.length ≡ held (process_length g (process_names g j q) q)) (further n k) (is (suc k) q x at there)) in
    let more : sizes_total (size ∷ sizes) ≡ size.length + sizes_total sizes = sum_by-cons (λ p. p.length) size sizes in
    let first : size.length ≡ held (process_length g (process_names g n p) p) = subst (λ j. size.length ≡ held (process_length g (process_names g j p) p)) (flat n) (is 0 p size refl refl) in
    subst (λ x. held x ≡ held (process_length g (process_names g n p) p + processes_length g (suc n) ps)) (sym more)
    (sum_held size.length (process_length g (process_names g n p) p) (sizes_total sizes) (processes_length g (suc n) ps) first rest)
  where
    flat : (n : ℕ) → n + 0 ≡ n
    flat n = omega arith

    further : (n k : ℕ) → n + suc k ≡ suc n + k
    further n k = omega arith

counted : (a b : ℕ) → held a ≡ held b → (b ≤ 65535 → a ≡ b) × (65535 < b → 65535 < a)
counted a b e = (λ few. omega (arith, e, few), λ many. omega (arith, e, many))

pub total_defined : TotalIsDefined
total_defined g m is =
    counted (total m) (code_length g)
    (both_held (rows_total m.routines) (routines_length g (numbered g)) (sizes_total m.processes) (processes_length g 0 (processes g))
    (rows_add_up g (numbered g) m.routines is.rows (λ r t row at there. (is.routines r t row at there).length))
    (sizes_add_up g 0 (processes g) m.processes is.sizes (λ k p size at there. subst (λ j. size.length ≡ held (process_length g (process_names g j p) p)) (plain k) (is.bodies k p size at there).length)))
  where
    plain : (k : ℕ) → k ≡ 0 + k
    plain k = omega arith
