-- What the measures tell is where the rules of size fail.
use Rattle.std.proofs.Common.{◌≡◌, ◌<◌, ◌≤◌, ◌+◌, ◌⊎◌, ℕ, suc, List, [], ◌∷◌, Some, None, Bool, true, false, if◌then◌else◌, length, refl, ap, sym, subst, ◌∙◌, inl, inr, arith}
use Rattle.std.proofs.lemmas.Bool.Decides.{nat_tests}
use Rattle.std.proofs.lemmas.List.Sums.{sum_by-cons}
use Rattle.std.specs.Prelude.{Contains, slice_get, sum_by, nat_lt}
use Rattle.std.proofs.lemmas.Option.{none-some, same_Some}
use Rattle.base.proofs.Members.{in_map}
use Rattle.syntax_tree.specs.Placed.{Process, Prog, plain, plain_process, plain_routine}
use Rattle.syntax_tree.specs.Parts.{processes}
use Rattle.syntax_tree.specs.Plain as plain_of
use Rattle.syntax_tree.specs.declared.place.Place.{Place}
use Rattle.static_rule.specs.First.{Before, IsFirstOf, sooner}
use Rattle.static_rule.specs.Parts.{FailsAmong, noted}
use Rattle.static_rule.proofs.Soonest.{both, same, noted-is-first}
use Rattle.source_semantics.specs.Names as names
use Rattle.code_spec.specs.Numbering as numbering
use Rattle.code_cost_spec.specs.Levels.{process_names, routines_length, processes_length, code_length, stack_of_process}
use Rattle.code_cost_spec.specs.Lengths.{process_length}
use Rattle.code_cost.specs.Sums.{held}
use Rattle.code_cost.specs.declared.measure.RoutineMeasure.{RoutineMeasure}
use Rattle.code_cost.specs.declared.program.ProcessMeasure.{ProcessMeasure}
use Rattle.code_cost.specs.declared.program.Measures.{Measures}
use Rattle.code_cost.specs.Sizes.{IsRowOf, AreDefined}
use Rattle.code_cost.specs.Rules.{PlacedText, placed_texts_from, routine_stack, CodeTooLong, RoutineTooLarge, ProcessTooLarge, SizeFails}
use Rattle.code_cost.specs.Numbers.{HaveNumbers}
use Rattle.code_cost.specs.Told.{length_told, code_broken, over_stack, row_over, size_over, plain_text, routine_over, process_over, stack_rules, parts_from}
use Rattle.code_cost.proofs.Parts.{as_long, plain_texts, plain_process_at, RoutineOver, ProcessOver, found, text_fails, process_fails}

-- ---- lengths

rows_total : (g : plain_of.Program) (ts : List numbering.Text) (rows : List RoutineMeasure) → length rows ≡ length ts
    → ((r : ℕ) (t : numbering.Text) (row : RoutineMeasure) → slice_get ts r ≡ Some t → slice_get rows r ≡ Some row → IsRowOf g t row)
    → held (sum_by (λ row. row.length) rows) ≡ held (routines_length g ts)
rows_total g [] [] same are = refl
rows_total g [] (row ∷ rows) same are = absurd (omega arith)
rows_total g (t ∷ ts) [] same are = absurd (omega arith)
rows_total g (t ∷ ts) (row ∷ rows) same are =
    let one = (are 0 t row refl refl).length in
    let rest = rows_total g ts rows (omega arith) (λ r u k a b. are (suc r) u k a b) in
    let sums = sum_by-cons (λ (k : RoutineMeasure). k.length) row rows in
    omega arith

sizes_total : (g : plain_of.Program) (n : ℕ) (ps : List plain_of.Process) (sizes : List ProcessMeasure) → length sizes ≡ length ps
    → ((k : ℕ) (p : plain_of.Process) (size : ProcessMeasure) → slice_get ps k ≡ Some p → slice_get sizes k ≡ Some size → size.length ≡ held (process_length g (process_names g (n + k) p) p))
    → held (sum_by (λ size. size.length) sizes) ≡ held (processes_length g n ps)
sizes_total g n [] [] same are = refl
sizes_total g n [] (size ∷ sizes) same are = absurd (omega arith)
sizes_total g n (p ∷ ps) [] same are = absurd (omega arith)
sizes_total g n (p ∷ ps) (size ∷ sizes) same are =
    let here : n + 0 ≡ n = omega arith in
    let one = subst (λ k. size.length ≡ held (process_length g (process_names g k p) p)) here (are 0 p size refl refl) in
    let rest = sizes_total g (suc n) ps sizes (omega arith)
    (λ k q m a b. let e : n + suc k ≡ suc n + k = omega arith in subst (λ x. m.length ≡ held (process_length g (process_names g x q) q)) e (are (suc k) q m a b)) in
    let sums = sum_by-cons (λ (m : ProcessMeasure). m.length) size sizes in
    omega arith

pub total_is : (g : plain_of.Program) (m : Measures) → AreDefined g m → held (length_told m) ≡ held (code_length g)
total_is g m d =
    let rows = rows_total g (numbering.numbered g) m.routines d.rows (λ r t row a b. d.routines r t row a b) in
    let sizes = sizes_total g 0 (names.processes g) m.processes d.sizes
    (λ k p size a b. let e : k ≡ 0 + k = omega arith in subst (λ x. size.length ≡ held (process_length g (process_names g x p) p)) e (d.bodies k p size a b).length) in
    omega arith

-- ---- tests

over_some : (q p : Place) (w : ℕ) → over_stack q w ≡ Some p → (q ≡ p) × (4096 < w)
over_some q p w = by (nat_lt 4096 w) refl
  where
    by : (b : Bool) → nat_lt 4096 w ≡ b → (if b then Some q else None) ≡ Some p → (q ≡ p) × (4096 < w)
    by true t e = (same_Some q p e, grind (arith, nat_tests))
    by false t e = absurd (none-some p e)

some_over : (q : Place) (w : ℕ) → 4096 < w → over_stack q w ≡ Some q
some_over q w h = let t : nat_lt 4096 w ≡ true = grind (arith, nat_tests) in ap (λ b. if b then Some q else None) t

-- ---- stacks

module _ (g : Prog Place) (s : Measures) (have : HaveNumbers (plain g)) (are : AreDefined (plain g) s) where
  -- what the row of a text says
  row_says : (t : PlacedText) → Contains (placed_texts_from 0 0 g.decls) t → (w : ℕ) × ((routine_over (plain g) s t ≡ over_stack t.routine.place w) × (held w ≡ held (routine_stack (plain g) t.owner (plain_routine t.routine))))
  row_says t c =
      let listed = subst (λ ts. Contains ts (plain_text t)) (sym (plain_texts 0 0 g.decls)) (in_map plain_text (placed_texts_from 0 0 g.decls) t c) in
      let stands = have (plain_text t) listed in
      let row = as_long s.routines (numbering.numbered (plain g)) (numbering.number_of (plain g) (plain_text t)) (plain_text t) are.rows stands in
      let is = are.routines (numbering.number_of (plain g) (plain_text t)) (plain_text t) row.0 stands row.1 in
      let words = is.words in
      let height = is.height in
      (row.0.words + row.0.height, (ap (row_over t.routine.place) row.1, omega arith))

  size_says : (k : ℕ) (p : Process Place) → slice_get (processes g.decls) k ≡ Some p → (w : ℕ) × ((process_over s k p ≡ over_stack p.place w) × (held w ≡ held (stack_of_process (plain g) k (plain_process p))))
  size_says k p e =
      let there = plain_process_at g.decls k p e in
      let size = as_long s.processes (names.processes (plain g)) k (plain_process p) are.sizes there in
      let is = are.bodies k (plain_process p) size.0 there size.1 in
      let stack = is.stack in
      (size.0.stack, (ap (size_over p.place) size.1, omega arith))

  abbrev pub StackFails : ℕ → Place → Type 0
  StackFails n p = (n ≡ 47) × (RoutineTooLarge g p ⊎ ProcessTooLarge g p)

  routine_is : (p : Place) → RoutineOver (plain g) s (placed_texts_from 0 0 g.decls) p → RoutineTooLarge g p
  routine_is p r =
      let says = row_says r.text r.listed in
      let over = over_some r.text.routine.place p says.0 (sym says.1.0 ∙ r.fails) in
      let many = over.1 in
      let e = says.1.1 in
      record { text = r.text; listed = r.listed; is = over.0; over = omega arith }

  process_is : (p : Place) → ProcessOver s 0 (processes g.decls) p → ProcessTooLarge g p
  process_is p r =
      let e : 0 + r.number ≡ r.number = omega arith in
      let fails = subst (λ k. process_over s k r.text ≡ Some p) e r.fails in
      let says = size_says r.number r.text r.listed in
      let over = over_some r.text.place p says.0 (sym says.1.0 ∙ fails) in
      let many = over.1 in
      let held_is = says.1.1 in
      record { number = r.number; text = r.text; listed = r.listed; is = over.0; over = omega arith }

  to : (n : ℕ) (p : Place) → FailsAmong (stack_rules (plain g) s) (parts_from 0 0 g.decls) n p → StackFails n p
  to n p f = by (found (plain g) s p 0 0 g.decls n f)
    where
      by : (47 ≡ n) × (RoutineOver (plain g) s (placed_texts_from 0 0 g.decls) p ⊎ ProcessOver s 0 (processes g.decls) p) → StackFails n p
      by (e, inl r) = (sym e, inl (routine_is p r))
      by (e, inr r) = (sym e, inr (process_is p r))

  routine_back : (p : Place) → RoutineTooLarge g p → FailsAmong (stack_rules (plain g) s) (parts_from 0 0 g.decls) 47 p
  routine_back p r =
      let says = row_says r.text r.listed in
      let over = r.over in
      let e = says.1.1 in
      let many : 4096 < says.0 = omega arith in
      text_fails (plain g) s p 0 0 g.decls r.text r.listed (says.1.0 ∙ some_over r.text.routine.place says.0 many ∙ ap (λ q. Some q) r.is)

  process_back : (p : Place) → ProcessTooLarge g p → FailsAmong (stack_rules (plain g) s) (parts_from 0 0 g.decls) 47 p
  process_back p r =
      let says = size_says r.number r.text r.listed in
      let over = r.over in
      let e = says.1.1 in
      let many : 4096 < says.0 = omega arith in
      let number : r.number ≡ 0 + r.number = omega arith in
      let fails = says.1.0 ∙ some_over r.text.place says.0 many ∙ ap (λ q. Some q) r.is in
      process_fails (plain g) s p 0 0 g.decls r.number r.text r.listed (subst (λ k. process_over s k r.text ≡ Some p) number fails)

  back : (n : ℕ) (p : Place) → StackFails n p → FailsAmong (stack_rules (plain g) s) (parts_from 0 0 g.decls) n p
  back n p (e, inl r) = subst (λ k. FailsAmong (stack_rules (plain g) s) (parts_from 0 0 g.decls) k p) (sym e) (routine_back p r)
  back n p (e, inr r) = subst (λ k. FailsAmong (stack_rules (plain g) s) (parts_from 0 0 g.decls) k p) (sym e) (process_back p r)

  stacks_first : IsFirstOf StackFails (noted (stack_rules (plain g) s) None (parts_from 0 0 g.decls))
  stacks_first = same (FailsAmong (stack_rules (plain g) s) (parts_from 0 0 g.decls)) StackFails (noted (stack_rules (plain g) s) None (parts_from 0 0 g.decls)) to back (noted-is-first (stack_rules (plain g) s) (parts_from 0 0 g.decls))

  -- ---- instructions

  abbrev pub CodeFails : ℕ → Place → Type 0
  CodeFails n p = (n ≡ 46) × CodeTooLong g p

  code_first : IsFirstOf CodeFails (code_broken g.place (length_told s))
  code_first = by (nat_lt 65535 (length_told s)) refl
    where
      total : held (length_told s) ≡ held (code_length (plain g))
      total = total_is (plain g) s are

      by : (b : Bool) → nat_lt 65535 (length_told s) ≡ b → IsFirstOf CodeFails (if b then Some (record { number = 46; place = g.place }) else None)
      by true t =
          let e = total in
          let told : 65535 < length_told s = grind (arith, nat_tests) in
          record {
            broken = (refl, record { is = refl; over = omega arith });
            none_before = λ n p f. alone n p f;
          }
        where
          alone : (n : ℕ) (p : Place) → CodeFails n p → ¬ Before n p 46 g.place
          alone n p f (inl h) = let l : g.place.line ≡ p.line = ap (λ q. q.line) f.1.is in omega arith
          alone n p f (inr (inl h)) = let below = h.1 in let l : g.place.col ≡ p.col = ap (λ q. q.col) f.1.is in omega arith
          alone n p f (inr (inr h)) = let below = h.1 in let l = f.0 in omega arith
      by false t = λ n p f. few f.1.over
        where
          few : 65535 < code_length (plain g) → ⊥
          few over = let e = total in let told : length_told s ≤ 65535 = grind (arith, nat_tests) in omega arith

  pub sizes_first : IsFirstOf (SizeFails g) (sooner (code_broken g.place (length_told s)) (noted (stack_rules (plain g) s) None (parts_from 0 0 g.decls)))
  sizes_first = both CodeFails StackFails (code_broken g.place (length_told s)) (noted (stack_rules (plain g) s) None (parts_from 0 0 g.decls)) code_first stacks_first
