-- Loops that measure each part of a list.
use Rattle.std.proofs.Common.{◌≡◌, ◌<◌, ◌+◌, ℕ, arith, List, [], ◌∷◌, ◌++◌, Some, refl, length, drop, get_or, slice_get, inl, inr, sym, ap, ◌∙◌}
use Rattle.std.proofs.lemmas.Option.{slice_get_cases}
use Rattle.syntax_tree.specs.Plain.{Process, Program, Routine}
use Rattle.code_spec.specs.Layout.{routine_vars_words, Scope}
use Rattle.code_spec.specs.Numbering.{Text}
use Rattle.code_spec.specs.Compiled.{process_scope, routine_scope}
use Rattle.code_cost.specs.declared.measure.RoutineMeasure.{RoutineMeasure}
use Rattle.code_cost.specs.declared.program.ProcessMeasure.{ProcessMeasure}
use Rattle.code_cost.specs.Parts.{process_size, row_of, rows_from, sizes_from}
use Rattle.std.proofs.lemmas.List.{drop_more}
use Rattle.codegen_spec.specs.declared.var_location.Loop.{Loop}
use Rattle.codegen_spec.specs.Told.{inside, within}

-- one turn of a loop that goes on with what is left of a list
pub turned : {A O R : Type 0} (all : O → List A → R) (xs : List A) (i : ℕ) (x : A) (old new : O) (end : R) → i < length xs → x ≡ get_or xs i x
    → all old (drop i xs) ≡ end → all old (x ∷ drop (i + 1) xs) ≡ all new (drop (i + 1) xs) → all new (drop (i + 1) xs) ≡ end
turned all xs i x old new end within is so_far step =
    let here : drop i xs ≡ x ∷ drop (i + 1) xs = drop_more xs i x within ∙ ap (λ y. y ∷ drop (i + 1) xs) (sym is) in
    sym step ∙ sym (ap (all old) here) ∙ so_far

-- one loop more, inside all others
pub inside_more : (ls : List Loop) (l : Loop) (c : Scope) → inside (ls ++ l ∷ []) c ≡ within (inside ls c) l.name l.word
inside_more [] l c = refl
inside_more (k ∷ ls) l c = inside_more ls l (within c k.name k.word)

-- the loops around a statement change nothing of whose text it is
pub owner_inside : (ls : List Loop) (c : Scope) → (inside ls c).owner ≡ c.owner
owner_inside [] c = refl
owner_inside (l ∷ ls) c = owner_inside ls (within c l.name l.word)

-- an element that is there, and what is left from it on
pub at_place : {X : Type 0} (xs : List X) (i : ℕ) → i < length xs → (x : X) × (slice_get xs i ≡ Some x) × (drop i xs ≡ x ∷ drop (i + 1) xs)
at_place xs i within = elim (slice_get_cases xs i).1 [
  | inl w ↦ (w.0, w.2, drop_more xs i w.0 w.1 ∙ ap (λ y. y ∷ drop (i + 1) xs) w.3)
  | inr w ↦ absurd (omega arith)
]

-- the row of the routine at a place is made, in its own scope
pub row_turn : (g h : Program) (ts : List Text) (n : ℕ) (c : Scope) (w : ℕ) (r : Routine) (k : RoutineMeasure) (rows new end : List RoutineMeasure) → n < length ts → h ≡ g
    → ((t : Text) → slice_get ts n ≡ Some t → c ≡ routine_scope g t)
    → ((t : Text) → slice_get ts n ≡ Some t → w ≡ routine_vars_words g t.routine)
    → ((t : Text) → slice_get ts n ≡ Some t → r ≡ t.routine)
    → k ≡ row_of h c w rows r → new ≡ rows ++ k ∷ []
    → rows_from g (drop n ts) rows ≡ end → rows_from g (drop (n + 1) ts) new ≡ end
row_turn g h ts n c w r k rows new end within same is_c is_w is_r made pushed so_far =
    let a = at_place ts n within in
    ap (rows_from g (drop (n + 1) ts))
    (pushed ∙ ap (λ x. rows ++ x ∷ [])
    (made ∙ ap (λ x. row_of x c w rows r) same ∙ ap (λ x. row_of g x w rows r) (is_c a.0 a.1)
    ∙ ap (λ x. row_of g (routine_scope g a.0) x rows r) (is_w a.0 a.1)
    ∙ ap (λ x. row_of g (routine_scope g a.0) (routine_vars_words g a.0.routine) rows x) (is_r a.0 a.1)))
    ∙ sym (ap (λ us. rows_from g us rows) a.2) ∙ so_far

-- the same of a process
pub size_turn : (g h : Program) (rows : List RoutineMeasure) (ps : List Process) (n : ℕ) (c : Scope) (p : Process) (k : ProcessMeasure) (sizes new end : List ProcessMeasure) → n < length ps → h ≡ g
    → ((q : Process) → slice_get ps n ≡ Some q → c ≡ process_scope g n q)
    → ((q : Process) → slice_get ps n ≡ Some q → p ≡ q)
    → k ≡ process_size h c rows p → new ≡ sizes ++ k ∷ []
    → sizes_from g rows n (drop n ps) sizes ≡ end → sizes_from g rows (n + 1) (drop (n + 1) ps) new ≡ end
size_turn g h rows ps n c p k sizes new end within same is_c is_p made pushed so_far =
    let a = at_place ps n within in
    ap (sizes_from g rows (n + 1) (drop (n + 1) ps))
    (pushed ∙ ap (λ x. sizes ++ x ∷ [])
    (made ∙ ap (λ x. process_size x c rows p) same ∙ ap (λ x. process_size g x rows p) (is_c a.0 a.1)
    ∙ ap (λ x. process_size g (process_scope g n a.0) rows x) (is_p a.0 a.1)))
    ∙ sym (ap (λ us. sizes_from g rows n us sizes) a.2) ∙ so_far
