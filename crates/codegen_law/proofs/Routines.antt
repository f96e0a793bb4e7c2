-- What is made of a routine is its code, with its tree.
use Rattle.std.proofs.Common.{◌≡◌, ◌+◌, ◌-◌, ◌≤◌, min, ℕ, false, List, [], ◌∷◌, ◌++◌, map, length, Option, Some, None, pos, refl, sym, ap, subst, ◌∙◌, append_assoc, arith}
use Rattle.std.proofs.lemmas.List.{length-append}
use Rattle.syntax_tree.specs.Plain.{Answers, Routine, Program}
use Rattle.source_semantics.specs.Store.{range_of}
use Rattle.machine_isa.specs.declared.instr.Instr.{Instr}
use Rattle.machine_isa.specs.declared.instr.Instr.TheVariants as i
use Rattle.machine_semantics.specs.Trees as tree
use Rattle.machine_semantics.specs.Trees.{Segs, Nil, Cons}
use Rattle.image_format.specs.View.{view, views, tree_of}
use Rattle.image_format.specs.Kept.{stay}
use Rattle.code_spec.specs.Layout.{Owner, by_program, by_process, by_monitor, Scope, routine_vars_words}
use Rattle.code_spec.specs.Numbering.{Text, number_of}
use Rattle.code_spec.specs.Code.{code_of, range_code}
use Rattle.code_spec.specs.Emits.{Has, IsLine}
use Rattle.code_spec.specs.Segments.{line, expr_segs, stmts_segs, answers_segs, routine_segs}
use Rattle.code_spec.specs.Compiled.{routine_scope, enter_code, EmitsAnswer, EmitsEnd, EmitsRoutine}
use Rattle.code_cost_spec.specs.Names.{names_of}
use Rattle.code_cost_spec.specs.Lengths.{check_length, expr_length, stmts_length, answers_length, monitor_length, routine_length}
use Rattle.code_cost_spec.specs.Levels.{routine_names}
use Rattle.code_measures.specs.Sound.{SoundRoutine}
use Rattle.code_measures.proofs.Sizes.{alike}
use Rattle.code_measures.proofs.Seen.{sees}
use Rattle.codegen_spec.specs.Told.{fit, range_told}
use Rattle.codegen_spec.specs.Made.{Out, push, closed, line_of, expr_out, range_out, stmts_out}
use Rattle.codegen_spec.specs.Parts.{opened, answer_out, inner_out, entered, routine_out, return_of}
use Rattle.codegen_law.proofs.Lists.{has_rest}
use Rattle.codegen_law.proofs.Expressions.{aiming, LineMade, none_made, both_made, range_made, expr_made}
use Rattle.codegen_law.proofs.Statements.{fit_small, StmtsMade}
use Rattle.codegen_law.proofs.Nested.{stmts_made}
use Rattle.codegen_law.proofs.Joins.{view_stay}
use Rattle.codegen_law.proofs.Bounds.{all_bounds_fit}
use Rattle.codegen_law.proofs.Growth.{Grows, none, both, part_tree}
use Rattle.codegen_law.proofs.Segments.{range_grows, expr_grows, stmts_grows}
use Rattle.codegen_law.specs.MadeWholeFits.{AnswersFit, OwnerFits, RoutineFits}
use Rattle.code_measures.proofs.Lines.{has_first}

-- ---- the result

abbrev pub answer_code : Program → Scope → Option Answers → List Instr
answer_code g c None = []
answer_code g c (Some a) = code_of g c a.value ++ range_code (range_of g a.kind)

answer_line : (g : Program) (c : Scope) (a : Option Answers) → AnswersFit g c a → LineMade (answer_out g c a) (λ y. answer_code g (aiming c y) a)
answer_line g c None h = none_made
answer_line g c (Some a) h = both_made (expr_out g c a.value) (range_out (range_told g a.kind)) (λ y. code_of g (aiming c y) a.value) (λ y. range_code (range_of g a.kind)) (expr_made g c a.value h.0) (range_made (range_of g a.kind) h.1)

abbrev answer_tail : Program → Scope → Option Answers → Segs → Segs
answer_tail g c None k = k
answer_tail g c (Some a) k = expr_segs g c a.value (line (length (range_code (range_of g a.kind))) k)

answer_grows : (g : Program) (S : Type 0) → (S → (t : Text) → number_of g t ≤ 65535) → (c : Scope) (a : Option Answers) → Grows S (answer_out g c a) (answer_tail g c a) (answers_length g (names_of g c) a)
answer_grows g S few c None = none
answer_grows g S few c (Some a) =
    both (expr_out g c a.value) (range_out (range_told g a.kind)) (expr_segs g c a.value) (λ k. line (length (range_code (range_of g a.kind))) k) (expr_length g c.owner a.value) (check_length (range_of g a.kind))
    (expr_grows g S few c c c.owner refl refl a.value) (range_grows (range_of g a.kind))

answer_segs : (g : Program) (c : Scope) (a : Option Answers) → answer_tail g c a Nil ≡ answers_segs g c a
answer_segs g c None = refl
answer_segs g c (Some a) = refl

answered : (g : Program) (all : List Instr) (c : Scope) (a : Answers) (p r : ℕ) → Has all p (answer_code g c (Some a)) → r ≡ p + length (answer_code g c (Some a)) → EmitsAnswer g all c p r a
answered g all c a p r h e =
    let value : List Instr = code_of g c a.value in
    let check : List Instr = range_code (range_of g a.kind) in
    let long : length (value ++ check) ≡ length value + length check = length-append value check in
    let end : r ≡ p + length value + length check = omega arith in
    (p + length value, record { has = has_first all p value check h; end = refl }, record { has = has_rest all p (p + length value) value check refl h; end = end })

-- ---- the end

-- what stands behind the result
abbrev leave_code : Owner → Instr → List Instr
leave_code (by_monitor m) j = i.Leave (pos m) ∷ j ∷ []
leave_code by_program j = j ∷ []
leave_code (by_process k) j = j ∷ []

-- a result, and what stands behind it
abbrev Closing : Program → List Instr → Scope → (p q : ℕ) → Answers → List Instr → Type 0
Closing g all c p q a js = (r : ℕ) × EmitsAnswer g all c p r a × IsLine all r q js

closing : (g : Program) (all : List Instr) (c : Scope) (a : Answers) (p q : ℕ) (js : List Instr) → Has all p (answer_code g c (Some a) ++ js) → q ≡ p + length (answer_code g c (Some a) ++ js) → Closing g all c p q a js
closing g all c a p q js h e =
    let xs : List Instr = answer_code g c (Some a) in
    let long : length (xs ++ js) ≡ length xs + length js = length-append xs js in
    let end : q ≡ p + length xs + length js = omega arith in
    (p + length xs, answered g all c a p (p + length xs) (has_first all p xs js h) refl, record { has = has_rest all p (p + length xs) xs js refl h; end = end })

ends : (g : Program) (all : List Instr) (c : Scope) (o : Owner) (a : Option Answers) (p q : ℕ) → Has all p (answer_code g c a ++ leave_code o (return_of a)) → q ≡ p + length (answer_code g c a ++ leave_code o (return_of a)) → EmitsEnd g all c o p q a
ends g all c by_program None p q h e = record { has = h; end = e }
ends g all c (by_process k) None p q h e = record { has = h; end = e }
ends g all c (by_monitor m) None p q h e = record { has = h; end = e }
ends g all c by_program (Some a) p q h e = closing g all c a p q (i.ReturnValue ∷ []) h e
ends g all c (by_process k) (Some a) p q h e = closing g all c a p q (i.ReturnValue ∷ []) h e
ends g all c (by_monitor m) (Some a) p q h e = closing g all c a p q (i.Leave (pos m) ∷ i.ReturnValue ∷ []) h e

-- ---- the routine

four : (a b c d : List Instr) → ((a ++ b) ++ c) ++ d ≡ a ++ (b ++ (c ++ d))
four a b c d = simp append_assoc

-- what is made of a routine behind so much code, and its return
abbrev pub whole_out : Program → Text → List Instr → Out
whole_out g t k = routine_out g (routine_scope g t) t.owner t.routine (opened (routine_vars_words g t.routine) k)

module _ (g : Program) (c : Scope) (r : Routine) (w p : ℕ) (m : StmtsMade g c r.body false p w) (a : LineMade (answer_out g c r.answers) (λ y. answer_code g (aiming c y) r.answers)) where
  inner_made : (o : Out) → length o.code ≡ p → o.word ≡ w → (inner_out g c r o).code ≡ (o.code ++ m.code) ++ a.code
  inner_made o long at = a.made (stmts_out g c r.body o) ∙ ap (λ z. z ++ a.code) (m.made o long at)

  -- but for what stands before the body
  framed : (o : Owner) (k : List Instr) → OwnerFits o → length k + length (enter_code o) ≡ p
      → (push (routine_out g c o r (opened w k)) (return_of r.answers)).code ≡ k ++ (enter_code o ++ (m.code ++ (a.code ++ leave_code o (return_of r.answers))))
  framed by_program k h e =
      let long : length k ≡ p = omega arith in
      ap (λ z. z ++ return_of r.answers ∷ []) (inner_made (opened w k) long refl) ∙ four k m.code a.code (return_of r.answers ∷ [])
  framed (by_process n) k h e =
      let long : length k ≡ p = omega arith in
      ap (λ z. z ++ return_of r.answers ∷ []) (inner_made (opened w k) long refl) ∙ four k m.code a.code (return_of r.answers ∷ [])
  framed (by_monitor n) k h e =
      let small : n ≤ 2147483647 = omega arith in
      let same : fit (pos n) ≡ pos n = fit_small n small in
      let j : Instr = return_of r.answers in
      let before : List Instr = k ++ i.Enter (fit (pos n)) ∷ [] in
      let long : length before ≡ p = length-append k (i.Enter (fit (pos n)) ∷ []) ∙ e in
      ap (λ z. (z ++ i.Leave (fit (pos n)) ∷ []) ++ j ∷ []) (inner_made (entered n (opened w k)) long refl)
      ∙ append_assoc ((before ++ m.code) ++ a.code) (i.Leave (fit (pos n)) ∷ []) (j ∷ [])
      ∙ four before m.code a.code (i.Leave (fit (pos n)) ∷ j ∷ [])
      ∙ append_assoc k (i.Enter (fit (pos n)) ∷ []) (m.code ++ (a.code ++ i.Leave (fit (pos n)) ∷ j ∷ []))
      ∙ ap (λ z. k ++ i.Enter z ∷ (m.code ++ (a.code ++ i.Leave z ∷ j ∷ []))) same

-- what is made of a routine at p
pub record RoutineCode (g : Program) (t : Text) (p : ℕ) : Type 0 where
  pub code : List Instr
  pub made : (k : List Instr) → length k ≡ p → (push (whole_out g t k) (return_of t.routine.answers)).code ≡ k ++ code
  pub emits : (all : List Instr) → p + length code ≤ 2147483647 → Has all p code → EmitsRoutine g all t p (p + length code)

pub routine_code : (g : Program) (t : Text) (p : ℕ) → RoutineFits g t → RoutineCode g t p
routine_code g t p fits =
    let c : Scope = routine_scope g t in
    let w : ℕ = routine_vars_words g t.routine in
    let before : List Instr = enter_code t.owner in
    let inside : ℕ = p + length before in
    let m : StmtsMade g c t.routine.body false inside w = stmts_made g c t.routine.body false inside w fits.body in
    let a : LineMade (answer_out g c t.routine.answers) (λ y. answer_code g (aiming c y) t.routine.answers) = answer_line g c t.routine.answers fits.answers in
    let rest : List Instr = a.code ++ leave_code t.owner (return_of t.routine.answers) in
    record {
      code = before ++ (m.code ++ rest);
      made = λ k long. framed g c t.routine w inside m a t.owner k fits.owner (ap (λ n. n + length before) long);
      emits = λ all small h.
          let l1 : length (before ++ (m.code ++ rest)) ≡ length before + length (m.code ++ rest) = length-append before (m.code ++ rest) in
          let l2 : length (m.code ++ rest) ≡ length m.code + length rest = length-append m.code rest in
          let low : inside + length m.code ≤ 2147483647 = omega arith in
          let h1 : Has all inside (m.code ++ rest) = has_rest all p inside before (m.code ++ rest) refl h in
          let behind : ℕ = inside + length m.code in
          let h2 : Has all behind rest = has_rest all inside behind m.code rest refl h1 in
          let q : ℕ = p + length (before ++ (m.code ++ rest)) in
          let end : q ≡ behind + length rest = omega arith in
          let same : a.code ≡ answer_code g c t.routine.answers = sym (a.emits None) in
          record {
            inside = inside;
            enters = record { has = has_first all p before (m.code ++ rest) h; end = refl };
            behind = behind;
            body = m.emits all tt low (subst (λ js. Has all inside js) (sym (m.still tt (pos 0))) (has_first all inside m.code rest h1));
            rest = ends g all c t.owner t.routine.answers behind q (subst (λ js. Has all behind (js ++ leave_code t.owner (return_of t.routine.answers))) same h2)
                (end ∙ ap (λ js. behind + length (js ++ leave_code t.owner (return_of t.routine.answers))) same);
          };
    }

-- ---- the tree

module _ (g : Program) (S : Type 0) (few : S → (t : Text) → number_of g t ≤ 65535) (c : Scope) (r : Routine) (w l : ℕ) (body : Grows S (stmts_out g c r.body) (stmts_segs g c r.body) l) where
  inner_grows : Grows S (inner_out g c r) (λ k. stmts_segs g c r.body (answer_tail g c r.answers k)) (l + answers_length g (names_of g c) r.answers)
  inner_grows = both (stmts_out g c r.body) (answer_out g c r.answers) (stmts_segs g c r.body) (answer_tail g c r.answers) l (answers_length g (names_of g c) r.answers) body (answer_grows g S few c r.answers)

  inner_tree : S → (o : Out) → o.segs ≡ [] → o.from ≡ length o.code → length (inner_out g c r o).code ≤ 4294967295 → views (closed (inner_out g c r o)) ≡ stmts_segs g c r.body (answers_segs g c r.answers)
  inner_tree z o none here small =
      part_tree (inner_out g c r) (λ k. stmts_segs g c r.body (answer_tail g c r.answers k)) (l + answers_length g (names_of g c) r.answers) inner_grows z o none here small
      ∙ ap (λ k. stmts_segs g c r.body k) (answer_segs g c r.answers)

  framed_long : (o : Owner) (k : List Instr) → length (routine_out g c o r (opened w k)).code ≡ length k + (l + answers_length g (names_of g c) r.answers) + monitor_length o
  framed_long by_program k = inner_grows.longer (opened w k) ∙ omega arith
  framed_long (by_process n) k = inner_grows.longer (opened w k) ∙ omega arith
  framed_long (by_monitor n) k =
      let e : length (inner_out g c r (entered n (opened w k))).code ≡ length (k ++ i.Enter (fit (pos n)) ∷ []) + (l + answers_length g (names_of g c) r.answers) = inner_grows.longer (entered n (opened w k)) in
      let d : length (k ++ i.Enter (fit (pos n)) ∷ []) ≡ length k + 1 = length-append k (i.Enter (fit (pos n)) ∷ []) in
      length-append (inner_out g c r (entered n (opened w k))).code (i.Leave (fit (pos n)) ∷ []) ∙ omega arith

  framed_tree : S → (o : Owner) (k : List Instr) → OwnerFits o → length (routine_out g c o r (opened w k)).code ≤ 4294967295 → views (closed (routine_out g c o r (opened w k))) ≡ routine_segs g c o r
  framed_tree z by_program k h small = inner_tree z (opened w k) refl refl small
  framed_tree z (by_process n) k h small = inner_tree z (opened w k) refl refl small
  framed_tree z (by_monitor n) k h small =
      let o : Out = inner_out g c r (entered n (opened w k)) in
      let all : List Instr = o.code ++ i.Leave (fit (pos n)) ∷ [] in
      let l1 : length all ≡ length o.code + 1 = length-append o.code (i.Leave (fit (pos n)) ∷ []) in
      let less : length o.code ≤ 4294967295 = omega arith in
      let nothing : length all - length all ≡ 0 = omega arith in
      let same : min n 65535 ≡ n = omega arith in
      ap (λ x. tree_of (map view (stay (min n 65535) (closed o) ∷ line_of x))) nothing
      ∙ ap (λ s. Cons s Nil) (view_stay (min n 65535) (closed o) ∙ ap (λ x. tree.Stay x (views (closed o))) same ∙ ap (λ x. tree.Stay n x) (inner_tree z (entered n (opened w k)) refl refl less))

pub body_grows : (g : Program) (S : Type 0) → (S → (t : Text) → number_of g t ≤ 65535) → (may : Text → Type 0) (t : Text) → (S → RoutineFits g t) → SoundRoutine g may t
    → Grows S (stmts_out g (routine_scope g t) t.routine.body) (stmts_segs g (routine_scope g t) t.routine.body) (stmts_length g (routine_names g t) t.routine.body)
body_grows g S few may t fits sound =
    let c : Scope = routine_scope g t in
    stmts_grows g S few may t.routine.body c c None (routine_names g t) (alike g c) (sees g c) (λ z. all_bounds_fit g c false (routine_vars_words g t.routine) t.routine.body (fits z).body) sound.0

-- the length does not ask how large anything is
pub routine_long : (g : Program) (may : Text → Type 0) (t : Text) → SoundRoutine g may t → (k : List Instr) → length (push (whole_out g t k) (return_of t.routine.answers)).code ≡ length k + routine_length g (routine_names g t) t
routine_long g may t sound k =
    let e : length (whole_out g t k).code ≡ length k + (stmts_length g (routine_names g t) t.routine.body + answers_length g (routine_names g t) t.routine.answers) + monitor_length t.owner =
    framed_long g ⊥ (λ z. absurd z) (routine_scope g t) t.routine (routine_vars_words g t.routine) (stmts_length g (routine_names g t) t.routine.body) (body_grows g ⊥ (λ z. absurd z) may t (λ z. absurd z) sound) t.owner k in
    length-append (whole_out g t k).code (return_of t.routine.answers ∷ []) ∙ omega arith

pub routine_tree : (g : Program) → ((t : Text) → number_of g t ≤ 65535) → (may : Text → Type 0) (t : Text) → RoutineFits g t → SoundRoutine g may t → (k : List Instr)
    → length (whole_out g t k).code ≤ 4294967295 → views (closed (whole_out g t k)) ≡ routine_segs g (routine_scope g t) t.owner t.routine
routine_tree g few may t fits sound k small =
    framed_tree g (Unit {0}) (λ z. few) (routine_scope g t) t.routine (routine_vars_words g t.routine) (stmts_length g (routine_names g t) t.routine.body) (body_grows g (Unit {0}) (λ z. few) may t (λ z. fits) sound) tt t.owner k fits.owner small
