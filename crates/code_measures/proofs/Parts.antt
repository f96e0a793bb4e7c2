-- What the code of routines and processes comes to.
use Rattle.std.specs.Prelude.{◌≡◌, ◌≤◌, ◌+◌, ◌-◌, ℕ, true, cond, List, [], ◌∷◌, Option, Some, None, pos, max, length, nat_eq, slice_get, is_some}
use Rattle.std.proofs.Common.{refl, sym, ap, subst, ◌∙◌, arith}
use Rattle.std.proofs.lemmas.Bool.{and_from, eq-eqb}
use Rattle.base.proofs.Numbers.{itself}
use Rattle.syntax_tree.specs.Plain.{Stmts, Answers, Handler, Process, Program}
use Rattle.base.specs.declared.capped.Cost.{Cost}
use Rattle.machine_isa.specs.declared.instr.Instr.{Instr}
use Rattle.machine_isa.specs.declared.instr.Instr.TheVariants as i
use Rattle.source_semantics.specs.Store.{Range, range_of}
use Rattle.machine_semantics.specs.Image as image
use Rattle.machine_semantics.specs.Trees.{Segs, Stay, Nil, Cons, size}
use Rattle.valid_image.specs.Found.{Known, Found, amount, plus, longer, guard, chain, is_enter, is_leave, is_return, is_end, entry, ended, tree_found, founds}
use Rattle.valid_image.specs.Tables.{monitor_of, routine_found, part_found, nothing_found, count as count_of}
use Rattle.valid_image.specs.Pieces.{handler_length}
use Rattle.code_spec.specs.Layout.{Owner, by_program, by_process, by_monitor, Scope, routine_vars_words, loops}
use Rattle.code_spec.specs.Code.{code_of, range_code}
use Rattle.code_spec.specs.Emits.{IsLine, At, EmitsAll}
use Rattle.code_spec.specs.Segments.{line, expr_segs, stmts_segs, answers_segs, routine_segs}
use Rattle.code_spec.specs.Compiled.{routine_scope, process_scope, EmitsAnswer, EmitsEnd, enter_code, kind_number, owner_number, EmitsHandler}
use Rattle.code_cost_spec.specs.Names.{Calls, names_of}
use Rattle.code_cost_spec.specs.Costs.{run, check_ticks, monitor_ticks, expr_cost, stmts_cost, answers_cost, inner_cost, routine_cost, stay_cost, handler_cost}
use Rattle.code_cost_spec.specs.Heights.{expr_height, stmts_height, answers_height, routine_height, handler_height}
use Rattle.code_cost_spec.specs.Levels.{routine_names, process_names}
use Rattle.code_measures.specs.Sound.{IsKnown, SoundAll, SoundAnswers, SoundHandler}
use Rattle.code_measures.specs.Measured.{IsMeasured, RoutinesAreMeasured, handler_part, ProcessesAreMeasured}
use Rattle.code_measures.proofs.Adding.{adds, adds_adds, adds_same, some_found}
use Rattle.code_measures.proofs.Lines.{one_found}
use Rattle.code_measures.proofs.Sizes.{alike, expr_size, line_size, stmts_size}
use Rattle.code_measures.proofs.Seen.{sees}
use Rattle.code_measures.proofs.Exprs.{expr_found, expr_high}
use Rattle.code_measures.proofs.Blocks.{check_height, check_low}
use Rattle.code_measures.proofs.Stmts.{Inside, stmts_found}

-- what is left where a routine ends: its result, if it gives one
abbrev at_end : Option Answers → Found
at_end o = record { height = count_of (is_some o); cost = amount 0 0 0; depth = 0 }

-- the code from p to q is that of the result, if there is one
abbrev pub Answered : Program → List Instr → Scope → (p q : ℕ) → Option Answers → Type 0
Answered g code c p q None = q ≡ p
Answered g code c p q (Some a) = EmitsAnswer g code c p q a

abbrev pub return_of : Option Answers → Instr
return_of None = i.Return
return_of (Some a) = i.ReturnValue

abbrev pub last_code : Owner → Option Answers → List Instr
last_code by_program o = return_of o ∷ []
last_code (by_process k) o = return_of o ∷ []
last_code (by_monitor m) o = i.Leave (pos m) ∷ return_of o ∷ []

pub ends_apart : (g : Program) (code : List Instr) (c : Scope) (w : Owner) (p q : ℕ) (o : Option Answers) → EmitsEnd g code c w p q o → (r : ℕ) × Answered g code c p r o × IsLine code r q (last_code w o)
ends_apart g code c by_program p q None h = (p, refl, h)
ends_apart g code c by_program p q (Some a) h = (h.0, h.1, h.2)
ends_apart g code c (by_process k) p q None h = (p, refl, h)
ends_apart g code c (by_process k) p q (Some a) h = (h.0, h.1, h.2)
ends_apart g code c (by_monitor m) p q None h = (p, refl, h)
ends_apart g code c (by_monitor m) p q (Some a) h = (h.0, h.1, h.2)

module _ (g : Program) (known : List Known) (k : Calls) (code : List Instr) where
  module _ (c : Scope) (out held : Option ℕ) where
    last_check : (x : Option Range) (p q : ℕ) → IsLine code p q (range_code x)
        → founds code known out held (line (length (range_code x)) Nil) p 1 ≡ Some (adds (run (check_ticks x)) (check_height x 1) (record { height = 1; cost = amount 0 0 0; depth = 0 }))
    last_check None p q l = refl
    last_check (Some x) p q l = one_found code known out held (i.Range x.low x.high) p q 1 1 Nil (record { height = 1; cost = amount 0 0 0; depth = 0 }) l refl refl refl refl

    answers_found : (o : Option Answers) (p q : ℕ) → SoundAnswers g (λ y. IsKnown g known k y) c o → Answered g code c p q o
        → founds code known out held (answers_segs g c o) p 0 ≡ Some (adds (answers_cost g (names_of g c) k o) (answers_height g c.owner k o) (at_end o))
    answers_found None p q ok h = refl
    answers_found (Some a) p q ok h =
        let high : 1 ≤ expr_height g c.owner k a.value = expr_high g known k c (names_of g c) a.value (sees g c) ok in
        let low : check_height (range_of g a.kind) 1 ≤ 1 = check_low (range_of g a.kind) 1 in
        expr_found g known k code out held c c (names_of g c) (alike g c) (sees g c) a.value p h.0 0 (line (length (range_code (range_of g a.kind))) Nil)
        (adds (run (check_ticks (range_of g a.kind))) (check_height (range_of g a.kind) 1) (record { height = 1; cost = amount 0 0 0; depth = 0 })) ok h.1 (last_check (range_of g a.kind) h.0 q h.2)
        ∙ some_found _ _ (adds_adds (expr_cost g (names_of g c) k a.value) (run (check_ticks (range_of g a.kind))) (0 + expr_height g c.owner k a.value) (check_height (range_of g a.kind) 1) _ ∙ adds_same _ _ _ _ (omega (arith, high, low)))

    answers_size : (o : Option Answers) (p q : ℕ) → Answered g code c p q o → q ≡ p + size (answers_segs g c o)
    answers_size None p q h = let e : q ≡ p = h in omega (arith, e)
    answers_size (Some a) p q h =
        let end1 : h.0 ≡ p + length (code_of g c a.value) = h.1.end in
        let end2 : q ≡ h.0 + length (range_code (range_of g a.kind)) = h.2.end in
        let e : size (expr_segs g c a.value (line (length (range_code (range_of g a.kind))) Nil)) ≡ length (code_of g c a.value) + size (line (length (range_code (range_of g a.kind))) Nil) = expr_size g c c (alike g c) a.value _ in
        let f : size (line (length (range_code (range_of g a.kind))) Nil) ≡ length (range_code (range_of g a.kind)) + size Nil = line_size (length (range_code (range_of g a.kind))) Nil in
        omega arith

  -- body and result
  inner_found : (c : Scope) (held : Option ℕ) (w p mid q : ℕ) (body : Stmts) (o : Option Answers) → c.exit ≡ None → Inside c held → SoundAll g (λ y. IsKnown g known k y) c body → SoundAnswers g (λ y. IsKnown g known k y) c o → EmitsAll g code c w p mid body → Answered g code c mid q o
      → founds code known None held (stmts_segs g c body (answers_segs g c o)) p 0
      ≡ Some (adds (plus (stmts_cost g (names_of g c) k body) (answers_cost g (names_of g c) k o)) (max (stmts_height g c.owner k body) (answers_height g c.owner k o)) (at_end o))
  inner_found c held w p mid q body o exits within ok ok2 h h2 =
      stmts_found g known k code body c c (names_of g c) None held w p mid (answers_segs g c o) (adds (answers_cost g (names_of g c) k o) (answers_height g c.owner k o) (at_end o)) (alike g c) (sees g c) exits within ok h
      (answers_found c None held o mid q ok2 h2)
      ∙ some_found _ _ (adds_adds (stmts_cost g (names_of g c) k body) (answers_cost g (names_of g c) k o) (stmts_height g c.owner k body) (answers_height g c.owner k o) (at_end o))

  inner_size : (c : Scope) (w p mid q : ℕ) (body : Stmts) (o : Option Answers) → SoundAll g (λ y. IsKnown g known k y) c body → EmitsAll g code c w p mid body → Answered g code c mid q o → q ≡ p + size (stmts_segs g c body (answers_segs g c o))
  inner_size c w p mid q body o ok h h2 =
      let e : mid + size (answers_segs g c o) ≡ p + size (stmts_segs g c body (answers_segs g c o)) = stmts_size g (λ y. IsKnown g known k y) body c c w p mid (answers_segs g c o) code (alike g c) h ok in
      let f : q ≡ mid + size (answers_segs g c o) = answers_size c None None o mid q h2 in omega arith

  -- an entry
  entry_found : (m p q : ℕ) (body : Segs) (f : Found) (rest : List Instr) → slice_get code p ≡ Some (i.Enter (pos m)) → slice_get code (p + 1 + size body) ≡ Some (i.Leave (pos m)) → founds code known None (Some m) body (p + 1) 0 ≡ Some f
      → entry code known m (Cons (Stay m body) Nil) p ≡ Some (record { height = f.height; cost = plus f.cost (amount 8 0 0); depth = max f.depth 0 })
  entry_found m p q body f rest enters leaves inside =
      ap (λ b. guard b (chain (founds code known None (Some m) body (p + 1) 0) (λ h. Some (record { height = h; cost = amount 8 0 0; depth = 0 }))))
      (and_from _ _ (itself m) (and_from _ _ (ap (λ o. is_enter m o) enters ∙ itself m) (ap (λ o. is_leave m o) leaves ∙ itself m)))
      ∙ ap (λ o. chain o (λ h. Some (record { height = h; cost = amount 8 0 0; depth = 0 }))) inside

-- the RET or RETV that ends it
returns : (o : Option Answers) → is_return (is_some o) (Some (return_of o)) ≡ true
returns None = refl
returns (Some a) = refl

-- a routine whose tree is found to come to f, and which ends with its return
routine_is : (code : List Instr) (known : List Known) (r : image.Routine) (m : Option ℕ) (o : Option Answers) (f : Found) → r.gives ≡ is_some o → monitor_of r ≡ m → slice_get code (r.start + size r.tree) ≡ Some (return_of o)
    → tree_found code known m r.tree r.start ≡ Some f → f.height ≡ count_of (is_some o) → routine_found code known r ≡ Some f
routine_is code known r m o f gives mon last is height =
    ap (λ b. guard b (ended (count_of r.gives) (tree_found code known (monitor_of r) r.tree r.start))) (ap (λ b. is_return b (slice_get code (r.start + size r.tree))) gives ∙ (ap (λ z. is_return (is_some o) z) last ∙ returns o))
    ∙ (ap (λ z. ended (count_of r.gives) (tree_found code known z r.tree r.start)) mon
    ∙ (ap (λ z. ended (count_of r.gives) z) is
    ∙ ap (λ b. guard b (Some f)) (eq-eqb f.height (count_of r.gives) (height ∙ ap (λ b. count_of b) (sym gives)))))

pub routines_are_measured : RoutinesAreMeasured
routines_are_measured g code known k t r q is_r h ok = by_owner t.owner refl
  where
    c : Scope
    c = routine_scope g t

    apart : (w : Owner) → t.owner ≡ w → (e : ℕ) × Answered g code (routine_scope g t) h.behind e t.routine.answers × IsLine code e q (last_code w t.routine.answers)
    apart w is = ends_apart g code (routine_scope g t) w h.behind q t.routine.answers (subst (λ o. EmitsEnd g code (routine_scope g t) o h.behind q t.routine.answers) is h.rest)

    apart_entry : (w : Owner) → t.owner ≡ w → IsLine code r.start h.inside (enter_code w)
    apart_entry w is = subst (λ o. IsLine code r.start h.inside (enter_code o)) is h.enters

    plain : (w : Owner) → t.owner ≡ w → monitor_of r ≡ None → r.tree ≡ stmts_segs g (routine_scope g t) t.routine.body (answers_segs g (routine_scope g t) t.routine.answers) → h.inside ≡ r.start
        → ((m : ℕ) → t.owner ≡ by_monitor m → ⊥) → routine_cost g (routine_names g t) k t ≡ longer 4 (inner_cost g (routine_names g t) k t.routine)
        → (e : ℕ) × Answered g code (routine_scope g t) h.behind e t.routine.answers × IsLine code e q (return_of t.routine.answers ∷ [])
        → IsMeasured g code known k t r q
    plain w owner_is mon tree starts outside costs parts =
        let e : ℕ = parts.0 in
        let sized : parts.0 ≡ h.inside + size (stmts_segs g (routine_scope g t) t.routine.body (answers_segs g (routine_scope g t) t.routine.answers)) =
        inner_size g known k code (routine_scope g t) (routine_vars_words g t.routine) h.inside h.behind parts.0 t.routine.body t.routine.answers ok.0 h.body parts.1 in
        let sized2 : parts.0 ≡ r.start + size r.tree = subst (λ y. parts.0 ≡ r.start + size y) (sym tree) (subst (λ y. parts.0 ≡ y + size (stmts_segs g (routine_scope g t) t.routine.body (answers_segs g (routine_scope g t) t.routine.answers))) starts sized) in
        let last : q ≡ parts.0 + 1 = parts.2.end in
        record {
          found = adds (inner_cost g (routine_names g t) k t.routine) (routine_height g t.owner k t.routine) (at_end t.routine.answers);
          is = routine_is code known r None t.routine.answers _ is_r.gives mon (subst (λ y. slice_get code y ≡ Some (return_of t.routine.answers)) sized2 parts.2.has.0)
              (subst (λ y. founds code known None None y r.start 0 ≡ Some (adds (inner_cost g (routine_names g t) k t.routine) (routine_height g t.owner k t.routine) (at_end t.routine.answers))) (sym tree)
              (subst (λ y. founds code known None None (stmts_segs g (routine_scope g t) t.routine.body (answers_segs g (routine_scope g t) t.routine.answers)) y 0 ≡ Some (adds (inner_cost g (routine_names g t) k t.routine) (routine_height g t.owner k t.routine) (at_end t.routine.answers))) starts
              (inner_found g known k code (routine_scope g t) None (routine_vars_words g t.routine) h.inside h.behind parts.0 t.routine.body t.routine.answers refl (λ m is. absurd (outside m is)) ok.0 ok.1 h.body parts.1))) refl;
          cost = more (inner_cost g (routine_names g t) k t.routine) ∙ sym costs;
          height = flat (routine_height g t.owner k t.routine);
          stay = λ m is. absurd (outside m is);
          end = omega (arith, sized2, last);
        }
      where
        cost_same : (a b c' a' b' d : ℕ) → a ≡ a' → b ≡ b' → c' ≡ d → amount a b c' ≡ amount a' b' d
        cost_same a b c' a' b' d e1 e2 e3 = ap (λ x. amount x b c') e1 ∙ (ap (λ x. amount a' x c') e2 ∙ ap (λ x. amount a' b' x) e3)

        more : (x : Cost) → longer 4 (plus x (amount 0 0 0)) ≡ longer 4 x
        more x = cost_same _ _ _ _ _ _ (omega arith) (omega arith) (omega arith)

        flat : (x : ℕ) → max x 0 ≡ x
        flat x = omega arith

    stays : (m : ℕ) → t.owner ≡ by_monitor m → r.tree ≡ Cons (Stay m (stmts_segs g (routine_scope g t) t.routine.body (answers_segs g (routine_scope g t) t.routine.answers))) Nil → monitor_of r ≡ Some m
        → IsLine code r.start h.inside (i.Enter (pos m) ∷ []) → (e : ℕ) × Answered g code (routine_scope g t) h.behind e t.routine.answers × IsLine code e q (i.Leave (pos m) ∷ return_of t.routine.answers ∷ [])
        → routine_cost g (routine_names g t) k t ≡ longer 12 (inner_cost g (routine_names g t) k t.routine) → ((j : ℕ) → t.owner ≡ by_monitor j → stay_cost g (routine_names g t) k t.owner t.routine ≡ (inner_cost g (routine_names g t) k t.routine).run + 3)
        → IsMeasured g code known k t r q
    stays m owner_is tree mon enters parts costs stay_is =
        let sized : parts.0 ≡ h.inside + size (stmts_segs g (routine_scope g t) t.routine.body (answers_segs g (routine_scope g t) t.routine.answers)) =
        inner_size g known k code (routine_scope g t) (routine_vars_words g t.routine) h.inside h.behind parts.0 t.routine.body t.routine.answers ok.0 h.body parts.1 in
        let starts : h.inside ≡ r.start + 1 = enters.end in
        let leaves : parts.0 ≡ r.start + 1 + size (stmts_segs g (routine_scope g t) t.routine.body (answers_segs g (routine_scope g t) t.routine.answers)) = omega (arith, sized, starts) in
        let size_is : size r.tree ≡ size (stmts_segs g (routine_scope g t) t.routine.body (answers_segs g (routine_scope g t) t.routine.answers)) + 2 + 0 = ap (λ y. size y) tree in
        let sized2 : parts.0 + 1 ≡ r.start + size r.tree = omega (arith, leaves, size_is) in
        let last : q ≡ parts.0 + 2 = parts.2.end in
        record {
          found = record { height = (at_end t.routine.answers).height; cost = plus (plus (inner_cost g (routine_names g t) k t.routine) (amount 0 0 0)) (amount 8 0 0); depth = max (max (routine_height g t.owner k t.routine) 0) 0 };
          is = routine_is code known r (Some m) t.routine.answers _ is_r.gives mon (subst (λ y. slice_get code y ≡ Some (return_of t.routine.answers)) sized2 parts.2.has.1.0)
              (subst (λ y. entry code known m y r.start ≡ Some (record { height = (at_end t.routine.answers).height; cost = plus (plus (inner_cost g (routine_names g t) k t.routine) (amount 0 0 0)) (amount 8 0 0); depth = max (max (routine_height g t.owner k t.routine) 0) 0 })) (sym tree)
              (entry_found g known k code m r.start q (stmts_segs g (routine_scope g t) t.routine.body (answers_segs g (routine_scope g t) t.routine.answers))
              (adds (inner_cost g (routine_names g t) k t.routine) (routine_height g t.owner k t.routine) (at_end t.routine.answers)) [] enters.has.0 (subst (λ y. slice_get code y ≡ Some (i.Leave (pos m))) leaves parts.2.has.0)
              (subst (λ y. founds code known None (Some m) (stmts_segs g (routine_scope g t) t.routine.body (answers_segs g (routine_scope g t) t.routine.answers)) y 0 ≡ Some (adds (inner_cost g (routine_names g t) k t.routine) (routine_height g t.owner k t.routine) (at_end t.routine.answers))) starts
              (inner_found g known k code (routine_scope g t) (Some m) (routine_vars_words g t.routine) h.inside h.behind parts.0 t.routine.body t.routine.answers refl (λ j is. ap (λ z. Some z) (same_monitor m j (sym owner_is ∙ is))) ok.0 ok.1 h.body parts.1)))) refl;
          cost = more (inner_cost g (routine_names g t) k t.routine) ∙ sym costs;
          height = flat (routine_height g t.owner k t.routine);
          stay = λ j is. shorter (inner_cost g (routine_names g t) k t.routine).run ∙ sym (stay_is j is);
          end = omega (arith, sized2, last);
        }
      where
        same_monitor : (m j : ℕ) → by_monitor m ≡ by_monitor j → m ≡ j
        same_monitor m j e = ap (λ o. owner_number o) e

        cost_same : (a b c' a' b' d : ℕ) → a ≡ a' → b ≡ b' → c' ≡ d → amount a b c' ≡ amount a' b' d
        cost_same a b c' a' b' d e1 e2 e3 = ap (λ x. amount x b c') e1 ∙ (ap (λ x. amount a' x c') e2 ∙ ap (λ x. amount a' b' x) e3)

        more : (x : Cost) → longer 4 (plus (plus x (amount 0 0 0)) (amount 8 0 0)) ≡ longer 12 x
        more x = cost_same _ _ _ _ _ _ (omega arith) (omega arith) (omega arith)

        flat : (x : ℕ) → max (max x 0) 0 ≡ x
        flat x = omega arith

        shorter : (x : ℕ) → x + 0 + 8 - 5 ≡ x + 3
        shorter x = omega arith

    kind_is : (w : Owner) → t.owner ≡ w → monitor_of r ≡ cond (nat_eq (kind_number w) 2) (Some (owner_number w)) None
    kind_is w is = ap (λ z. cond (nat_eq z 2) (Some r.owner) None) (is_r.kind ∙ ap (λ o. kind_number o) is) ∙ ap (λ z. cond (nat_eq (kind_number w) 2) (Some z) None) (is_r.owner ∙ ap (λ o. owner_number o) is)

    tree_is : (w : Owner) → t.owner ≡ w → r.tree ≡ routine_segs g (routine_scope g t) w t.routine
    tree_is w is = is_r.tree ∙ ap (λ o. routine_segs g (routine_scope g t) o t.routine) is

    cost_is : (w : Owner) → t.owner ≡ w → routine_cost g (routine_names g t) k t ≡ longer (4 + monitor_ticks w) (inner_cost g (routine_names g t) k t.routine)
    cost_is w is = ap (λ o. longer (4 + monitor_ticks o) (inner_cost g (routine_names g t) k t.routine)) is

    stay_is : (j : ℕ) → t.owner ≡ by_monitor j → stay_cost g (routine_names g t) k t.owner t.routine ≡ (inner_cost g (routine_names g t) k t.routine).run + 3
    stay_is j is = ap (λ o. stay_cost g (routine_names g t) k o t.routine) is

    no_more_than : (x y : ℕ) → x ≡ y + 0 → x ≡ y
    no_more_than x y e = omega (arith, e)

    not_of_program : (m : ℕ) → by_program ≡ by_monitor m → ⊥
    not_of_program m e = absurd cc

    not_of_process : (j m : ℕ) → by_process j ≡ by_monitor m → ⊥
    not_of_process j m e = absurd cc

    by_owner : (w : Owner) → t.owner ≡ w → IsMeasured g code known k t r q
    by_owner by_program is = plain by_program is (kind_is by_program is) (tree_is by_program is) (no_more_than _ _ (apart_entry by_program is).end) (λ m e. not_of_program m (sym is ∙ e)) (cost_is by_program is) (apart by_program is)
    by_owner (by_process j) is = plain (by_process j) is (kind_is (by_process j) is) (tree_is (by_process j) is) (no_more_than _ _ (apart_entry (by_process j) is).end) (λ m e. not_of_process j m (sym is ∙ e)) (cost_is (by_process j) is) (apart (by_process j) is)
    by_owner (by_monitor m) is = stays m is (tree_is (by_monitor m) is) (kind_is (by_monitor m) is) (apart_entry (by_monitor m) is) (apart (by_monitor m) is) (cost_is (by_monitor m) is) stay_is

-- ---- processes

module _ (g : Program) (code : List Instr) (known : List Known) (k : Calls) (j : ℕ) (p : Process) where
  process_part : (w from mid : ℕ) (body : Stmts) → SoundAll g (λ y. IsKnown g known k y) (process_scope g j p) body → EmitsAll g code (process_scope g j p) w from mid body → At code mid i.End
      → part_found code known (stmts_segs g (process_scope g j p) body Nil) from ≡ Some (adds (stmts_cost g (process_names g j p) k body) (stmts_height g (by_process j) k body) nothing_found)
  process_part w from mid body ok h end =
      let sized : mid + size Nil ≡ from + size (stmts_segs g (process_scope g j p) body Nil) = stmts_size g (λ y. IsKnown g known k y) body (process_scope g j p) (process_scope g j p) w from mid Nil code (alike g (process_scope g j p)) h ok in
      ap (λ b. guard b (ended 0 (founds code known None None (stmts_segs g (process_scope g j p) body Nil) from 0)))
      (ap (λ z. is_end z) (subst (λ y. slice_get code y ≡ Some i.End) (straight mid (from + size (stmts_segs g (process_scope g j p) body Nil)) sized) end))
      ∙ ap (λ z. ended 0 z) (stmts_found g known k code body (process_scope g j p) (process_scope g j p) (process_names g j p) None None w from mid Nil nothing_found (alike g (process_scope g j p)) (sees g (process_scope g j p)) refl (λ m e. absurd (outside m e)) ok h refl)
    where
      straight : (x y : ℕ) → x + 0 ≡ y → x ≡ y
      straight x y e = omega (arith, e)

      outside : (m : ℕ) → by_process j ≡ by_monitor m → ⊥
      outside m e = absurd cc

  body_size : (w from mid : ℕ) (body : Stmts) → SoundAll g (λ y. IsKnown g known k y) (process_scope g j p) body → EmitsAll g code (process_scope g j p) w from mid body → mid ≡ from + size (stmts_segs g (process_scope g j p) body Nil)
  body_size w from mid body ok h =
      let sized : mid + size Nil ≡ from + size (stmts_segs g (process_scope g j p) body Nil) = stmts_size g (λ y. IsKnown g known k y) body (process_scope g j p) (process_scope g j p) w from mid Nil code (alike g (process_scope g j p)) h ok in omega (arith, sized)

  handler_ends : (o : Option Handler) (from q : ℕ) (ip : image.Process) → SoundHandler g (λ y. IsKnown g known k y) (process_scope g j p) o → EmitsHandler g code j p o from q ip → q ≡ from + handler_length ip.handler_tree
  handler_ends None from q ip ok h = subst (λ z. q ≡ from + handler_length z) (sym h.3) (let e : q ≡ from = h.0 in omega (arith, e))
  handler_ends (Some x) from q ip ok h =
      let e : q ≡ h.0 + 1 = h.2.end in
      let f : h.0 ≡ from + size (stmts_segs g (process_scope g j p) x.body Nil) = body_size (loops p.body) from h.0 x.body ok h.1 in
      subst (λ z. q ≡ from + handler_length z) (sym h.5) (omega (arith, e, f))

  -- what a handler comes to
  abbrev handler_all : Option Handler → Found
  handler_all None = nothing_found
  handler_all (Some h) = adds (stmts_cost g (process_names g j p) k h.body) (stmts_height g (by_process j) k h.body) nothing_found

  handler_part_found : (o : Option Handler) (from q : ℕ) (ip : image.Process) → SoundHandler g (λ y. IsKnown g known k y) (process_scope g j p) o → EmitsHandler g code j p o from q ip → handler_part code known ip.handler_tree from ≡ Some (handler_all o)
  handler_part_found None from q ip ok h = ap (λ z. handler_part code known z from) h.3
  handler_part_found (Some x) from q ip ok h = ap (λ z. handler_part code known z from) h.5 ∙ process_part (loops p.body) from h.0 x.body ok h.1 h.2.has.0

  handler_costs : (o : Option Handler) → (handler_all o).cost ≡ plus (handler_cost g (process_names g j p) k o) (amount 0 0 0)
  handler_costs None = refl
  handler_costs (Some x) = refl

  handler_high : (o : Option Handler) → (handler_all o).depth ≡ max (handler_height g (by_process j) k o) 0
  handler_high None = refl
  handler_high (Some x) = refl

pub processes_are_measured : ProcessesAreMeasured
processes_are_measured g code known k j p ip q h ok =
    record {
      body = adds (stmts_cost g (process_names g j p) k p.body) (stmts_height g (by_process j) k p.body) nothing_found;
      body_is = ap (λ z. part_found code known z ip.start) h.tree ∙ process_part g code known k j p 0 ip.start h.behind p.body ok.0 h.body h.end;
      handler = handler_all g code known k j p p.handler;
      handler_is = ap (λ z. handler_part code known ip.handler_tree z) (sym (place (body_size g code known k j p 0 ip.start h.behind p.body ok.0 h.body) (ap (λ z. size z) h.tree))) ∙ handler_part_found g code known k j p p.handler (h.behind + 1) q ip ok.1 h.handler;
      cost = ap (λ z. longer 4 (plus (plus (stmts_cost g (process_names g j p) k p.body) (amount 0 0 0)) z)) (handler_costs g code known k j p p.handler) ∙ same (stmts_cost g (process_names g j p) k p.body) (handler_cost g (process_names g j p) k p.handler);
      height = ap (λ z. max (max (stmts_height g (by_process j) k p.body) 0) z) (handler_high g code known k j p p.handler) ∙ flat (stmts_height g (by_process j) k p.body) (handler_height g (by_process j) k p.handler);
      end = last (place (body_size g code known k j p 0 ip.start h.behind p.body ok.0 h.body) (ap (λ z. size z) h.tree)) (handler_ends g code known k j p p.handler (h.behind + 1) q ip ok.1 h.handler);
    }
  where
    place : h.behind ≡ ip.start + size (stmts_segs g (process_scope g j p) p.body Nil) → size ip.body ≡ size (stmts_segs g (process_scope g j p) p.body Nil) → h.behind + 1 ≡ ip.start + size ip.body + 1
    place e f = omega (arith, e, f)

    last : h.behind + 1 ≡ ip.start + size ip.body + 1 → q ≡ h.behind + 1 + handler_length ip.handler_tree → q ≡ ip.start + (size ip.body + 1 + handler_length ip.handler_tree)
    last e f = omega (arith, e, f)

    cost_same : (a b c' a' b' d : ℕ) → a ≡ a' → b ≡ b' → c' ≡ d → amount a b c' ≡ amount a' b' d
    cost_same a b c' a' b' d e1 e2 e3 = ap (λ x. amount x b c') e1 ∙ (ap (λ x. amount a' x c') e2 ∙ ap (λ x. amount a' b' x) e3)

    same : (x y : Cost) → longer 4 (plus (plus x (amount 0 0 0)) (plus y (amount 0 0 0))) ≡ longer 4 (plus x y)
    same x y = cost_same _ _ _ _ _ _ (omega arith) (omega arith) (omega arith)

    flat : (x y : ℕ) → max (max x 0) (max y 0) ≡ max x y
    flat x y = omega arith
