-- The declared costs are those that the trees need.
use Rattle.std.specs.Prelude.{◌≡◌, ◌≤◌, ◌+◌, ◌-◌, ◌*◌, ℕ, zero, suc, cond, List, length, Option, Some, None, take, slice_get, nat_eq}
use Rattle.std.proofs.Common.{refl, sym, ap, subst, ◌∙◌, arith}
use Rattle.std.proofs.lemmas.Option.{slice_get_within}
use Rattle.std.proofs.lemmas.Bool.{le-leb}
use Rattle.syntax_tree.specs.Plain.{Program}
use Rattle.base.specs.Capped.{cap}
use Rattle.base.specs.declared.capped.Cost.{Cost}
use Rattle.source_semantics.specs.Names.{routine_count}
use Rattle.machine_semantics.specs.Image as image
use Rattle.valid_image.specs.Found.{Found, longer, plus}
use Rattle.valid_image.specs.Fault.{unless, or_else, first_of, of_some}
use Rattle.valid_image.specs.Tables.{known, routine_found, handler_found, found_or_nothing}
use Rattle.valid_image.specs.Sizes.{below, needed_by_routine, needed_stay, routine_cost_fault, needed_by_process, with_dispatch, process_cost_fault, cost_fault}
use Rattle.code_spec.specs.Layout.{Owner, by_program, by_process, by_monitor}
use Rattle.code_spec.specs.Numbering.{Text, numbered}
use Rattle.code_spec.specs.Compiled.{kind_number, IsCodeOf}
use Rattle.code_cost_spec.specs.Costs.{routine_cost, inner_cost, stay_cost, process_cost}
use Rattle.code_cost_spec.specs.Levels.{routine_names, process_names, calls_of, stay_of_entry}
use Rattle.code_measures.specs.Like.{Like}
use Rattle.code_measures.specs.Declared.{IsBelow, IsSound, Declares, declared_calls}
use Rattle.code_measures.proofs.Capped.{sum_like, times_like}
use Rattle.code_measures.proofs.Likes.{routine_same, inner_same, process_same}
use Rattle.code_measures.proofs.Rows.{routine}
use Rattle.code_measures.proofs.Bodies.{text_at, body, calls_all, handler_same}

-- ---- no fault

pub none_first : {A : Type 0} (f : ℕ → Option A) (n at : ℕ) → ((j : ℕ) → f j ≡ None) → first_of f n at ≡ None
none_first f zero at none = refl
none_first f (suc n) at none = ap (λ o. or_else o (first_of f n (at + 1))) (none at) ∙ none_first f n (at + 1) none

-- no element of a list has a fault
pub none_all : {A B : Type 0} (f : ℕ → A → Option B) (xs : List A) → ((j : ℕ) (x : A) → slice_get xs j ≡ Some x → f j x ≡ None) → first_of (λ j. of_some (f j) (slice_get xs j)) (length xs) 0 ≡ None
none_all f xs none = none_first (λ j. of_some (f j) (slice_get xs j)) (length xs) 0 (λ j. by_case j (slice_get xs j) refl)
  where
    by_case : (j : ℕ) (o : Option _) → slice_get xs j ≡ o → of_some (f j) o ≡ None
    by_case j None is = refl
    by_case j (Some x) is = none j x is

pub both_none : {A : Type 0} (x y : Option A) → x ≡ None → y ≡ None → or_else x y ≡ None
both_none x y e f = ap (λ o. or_else o y) e ∙ f

pub enough : (d n : ℕ) → n ≤ d → below d n ≡ None
enough d n le = ap (λ b. unless b d n) (le-leb n d le)

exactly : (d n : ℕ) → n ≡ d → below d n ≡ None
exactly d n e = enough d n (omega (arith, e))

module _ (g : Program) (m : image.Image) (is : IsCodeOf g m) (sound : IsSound g) (declares : Declares g m) where
  stay_fits : (r : ℕ) (t : Text) (x : image.Routine) (f : Found) (w : Owner) → t.owner ≡ w → x.kind ≡ kind_number t.owner → routine_found m.code (take r (known m)) x ≡ Some f
      → ((j : ℕ) → t.owner ≡ by_monitor j → f.cost.run - 5 ≡ stay_cost g (routine_names g t) (declared_calls g) t.owner t.routine)
      → Like (inner_cost g (routine_names g t) (declared_calls g) t.routine) (inner_cost g (routine_names g t) (calls_of g) t.routine) → x.stay ≡ cap (stay_of_entry g t) → cap (needed_stay m r x) ≤ x.stay
  stay_fits r t x f w owner kind found stay like declared = by_owner w owner
    where
      needs : (n : ℕ) → x.kind ≡ n → needed_stay m r x ≡ cond (nat_eq n 2) (f.cost.run - 5) 0
      needs n e = ap (λ k. cond (nat_eq k 2) ((found_or_nothing (routine_found m.code (take r (known m)) x)).cost.run - 5) 0) e ∙ ap (λ o. cond (nat_eq n 2) ((found_or_nothing o).cost.run - 5) 0) found

      nothing : (n d : ℕ) → n ≡ 0 → cap n ≤ d
      nothing n d e = omega (arith, e)

      same : (a b c d : ℕ) → a ≡ b → cap b ≡ cap c → d ≡ cap c → cap a ≤ d
      same a b c d e1 e2 e3 = omega (arith, e1, e2, e3)

      by_owner : (w : Owner) → t.owner ≡ w → cap (needed_stay m r x) ≤ x.stay
      by_owner by_program owner = nothing _ _ (needs 0 (kind ∙ ap (λ o. kind_number o) owner))
      by_owner (by_process k) owner = nothing _ _ (needs 1 (kind ∙ ap (λ o. kind_number o) owner))
      by_owner (by_monitor k) owner =
          same (needed_stay m r x) ((inner_cost g (routine_names g t) (declared_calls g) t.routine).run + 3) ((inner_cost g (routine_names g t) (calls_of g) t.routine).run + 3) x.stay
          (needs 2 (kind ∙ ap (λ o. kind_number o) owner) ∙ (stay k owner ∙ ap (λ o. stay_cost g (routine_names g t) (declared_calls g) o t.routine) owner))
          (sum_like _ 3 _ 3 like.run refl) (declared ∙ ap (λ o. cap (stay_cost g (routine_names g t) (calls_of g) o t.routine)) owner)

  routine_fits : (r : ℕ) (x : image.Routine) → slice_get m.routines r ≡ Some x → routine_cost_fault m r x ≡ None
  routine_fits r x at =
      let t = text_at g m.code 0 is.between (numbered g) m.routines r x is.routine_code at in
      let i = routine g m is sound declares r t.0 t.1 in
      let same_x : i.stand.x ≡ x = (let e : Some i.stand.x ≡ Some x = sym i.stand.there ∙ at in cc) in
      let deep : r ≤ routine_count g = omega (arith, slice_get_within (numbered g) r t.0 t.1, sound.few) in
      let like = routine_same g (λ y. IsBelow g r y) (declared_calls g) (calls_of g) (i.calls (routine_count g) deep) t.0 (sound.routines r t.0 t.1) in
      let inside = inner_same g (λ y. IsBelow g r y) (declared_calls g) (calls_of g) (i.calls (routine_count g) deep) t.0 (sound.routines r t.0 t.1) in
      let d = declares.routines r t.0 i.stand.x t.1 i.stand.there in
      let needed : needed_by_routine m r i.stand.x ≡ routine_cost g (routine_names g t.0) (declared_calls g) t.0 = ap (λ o. longer 4 (found_or_nothing o).cost) i.measured.is ∙ i.measured.cost in
      subst (λ y. routine_cost_fault m r y ≡ None) same_x
      (both_none _ _ (exactly _ _ (ap (λ c. cap c.run) needed ∙ (like.cost.run ∙ sym d.run)))
      (both_none _ _ (exactly _ _ (ap (λ c. cap c.susp) needed ∙ (like.cost.susp ∙ sym d.susp)))
      (both_none _ _ (exactly _ _ (ap (λ c. cap c.waits) needed ∙ (like.cost.waits ∙ sym d.waits)))
      (enough _ _ (stay_fits r t.0 i.stand.x i.measured.found t.0.owner refl i.stand.is_r.kind i.measured.is i.measured.stay inside.cost d.stay)))))

  process_fits : (k : ℕ) (x : image.Process) → slice_get m.processes k ≡ Some x → process_cost_fault m x ≡ None
  process_fits k x at =
      let b = body g m is sound declares k x at in
      let like = process_same g (λ y. IsBelow g (length (numbered g)) y) (declared_calls g) (calls_of g) (calls_all g m is sound declares) k b.text (sound.bodies k b.text b.there) in
      let d = declares.bodies k b.text x b.there at in
      let needed : needed_by_process m x ≡ process_cost g (process_names g k b.text) (declared_calls g) b.text =
      ap (λ o. longer 4 (plus (found_or_nothing o).cost (found_or_nothing (handler_found m x x.handler_tree)).cost)) b.measured.body_is
      ∙ (ap (λ o. longer 4 (plus b.measured.body.cost (found_or_nothing o).cost)) (handler_same g m is sound declares x x.handler_tree ∙ b.measured.handler_is) ∙ b.measured.cost) in
      both_none _ _ (exactly _ _ (ap (λ c. cap (with_dispatch m.over c)) needed ∙ (dispatch m.over _ _ like.cost ∙ sym d.run)))
      (both_none _ _ (exactly _ _ (ap (λ c. cap c.susp) needed ∙ (like.cost.susp ∙ sym d.susp))) (exactly _ _ (ap (λ c. cap c.waits) needed ∙ (like.cost.waits ∙ sym d.waits))))
    where
      dispatch : (over : ℕ) (c e : Cost) → Like c e → cap (with_dispatch over c) ≡ cap (with_dispatch over e)
      dispatch over c e l = sum_like c.run (2 * over * (1 + c.waits)) e.run (2 * over * (1 + e.waits)) l.run (times_like (2 * over) (1 + c.waits) (1 + e.waits) (sum_like 1 c.waits 1 e.waits refl l.waits))

  -- no declared cost is below the needed one
  pub no_cost_fault : cost_fault m ≡ None
  no_cost_fault = both_none _ _ (none_all (routine_cost_fault m) m.routines (λ j x at. routine_fits j x at)) (none_all (λ k. process_cost_fault m) m.processes (λ j x at. process_fits j x at))
