-- The sorts of expressions, and what is called in them, in a tree and in the tree with other places.
use Rattle.std.proofs.Common.{◌≡◌, Bool, not, ◌&&◌, ◌||◌, List, [], ◌∷◌, map, Option, Some, None, refl, sym, ◌∙◌, ap}
use Rattle.std.specs.Prelude.{option_map}
use Rattle.syntax_tree.specs.Placed.{Scalar, Param, Expr, literal, truth, variable, element, call, minus, negation, paren, row, Exprs, no_exprs, exprs, Operands, no_operands, operand, Ref, whole, part, Routine, optional}
use Rattle.syntax_tree.specs.declared.place.Place.{Place}
use Rattle.static_declarations.specs.declared.sort.Sort.{Sort}
use Rattle.static_declarations.specs.declared.sort.Sort.TheVariants as sort_is
use Rattle.static_declarations.specs.declared.sort.VarType.{VarType}
use Rattle.static_declarations.specs.declared.sort.VarType.TheVariants as shape_is
use Rattle.static_declarations.specs.Sorts.{fits, gives, takes}
use Rattle.static_declarations.specs.Things.{Thing, constant_thing, device_thing, routine_thing, variable_thing, loop_thing, other_thing, sort_of}
use Rattle.static_types.specs.Sorts.{Named, word_sort, element_sort, answer_sort, is_array, row_sort, sort, asked, agrees, operands_agree, call_agrees}
use Rattle.static_types.specs.Conduct.{is_function, is_procedure, is_barred, strays, exprs_stray, operands_stray, ref_strays}
use Rattle.printed_law.specs.Moved.{moved_scalar, moved_param, moved_expr, moved_exprs, moved_operands, moved_ref, moved_routine}
use Rattle.printed_law.proofs.Both.{Both, here, along, Likewise, Pairwise}
use Rattle.printed_law.proofs.Things.{LikeThing, sorts}

-- parameters of the same sorts
abbrev LikeParams : List (Param Place) → List (Param Place) → Type 0
LikeParams vs ws = Pairwise (λ v w. sort_of v.kind ≡ sort_of w.kind) vs ws

optional-sorts : {P Q : Type 0} (f : P → Q) (s : Option (Scalar P)) → option_map sort_of (optional (moved_scalar f) s) ≡ option_map sort_of s
optional-sorts f None = refl
optional-sorts f (Some s) = ap (λ x. Some x) (sorts f s)

module _ {X : Type 0} (a b : X → Place) where
  -- what is asked of a thing is the same of the other, where it is so of routines and of variables
  keeps : {B : Type 0} (h : Option Thing → B)
      → ((e : Bool) (r : Routine X) → h (Some (routine_thing e (moved_routine a r))) ≡ h (Some (routine_thing e (moved_routine b r))))
      → ((p q : Option Place) (s : VarType) → Likewise (Both a b) p q → h (Some (variable_thing p s)) ≡ h (Some (variable_thing q s)))
      → (x y : Option Thing) → Likewise (LikeThing a b) x y → h x ≡ h y
  keeps h routines variables None None like = refl
  keeps h routines variables None (Some y) like = absurd like
  keeps h routines variables (Some x) None like = absurd like
  keeps h routines variables (Some constant_thing) (Some constant_thing) like = refl
  keeps h routines variables (Some (device_thing o)) (Some (device_thing p)) like = λ i. h (Some (device_thing (like i)))
  keeps h routines variables (Some (routine_thing d r)) (Some (routine_thing e s)) like =
      ap (λ c. h (Some (routine_thing c r))) like.0
      ∙ along (moved_routine a) (moved_routine b) (λ u v. h (Some (routine_thing e u)) ≡ h (Some (routine_thing e v))) (routines e) r s like.1
  keeps h routines variables (Some (variable_thing p s)) (Some (variable_thing q u)) like =
      ap (λ c. h (Some (variable_thing p c))) like.1 ∙ variables p q u like.0
  keeps h routines variables (Some loop_thing) (Some loop_thing) like = refl
  keeps h routines variables (Some other_thing) (Some other_thing) like = refl
  keeps h routines variables (Some x) (Some y) like = absurd like

  pub word-like : (x y : Option Thing) → Likewise (LikeThing a b) x y → word_sort x ≡ word_sort y
  word-like = keeps word_sort (λ e r. refl) of
    where
      of : (p q : Option Place) (s : VarType) → Likewise (Both a b) p q → word_sort (Some (variable_thing p s)) ≡ word_sort (Some (variable_thing q s))
      of p q (shape_is.One s) like = refl
      of p q (shape_is.Many s) like = refl

  pub element-like : (x y : Option Thing) → Likewise (LikeThing a b) x y → element_sort x ≡ element_sort y
  element-like = keeps element_sort (λ e r. refl) of
    where
      of : (p q : Option Place) (s : VarType) → Likewise (Both a b) p q → element_sort (Some (variable_thing p s)) ≡ element_sort (Some (variable_thing q s))
      of p q (shape_is.One s) like = refl
      of p q (shape_is.Many s) like = refl

  pub array-like : (x y : Option Thing) → Likewise (LikeThing a b) x y → is_array x ≡ is_array y
  array-like = keeps is_array (λ e r. refl) of
    where
      of : (p q : Option Place) (s : VarType) → Likewise (Both a b) p q → is_array (Some (variable_thing p s)) ≡ is_array (Some (variable_thing q s))
      of p q (shape_is.One s) like = refl
      of p q (shape_is.Many s) like = refl

  pub answered-like : (x y : Option Thing) → Likewise (LikeThing a b) x y → answer_sort x ≡ answer_sort y
  answered-like = keeps answer_sort (λ e r. optional-sorts a r.result ∙ sym (optional-sorts b r.result)) (λ p q s like. refl)

  pub function-like : (x y : Option Thing) → Likewise (LikeThing a b) x y → is_function x ≡ is_function y
  function-like = keeps is_function (λ e r. refl) (λ p q s like. refl)

  pub procedure-like : (x y : Option Thing) → Likewise (LikeThing a b) x y → is_procedure x ≡ is_procedure y
  procedure-like = keeps is_procedure (λ e r. refl) (λ p q s like. refl)

  barred-like : (x y : Option Thing) → Likewise (LikeThing a b) x y → is_barred x ≡ is_barred y
  barred-like = keeps is_barred (λ e r. refl) (λ p q s like. refl)

  params-like : (vs : List (Param X)) → LikeParams (map (moved_param a) vs) (map (moved_param b) vs)
  params-like [] = tt
  params-like (v ∷ vs) = (sorts a v.kind ∙ sym (sorts b v.kind), params-like vs)

  pub asked-like : (x y : Option Thing) → Likewise (LikeThing a b) x y → Likewise LikeParams (asked x) (asked y)
  asked-like None None like = tt
  asked-like None (Some y) like = absurd like
  asked-like (Some x) None like = absurd like
  asked-like (Some constant_thing) (Some constant_thing) like = tt
  asked-like (Some (device_thing o)) (Some (device_thing p)) like = tt
  asked-like (Some (routine_thing d r)) (Some (routine_thing e s)) like =
      along (moved_routine a) (moved_routine b) (λ u v. LikeParams u.params v.params) (λ x. params-like x.params) r s like.1
  asked-like (Some (variable_thing p s)) (Some (variable_thing q u)) like = tt
  asked-like (Some loop_thing) (Some loop_thing) like = tt
  asked-like (Some other_thing) (Some other_thing) like = tt
  asked-like (Some x) (Some y) like = absurd like

  module _ (n m : Named) (known : (p q : Place) → Both a b p q → Likewise (LikeThing a b) (n p) (m q)) where
    of-name : (x : X) → Likewise (LikeThing a b) (n (a x)) (m (b x))
    of-name x = known (a x) (b x) (here a b x)

    row-like : (s : Option Sort) (rs : Operands X) → row_sort s (moved_operands a rs) ≡ row_sort s (moved_operands b rs)
    row-like s no_operands = refl
    row-like s (operand op e rs) = row-like (Some (gives op)) rs

    pub sort-like : (e : Expr X) → sort n (moved_expr a e) ≡ sort m (moved_expr b e)
    sort-like (literal p x) = refl
    sort-like (truth p t) = refl
    sort-like (variable p x) = word-like (n (a p)) (m (b p)) (of-name p)
    sort-like (element p x e) = element-like (n (a p)) (m (b p)) (of-name p)
    sort-like (call p x es) = answered-like (n (a p)) (m (b p)) (of-name p)
    sort-like (minus p e) = refl
    sort-like (negation p e) = refl
    sort-like (paren p e) = sort-like e
    sort-like (row e rs) = ap (λ s. row_sort s (moved_operands a rs)) (sort-like e) ∙ row-like (sort m (moved_expr b e)) rs

    mutual
      pub agrees-like : (e : Expr X) → agrees n (moved_expr a e) ≡ agrees m (moved_expr b e)
      agrees-like (literal p x) = refl
      agrees-like (truth p t) = refl
      agrees-like (variable p x) = ap not (array-like (n (a p)) (m (b p)) (of-name p))
      agrees-like (element p x e) =
          let first = array-like (n (a p)) (m (b p)) (of-name p) in
          λ i. first i && (agrees-like e i && fits sort_is.Number (sort-like e i))
      agrees-like (call p x es) = call-agrees-like (asked (n (a p))) (asked (m (b p))) (asked-like (n (a p)) (m (b p)) (of-name p)) es
      agrees-like (minus p e) = λ i. agrees-like e i && fits sort_is.Number (sort-like e i)
      agrees-like (negation p e) = λ i. agrees-like e i && fits sort_is.Truth (sort-like e i)
      agrees-like (paren p e) = agrees-like e
      agrees-like (row e rs) = (λ i. agrees-like e i && operands_agree n (sort-like e i) (moved_operands a rs))
          ∙ ap (λ c. agrees m (moved_expr b e) && c) (operands-agree-like (sort m (moved_expr b e)) rs)

      operands-agree-like : (s : Option Sort) (rs : Operands X) → operands_agree n s (moved_operands a rs) ≡ operands_agree m s (moved_operands b rs)
      operands-agree-like s no_operands = refl
      operands-agree-like s (operand op e rs) = λ i. agrees-like e i && (takes op s (sort-like e i) && operands-agree-like (Some (gives op)) rs i)

      pub call-agrees-like : (vs ws : Option (List (Param Place))) → Likewise LikeParams vs ws → (es : Exprs X) → call_agrees n vs (moved_exprs a es) ≡ call_agrees m ws (moved_exprs b es)
      call-agrees-like None None like es = refl
      call-agrees-like None (Some ws) like es = absurd like
      call-agrees-like (Some vs) None like es = absurd like
      call-agrees-like (Some []) (Some []) like no_exprs = refl
      call-agrees-like (Some []) (Some []) like (exprs e es) = refl
      call-agrees-like (Some []) (Some (w ∷ ws)) like es = absurd like
      call-agrees-like (Some (v ∷ vs)) (Some []) like es = absurd like
      call-agrees-like (Some (v ∷ vs)) (Some (w ∷ ws)) like no_exprs = refl
      call-agrees-like (Some (v ∷ vs)) (Some (w ∷ ws)) like (exprs e es) =
          let want = like.0 in
          λ i. agrees-like e i && (fits (want i) (sort-like e i) && call-agrees-like (Some vs) (Some ws) like.1 es i)

    mutual
      pub strays-like : (e : Expr X) → strays n (moved_expr a e) ≡ strays m (moved_expr b e)
      strays-like (literal p x) = refl
      strays-like (truth p t) = refl
      strays-like (variable p x) = refl
      strays-like (element p x e) = strays-like e
      strays-like (call p x es) = let barred = barred-like (n (a p)) (m (b p)) (of-name p) in λ i. barred i || exprs-stray-like es i
      strays-like (minus p e) = strays-like e
      strays-like (negation p e) = strays-like e
      strays-like (paren p e) = strays-like e
      strays-like (row e rs) = λ i. strays-like e i || operands-stray-like rs i

      pub exprs-stray-like : (es : Exprs X) → exprs_stray n (moved_exprs a es) ≡ exprs_stray m (moved_exprs b es)
      exprs-stray-like no_exprs = refl
      exprs-stray-like (exprs e es) = λ i. strays-like e i || exprs-stray-like es i

      operands-stray-like : (rs : Operands X) → operands_stray n (moved_operands a rs) ≡ operands_stray m (moved_operands b rs)
      operands-stray-like no_operands = refl
      operands-stray-like (operand op e rs) = λ i. strays-like e i || operands-stray-like rs i

    pub ref-strays-like : (r : Ref X) → ref_strays n (moved_ref a r) ≡ ref_strays m (moved_ref b r)
    ref-strays-like (whole p x) = refl
    ref-strays-like (part p x e) = strays-like e
