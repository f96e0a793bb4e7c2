-- What a type's, a variable's and a parameter's tokens are is read as that.
use Rattle.std.proofs.Common.{◌≡◌, List, [], ◌∷◌, Bool, true, false, Ok, refl, ap, ◌∙◌}
use Rattle.syntax_tree.specs.Plain.{Name}
use Rattle.syntax_tree.specs.Placed.{Constant, literal_constant, named_constant, Scalar, int, boolean, subrange, Kind, scalar, array, Var, Param}
use Rattle.syntax.specs.Words as w
use Rattle.syntax.specs.Words.{Word, named, Tok}
use Rattle.syntax.specs.ExprGrammar.{at, a, ◌▷◌, Each, SomeListed, IsConstant}
use Rattle.syntax.specs.Grammar.{IsScalar, IsKind, IsVar, IsParam}
use Rattle.syntax_reading.specs.ExprReading.{Parse, same_word, is_at, expect, name, many, constant}
use Rattle.syntax_reading.specs.Reading.{range, scalar_type, kind, var, vars, param, params}
use Rattle.syntax_reading.proofs.Shorter.{Shorter, a-shorter, weak, then, a-then, at-then, constant-shorter}
use Rattle.syntax_reading.proofs.AgainBasics.{step, if-true, if-false, expect_again, name_again, many_again, in_parens_again}
use Rattle.syntax_reading.proofs.ExprAgain.{constant_again}

module _ {P : Type 0} where
  -- read whatever follows
  abbrev pub Reads : {A : Type 0} → Parse P A → (A → List (Tok P) → List (Tok P) → Type 0) → Type 0
  Reads {A} p R = (x : A) (ts us : List (Tok P)) → R x ts us → p ts ≡ Ok (x, us)

  -- a list of parts, where each begins with a token that tells it and what follows does not
  pub all : {A : Type 0} (begins : List (Tok P) → Bool) (p : Parse P A) (R : A → List (Tok P) → List (Tok P) → Type 0) → Reads p R
      → ((x : A) (ts us : List (Tok P)) → R x ts us → begins ts ≡ true) → ((x : A) → Shorter (R x)) → (xs : List A) (ts us : List (Tok P)) → Each R xs ts us → begins us ≡ false
      → many begins p ts ≡ Ok (xs, us)
  all begins p R reads goes shorter xs ts us took none =
      many_again begins p R (λ ts. Unit {0}) (λ ts us x took stop. reads x ts us took) goes (λ x ts us took. tt) shorter xs ts us took tt none

  -- what none of them begins with
  pub each-begins : {A : Type 0} (begins : List (Tok P) → Bool) (R : A → List (Tok P) → List (Tok P) → Type 0) → ((x : A) (ts us : List (Tok P)) → R x ts us → begins ts ≡ false)
      → (xs : List A) (ts us : List (Tok P)) → Each R xs ts us → begins us ≡ false → begins ts ≡ false
  each-begins begins R other [] ts us took none = ap begins took ∙ none
  each-begins begins R other (x ∷ xs) ts us (vs, took, more) none = other x ts vs took

  pub a-begins : (v u : Word) (ts us : List (Tok P)) → a u ts us → is_at v ts ≡ same_word u v
  a-begins v u ts us (q, took) = ap (is_at v) took

  -- ---- types, variables and parameters

  pub constant-begins : (v : Word) → same_word w.MINUS v ≡ false → ((n : Name) → same_word (named n) v ≡ false) → (c : Constant P) (ts us : List (Tok P)) → IsConstant c ts us → is_at v ts ≡ false
  constant-begins v none no_name (literal_constant p true n q) ts us (vs, m, took) = ap (is_at v) m ∙ none
  constant-begins v none no_name (literal_constant p false n q) ts us (same, took) = ap (is_at v) took
  constant-begins v none no_name (named_constant p true n q) ts us (vs, m, took) = ap (is_at v) m ∙ none
  constant-begins v none no_name (named_constant p false n q) ts us (same, took) = ap (is_at v) took ∙ no_name n

  abbrev pub IsRange : Constant P × Constant P → List (Tok P) → List (Tok P) → Type 0
  IsRange r = IsConstant r.0 ▷ a w.RANGE ▷ IsConstant r.1

  pub range_again : Reads range IsRange
  unfolding range
  range_again r ts us (v1, t1, (v2, (q2, t2), t3)) =
      step (constant ts) _ (r.0, v1) _ (constant_again r.0 ts v1 t1)
      (step (expect w.RANGE v1) _ (q2, v2) _ (expect_again w.RANGE q2 v1 v2 refl t2)
      (step (constant v2) _ (r.1, us) _ (constant_again r.1 v2 us t3)
      refl))

  pub range-shorter : (r : Constant P × Constant P) → Shorter (IsRange r)
  range-shorter r = then (IsConstant r.0) (a w.RANGE ▷ IsConstant r.1) (constant-shorter r.0) (weak _ (a-then w.RANGE (IsConstant r.1) (weak _ (constant-shorter r.1))))

  pub scalar_again : Reads scalar_type IsScalar
  unfolding scalar_type expect
  scalar_again int ts us (q, took) = ap scalar_type took
  scalar_again boolean ts us (q, took) = ap scalar_type took
  scalar_again (subrange low high) ts us took =
      if-false (is_at w.INT ts) _ _ _ (constant-begins w.INT refl (λ n. refl) low ts took.0 took.1)
      (if-false (is_at w.BOOLEAN ts) _ _ _ (constant-begins w.BOOLEAN refl (λ n. refl) low ts took.0 took.1)
      (step (range ts) _ ((low, high), us) _ (range_again (low, high) ts us took) refl))

  pub scalar-shorter : (s : Scalar P) → Shorter (IsScalar s)
  scalar-shorter int = a-shorter w.INT
  scalar-shorter boolean = a-shorter w.BOOLEAN
  scalar-shorter (subrange low high) = range-shorter (low, high)

  pub scalar-begins : (v : Word) → same_word w.MINUS v ≡ false → ((n : Name) → same_word (named n) v ≡ false) → same_word w.INT v ≡ false → same_word w.BOOLEAN v ≡ false → (s : Scalar P) (ts us : List (Tok P)) → IsScalar s ts us → is_at v ts ≡ false
  scalar-begins v m no_name i b int ts us (q, took) = ap (is_at v) took ∙ i
  scalar-begins v m no_name i b boolean ts us (q, took) = ap (is_at v) took ∙ b
  scalar-begins v m no_name i b (subrange low high) ts us took = constant-begins v m no_name low ts took.0 took.1

  pub kind_again : Reads kind IsKind
  unfolding kind
  kind_again (scalar s) ts us took =
      if-false (is_at w.ARRAY ts) _ _ _ (scalar-begins w.ARRAY refl (λ n. refl) refl refl s ts us took) (step (scalar_type ts) _ (s, us) _ (scalar_again s ts us took) refl)
  kind_again (array low high s) ts us (v1, (q, t), (v2, l, (v3, r, (v4, h, (v5, (o, f), took))))) =
      if-true (is_at w.ARRAY ts) _ _ _ (ap (is_at w.ARRAY) t)
      (step (expect w.ARRAY ts) _ (q, v1) _ (expect_again w.ARRAY q ts v1 refl t)
      (step (range v1) _ ((low, high), v4) _ (range_again (low, high) v1 v4 (v2, l, (v3, r, h)))
      (step (expect w.OF v4) _ (o, v5) _ (expect_again w.OF o v4 v5 refl f) (step (scalar_type v5) _ (s, us) _ (scalar_again s v5 us took) refl))))

  pub kind-shorter : (k : Kind P) → Shorter (IsKind k)
  kind-shorter (scalar s) = scalar-shorter s
  kind-shorter (array low high s) =
      a-then w.ARRAY (IsConstant low ▷ a w.RANGE ▷ IsConstant high ▷ a w.OF ▷ IsScalar s) (weak _ (then (IsConstant low) (a w.RANGE ▷ IsConstant high ▷ a w.OF ▷ IsScalar s) (constant-shorter low)
      (weak _ (a-then w.RANGE (IsConstant high ▷ a w.OF ▷ IsScalar s) (weak _ (then (IsConstant high) (a w.OF ▷ IsScalar s) (constant-shorter high) (weak _ (a-then w.OF (IsScalar s) (weak _ (scalar-shorter s))))))))))

  pub var_again : Reads var IsVar
  unfolding var
  var_again x ts us (v1, (q1, t1), (v2, t2, (v3, (q3, t3), t4))) =
      step (expect w.VAR ts) _ (q1, v1) _ (expect_again w.VAR q1 ts v1 refl t1)
      (step (name v1) _ ((x.name, x.place), v2) _ (name_again (x.name, x.place) v1 v2 t2)
      (step (expect w.COLON v2) _ (q3, v3) _ (expect_again w.COLON q3 v2 v3 refl t3)
      (step (kind v3) _ (x.kind, us) _ (kind_again x.kind v3 us t4)
      refl)))

  pub var-shorter : (x : Var P) → Shorter (IsVar x)
  var-shorter x = a-then w.VAR (at (named x.name) x.place ▷ a w.COLON ▷ IsKind x.kind)
      (weak _ (at-then (named x.name) x.place (a w.COLON ▷ IsKind x.kind) (weak _ (a-then w.COLON (IsKind x.kind) (weak _ (kind-shorter x.kind))))))

  pub vars_again : (xs : List (Var P)) (ts us : List (Tok P)) → Each IsVar xs ts us → is_at w.VAR us ≡ false → vars ts ≡ Ok (xs, us)
  unfolding vars
  vars_again xs ts us took none = all (is_at w.VAR) var IsVar var_again (λ x ts us took. a-begins w.VAR w.VAR ts took.0 took.1) var-shorter xs ts us took none

  pub param_again : Reads param IsParam
  unfolding param
  param_again x ts us (v1, t1, (v2, (q2, t2), t3)) =
      step (name ts) _ ((x.name, x.place), v1) _ (name_again (x.name, x.place) ts v1 t1)
      (step (expect w.COLON v1) _ (q2, v2) _ (expect_again w.COLON q2 v1 v2 refl t2)
      (step (scalar_type v2) _ (x.kind, us) _ (scalar_again x.kind v2 us t3)
      refl))

  pub param-shorter : (x : Param P) → Shorter (IsParam x)
  param-shorter x = at-then (named x.name) x.place (a w.COLON ▷ IsScalar x.kind) (weak _ (a-then w.COLON (IsScalar x.kind) (weak _ (scalar-shorter x.kind))))

  pub params_again : (xs : List (Param P)) (ts us : List (Tok P)) → (a w.LEFT_PAREN ▷ SomeListed IsParam xs ▷ a w.RIGHT_PAREN) ts us → params ts ≡ Ok (xs, us)
  unfolding params
  params_again xs ts us took =
      in_parens_again param IsParam (λ ts. Unit {0}) (λ ts us x took stop. param_again x ts us took) param-shorter (λ ts us c. tt) (λ x ts us took. ap (is_at w.RIGHT_PAREN) took.1)
      (λ ts us c. tt) xs ts us took
