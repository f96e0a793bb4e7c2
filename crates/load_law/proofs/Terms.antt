-- Expressions that are numbers by their names: their types agree, and they call nothing.
use Rattle.std.proofs.Common.{◌≡◌, ℕ, zero, suc, true, false, not, ◌&&◌, ◌||◌, List, [], ◌∷◌, Option, Some, refl, ap, ◌∙◌}
use Rattle.syntax_tree.specs.Placed.{Constant, literal_constant, named_constant, Param, Expr, literal, variable, row, Exprs, no_exprs, exprs, Operands, no_operands, operand}
use Rattle.syntax_tree.specs.declared.place.Place.{Place}
use Rattle.syntax_tree.specs.Bare.{bare_constant, bare_expr, bare_exprs, bare_operands}
use Rattle.static_names.specs.Reach.{Site}
use Rattle.static_names.specs.Occurrences.{Occurrence, constant_names, expr_names, exprs_names, operands_names}
use Rattle.static_declarations.specs.declared.sort.Sort.{Sort}
use Rattle.static_declarations.specs.declared.sort.Sort.TheVariants as sort_is
use Rattle.static_declarations.specs.Things.{Thing, sort_of}
use Rattle.static_declarations.specs.Sorts.{fits, gives, takes}
use Rattle.static_types.specs.Sorts.{word_sort, is_array, row_sort, sort, agrees, operands_agree, call_agrees}
use Rattle.static_types.specs.Conduct.{strays, exprs_stray, operands_stray}
use Rattle.load_law.proofs.Given.{Each, AreInts, Found, IsNumber, number_named}

abbrev number : Option Sort
number = Some sort_is.Number

-- ---- constants without names

abbrev pub IsLiteral : {P : Type 0} → Constant P → Type 0
IsLiteral (literal_constant p is_minus n q) = Unit {0}
IsLiteral (named_constant p is_minus name q) = ⊥

pub literal_bare : (c : Constant Place) → IsLiteral (bare_constant c) → IsLiteral c
literal_bare (literal_constant p is_minus n q) ok = ok
literal_bare (named_constant p is_minus name q) ok = ok

pub no_names : (here : Site) (c : Constant Place) → IsLiteral c → (more : List Occurrence) → constant_names here c more ≡ more
no_names here (literal_constant p is_minus n q) ok more = refl
no_names here (named_constant p is_minus name q) ok more = absurd ok

module _ (named : Place → Option Thing) (thing : Place → Thing) where
  -- ---- numbers by their names

  abbrev mutual
    pub Numeric : {P : Type 0} → Site → Expr P → Type 0
    Numeric here (literal p n) = Unit {0}
    Numeric here (variable p name) = IsNumber named thing here name
    Numeric here (row e rs) = Numeric here e × NumericRow here rs
    Numeric here _ = ⊥

    pub NumericRow : {P : Type 0} → Site → Operands P → Type 0
    NumericRow here no_operands = Unit {0}
    NumericRow here (operand op e rs) = (takes op number number ≡ true) × ((gives op ≡ sort_is.Number) × (Numeric here e × NumericRow here rs))

  -- so many of them
  abbrev pub NumericList : {P : Type 0} → Site → ℕ → Exprs P → Type 0
  NumericList here zero no_exprs = Unit {0}
  NumericList here zero (exprs e es) = ⊥
  NumericList here (suc k) no_exprs = ⊥
  NumericList here (suc k) (exprs e es) = Numeric here e × NumericList here k es

  mutual
    pub numeric_bare : (here : Site) (e : Expr Place) → Numeric here (bare_expr e) → Numeric here e
    numeric_bare here (row e rs) ok = (numeric_bare here e ok.0, numeric_row_bare here rs ok.1)
    numeric_bare here (literal p n) ok = ok
    numeric_bare here (variable p name) ok = ok
    numeric_bare here e ok = absurd ok

    pub numeric_row_bare : (here : Site) (rs : Operands Place) → NumericRow here (bare_operands rs) → NumericRow here rs
    numeric_row_bare here no_operands ok = ok
    numeric_row_bare here (operand op e rs) ok = (ok.0, (ok.1.0, (numeric_bare here e ok.1.1.0, numeric_row_bare here rs ok.1.1.1)))

  pub numeric_list_bare : (here : Site) (k : ℕ) (es : Exprs Place) → NumericList here k (bare_exprs es) → NumericList here k es
  numeric_list_bare here zero no_exprs ok = ok
  numeric_list_bare here zero (exprs e es) ok = ok
  numeric_list_bare here (suc k) no_exprs ok = ok
  numeric_list_bare here (suc k) (exprs e es) ok = (numeric_bare here e ok.0, numeric_list_bare here k es ok.1)

  -- ---- keep to the rules

  pub record NumberKept (e : Expr Place) (more : List Occurrence) : Type 0 where
    pub agreeing : agrees named e ≡ true
    pub sorted : sort named e ≡ number
    pub calm : strays named e ≡ false
    pub others : Each (Found named thing) more

  record RowKept (rs : Operands Place) (more : List Occurrence) : Type 0 where
    agreeing : operands_agree named number rs ≡ true
    sorted : row_sort number rs ≡ number
    calm : operands_stray named rs ≡ false
    others : Each (Found named thing) more

  mutual
    pub number_kept : (here : Site) (e : Expr Place) (more : List Occurrence) → Numeric here e → Each (Found named thing) (expr_names here e more) → NumberKept e more
    number_kept here (literal p n) more ok all = record { agreeing = refl; sorted = refl; calm = refl; others = all }
    number_kept here (variable p name) more ok all =
        let is = number_named named thing here name ok p all.0 in
        record { agreeing = ap (λ t. not (is_array t)) is; sorted = ap (λ t. word_sort t) is; calm = refl; others = all.1 }
    number_kept here (row e rs) more ok all =
        let left = number_kept here e (operands_names here rs more) ok.0 all in
        let right = row_kept here rs more ok.1 left.others in
        record {
          agreeing = (λ i. left.agreeing i && operands_agree named (left.sorted i) rs) ∙ right.agreeing;
          sorted = ap (λ s. row_sort s rs) left.sorted ∙ right.sorted;
          calm = ap (λ b. b || operands_stray named rs) left.calm ∙ right.calm;
          others = right.others;
        }
    number_kept here e more ok all = absurd ok

    row_kept : (here : Site) (rs : Operands Place) (more : List Occurrence) → NumericRow here rs → Each (Found named thing) (operands_names here rs more) → RowKept rs more
    row_kept here no_operands more ok all = record { agreeing = refl; sorted = refl; calm = refl; others = all }
    row_kept here (operand op e rs) more ok all =
        let first = number_kept here e (operands_names here rs more) ok.1.1.0 all in
        let rest = row_kept here rs more ok.1.1.1 first.others in
        record {
          agreeing = (λ i. first.agreeing i && (takes op number (first.sorted i) && operands_agree named (Some (gives op)) rs))
              ∙ ap (λ b. b && operands_agree named (Some (gives op)) rs) ok.0 ∙ ap (λ s. operands_agree named (Some s) rs) ok.1.0 ∙ rest.agreeing;
          sorted = ap (λ s. row_sort (Some s) rs) ok.1.0 ∙ rest.sorted;
          calm = ap (λ b. b || operands_stray named rs) first.calm ∙ rest.calm;
          others = rest.others;
        }

  pub record ListKept (vs : List (Param Place)) (es : Exprs Place) (more : List Occurrence) : Type 0 where
    pub agreeing : call_agrees named (Some vs) es ≡ true
    pub calm : exprs_stray named es ≡ false
    pub others : Each (Found named thing) more

  pub list_kept : (here : Site) (k : ℕ) (vs : List (Param Place)) (es : Exprs Place) (more : List Occurrence) → AreInts k vs → NumericList here k es
      → Each (Found named thing) (exprs_names here es more) → ListKept vs es more
  list_kept here zero [] no_exprs more ints ok all = record { agreeing = refl; calm = refl; others = all }
  list_kept here zero [] (exprs e es) more ints ok all = absurd ok
  list_kept here zero (v ∷ vs) es more ints ok all = absurd ints
  list_kept here (suc k) [] es more ints ok all = absurd ints
  list_kept here (suc k) (v ∷ vs) no_exprs more ints ok all = absurd ok
  list_kept here (suc k) (v ∷ vs) (exprs e es) more ints ok all =
      let first = number_kept here e (exprs_names here es more) ok.0 all in
      let rest = list_kept here k vs es more ints.1 ok.1 first.others in
      let kind = ints.0 in
      record {
        agreeing = (λ i. first.agreeing i && (fits (sort_of (kind i)) (first.sorted i) && call_agrees named (Some vs) es)) ∙ rest.agreeing;
        calm = ap (λ b. b || exprs_stray named es) first.calm ∙ rest.calm;
        others = rest.others;
      }
