-- A mismatch is found exactly where the rule for types and numbers of arguments fails.
use Rattle.std.proofs.Common.{◌≡◌, ℕ, suc, ◌+◌, ◌==◌, Bool, true, false, not, ◌&&◌, List, [], ◌∷◌, Option, Some, None, length, refl, ap, sym, ◌∙◌, arith, if◌then◌else◌}
use Rattle.std.proofs.lemmas.Bool.Decides.{nat_tests}
use Rattle.std.specs.Option.{is_none, option_or}
use Rattle.syntax_tree.specs.Plain.{Name, Op, or, and, equal, unequal, less, less_equal, greater, greater_equal, add, sub, mul, div, remainder}
use Rattle.syntax_tree.specs.Placed.{Param, Expr, literal, truth, variable, element, call, minus, negation, paren, row, Exprs, no_exprs, exprs, Operands, no_operands, operand, Ref, whole, part, Stmt, assign, assign_entry, assign_empty, perform, perform_entry, when, when_else, loop, exit_when, get, put, wait, signal, broadcast, except, assert}
use Rattle.syntax_tree.specs.declared.place.Place.{Place}
use Rattle.static_declarations.specs.declared.sort.Sort.{Sort}
use Rattle.static_declarations.specs.declared.sort.Sort.TheVariants as sort_is
use Rattle.static_declarations.specs.Sorts.{same_sort, fits, alike, gives, takes}
use Rattle.static_declarations.specs.Things.{sort_of}
use Rattle.static_types.specs.Sorts.{Named, is_array, asked, sort, answer_sort, agrees, operands_agree, call_agrees}
use Rattle.static_types.specs.Types.{target_sort, target_agrees, is_of, stmt_agrees}
use Rattle.message_types.specs.Mismatches.{Spot, test_of_if, test_of_exit, test_of_assert, assigned_to, got_into, put_to, argument, index_of, left_of, right_of, behind_minus, behind_not, Mismatch, differ, count, miscounted, wants, misjoined, mismatch, unfit, row_mismatch, args_mismatch, target_mismatch, target_name, stmt_mismatch}

-- ---- tests of one thing

none-both : (x y : Option Mismatch) {a b : Bool} → is_none x ≡ a → is_none y ≡ b → is_none (option_or x y) ≡ (a && b)
none-both None y {a = a} one other = ap (λ a. a && is_none y) one ∙ ap (λ b. a && b) other
none-both (Some m) y {b = b} one other = ap (λ a. a && b) one

none-unless : (b : Bool) (m : Mismatch) → is_none (if b then None else Some m) ≡ b
none-unless true m = refl
none-unless false m = refl

none-if : (b : Bool) (m : Mismatch) → is_none (if b then Some m else None) ≡ not b
none-if true m = refl
none-if false m = refl

differ-alike : (spot : Spot) (wanted found : Option Sort) → is_none (differ spot wanted found) ≡ alike wanted found
differ-alike spot None found = refl
differ-alike spot (Some wanted) None = refl
differ-alike spot (Some wanted) (Some found) = none-unless (same_sort wanted found) _

and-true : (b : Bool) → (b && true) ≡ b
and-true true = refl
and-true false = refl

-- where both sides are of the sort that is wanted, they go together
wanted-both : (wanted : Sort) (left right : Option Sort) → (fits wanted left && (fits wanted right && alike left right)) ≡ (fits wanted left && fits wanted right)
wanted-both wanted None right = and-true (fits wanted right)
wanted-both wanted (Some s) None = refl
wanted-both sort_is.Number (Some sort_is.Number) (Some sort_is.Number) = refl
wanted-both sort_is.Number (Some sort_is.Number) (Some sort_is.Truth) = refl
wanted-both sort_is.Number (Some sort_is.Truth) (Some t) = refl
wanted-both sort_is.Truth (Some sort_is.Truth) (Some sort_is.Number) = refl
wanted-both sort_is.Truth (Some sort_is.Truth) (Some sort_is.Truth) = refl
wanted-both sort_is.Truth (Some sort_is.Number) (Some t) = refl

joins : (op : Op) (left right : Option Sort) → (alike (wants op) left && (alike (wants op) right && alike left right)) ≡ takes op left right
joins or left right = wanted-both sort_is.Truth left right
joins and left right = wanted-both sort_is.Truth left right
joins equal left right = refl
joins unequal left right = refl
joins less left right = wanted-both sort_is.Number left right
joins less_equal left right = wanted-both sort_is.Number left right
joins greater left right = wanted-both sort_is.Number left right
joins greater_equal left right = wanted-both sort_is.Number left right
joins add left right = wanted-both sort_is.Number left right
joins sub left right = wanted-both sort_is.Number left right
joins mul left right = wanted-both sort_is.Number left right
joins div left right = wanted-both sort_is.Number left right
joins remainder left right = wanted-both sort_is.Number left right

joined : (op : Op) (left right : Option Sort) → is_none (misjoined op left right) ≡ takes op left right
joined op left right =
    none-both _ _ (differ-alike (left_of op) (wants op) left) (none-both _ _ (differ-alike (right_of op) (wants op) right) (differ-alike (right_of op) left right))
    ∙ joins op left right

-- ---- numbers of arguments

same-counts : (m n : ℕ) → (m + 1 == suc n) ≡ (m == n)
same-counts m n = grind (arith, nat_tests)

more-args : (m : ℕ) → (m + 1 == 0) ≡ false
more-args m = grind (arith, nat_tests)

fewer-args : (n : ℕ) → (0 == suc n) ≡ false
fewer-args n = grind (arith, nat_tests)

moved : (a b c d : Bool) → (a && (b && (c && d))) ≡ (b && (c && (a && d)))
moved true b c d = refl
moved false true true d = refl
moved false true false d = refl
moved false false c d = refl

turned : (a b c : Bool) → (a && (b && c)) ≡ (c && (a && b))
turned true true true = refl
turned true true false = refl
turned true false true = refl
turned true false false = refl
turned false b true = refl
turned false b false = refl

-- ---- expressions

mutual
  pub of-expr : (named : Named) (e : Expr Place) → is_none (mismatch named e) ≡ agrees named e
  of-expr named (literal p n) = refl
  of-expr named (truth p b) = refl
  of-expr named (variable p name) = none-if (is_array (named p)) _
  of-expr named (element p name i) =
      none-both (mismatch named i) _ (of-expr named i) (none-both _ _ (differ-alike (index_of name) (Some sort_is.Number) (sort named i)) (none-unless (is_array (named p)) _))
      ∙ turned (agrees named i) (fits sort_is.Number (sort named i)) (is_array (named p))
  of-expr named (call p name es) = none-both (miscounted name (asked (named p)) es) _ refl refl ∙ of-args named name 1 (asked (named p)) es
  of-expr named (minus p e) = none-both (mismatch named e) _ (of-expr named e) (differ-alike behind_minus (Some sort_is.Number) (sort named e))
  of-expr named (negation p e) = none-both (mismatch named e) _ (of-expr named e) (differ-alike behind_not (Some sort_is.Truth) (sort named e))
  of-expr named (paren p e) = of-expr named e
  of-expr named (row e rs) = none-both (mismatch named e) _ (of-expr named e) (of-row named (sort named e) rs)

  of-row : (named : Named) (left : Option Sort) (rs : Operands Place) → is_none (row_mismatch named left rs) ≡ operands_agree named left rs
  of-row named left no_operands = refl
  of-row named left (operand op e rs) =
      none-both (mismatch named e) _ (of-expr named e) (none-both (misjoined op left (sort named e)) _ (joined op left (sort named e)) (of-row named (Some (gives op)) rs))

  of-args : (named : Named) (routine : Name) (number : ℕ) (params : Option (List (Param Place))) (es : Exprs Place)
      → (is_none (miscounted routine params es) && is_none (args_mismatch named routine number params es)) ≡ call_agrees named params es
  of-args named routine number None es = refl
  of-args named routine number (Some []) no_exprs = refl
  of-args named routine number (Some []) (exprs e es) = ap (λ b. b && true) (none-unless (count es + 1 == 0) _ ∙ more-args (count es))
  of-args named routine number (Some (v ∷ vs)) no_exprs = ap (λ b. b && true) (none-unless (0 == suc (length vs)) _ ∙ fewer-args (length vs))
  of-args named routine number (Some (v ∷ vs)) (exprs e es) =
      let s = sort_of v.kind in
      let rest = args_mismatch named routine (number + 1) (Some vs) es in
      let here = option_or (mismatch named e) (option_or (differ (argument number routine) (Some s) (sort named e)) rest) in
      ap (λ b. b && is_none here) (none-unless (count es + 1 == suc (length vs)) _ ∙ same-counts (count es) (length vs) ∙ sym (none-unless (count es == length vs) _))
      ∙ ap (λ b. is_none (miscounted routine (Some vs) es) && b) (none-both (mismatch named e) _ (of-expr named e) (none-both _ rest (differ-alike (argument number routine) (Some s) (sort named e)) refl))
      ∙ moved (is_none (miscounted routine (Some vs) es)) (agrees named e) (fits s (sort named e)) (is_none rest)
      ∙ ap (λ b. agrees named e && (fits s (sort named e) && b)) (of-args named routine (number + 1) (Some vs) es)

pub of-unfit : (named : Named) (spot : Spot) (s : Sort) (e : Expr Place) → is_none (unfit named spot s e) ≡ is_of named s e
of-unfit named spot s e = none-both (mismatch named e) _ (of-expr named e) (differ-alike spot (Some s) (sort named e))

-- ---- statements

of-target : (named : Named) (r : Ref Place) → is_none (target_mismatch named r) ≡ target_agrees named r
of-target named (whole p name) = of-expr named (variable p name)
of-target named (part p name i) = of-expr named (element p name i)

of-numbers : (s : Option Sort) → alike (Some sort_is.Number) s ≡ alike s (Some sort_is.Number)
of-numbers None = refl
of-numbers (Some sort_is.Number) = refl
of-numbers (Some sort_is.Truth) = refl

pub of-stmt : (named : Named) (s : Stmt Place) → is_none (stmt_mismatch named s) ≡ stmt_agrees named s
of-stmt named (assign r e) =
    none-both (target_mismatch named r) _ (of-target named r) (none-both (mismatch named e) _ (of-expr named e) (differ-alike (assigned_to (target_name r)) (target_sort named r) (sort named e)))
of-stmt named (assign_entry r mon p entry q es) =
    none-both (target_mismatch named r) _ (of-target named r) (none-both (mismatch named (call q entry es)) _ (of-expr named (call q entry es)) (differ-alike (assigned_to (target_name r)) (target_sort named r) (answer_sort (named q))))
of-stmt named (assign_empty r cond p) =
    none-both (target_mismatch named r) _ (of-target named r) (differ-alike (assigned_to (target_name r)) (target_sort named r) (Some sort_is.Truth))
of-stmt named (perform p name es) = of-expr named (call p name es)
of-stmt named (perform_entry p mon entry q es) = of-expr named (call q entry es)
of-stmt named (when p e a) = of-unfit named test_of_if sort_is.Truth e
of-stmt named (when_else p e a b) = of-unfit named test_of_if sort_is.Truth e
of-stmt named (loop p name q low high a) = refl
of-stmt named (exit_when p e) = of-unfit named test_of_exit sort_is.Truth e
of-stmt named (get p dev q r) =
    none-both (target_mismatch named r) _ (of-target named r) (differ-alike (got_into (target_name r)) (Some sort_is.Number) (target_sort named r) ∙ of-numbers (target_sort named r))
of-stmt named (put p dev q e) = of-unfit named (put_to dev) sort_is.Number e
of-stmt named (wait p cond q limit number) = refl
of-stmt named (signal p cond q) = refl
of-stmt named (broadcast p cond q) = refl
of-stmt named (except p number) = refl
of-stmt named (assert p e) = of-unfit named test_of_assert sort_is.Truth e
