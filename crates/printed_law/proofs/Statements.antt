-- The rules for statements in a tree and in the tree with other places.
use Rattle.std.proofs.Common.{◌≡◌, ℕ, Bool, true, false, not, ◌&&◌, ◌||◌, Option, Some, None, refl, sym, ◌∙◌, ap}
use Rattle.std.specs.Prelude.{pos, ◌+ℤ◌, int_le, int_lt}
use Rattle.base.specs.Words.{same}
use Rattle.syntax_tree.specs.Placed.{Constant, literal_constant, named_constant, Expr, Ref, whole, part, Stmt, assign, assign_entry, assign_empty, perform, perform_entry, when, when_else, loop, exit_when, get, put, wait, signal, broadcast, except, assert, Prog}
use Rattle.syntax_tree.specs.declared.place.Place.{Place}
use Rattle.source_semantics.specs.Names.{constant_value}
use Rattle.static_declarations.specs.declared.sort.Sort.{Sort}
use Rattle.static_declarations.specs.declared.sort.Sort.TheVariants as sort_is
use Rattle.static_declarations.specs.declared.home.StmtContext.{StmtContext}
use Rattle.static_declarations.specs.declared.home.StmtContext.TheVariants as home_is
use Rattle.static_declarations.specs.declared.home.Where.{Where}
use Rattle.static_declarations.specs.Sorts.{fits, alike}
use Rattle.static_declarations.specs.Things.{Thing, constant_thing, device_thing, routine_thing, variable_thing, loop_thing, other_thing, sort_of, named_at}
use Rattle.static_declarations.specs.Parts.{Part, stmt_place, parts}
use Rattle.static_declarations.specs.Values.{Worth, value, constant_place, is_within, out_of}
use Rattle.static_types.specs.Sorts.{Named, asked}
use Rattle.static_types.specs.Types.{target_sort, target_agrees, is_of, stmt_agrees, mistyped}
use Rattle.static_types.specs.Conduct as conduct
use Rattle.static_types.specs.Conduct.{is_foreign, target_strays, in_entry, in_function, calls_nothing, stmt_strays, misplaced, is_device, misdirected, strays}
use Rattle.static_types.specs.Numbers.{crossed_loop, endless_loop, long_loop, bad_number, bad_limit}
use Rattle.static_types.specs.Rules.{statement_rules, StatementFails}
use Rattle.printed_law.specs.Moved.{moved_constant, moved_scalar, moved_expr, moved_ref, moved_stmt, moved}
use Rattle.printed_law.specs.Alike.{AreAlike, Stays}
use Rattle.printed_law.proofs.Both.{Both, here, both-same, Likewise, Pairwise}
use Rattle.printed_law.proofs.PlainMoved.{constants, plain-moved}
use Rattle.printed_law.proofs.Things.{LikeThing, sorts, named-like}
use Rattle.printed_law.proofs.Parts.{LikeHome, LikeWhere, LikePart, statements, results, stmt-place-like, parts-like}
use Rattle.printed_law.proofs.Rules.{LikeRule, placed-if, placed-unless, among-stays}
use Rattle.printed_law.proofs.Sorts.{word-like, element-like, array-like, answered-like, function-like, procedure-like, asked-like, sort-like, agrees-like, call-agrees-like, strays-like, exprs-stray-like}

-- constants are worth the same
abbrev pub LikeWorth : {X : Type 0} → (a b : X → Place) → Worth → Worth → Type 0
LikeWorth {X} a b v w = (c : Constant X) → v (moved_constant a c) ≡ w (moved_constant b c)

pub worth-like : {X : Type 0} (a b : X → Place) (t : Prog X) → LikeWorth a b (value (moved a t)) (value (moved b t))
worth-like a b t c =
    let program = plain-moved a t ∙ sym (plain-moved b t) in
    let constant = constants a c ∙ sym (constants b c) in
    λ i. constant_value (program i) (constant i)

module _ {X : Type 0} (a b : X → Place) where
  pub constant-place-like : (c : Constant X) → Both a b (constant_place (moved_constant a c)) (constant_place (moved_constant b c))
  constant-place-like (literal_constant p s n q) = here a b p
  constant-place-like (named_constant p s n q) = here a b p

  pub out-like : (v w : Worth) → LikeWorth a b v w → (low high : ℕ) (c : Constant X) → Likewise (Both a b) (out_of v low high (moved_constant a c)) (out_of w low high (moved_constant b c))
  out-like v w worth low high c = placed-unless a b (is_within low high (v (moved_constant a c))) (is_within low high (w (moved_constant b c))) (ap (is_within low high) (worth c))
      (constant_place (moved_constant a c)) (constant_place (moved_constant b c)) (constant-place-like c)

  -- ---- numbers in statements

  module _ (v w : Worth) (worth : LikeWorth a b v w) where
    number-like : {x y : Part} → LikePart a b x y → Likewise (Both a b) (bad_number v x) (bad_number w y)
    number-like (statements like (except p number)) = out-like v w worth 10 999 number
    number-like (statements like (wait p cond q limit number)) = out-like v w worth 10 999 number
    number-like (statements like s) = tt
    number-like (results p s e) = tt

    limit-like : {x y : Part} → LikePart a b x y → Likewise (Both a b) (bad_limit v x) (bad_limit w y)
    limit-like (statements like (wait p cond q limit number)) = out-like v w worth 1 1000000000 limit
    limit-like (statements like s) = tt
    limit-like (results p s e) = tt

    crossed-like : {x y : Part} → LikePart a b x y → Likewise (Both a b) (crossed_loop v x) (crossed_loop w y)
    crossed-like (statements like (loop p n q low high ss)) =
        placed-if a b (int_lt (v (moved_constant a high)) (v (moved_constant a low))) (int_lt (w (moved_constant b high)) (w (moved_constant b low))) (λ i. int_lt (worth high i) (worth low i))
        (constant_place (moved_constant a low)) (constant_place (moved_constant b low)) (constant-place-like low)
    crossed-like (statements like s) = tt
    crossed-like (results p s e) = tt

    endless-like : {x y : Part} → LikePart a b x y → Likewise (Both a b) (endless_loop v x) (endless_loop w y)
    endless-like (statements like (loop p n q low high ss)) =
        placed-if a b (same (v (moved_constant a high)) (pos 2147483647)) (same (w (moved_constant b high)) (pos 2147483647)) (λ i. same (worth high i) (pos 2147483647))
        (constant_place (moved_constant a high)) (constant_place (moved_constant b high)) (constant-place-like high)
    endless-like (statements like s) = tt
    endless-like (results p s e) = tt

    long-like : {x y : Part} → LikePart a b x y → Likewise (Both a b) (long_loop v x) (long_loop w y)
    long-like (statements like (loop p n q low high ss)) =
        placed-if a b (int_le (v (moved_constant a low) +ℤ pos 1000000) (v (moved_constant a high))) (int_le (w (moved_constant b low) +ℤ pos 1000000) (w (moved_constant b high)))
        (λ i. int_le (worth low i +ℤ pos 1000000) (worth high i)) (a p) (b p) (here a b p)
    long-like (statements like s) = tt
    long-like (results p s e) = tt

  -- ---- types

  module _ (n m : Named) (known : (p q : Place) → Both a b p q → Likewise (LikeThing a b) (n p) (m q)) where
    of-name : (x : X) → Likewise (LikeThing a b) (n (a x)) (m (b x))
    of-name x = known (a x) (b x) (here a b x)

    target-sort-like : (r : Ref X) → target_sort n (moved_ref a r) ≡ target_sort m (moved_ref b r)
    target-sort-like (whole p x) = word-like a b (n (a p)) (m (b p)) (of-name p)
    target-sort-like (part p x e) = element-like a b (n (a p)) (m (b p)) (of-name p)

    target-agrees-like : (r : Ref X) → target_agrees n (moved_ref a r) ≡ target_agrees m (moved_ref b r)
    target-agrees-like (whole p x) = ap not (array-like a b (n (a p)) (m (b p)) (of-name p))
    target-agrees-like (part p x e) =
        let first = array-like a b (n (a p)) (m (b p)) (of-name p) in
        λ i. first i && (agrees-like a b n m known e i && fits sort_is.Number (sort-like a b n m known e i))

    of-like : (s : Sort) (e : Expr X) → is_of n s (moved_expr a e) ≡ is_of m s (moved_expr b e)
    of-like s e = λ i. agrees-like a b n m known e i && fits s (sort-like a b n m known e i)

    stmt-agrees-like : (s : Stmt X) → stmt_agrees n (moved_stmt a s) ≡ stmt_agrees m (moved_stmt b s)
    stmt-agrees-like (assign r e) = λ i. target-agrees-like r i && (agrees-like a b n m known e i && alike (target-sort-like r i) (sort-like a b n m known e i))
    stmt-agrees-like (assign_entry r mon p entry q es) =
        let call = call-agrees-like a b n m known (asked (n (a q))) (asked (m (b q))) (asked-like a b (n (a q)) (m (b q)) (of-name q)) es in
        let answer = answered-like a b (n (a q)) (m (b q)) (of-name q) in
        λ i. target-agrees-like r i && (call i && alike (target-sort-like r i) (answer i))
    stmt-agrees-like (assign_empty r cond p) = λ i. target-agrees-like r i && alike (target-sort-like r i) (Some sort_is.Truth)
    stmt-agrees-like (perform p x es) = call-agrees-like a b n m known (asked (n (a p))) (asked (m (b p))) (asked-like a b (n (a p)) (m (b p)) (of-name p)) es
    stmt-agrees-like (perform_entry p mon entry q es) = call-agrees-like a b n m known (asked (n (a q))) (asked (m (b q))) (asked-like a b (n (a q)) (m (b q)) (of-name q)) es
    stmt-agrees-like (when p e ss) = of-like sort_is.Truth e
    stmt-agrees-like (when_else p e ss ts) = of-like sort_is.Truth e
    stmt-agrees-like (loop p x q low high ss) = refl
    stmt-agrees-like (exit_when p e) = of-like sort_is.Truth e
    stmt-agrees-like (get p dev q r) = λ i. target-agrees-like r i && alike (target-sort-like r i) (Some sort_is.Number)
    stmt-agrees-like (put p dev q e) = of-like sort_is.Number e
    stmt-agrees-like (wait p cond q limit number) = refl
    stmt-agrees-like (signal p cond q) = refl
    stmt-agrees-like (broadcast p cond q) = refl
    stmt-agrees-like (except p number) = refl
    stmt-agrees-like (assert p e) = of-like sort_is.Truth e

    typed-like : {x y : Part} → LikePart a b x y → Likewise (Both a b) (mistyped n x) (mistyped m y)
    typed-like (statements like s) =
        placed-unless a b (stmt_agrees n (moved_stmt a s)) (stmt_agrees m (moved_stmt b s)) (stmt-agrees-like s) (stmt_place (moved_stmt a s)) (stmt_place (moved_stmt b s)) (stmt-place-like a b s)
    typed-like (results p s e) =
        placed-unless a b (is_of n (sort_of (moved_scalar a s)) (moved_expr a e)) (is_of m (sort_of (moved_scalar b s)) (moved_expr b e))
        (ap (λ want. is_of n want (moved_expr a e)) (sorts a s ∙ sym (sorts b s)) ∙ of-like (sort_of (moved_scalar b s)) e) (a p) (b p) (here a b p)

    -- ---- what may stand where

    device-like : (is_out : Bool) (x y : Option Thing) → Likewise (LikeThing a b) x y → is_device is_out x ≡ is_device is_out y
    device-like is_out None None like = by is_out
      where
        by : (o : Bool) → is_device o None ≡ is_device o None
        by o = refl
    device-like is_out None (Some y) like = absurd like
    device-like is_out (Some x) None like = absurd like
    device-like is_out (Some (device_thing o)) (Some (device_thing p)) like = λ i. is_device is_out (Some (device_thing (like i)))
    device-like true (Some constant_thing) (Some constant_thing) like = refl
    device-like false (Some constant_thing) (Some constant_thing) like = refl
    device-like true (Some (routine_thing d r)) (Some (routine_thing e s)) like = refl
    device-like false (Some (routine_thing d r)) (Some (routine_thing e s)) like = refl
    device-like true (Some (variable_thing p s)) (Some (variable_thing q u)) like = refl
    device-like false (Some (variable_thing p s)) (Some (variable_thing q u)) like = refl
    device-like true (Some loop_thing) (Some loop_thing) like = refl
    device-like false (Some loop_thing) (Some loop_thing) like = refl
    device-like true (Some other_thing) (Some other_thing) like = refl
    device-like false (Some other_thing) (Some other_thing) like = refl
    device-like is_out (Some x) (Some y) like = absurd like

    directed-like : {x y : Part} → LikePart a b x y → Likewise (Both a b) (misdirected n x) (misdirected m y)
    directed-like (statements like (get p dev q r)) =
        placed-if a b (is_device true (n (a q))) (is_device true (m (b q))) (device-like true (n (a q)) (m (b q)) (of-name q)) (a p) (b p) (here a b p)
    directed-like (statements like (put p dev q e)) =
        placed-if a b (is_device false (n (a q))) (is_device false (m (b q))) (device-like false (n (a q)) (m (b q)) (of-name q)) (a p) (b p) (here a b p)
    directed-like (statements like s) = tt
    directed-like (results p s e) = tt

    entry-like : (x y : StmtContext) → LikeHome a b x y → in_entry x ≡ in_entry y
    entry-like home_is.Free home_is.Free like = refl
    entry-like home_is.Entry home_is.Entry like = refl
    entry-like (home_is.Function p) (home_is.Function q) like = refl
    entry-like x y like = absurd like

    function-home-like : (x y : StmtContext) → LikeHome a b x y → in_function x ≡ in_function y
    function-home-like home_is.Free home_is.Free like = refl
    function-home-like home_is.Entry home_is.Entry like = refl
    function-home-like (home_is.Function p) (home_is.Function q) like = refl
    function-home-like x y like = absurd like

    nothing-called-like : (x y : StmtContext) → LikeHome a b x y → calls_nothing x ≡ calls_nothing y
    nothing-called-like x y like = λ i. entry-like x y like i || function-home-like x y like i

    module _ (apart : AreAlike a b) where
      owned-like : (p q : Place) → Both a b p q → (x y : Option Place) → Likewise (Both a b) x y → conduct.is_at p x ≡ conduct.is_at q y
      owned-like p q own None None like = refl
      owned-like p q own (Some r) (Some s) like = both-same a b apart r s p q like own
      owned-like p q own None (Some s) like = absurd like
      owned-like p q own (Some r) None like = absurd like

      foreign-in : (p q : Place) → Both a b p q → (x y : Option Thing) → Likewise (LikeThing a b) x y → is_foreign (home_is.Function p) x ≡ is_foreign (home_is.Function q) y
      foreign-in p q own None None like = refl
      foreign-in p q own None (Some y) like = absurd like
      foreign-in p q own (Some x) None like = absurd like
      foreign-in p q own (Some (variable_thing r s)) (Some (variable_thing u v)) like = ap not (owned-like p q own r u like.0)
      foreign-in p q own (Some constant_thing) (Some constant_thing) like = refl
      foreign-in p q own (Some (device_thing o)) (Some (device_thing r)) like = refl
      foreign-in p q own (Some (routine_thing d r)) (Some (routine_thing e s)) like = refl
      foreign-in p q own (Some loop_thing) (Some loop_thing) like = refl
      foreign-in p q own (Some other_thing) (Some other_thing) like = refl
      foreign-in p q own (Some x) (Some y) like = absurd like

      foreign-like : (h k : StmtContext) → LikeHome a b h k → (x y : Option Thing) → Likewise (LikeThing a b) x y → is_foreign h x ≡ is_foreign k y
      foreign-like home_is.Free home_is.Free home x y like = refl
      foreign-like home_is.Entry home_is.Entry home x y like = refl
      foreign-like (home_is.Function p) (home_is.Function q) home x y like = foreign-in p q home x y like
      foreign-like h k home x y like = absurd home

      target-strays-like : (h k : StmtContext) → LikeHome a b h k → (r : Ref X) → target_strays n h (moved_ref a r) ≡ target_strays m k (moved_ref b r)
      target-strays-like h k home (whole p x) = λ i. foreign-like h k home (n (a p)) (m (b p)) (of-name p) i || false
      target-strays-like h k home (part p x e) = λ i. foreign-like h k home (n (a p)) (m (b p)) (of-name p) i || strays-like a b n m known e i

      stmt-strays-like : (v w : Where) → LikeWhere a b v w → (s : Stmt X) → stmt_strays n v (moved_stmt a s) ≡ stmt_strays m w (moved_stmt b s)
      stmt-strays-like v w like (assign r e) = λ i. target-strays-like v.home w.home like.home r i || strays-like a b n m known e i
      stmt-strays-like v w like (assign_entry r mon p entry q es) =
          let procedure = procedure-like a b (n (a q)) (m (b q)) (of-name q) in
          λ i. nothing-called-like v.home w.home like.home i || (procedure i || (target-strays-like v.home w.home like.home r i || exprs-stray-like a b n m known es i))
      stmt-strays-like v w like (assign_empty r cond p) = λ i. not (entry-like v.home w.home like.home i) || target-strays-like v.home w.home like.home r i
      stmt-strays-like v w like (perform p x es) =
          let function = function-like a b (n (a p)) (m (b p)) (of-name p) in
          λ i. nothing-called-like v.home w.home like.home i || (function i || exprs-stray-like a b n m known es i)
      stmt-strays-like v w like (perform_entry p mon entry q es) =
          let function = function-like a b (n (a q)) (m (b q)) (of-name q) in
          λ i. nothing-called-like v.home w.home like.home i || (function i || exprs-stray-like a b n m known es i)
      stmt-strays-like v w like (when p e ss) = strays-like a b n m known e
      stmt-strays-like v w like (when_else p e ss ts) = strays-like a b n m known e
      stmt-strays-like v w like (loop p x q low high ss) = refl
      stmt-strays-like v w like (exit_when p e) = λ i. not (like.in_loop i) || strays-like a b n m known e i
      stmt-strays-like v w like (get p dev q r) = λ i. function-home-like v.home w.home like.home i || target-strays-like v.home w.home like.home r i
      stmt-strays-like v w like (put p dev q e) = λ i. function-home-like v.home w.home like.home i || strays-like a b n m known e i
      stmt-strays-like v w like (wait p cond q limit number) = ap not (entry-like v.home w.home like.home)
      stmt-strays-like v w like (signal p cond q) = ap not (entry-like v.home w.home like.home)
      stmt-strays-like v w like (broadcast p cond q) = ap not (entry-like v.home w.home like.home)
      stmt-strays-like v w like (except p number) = refl
      stmt-strays-like v w like (assert p e) = strays-like a b n m known e

      placed-like : {x y : Part} → LikePart a b x y → Likewise (Both a b) (misplaced n x) (misplaced m y)
      placed-like (statements {v} {w} like s) =
          placed-if a b (stmt_strays n v (moved_stmt a s)) (stmt_strays m w (moved_stmt b s)) (stmt-strays-like v w like s) (stmt_place (moved_stmt a s)) (stmt_place (moved_stmt b s)) (stmt-place-like a b s)
      placed-like (results p s e) = placed-if a b (strays n (moved_expr a e)) (strays m (moved_expr b e)) (strays-like a b n m known e) (a p) (b p) (here a b p)

  module _ (apart : AreAlike a b) where
    rules-like : (t : Prog X) → Pairwise (LikeRule a b (LikePart a b)) (statement_rules (moved a t)) (statement_rules (moved b t))
    unfolding statement_rules
    rules-like t =
        let n = named_at (moved a t) in
        let m = named_at (moved b t) in
        let known = named-like a b apart t in
        let v = value (moved a t) in
        let w = value (moved b t) in
        let worth = worth-like a b t in (
          record { number = refl; fails = λ x y like. typed-like n m known like },
          (
            record { number = refl; fails = λ x y like. crossed-like v w worth like },
            (
              record { number = refl; fails = λ x y like. endless-like v w worth like },
              (
                record { number = refl; fails = λ x y like. long-like v w worth like },
                (
                  record { number = refl; fails = λ x y like. placed-like n m known apart like },
                  (
                    record { number = refl; fails = λ x y like. directed-like n m known like },
                    (
                      record { number = refl; fails = λ x y like. number-like v w worth like },
                      (record { number = refl; fails = λ x y like. limit-like v w worth like }, tt),
                    ),
                  ),
                ),
              ),
            ),
          ),
        )

    pub statements-stay : (t : Prog X) (number : ℕ) (p : Place) → StatementFails (moved a t) number p → Stays a b p (StatementFails (moved b t) number)
    statements-stay t number p fails =
        among-stays a b (LikePart a b) (statement_rules (moved a t)) (statement_rules (moved b t)) (rules-like t) (parts (moved a t)) (parts (moved b t)) (parts-like a b t) number p fails
