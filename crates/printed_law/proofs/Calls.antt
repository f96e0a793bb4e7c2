-- What is reached by calls in a tree and in the tree with other places.
use Rattle.std.proofs.Common.{◌≡◌, ℕ, zero, suc, true, ◌||◌, List, [], ◌∷◌, map, ◌⊎◌, inl, inr, Option, Some, None, refl, sym, ◌∙◌, ap, subst, arith}
use Rattle.std.specs.Prelude.{Contains}
use Rattle.syntax_tree.specs.Placed.{Expr, literal, truth, variable, element, call, minus, negation, paren, row, Exprs, no_exprs, exprs, Operands, no_operands, operand, Ref, whole, part, Stmt, assign, assign_entry, assign_empty, perform, perform_entry, when, when_else, loop, exit_when, get, put, wait, signal, broadcast, except, assert, Stmts, no_stmts, stmts, Routine, Handler, Prog, optional}
use Rattle.syntax_tree.specs.declared.place.Place.{Place}
use Rattle.syntax_tree.specs.Parts.{routines, processes}
use Rattle.static_names.specs.Occurrences.{names, declared_at}
use Rattle.static_calls.specs.Calls as of
use Rattle.static_calls.specs.Calls.{Declared, called, routine_calls, stmts_calls, stmt_waits, stmts_wait}
use Rattle.static_calls.specs.Reaching.{Calls, Reaches, by_call, by_calls, Waits, ReachesWait, ReachesItself, CallsWaiter, HandlerWaits, ReachFails}
use Rattle.printed_law.specs.Moved.{moved_expr, moved_exprs, moved_operands, moved_ref, moved_stmt, moved_stmts, moved_routine, moved_handler, moved_process, moved_decl, moved}
use Rattle.printed_law.specs.Alike.{AreAlike, Stays}
use Rattle.printed_law.proofs.Both.{Both, here, along, both-same, Likewise, Pairwise}
use Rattle.printed_law.proofs.NameRules.{found-like}
use Rattle.printed_law.proofs.Numbers.{processes-like, routines-of, routine-place}
use Rattle.printed_law.proofs.Pairs.{same-true, itself}

record Cs {X : Type 0} (a b : X → Place) (xs ys : List Place) : Type 0 where
  are : Pairwise (Both a b) xs ys

-- the one in a list that is related to one in another
record Mate {A B : Type 0} (R : A → B → Type 0) (ys : List B) (x : A) : Type 0 where
  y : B
  listed : Contains ys y
  like : R x y

mate : {A B : Type 0} (R : A → B → Type 0) (xs : List A) (ys : List B) → Pairwise R xs ys → (x : A) → Contains xs x → Mate R ys x
mate R [] ys like x (k, below, is) = absurd (omega (arith, below))
mate R (z ∷ xs) [] like x (k, below, is) = absurd like
mate R (z ∷ xs) (y ∷ ys) like x (zero, below, is) = record { y = y; listed = (zero, omega arith, refl); like = subst (λ w. R w y) is like.0 }
mate R (z ∷ xs) (y ∷ ys) like x (suc k, below, is) =
    let it = mate R xs ys like.1 x (k, omega (arith, below), is) in
    record { y = it.y; listed = (suc it.listed.0, omega (arith, it.listed.1), it.listed.2); like = it.like }

module _ {X : Type 0} (a b : X → Place) where
  mutual
    stmt-waits-like : (s : Stmt X) → stmt_waits (moved_stmt a s) ≡ stmt_waits (moved_stmt b s)
    stmt-waits-like (assign r e) = refl
    stmt-waits-like (assign_entry r mon p entry q es) = refl
    stmt-waits-like (assign_empty r cond p) = refl
    stmt-waits-like (perform p n es) = refl
    stmt-waits-like (perform_entry p mon entry q es) = refl
    stmt-waits-like (when p e ss) = stmts-wait-like ss
    stmt-waits-like (when_else p e ss ts) = λ i. stmts-wait-like ss i || stmts-wait-like ts i
    stmt-waits-like (loop p n q low high ss) = stmts-wait-like ss
    stmt-waits-like (exit_when p e) = refl
    stmt-waits-like (get p dev q r) = refl
    stmt-waits-like (put p dev q e) = refl
    stmt-waits-like (wait p cond q limit number) = refl
    stmt-waits-like (signal p cond q) = refl
    stmt-waits-like (broadcast p cond q) = refl
    stmt-waits-like (except p number) = refl
    stmt-waits-like (assert p e) = refl

    stmts-wait-like : (ss : Stmts X) → stmts_wait (moved_stmts a ss) ≡ stmts_wait (moved_stmts b ss)
    stmts-wait-like no_stmts = refl
    stmts-wait-like (stmts s ss) = λ i. stmt-waits-like s i || stmts-wait-like ss i

  module _ (n m : Declared) (known : (p q : Place) → Both a b p q → Likewise (Both a b) (n p) (m q)) where
    called-like : (x y : Option Place) → Likewise (Both a b) x y → {xs ys : List Place} → Cs a b xs ys → Cs a b (called x xs) (called y ys)
    called-like None None like rest = rest
    called-like None (Some y) like rest = absurd like
    called-like (Some x) None like rest = absurd like
    called-like (Some x) (Some y) like rest = record { are = (like, rest.are) }

    at-like : (x : X) {xs ys : List Place} → Cs a b xs ys → Cs a b (called (n (a x)) xs) (called (m (b x)) ys)
    at-like x rest = called-like (n (a x)) (m (b x)) (known (a x) (b x) (here a b x)) rest

    mutual
      expr-like : (e : Expr X) {xs ys : List Place} → Cs a b xs ys → Cs a b (of.expr_calls n (moved_expr a e) xs) (of.expr_calls m (moved_expr b e) ys)
      expr-like (literal p x) rest = rest
      expr-like (truth p t) rest = rest
      expr-like (variable p x) rest = rest
      expr-like (element p x e) rest = expr-like e rest
      expr-like (call p x es) rest = at-like p (exprs-like es rest)
      expr-like (minus p e) rest = expr-like e rest
      expr-like (negation p e) rest = expr-like e rest
      expr-like (paren p e) rest = expr-like e rest
      expr-like (row e rs) rest = expr-like e (operands-like rs rest)

      exprs-like : (es : Exprs X) {xs ys : List Place} → Cs a b xs ys → Cs a b (of.exprs_calls n (moved_exprs a es) xs) (of.exprs_calls m (moved_exprs b es) ys)
      exprs-like no_exprs rest = rest
      exprs-like (exprs e es) rest = expr-like e (exprs-like es rest)

      operands-like : (rs : Operands X) {xs ys : List Place} → Cs a b xs ys → Cs a b (of.operands_calls n (moved_operands a rs) xs) (of.operands_calls m (moved_operands b rs) ys)
      operands-like no_operands rest = rest
      operands-like (operand op e rs) rest = expr-like e (operands-like rs rest)

    ref-like : (r : Ref X) {xs ys : List Place} → Cs a b xs ys → Cs a b (of.ref_calls n (moved_ref a r) xs) (of.ref_calls m (moved_ref b r) ys)
    ref-like (whole p x) rest = rest
    ref-like (part p x e) rest = expr-like e rest

    mutual
      stmt-like : (s : Stmt X) {xs ys : List Place} → Cs a b xs ys → Cs a b (of.stmt_calls n (moved_stmt a s) xs) (of.stmt_calls m (moved_stmt b s) ys)
      stmt-like (assign r e) rest = ref-like r (expr-like e rest)
      stmt-like (assign_entry r mon p entry q es) rest = ref-like r (at-like q (exprs-like es rest))
      stmt-like (assign_empty r cond p) rest = ref-like r rest
      stmt-like (perform p x es) rest = at-like p (exprs-like es rest)
      stmt-like (perform_entry p mon entry q es) rest = at-like q (exprs-like es rest)
      stmt-like (when p e ss) rest = expr-like e (stmts-like ss rest)
      stmt-like (when_else p e ss ts) rest = expr-like e (stmts-like ss (stmts-like ts rest))
      stmt-like (loop p x q low high ss) rest = stmts-like ss rest
      stmt-like (exit_when p e) rest = expr-like e rest
      stmt-like (get p dev q r) rest = ref-like r rest
      stmt-like (put p dev q e) rest = expr-like e rest
      stmt-like (wait p cond q limit number) rest = rest
      stmt-like (signal p cond q) rest = rest
      stmt-like (broadcast p cond q) rest = rest
      stmt-like (except p number) rest = rest
      stmt-like (assert p e) rest = expr-like e rest

      stmts-like : (ss : Stmts X) {xs ys : List Place} → Cs a b xs ys → Cs a b (stmts_calls n (moved_stmts a ss) xs) (stmts_calls m (moved_stmts b ss) ys)
      stmts-like no_stmts rest = rest
      stmts-like (stmts s ss) rest = stmt-like s (stmts-like ss rest)

    answer-like : (e : Option (Expr X)) {xs ys : List Place} → Cs a b xs ys → Cs a b (of.answer_calls n (optional (moved_expr a) e) xs) (of.answer_calls m (optional (moved_expr b) e) ys)
    answer-like None rest = rest
    answer-like (Some e) rest = expr-like e rest

    routine-calls-like : (r : Routine X) → Pairwise (Both a b) (routine_calls n (moved_routine a r)) (routine_calls m (moved_routine b r))
    routine-calls-like r = (stmts-like r.body (answer-like r.value (record { are = tt }))).are

  module _ (apart : AreAlike a b) where
    -- a place is that of one position at most
    both-one : (p q r : Place) → Both a b p q → Both a b p r → q ≡ r
    both-one p q r x y = same-true q r (sym (both-same a b apart p q p r x y) ∙ itself p)

    module _ (t : Prog X) where
      abbrev one : Prog Place
      one = moved a t

      abbrev two : Prog Place
      two = moved b t

      abbrev Rs : Routine Place → Routine Place → Type 0
      Rs r s = Both (moved_routine a) (moved_routine b) r s

      routine-mate : (r : Routine Place) → Contains (routines (map (moved_decl a) t.decls)) r → Mate Rs (routines (map (moved_decl b) t.decls)) r
      routine-mate r listed = mate Rs (routines (map (moved_decl a) t.decls)) (routines (map (moved_decl b) t.decls)) (routines-of a b t.decls) r listed

      calls-of : (r s : Routine Place) → Rs r s → Pairwise (Both a b) (routine_calls (declared_at (names one)) r) (routine_calls (declared_at (names two)) s)
      calls-of = along (moved_routine a) (moved_routine b) (λ r s. Pairwise (Both a b) (routine_calls (declared_at (names one)) r) (routine_calls (declared_at (names two)) s))
          (routine-calls-like (declared_at (names one)) (declared_at (names two)) (found-like a b apart t))

      record Called (p q : Place) : Type 0 where
        to : Place
        both : Both a b q to
        calls : Calls two p to

      calls-stay : (p q r : Place) → Both a b p r → Calls one p q → Called r q
      calls-stay p q r both c =
          let m = routine-mate c.caller c.listed in
          let to = mate (Both a b) (routine_calls (declared_at (names one)) c.caller) (routine_calls (declared_at (names two)) m.y) (calls-of c.caller m.y m.like) q c.call in
          let place : Both a b p m.y.place = subst (λ z. Both a b z m.y.place) c.is (routine-place a b c.caller m.y m.like) in
          record { to = to.y; both = to.like; calls = record { caller = m.y; listed = m.listed; is = both-one p m.y.place r place both; call = to.listed } }

      reaches-stay : {p q : Place} → Reaches one p q → (r s : Place) → Both a b p r → Both a b q s → Reaches two r s
      reaches-stay {p} {q} (by_call c) r s from to =
          let it = calls-stay p q r from c in
          by_call (subst (λ z. Calls two r z) (both-one q it.to s it.both to) it.calls)
      reaches-stay {p} {q} (by_calls {q = middle} c rest) r s from to =
          let it = calls-stay p middle r from c in
          by_calls it.calls (reaches-stay rest it.to s it.both to)

      record Waiter (p : Place) : Type 0 where
        at : Place
        both : Both a b p at
        waits : Waits two at

      waits-stay : (p : Place) → Waits one p → Waiter p
      waits-stay p w =
          let m = routine-mate w.waiter w.listed in
          let same = along (moved_routine a) (moved_routine b) (λ r s. stmts_wait r.body ≡ stmts_wait s.body) (λ r. stmts-wait-like r.body) w.waiter m.y m.like in
          record {
            at = m.y.place;
            both = subst (λ z. Both a b z m.y.place) w.is (routine-place a b w.waiter m.y m.like);
            waits = record { waiter = m.y; listed = m.listed; is = refl; wait = sym same ∙ w.wait };
          }

      reaches-wait-stay : (p q : Place) → Both a b p q → ReachesWait one p → ReachesWait two q
      reaches-wait-stay p q both w = by w.reached
        where
          it : Waiter w.waiter
          it = waits-stay w.waiter w.waits

          by : (p ≡ w.waiter) ⊎ Reaches one p w.waiter → ReachesWait two q
          by (inl same) = record { waiter = it.at; waits = it.waits; reached = inl (both-one p q it.at both (subst (λ z. Both a b z it.at) (sym same) it.both)) }
          by (inr reached) = record { waiter = it.at; waits = it.waits; reached = inr (reaches-stay reached q it.at both it.both) }

      itself-stays : (p : Place) → ReachesItself one p → Stays a b p (ReachesItself two)
      itself-stays p r =
          let m = routine-mate r.one r.listed in
          let place : Both a b p m.y.place = subst (λ z. Both a b z m.y.place) r.is (routine-place a b r.one m.y m.like) in
          let at : Both a b p (b place.at) = record { at = place.at; one = place.one; two = refl } in
          record {
            at = place.at;
            is = place.one;
            holds = record { one = m.y; listed = m.listed; is = place.two; round = reaches-stay r.round (b place.at) (b place.at) at at };
          }

      abbrev ComesTo : Prog Place → Handler Place → Type 0
      ComesTo g h = (stmts_wait h.body ≡ true) ⊎ CallsWaiter g h

      comes-stay : (h : Handler X) → ComesTo one (moved_handler a h) → ComesTo two (moved_handler b h)
      comes-stay h (inl waits) = inl (sym (stmts-wait-like h.body) ∙ waits)
      comes-stay h (inr c) =
          let are = (stmts-like (declared_at (names one)) (declared_at (names two)) (found-like a b apart t) h.body (record { are = tt })).are in
          let to = mate (Both a b) (stmts_calls (declared_at (names one)) (moved_stmts a h.body) []) (stmts_calls (declared_at (names two)) (moved_stmts b h.body) []) are c.callee c.call in
          inr (record { callee = to.y; call = to.listed; waits = reaches-wait-stay c.callee to.y to.like c.waits })

      record Handles (o : Option (Handler Place)) : Type 0 where
        handler : Handler Place
        has : o ≡ Some handler
        comes_to : ComesTo two handler

      handles : (o : Option (Handler X)) (h : Handler Place) → optional (moved_handler a) o ≡ Some h → ComesTo one h → Handles (optional (moved_handler b) o)
      handles None h has comes = absurd (let no : ◌≡◌ {A = Option (Handler Place)} None (Some h) = has in cc)
      handles (Some o) h has comes =
          let same : moved_handler a o ≡ h = cc in
          record { handler = moved_handler b o; has = refl; comes_to = comes-stay o (subst (λ z. ComesTo one z) (sym same) comes) }

      handler-stays : (p : Place) → HandlerWaits one p → Stays a b p (HandlerWaits two)
      handler-stays p w =
          let m = mate (Both (moved_process a) (moved_process b)) (processes (map (moved_decl a) t.decls)) (processes (map (moved_decl b) t.decls)) (processes-like a b t.decls) w.one w.listed in
          let has : optional (moved_handler a) m.like.at.handler ≡ Some w.handler = ap (λ z. z.handler) (sym m.like.one) ∙ w.has in
          let it = handles m.like.at.handler w.handler has w.comes_to in
          record {
            at = m.like.at.place;
            is = sym w.is ∙ ap (λ z. z.place) m.like.one;
            holds = record {
              one = m.y;
              listed = m.listed;
              is = ap (λ z. z.place) m.like.two;
              handler = it.handler;
              has = ap (λ z. z.handler) m.like.two ∙ it.has;
              comes_to = it.comes_to;
            };
          }

      pub reaching-stays : (number : ℕ) (p : Place) → ReachFails one number p → Stays a b p (ReachFails two number)
      reaching-stays number p (inl (is, fails)) = let it = itself-stays p fails in record { at = it.at; is = it.is; holds = inl (is, it.holds) }
      reaching-stays number p (inr (is, fails)) = let it = handler-stays p fails in record { at = it.at; is = it.is; holds = inr (is, it.holds) }
