-- The first failure of both rules.
use Rattle.std.proofs.Common.{◌≡◌, ℕ, ◌⊎◌, inl, inr, Bool, true, false, ◌||◌, if◌then◌else◌, List, [], ◌∷◌, Option, Some, None, refl, ap, sym, ◌∙◌, subst, arith, true≢false}
use Rattle.std.specs.Prelude.{Contains}
use Rattle.std.specs.List.{list_any}
use Rattle.std.proofs.lemmas.List.Folds.{Any-from_list_any, list_any-from_Any}
use Rattle.std.proofs.lemmas.Bool.{or_cases}
use Rattle.base.proofs.Members.{front_or_behind, behind}
use Rattle.syntax_tree.specs.Placed.{Routine, Handler, Process, Prog}
use Rattle.syntax_tree.specs.declared.place.Place.{Place}
use Rattle.static_rule.specs.declared.violation.Violation.{Violation}
use Rattle.static_rule.specs.First.{IsFirstOf, Either, sooner}
use Rattle.static_rule.specs.Parts.{FailsAmong, noted}
use Rattle.static_rule.proofs.Soonest.{both, same, noted-is-first}
use Rattle.static_names.specs.Findings.{Key}
use Rattle.static_calls.specs.Graph.{Graph, HasEdges, ReachesOne, marked}
use Rattle.static_calls.specs.Calls.{stmts_calls, stmts_wait}
use Rattle.syntax_tree.specs.Parts.{routines, processes}
use Rattle.static_calls.specs.Reaching.{ReachesWait, ReachesItself, CallsWaiter, HandlerWaits, ReachFails}
use Rattle.static_calls.specs.Tables.{declared_in, places, number, edges_of, waiters, marked_at, is_marked_place, come_to_wait, handler_fault, handler_rule, OneComesBack}
use Rattle.static_calls.proofs.Numbering.{routine-number}
use Rattle.static_calls.proofs.Linking.{reaches-edges, edges-reach, wait-number, wait-edges, edges-wait}

some-is : (p q : Place) → Some p ≡ Some q → p ≡ q
some-is p q e = cc

none-is : (p : Place) → None ≡ Some p → ⊥
none-is p e = cc

or-left : (a b : Bool) → a ≡ true → (a || b) ≡ true
or-left a b h = ap (λ c. c || b) h

or-right : (a b : Bool) → b ≡ true → (a || b) ≡ true
or-right true b h = refl
or-right false b h = h

module _ (g : Prog Place) (calls : Graph) (made : HasEdges calls (edges_of (declared_in g) (places (routines g.decls)) (routines g.decls) [])) where
  abbrev keys : List Key
  keys = places (routines g.decls)

  -- ---- routines that reach themselves

  round-to : (m : ℕ) (p : Place) → OneComesBack keys calls (routines g.decls) m p → ReachFails g m p
  round-to m p o =
      let from : number keys p ≡ Some o.round.node = ap (number keys) (sym o.is) ∙ o.round.numbered in
      inl (o.is_rule, record { one = o.one; listed = o.listed; is = o.is; round = edges-reach g calls made p p o.round.node o.round.node o.round.round from from })

  round-from : (m : ℕ) (p : Place) → m ≡ 31 → ReachesItself g p → OneComesBack keys calls (routines g.decls) m p
  round-from m p is r =
      let n = routine-number (routines g.decls) r.one r.listed in
      let from : number keys p ≡ Some n.n = ap (number keys) (sym r.is) ∙ n.is in
      record { is_rule = is; one = r.one; listed = r.listed; is = r.is; round = record { node = n.n; numbered = n.is; round = reaches-edges g calls made p p n.n n.n r.round from from } }

  -- ---- handlers that reach a wait

  module _ (marks : List Bool) (marked_are : (n : ℕ) → (marked marks n ≡ true → ReachesOne calls (waiters keys (routines g.decls) []) n) × (ReachesOne calls (waiters keys (routines g.decls) []) n → marked marks n ≡ true)) where
    mark-waits : (p : Place) → is_marked_place keys marks p ≡ true → ReachesWait g p
    mark-waits p h = by (number keys p) refl h
      where
        by : (o : Option ℕ) → number keys p ≡ o → marked_at marks o ≡ true → ReachesWait g p
        by None is h = absurd (true≢false (sym h))
        by (Some n) is h = edges-wait g calls made p n is ((marked_are n).0 h)

    waits-mark : (p : Place) → ReachesWait g p → is_marked_place keys marks p ≡ true
    waits-mark p r = let n = wait-number g calls made p r in ap (marked_at marks) n.is ∙ (marked_are n.n).1 (wait-edges g calls made p n.n n.is r)

    come-to : (h : Handler Place) → come_to_wait (declared_in g) keys marks h.body ≡ true → (stmts_wait h.body ≡ true) ⊎ CallsWaiter g h
    come-to h e = by (or_cases (stmts_wait h.body) (list_any (is_marked_place keys marks) (stmts_calls (declared_in g) h.body [])) e)
      where
        by : (stmts_wait h.body ≡ true) ⊎ (list_any (is_marked_place keys marks) (stmts_calls (declared_in g) h.body []) ≡ true) → (stmts_wait h.body ≡ true) ⊎ CallsWaiter g h
        by (inl own) = inl own
        by (inr called) =
            let a = Any-from_list_any (is_marked_place keys marks) (stmts_calls (declared_in g) h.body []) called in
            inr (record { callee = a.1; call = (a.0, a.2, a.3); waits = mark-waits a.1 a.4 })

    come-from : (h : Handler Place) → (stmts_wait h.body ≡ true) ⊎ CallsWaiter g h → come_to_wait (declared_in g) keys marks h.body ≡ true
    come-from h (inl own) = or-left (stmts_wait h.body) (list_any (is_marked_place keys marks) (stmts_calls (declared_in g) h.body [])) own
    come-from h (inr c) = or-right (stmts_wait h.body) (list_any (is_marked_place keys marks) (stmts_calls (declared_in g) h.body []))
        (list_any-from_Any (is_marked_place keys marks) (stmts_calls (declared_in g) h.body []) (c.call.0, c.callee, c.call.1, c.call.2, waits-mark c.callee c.waits))

    -- the rule fails of one of the processes
    record OneFails (ps : List (Process Place)) (m : ℕ) (p : Place) : Type 0 where
      is_rule : 35 ≡ m
      one : Process Place
      listed : Contains ps one
      fault : handler_fault (declared_in g) keys marks one.place one.handler ≡ Some p

    among-one : (ps : List (Process Place)) (m : ℕ) (p : Place) → FailsAmong (handler_rule (declared_in g) keys marks ∷ []) ps m p → OneFails ps m p
    among-one [] m p h = absurd h
    among-one (q ∷ ps) m p (inl (inl h)) = record { is_rule = h.0; one = q; listed = (0, omega arith, refl); fault = h.1 }
    among-one (q ∷ ps) m p (inl (inr h)) = absurd h
    among-one (q ∷ ps) m p (inr h) = let o = among-one ps m p h in record { is_rule = o.is_rule; one = o.one; listed = behind q ps o.one o.listed; fault = o.fault }

    one-among : (ps : List (Process Place)) (m : ℕ) (p : Place) → OneFails ps m p → FailsAmong (handler_rule (declared_in g) keys marks ∷ []) ps m p
    one-among [] m p o = absurd (let h = o.listed.1 in omega arith)
    one-among (q ∷ ps) m p o = by (front_or_behind q ps o.one o.listed) (λ h. one-among ps m p (record { is_rule = o.is_rule; one = o.one; listed = h; fault = o.fault }))
      where
        by : (q ≡ o.one) ⊎ Contains ps o.one → (Contains ps o.one → FailsAmong (handler_rule (declared_in g) keys marks ∷ []) ps m p) → FailsAmong (handler_rule (declared_in g) keys marks ∷ []) (q ∷ ps) m p
        by (inl same) rest = inl (inl (o.is_rule, ap (λ (x : Process Place). handler_fault (declared_in g) keys marks x.place x.handler) same ∙ o.fault))
        by (inr there) rest = inr (rest there)

    handler-to : (m : ℕ) (p : Place) → OneFails (processes g.decls) m p → ReachFails g m p
    handler-to m p o = by o.one.handler refl o.fault
      where
        by : (h : Option (Handler Place)) → o.one.handler ≡ h → handler_fault (declared_in g) keys marks o.one.place h ≡ Some p → ReachFails g m p
        by None has fault = absurd (none-is p fault)
        by (Some h) has fault = at (come_to_wait (declared_in g) keys marks h.body) refl fault
          where
            at : (b : Bool) → come_to_wait (declared_in g) keys marks h.body ≡ b → (if b then Some o.one.place else None) ≡ Some p → ReachFails g m p
            at false is fault = absurd (none-is p fault)
            at true is fault = inr (sym o.is_rule, record { one = o.one; listed = o.listed; is = some-is o.one.place p fault; handler = h; has = has; comes_to = come-to h is })

    handler-from : (m : ℕ) (p : Place) → m ≡ 35 → HandlerWaits g p → OneFails (processes g.decls) m p
    handler-from m p is w = record {
      is_rule = sym is;
      one = w.one;
      listed = w.listed;
      fault = ap (handler_fault (declared_in g) keys marks w.one.place) w.has ∙ ap (λ b. if b then Some w.one.place else None) (come-from w.handler w.comes_to) ∙ ap Some w.is;
    }

    either-fails : (m : ℕ) (p : Place) → Either (OneComesBack keys calls (routines g.decls)) (FailsAmong (handler_rule (declared_in g) keys marks ∷ []) (processes g.decls)) m p → ReachFails g m p
    either-fails m p (inl o) = round-to m p o
    either-fails m p (inr h) = handler-to m p (among-one (processes g.decls) m p h)

    fails-either : (m : ℕ) (p : Place) → ReachFails g m p → Either (OneComesBack keys calls (routines g.decls)) (FailsAmong (handler_rule (declared_in g) keys marks ∷ []) (processes g.decls)) m p
    fails-either m p (inl r) = inl (round-from m p r.0 r.1)
    fails-either m p (inr w) = inr (one-among (processes g.decls) m p (handler-from m p w.0 w.1))

    -- the sooner of the first failures of each rule is the first
    pub first-fails : (round : Option Violation) → IsFirstOf (OneComesBack keys calls (routines g.decls)) round → IsFirstOf (ReachFails g) (sooner round (noted (handler_rule (declared_in g) keys marks ∷ []) None (processes g.decls)))
    first-fails round h =
        same (Either (OneComesBack keys calls (routines g.decls)) (FailsAmong (handler_rule (declared_in g) keys marks ∷ []) (processes g.decls))) (ReachFails g) (sooner round (noted (handler_rule (declared_in g) keys marks ∷ []) None (processes g.decls))) either-fails fails-either
        (both (OneComesBack keys calls (routines g.decls)) (FailsAmong (handler_rule (declared_in g) keys marks ∷ []) (processes g.decls)) round (noted (handler_rule (declared_in g) keys marks ∷ []) None (processes g.decls)) h (noted-is-first (handler_rule (declared_in g) keys marks ∷ []) (processes g.decls)))

-- what the tables of a program give is its first failure
pub first-of-tables : (g : Prog Place) (rs : List (Routine Place)) (ps : List (Process Place)) (ks : List Key) (calls cycles : Graph) (marks : List Bool) (round waiting : Option Violation)
    → rs ≡ routines g.decls → ps ≡ processes g.decls → ks ≡ places rs
    → HasEdges calls (edges_of (declared_in g) ks rs [])
    → ((n : ℕ) → (marked marks n ≡ true → ReachesOne calls (waiters ks rs []) n) × (ReachesOne calls (waiters ks rs []) n → marked marks n ≡ true))
    → cycles ≡ calls → IsFirstOf (OneComesBack ks cycles rs) round
    → waiting ≡ noted (handler_rule (declared_in g) ks marks ∷ []) None ps
    → IsFirstOf (ReachFails g) (sooner round waiting)
first-of-tables g rs ps ks calls cycles marks round waiting rs_are ps_are ks_are made marked_are same_graph round_is waiting_is =
    subst (λ w. IsFirstOf (ReachFails g) (sooner round w)) (sym same_waiting)
    (first-fails g calls
    (subst (λ l. HasEdges calls (edges_of (declared_in g) (places (routines g.decls)) l [])) rs_are (subst (λ k. HasEdges calls (edges_of (declared_in g) k rs [])) same_keys made))
    marks
    (subst (λ l. (n : ℕ) → (marked marks n ≡ true → ReachesOne calls (waiters (places (routines g.decls)) l []) n) × (ReachesOne calls (waiters (places (routines g.decls)) l []) n → marked marks n ≡ true)) rs_are
    (subst (λ k. (n : ℕ) → (marked marks n ≡ true → ReachesOne calls (waiters k rs []) n) × (ReachesOne calls (waiters k rs []) n → marked marks n ≡ true)) same_keys marked_are))
    round
    (subst (λ l. IsFirstOf (OneComesBack (places (routines g.decls)) calls l) round) rs_are (subst (λ k. IsFirstOf (OneComesBack k calls rs) round) same_keys (subst (λ c. IsFirstOf (OneComesBack ks c rs) round) same_graph round_is))))
  where
    same_keys : ks ≡ places (routines g.decls)
    same_keys = ks_are ∙ ap places rs_are

    same_waiting : waiting ≡ noted (handler_rule (declared_in g) (places (routines g.decls)) marks ∷ []) None (processes g.decls)
    same_waiting = waiting_is ∙ ap (λ k. noted (handler_rule (declared_in g) k marks ∷ []) None ps) same_keys ∙ ap (noted (handler_rule (declared_in g) (places (routines g.decls)) marks ∷ []) None) ps_are
