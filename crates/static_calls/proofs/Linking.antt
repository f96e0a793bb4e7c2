-- What the graph of the calls reaches is what the calls reach.
use Rattle.std.proofs.Common.{◌≡◌, ℕ, ◌⊎◌, inl, inr, List, [], Some, refl, ap, sym, ◌∙◌, subst}
use Rattle.std.specs.Prelude.{Contains}
use Rattle.std.proofs.lemmas.Option.{same_Some}
use Rattle.syntax_tree.specs.Placed.{Prog}
use Rattle.syntax_tree.specs.declared.place.Place.{Place}
use Rattle.static_names.specs.Findings.{Key}
use Rattle.static_calls.specs.Graph.{Graph, HasEdge, HasEdges, ReachesOne}
use Rattle.static_calls.specs.Graph as graph
use Rattle.syntax_tree.specs.Parts.{routines}
use Rattle.static_calls.specs.Reaching.{Calls, Reaches, by_call, by_calls, Waits, ReachesWait}
use Rattle.static_calls.specs.Tables.{declared_in, places, number, edges_of, waiters}
use Rattle.static_calls.proofs.Numbering.{HasNumber, routine-number, number-injective}
use Rattle.static_calls.proofs.CallEdges.{edge-listed, edge-only, WaitsAt, waiter-listed, waiter-only}

module _ (g : Prog Place) (calls : Graph) (made : HasEdges calls (edges_of (declared_in g) (places (routines g.decls)) (routines g.decls) [])) where
  abbrev pub keys : List Key
  keys = places (routines g.decls)

  -- who calls has a number
  caller-number : (p q : Place) → Calls g p q → HasNumber keys p
  caller-number p q c = subst (HasNumber keys) c.is (routine-number (routines g.decls) c.caller c.listed)

  pub reacher-number : (p q : Place) → Reaches g p q → HasNumber keys p
  reacher-number p q (by_call c) = caller-number p q c
  reacher-number p r (by_calls {q = q} c rest) = caller-number p q c

  -- a call is an edge
  call-edge : (p q : Place) (a b : ℕ) → Calls g p q → number keys p ≡ Some a → number keys q ≡ Some b → HasEdge calls a b
  call-edge p q a b c from to = (made a b).1 (edge-listed keys (declared_in g) (routines g.decls) a b (record {
    caller = c.caller;
    listed = c.listed;
    numbered = ap (number keys) c.is ∙ from;
    goes = record { callee = q; listed = c.call; numbered = to };
  }))

  -- and an edge is a call
  pub record Called (p : Place) (b : ℕ) : Type 0 where
    pub callee : Place
    pub call : Calls g p callee
    pub numbered : number keys callee ≡ Some b

  edge-call : (p : Place) (a b : ℕ) → HasEdge calls a b → number keys p ≡ Some a → Called p b
  edge-call p a b e from =
      let l = edge-only keys (declared_in g) (routines g.decls) a b ((made a b).0 e) in
      record {
        callee = l.goes.callee;
        call = record { caller = l.caller; listed = l.listed; is = number-injective keys l.caller.place p a l.numbered from; call = l.goes.listed };
        numbered = l.goes.numbered;
      }

  pub reaches-edges : (p q : Place) (a b : ℕ) → Reaches g p q → number keys p ≡ Some a → number keys q ≡ Some b → graph.Reaches calls a b
  reaches-edges p q a b (by_call c) from to = graph.by_edge a b (call-edge p q a b c from to)
  reaches-edges p r a b (by_calls {q = q} c rest) from to =
      let n = reacher-number q r rest in
      graph.by_edges a n.n b (call-edge p q a n.n c from n.is) (reaches-edges q r n.n b rest n.is to)

  pub edges-reach : (p q : Place) (a b : ℕ) → graph.Reaches calls a b → number keys p ≡ Some a → number keys q ≡ Some b → Reaches g p q
  edges-reach p q a b (graph.by_edge _ _ e) from to =
      let c = edge-call p a b e from in
      by_call (subst (Calls g p) (number-injective keys c.callee q b c.numbered to) c.call)
  edges-reach p q a b (graph.by_edges _ m _ e rest) from to =
      let c = edge-call p a m e from in
      by_calls c.call (edges-reach c.callee q m b rest c.numbered to)

  waiter-at : (p : Place) → Waits g p → (n : ℕ) → number keys p ≡ Some n → Contains (waiters keys (routines g.decls) []) n
  waiter-at p w n is = waiter-listed keys (routines g.decls) n (record { one = w.waiter; listed = w.listed; wait = w.wait; numbered = ap (number keys) w.is ∙ is })

  waiter-number : (p : Place) → Waits g p → HasNumber keys p
  waiter-number p w = subst (HasNumber keys) w.is (routine-number (routines g.decls) w.waiter w.listed)

  -- what comes to a wait has a number
  pub wait-number : (p : Place) → ReachesWait g p → HasNumber keys p
  wait-number p r = by r.reached
    where
      by : (p ≡ r.waiter) ⊎ Reaches g p r.waiter → HasNumber keys p
      by (inl same) = subst (HasNumber keys) (sym same) (waiter-number r.waiter r.waits)
      by (inr reaches) = reacher-number p r.waiter reaches

  pub wait-edges : (p : Place) (n : ℕ) → number keys p ≡ Some n → ReachesWait g p → ReachesOne calls (waiters keys (routines g.decls) []) n
  wait-edges p n is r = record { end = w.n; listed = waiter-at r.waiter r.waits w.n w.is; reaches = by r.reached }
    where
      w : HasNumber keys r.waiter
      w = waiter-number r.waiter r.waits

      by : (p ≡ r.waiter) ⊎ Reaches g p r.waiter → (n ≡ (waiter-number r.waiter r.waits).n) ⊎ graph.Reaches calls n (waiter-number r.waiter r.waits).n
      by (inl same) = inl (same_Some n (waiter-number r.waiter r.waits).n (sym is ∙ ap (number keys) same ∙ (waiter-number r.waiter r.waits).is))
      by (inr reaches) = inr (reaches-edges p r.waiter n (waiter-number r.waiter r.waits).n reaches is (waiter-number r.waiter r.waits).is)

  pub edges-wait : (p : Place) (n : ℕ) → number keys p ≡ Some n → ReachesOne calls (waiters keys (routines g.decls) []) n → ReachesWait g p
  edges-wait p n is r = record { waiter = w.one.place; waits = record { waiter = w.one; listed = w.listed; is = refl; wait = w.wait }; reached = by r.reaches }
    where
      w : WaitsAt keys (routines g.decls) r.end
      w = waiter-only keys (routines g.decls) r.end r.listed

      by : (n ≡ r.end) ⊎ graph.Reaches calls n r.end → (p ≡ (waiter-only keys (routines g.decls) r.end r.listed).one.place) ⊎ Reaches g p (waiter-only keys (routines g.decls) r.end r.listed).one.place
      by (inl same) = inl (number-injective keys p (waiter-only keys (routines g.decls) r.end r.listed).one.place r.end (is ∙ ap Some same) (waiter-only keys (routines g.decls) r.end r.listed).numbered)
      by (inr reaches) = inr (edges-reach p (waiter-only keys (routines g.decls) r.end r.listed).one.place n r.end reaches is (waiter-only keys (routines g.decls) r.end r.listed).numbered)
