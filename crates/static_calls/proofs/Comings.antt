-- The first call by which a routine at a place reaches itself.
use Rattle.std.proofs.Common.{◌≡◌, ℕ, ◌⊎◌, inl, inr, Bool, true, false, cond, if◌then◌else◌, List, [], ◌∷◌, Option, Some, None, refl, ap, sym, ◌∙◌, subst, true≢false}
use Rattle.std.specs.Prelude.{Contains, find}
use Rattle.std.specs.Option.{option_or}
use Rattle.base.proofs.Members.{at_front, behind, none_in, front_or_behind}
use Rattle.std.proofs.lemmas.Option.{same_Some}
use Rattle.std.proofs.lemmas.List.Elements.{All-nil, All-cons}
use Rattle.syntax_tree.specs.Placed.{Routine, Prog}
use Rattle.syntax_tree.specs.Parts.{same_place, routines}
use Rattle.syntax_tree.specs.declared.place.Place.{Place}
use Rattle.static_names.specs.Findings.{Key, key_of}
use Rattle.static_names.proofs.Notes.{key_equiv, key-true}
use Rattle.static_calls.specs.Graph.{Graph, HasEdges, ReachesOne, marked}
use Rattle.static_calls.specs.Graph as graph
use Rattle.static_calls.specs.Calls.{routine_calls}
use Rattle.static_calls.specs.Reaching.{Reaches, by_call, by_calls, ComesTo, IsFirstTo, ComesBackBy, IsWayBack}
use Rattle.static_calls.specs.Tables.{declared_in, places, number, edges_of, marked_at, is_marked_place, marked_call, marked_call_at}
use Rattle.static_calls.proofs.Numbering.{routine-number, number-injective}
use Rattle.static_calls.proofs.Linking.{reacher-number, reaches-edges, edges-reach}

-- where no routine that stands at the place has a number, none reaches itself
pub none-numbered : (g : Prog Place) (place : Place) → number (places (routines g.decls)) place ≡ None → IsWayBack g place None
none-numbered g place none r =
    let n = routine-number (routines g.decls) r.one r.listed in
    let same : Some n.n ≡ None = sym n.is ∙ ap (number (places (routines g.decls))) r.is ∙ none in
    absurd (cc)

module _ (g : Prog Place) (calls : Graph) (made : HasEdges calls (edges_of (declared_in g) (places (routines g.decls)) (routines g.decls) []))
    (place : Place) (node : ℕ) (numbered : number (places (routines g.decls)) place ≡ Some node)
    (marks : List Bool) (marked_are : (n : ℕ) → (marked marks n ≡ true → ReachesOne calls (node ∷ []) n) × (ReachesOne calls (node ∷ []) n → marked marks n ≡ true)) where
  abbrev keys : List Key
  keys = places (routines g.decls)

  the-end : (end : ℕ) → Contains (node ∷ []) end → end ≡ node
  the-end end h = by (front_or_behind node [] end h)
    where
      by : (node ≡ end) ⊎ Contains [] end → end ≡ node
      by (inl same) = sym same
      by (inr none) = absurd (none_in end none)

  -- the marked are those that come to the place
  mark-comes : (q : Place) → is_marked_place keys marks q ≡ true → ComesTo g place q
  mark-comes q h = by (number keys q) refl h
    where
      by : (o : Option ℕ) → number keys q ≡ o → marked_at marks o ≡ true → ComesTo g place q
      by None is h = absurd (true≢false (sym h))
      by (Some n) is h = at ((marked_are n).0 h)
        where
          at : ReachesOne calls (node ∷ []) n → ComesTo g place q
          at r = to r.reaches
            where
              to : (n ≡ r.end) ⊎ graph.Reaches calls n r.end → ComesTo g place q
              to (inl same) = inl (number-injective keys q place node (is ∙ ap Some (same ∙ the-end r.end r.listed)) numbered)
              to (inr reaches) = inr (edges-reach g calls made q place n r.end reaches is (numbered ∙ ap Some (sym (the-end r.end r.listed))))

  comes-mark : (q : Place) → ComesTo g place q → is_marked_place keys marks q ≡ true
  comes-mark q (inl same) = ap (is_marked_place keys marks) same ∙ ap (marked_at marks) numbered ∙ (marked_are node).1 (record { end = node; listed = at_front node []; reaches = inl refl })
  comes-mark q (inr reaches) =
      let n = reacher-number g calls made q place reaches in
      ap (marked_at marks) n.is ∙ (marked_are n.n).1 (record { end = node; listed = at_front node []; reaches = inr (reaches-edges g calls made q place n.n node reaches n.is numbered) })

  -- the first of the marked is the first that comes to the place
  first-found : (qs : List Place) (q : Place) → find (is_marked_place keys marks) qs ≡ Some q → IsFirstTo g place qs q
  first-found [] q e = absurd (cc)
  first-found (x ∷ qs) q e = by (is_marked_place keys marks x) refl e (first-found qs q)
    where
      by : (b : Bool) → is_marked_place keys marks x ≡ b → cond b (Some x) (find (is_marked_place keys marks) qs) ≡ Some q → (find (is_marked_place keys marks) qs ≡ Some q → IsFirstTo g place qs q) → IsFirstTo g place (x ∷ qs) q
      by true is e rest =
          let same : x ≡ q = same_Some x q e in
          record { before = []; behind = qs; order = ap (λ y. y ∷ qs) same; comes = subst (ComesTo g place) same (mark-comes x is); none_before = All-nil (λ other. ¬ ComesTo g place other) }
      by false is e rest =
          let f = rest e in
          record {
            before = x ∷ f.before;
            behind = f.behind;
            order = ap (λ l. x ∷ l) f.order;
            comes = f.comes;
            none_before = All-cons (λ other. ¬ ComesTo g place other) x f.before (λ c. true≢false (sym (comes-mark x c) ∙ is)) f.none_before;
          }

  none-found : (qs : List Place) → find (is_marked_place keys marks) qs ≡ None → (q : Place) → Contains qs q → ¬ ComesTo g place q
  none-found [] e q h c = absurd (none_in q h)
  none-found (x ∷ qs) e q h c = by (is_marked_place keys marks x) refl e (none-found qs)
    where
      by : (b : Bool) → is_marked_place keys marks x ≡ b → cond b (Some x) (find (is_marked_place keys marks) qs) ≡ None → (find (is_marked_place keys marks) qs ≡ None → (q : Place) → Contains qs q → ¬ ComesTo g place q) → ⊥
      by true is e rest = absurd (cc)
      by false is e rest = at (front_or_behind x qs q h)
        where
          at : (x ≡ q) ⊎ Contains qs q → ⊥
          at (inl same) = true≢false (sym (comes-mark x (subst (ComesTo g place) (sym same) c)) ∙ is)
          at (inr there) = rest e q there c

  -- a routine that is listed may be one of more
  abbrev Within : List (Routine Place) → Type 0
  Within rs = (r : Routine Place) → Contains rs r → Contains (routines g.decls) r

  call-found : (rs : List (Routine Place)) → Within rs → (q : Place) → marked_call_at (declared_in g) keys marks place rs ≡ Some q → ComesBackBy g place q
  call-found [] within q e = absurd (cc)
  call-found (r ∷ rs) within q e = by (same_place r.place place) refl e (call-found rs (λ x h. within x (behind r rs x h)) q)
    where
      by : (b : Bool) → same_place r.place place ≡ b → option_or (if b then marked_call (declared_in g) keys marks r else None) (marked_call_at (declared_in g) keys marks place rs) ≡ Some q → (marked_call_at (declared_in g) keys marks place rs ≡ Some q → ComesBackBy g place q) → ComesBackBy g place q
      by false other e rest = rest e
      by true here e rest = at (marked_call (declared_in g) keys marks r) refl e
        where
          at : (o : Option Place) → marked_call (declared_in g) keys marks r ≡ o → option_or o (marked_call_at (declared_in g) keys marks place rs) ≡ Some q → ComesBackBy g place q
          at None none e = rest e
          at (Some x) some e = record { caller = r; listed = within r (at_front r rs); is = key-true r.place place here; first = first-found (routine_calls (declared_in g) r) q (some ∙ e) }

  call-none : (rs : List (Routine Place)) → marked_call_at (declared_in g) keys marks place rs ≡ None → (r : Routine Place) → Contains rs r → r.place ≡ place → (q : Place) → Contains (routine_calls (declared_in g) r) q → ¬ ComesTo g place q
  call-none [] e r listed is q call comes = absurd (none_in r listed)
  call-none (x ∷ rs) e r listed is q call comes = by (same_place x.place place) refl e (front_or_behind x rs r listed) (λ e h. call-none rs e r h is q call comes)
    where
      own : x ≡ r → same_place x.place place ≡ true
      own same = ap (λ (p : Place). same_place p place) (ap (λ (y : Routine Place). y.place) same ∙ is) ∙ key_equiv.refl (key_of place)

      by : (b : Bool) → same_place x.place place ≡ b → option_or (if b then marked_call (declared_in g) keys marks x else None) (marked_call_at (declared_in g) keys marks place rs) ≡ None → (x ≡ r) ⊎ Contains rs r → (marked_call_at (declared_in g) keys marks place rs ≡ None → Contains rs r → ⊥) → ⊥
      by false other e (inl same) rest = true≢false (sym (own same) ∙ other)
      by false other e (inr there) rest = rest e there
      by true here e either rest = at (marked_call (declared_in g) keys marks x) refl e either
        where
          at : (o : Option Place) → marked_call (declared_in g) keys marks x ≡ o → option_or o (marked_call_at (declared_in g) keys marks place rs) ≡ None → (x ≡ r) ⊎ Contains rs r → ⊥
          at (Some y) some e either = absurd (cc)
          at None none e (inl same) = none-found (routine_calls (declared_in g) x) none q (subst (λ (y : Routine Place). Contains (routine_calls (declared_in g) y) q) (sym same) call) comes
          at None none e (inr there) = rest e there

  -- what the marks tell is the way back
  pub way-found : (found : Option Place) → found ≡ marked_call_at (declared_in g) keys marks place (routines g.decls) → IsWayBack g place found
  way-found (Some q) e = call-found (routines g.decls) (λ r h. h) q (sym e)
  way-found None e = λ r. by r.round
    where
      by : Reaches g place place → ⊥
      by (by_call c) = call-none (routines g.decls) (sym e) c.caller c.listed c.is place c.call (inl refl)
      by (by_calls {q = q} c rest) = call-none (routines g.decls) (sym e) c.caller c.listed c.is q c.call (inr rest)

-- the same, over what the code's tables have
pub way-of-tables : (g : Prog Place) (rs : List (Routine Place)) (ks : List Key) (calls : Graph) (place : Place) (node : ℕ) (marks : List Bool) (found : Option Place)
    → rs ≡ routines g.decls → ks ≡ places rs
    → HasEdges calls (edges_of (declared_in g) ks rs [])
    → number ks place ≡ Some node
    → ((n : ℕ) → (marked marks n ≡ true → ReachesOne calls (node ∷ []) n) × (ReachesOne calls (node ∷ []) n → marked marks n ≡ true))
    → found ≡ marked_call_at (declared_in g) ks marks place rs
    → IsWayBack g place found
way-of-tables g rs ks calls place node marks found rs_are ks_are made numbered marked_are e =
    way-found g calls
    (subst (λ l. HasEdges calls (edges_of (declared_in g) (places (routines g.decls)) l [])) rs_are (subst (λ k. HasEdges calls (edges_of (declared_in g) k rs [])) same_keys made))
    place node (subst (λ k. number k place ≡ Some node) same_keys numbered) marks marked_are found
    (e ∙ ap (λ k. marked_call_at (declared_in g) k marks place rs) same_keys ∙ ap (marked_call_at (declared_in g) (places (routines g.decls)) marks place) rs_are)
  where
    same_keys : ks ≡ places (routines g.decls)
    same_keys = ks_are ∙ ap places rs_are
