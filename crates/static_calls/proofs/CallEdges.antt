-- The edges of a call graph are the calls between routines that have numbers.
use Rattle.std.proofs.Common.{◌≡◌, ◌<◌, ℕ, ◌⊎◌, inl, inr, Bool, true, false, if◌then◌else◌, List, [], ◌∷◌, ◌++◌, length, Option, Some, None, refl, ap, sym, ◌∙◌, subst, arith}
use Rattle.std.specs.Prelude.{Contains, All, option_to_list}
use Rattle.std.proofs.lemmas.List.Elements.{Contains-append_right}
use Rattle.base.proofs.Members.{behind, front_or_behind, each}
use Rattle.syntax_tree.specs.Placed.{Routine}
use Rattle.syntax_tree.specs.declared.place.Place.{Place}
use Rattle.static_names.specs.Findings.{Key}
use Rattle.static_calls.specs.Calls.{Declared, routine_calls, stmts_wait}
use Rattle.static_calls.specs.Tables.{number, edge_to, edges_to, edges_from, edges_of, waiter, waiters}
use Rattle.static_calls.proofs.Numbering.{number-within}

-- a callee has the number
pub record Goes (keys : List Key) (ps : List Place) (b : ℕ) : Type 0 where
  pub callee : Place
  pub listed : Contains ps callee
  pub numbered : number keys callee ≡ Some b

-- a routine with the one number calls one with the other
pub record Leads (declared : Declared) (keys : List Key) (rs : List (Routine Place)) (a b : ℕ) : Type 0 where
  pub caller : Routine Place
  pub listed : Contains rs caller
  pub numbered : number keys caller.place ≡ Some a
  pub goes : Goes keys (routine_calls declared caller) b

abbrev pair : ℕ → ℕ → ℕ × ℕ
pair a b = (a, b)

module _ (keys : List Key) where
  edge-kept : (from : ℕ) (to : Option ℕ) (more : List (ℕ × ℕ)) (e : ℕ × ℕ) → Contains more e → Contains (edge_to from to more) e
  edge-kept from None more e h = h
  edge-kept from (Some to) more e h = behind (from, to) more e h

  to-kept : (from : ℕ) (ps : List Place) (more : List (ℕ × ℕ)) (e : ℕ × ℕ) → Contains more e → Contains (edges_to keys from ps more) e
  to-kept from [] more e h = h
  to-kept from (p ∷ ps) more e h = edge-kept from (number keys p) (edges_to keys from ps more) e (to-kept from ps more e h)

  to-listed : (from : ℕ) (ps : List Place) (more : List (ℕ × ℕ)) (q : Place) (b : ℕ) → Contains ps q → number keys q ≡ Some b → Contains (edges_to keys from ps more) (from, b)
  to-listed from [] more q b h is = absurd (omega (arith, h.1))
  to-listed from (p ∷ ps) more q b h is = by (front_or_behind p ps q h) (λ there. to-listed from ps more q b there is)
    where
      by : (p ≡ q) ⊎ Contains ps q → (Contains ps q → Contains (edges_to keys from ps more) (from, b)) → Contains (edges_to keys from (p ∷ ps) more) (from, b)
      by (inl same) rest = subst (λ o. Contains (edge_to from o (edges_to keys from ps more)) (from, b)) (sym (ap (number keys) same ∙ is)) (0, omega arith, refl)
      by (inr there) rest = edge-kept from (number keys p) (edges_to keys from ps more) (from, b) (rest there)

  to-only : (from : ℕ) (ps : List Place) (more : List (ℕ × ℕ)) (a b : ℕ) → Contains (edges_to keys from ps more) (a, b) → ((from ≡ a) × Goes keys ps b) ⊎ Contains more (a, b)
  to-only from [] more a b h = inr h
  to-only from (p ∷ ps) more a b h = by (number keys p) refl h (to-only from ps more a b)
    where
      later : ((from ≡ a) × Goes keys ps b) ⊎ Contains more (a, b) → ((from ≡ a) × Goes keys (p ∷ ps) b) ⊎ Contains more (a, b)
      later (inl g) = inl (g.0, record { callee = g.1.callee; listed = behind p ps g.1.callee g.1.listed; numbered = g.1.numbered })
      later (inr m) = inr m

      by : (o : Option ℕ) → number keys p ≡ o → Contains (edge_to from o (edges_to keys from ps more)) (a, b) → (Contains (edges_to keys from ps more) (a, b) → ((from ≡ a) × Goes keys ps b) ⊎ Contains more (a, b)) → ((from ≡ a) × Goes keys (p ∷ ps) b) ⊎ Contains more (a, b)
      by None is h rest = later (rest h)
      by (Some to) is h rest = one (front_or_behind (from, to) (edges_to keys from ps more) (a, b) h)
        where
          one : (pair from to ≡ (a, b)) ⊎ Contains (edges_to keys from ps more) (a, b) → ((from ≡ a) × Goes keys (p ∷ ps) b) ⊎ Contains more (a, b)
          one (inl e) = inl (ap (λ (x : ℕ × ℕ). x.0) e, record { callee = p; listed = (0, omega arith, refl); numbered = is ∙ ap Some (ap (λ (x : ℕ × ℕ). x.1) e) })
          one (inr there) = later (rest there)

  from-kept : (from : Option ℕ) (ps : List Place) (more : List (ℕ × ℕ)) (e : ℕ × ℕ) → Contains more e → Contains (edges_from keys from ps more) e
  from-kept None ps more e h = h
  from-kept (Some from) ps more e h = to-kept from ps more e h

  module _ (declared : Declared) where
    pub edge-listed : (rs : List (Routine Place)) (a b : ℕ) → Leads declared keys rs a b → Contains (edges_of declared keys rs []) (a, b)
    edge-listed [] a b l = absurd (let h = l.listed.1 in omega arith)
    edge-listed (r ∷ rs) a b l = by (front_or_behind r rs l.caller l.listed) (λ h. edge-listed rs a b (record { caller = l.caller; listed = h; numbered = l.numbered; goes = l.goes }))
      where
        by : (r ≡ l.caller) ⊎ Contains rs l.caller → (Contains rs l.caller → Contains (edges_of declared keys rs []) (a, b)) → Contains (edges_of declared keys (r ∷ rs) []) (a, b)
        by (inl same) rest =
            let here : Contains (edges_to keys a (routine_calls declared r) (edges_of declared keys rs [])) (a, b) =
            to-listed a (routine_calls declared r) (edges_of declared keys rs []) l.goes.callee b (subst (λ q. Contains (routine_calls declared q) l.goes.callee) (sym same) l.goes.listed) l.goes.numbered in
            subst (λ o. Contains (edges_from keys o (routine_calls declared r) (edges_of declared keys rs [])) (a, b)) (sym (ap (λ (q : Routine Place). number keys q.place) same ∙ l.numbered)) here
        by (inr there) rest = from-kept (number keys r.place) (routine_calls declared r) (edges_of declared keys rs []) (a, b) (rest there)

    pub edge-only : (rs : List (Routine Place)) (a b : ℕ) → Contains (edges_of declared keys rs []) (a, b) → Leads declared keys rs a b
    edge-only [] a b h = absurd (omega (arith, h.1))
    edge-only (r ∷ rs) a b h = by (number keys r.place) refl h (edge-only rs a b)
      where
        later : Leads declared keys rs a b → Leads declared keys (r ∷ rs) a b
        later l = record { caller = l.caller; listed = behind r rs l.caller l.listed; numbered = l.numbered; goes = l.goes }

        by : (o : Option ℕ) → number keys r.place ≡ o → Contains (edges_from keys o (routine_calls declared r) (edges_of declared keys rs [])) (a, b) → (Contains (edges_of declared keys rs []) (a, b) → Leads declared keys rs a b) → Leads declared keys (r ∷ rs) a b
        by None is h rest = later (rest h)
        by (Some from) is h rest = one (to-only from (routine_calls declared r) (edges_of declared keys rs []) a b h)
          where
            one : ((from ≡ a) × Goes keys (routine_calls declared r) b) ⊎ Contains (edges_of declared keys rs []) (a, b) → Leads declared keys (r ∷ rs) a b
            one (inl g) = record { caller = r; listed = (0, omega arith, refl); numbered = is ∙ ap Some g.0; goes = g.1 }
            one (inr m) = later (rest m)

-- a routine that waits has the number
pub record WaitsAt (keys : List Key) (rs : List (Routine Place)) (n : ℕ) : Type 0 where
  pub one : Routine Place
  pub listed : Contains rs one
  pub wait : stmts_wait one.body ≡ true
  pub numbered : number keys one.place ≡ Some n

module _ (keys : List Key) where
  waiter-kept : (r : Routine Place) (more : List ℕ) (n : ℕ) → Contains more n → Contains (waiter keys r more) n
  waiter-kept r more n h = by (stmts_wait r.body)
    where
      by : (b : Bool) → Contains (if b then option_to_list (number keys r.place) ++ more else more) n
      by true = Contains-append_right (option_to_list (number keys r.place)) more n h
      by false = h

  pub waiter-listed : (rs : List (Routine Place)) (n : ℕ) → WaitsAt keys rs n → Contains (waiters keys rs []) n
  waiter-listed [] n w = absurd (let h = w.listed.1 in omega arith)
  waiter-listed (r ∷ rs) n w = by (front_or_behind r rs w.one w.listed) (λ h. waiter-listed rs n (record { one = w.one; listed = h; wait = w.wait; numbered = w.numbered }))
    where
      by : (r ≡ w.one) ⊎ Contains rs w.one → (Contains rs w.one → Contains (waiters keys rs []) n) → Contains (waiters keys (r ∷ rs) []) n
      by (inl same) rest =
          let here : Contains (if true then option_to_list (Some n) ++ waiters keys rs [] else waiters keys rs []) n = (0, omega arith, refl) in
          subst (λ b. Contains (if b then option_to_list (number keys r.place) ++ waiters keys rs [] else waiters keys rs []) n) (sym (ap (λ (q : Routine Place). stmts_wait q.body) same ∙ w.wait))
          (subst (λ o. Contains (if true then option_to_list o ++ waiters keys rs [] else waiters keys rs []) n) (sym (ap (λ (q : Routine Place). number keys q.place) same ∙ w.numbered)) here)
      by (inr there) rest = waiter-kept r (waiters keys rs []) n (rest there)

  pub waiter-only : (rs : List (Routine Place)) (n : ℕ) → Contains (waiters keys rs []) n → WaitsAt keys rs n
  waiter-only [] n h = absurd (omega (arith, h.1))
  waiter-only (r ∷ rs) n h = by (stmts_wait r.body) refl h (waiter-only rs n)
    where
      later : WaitsAt keys rs n → WaitsAt keys (r ∷ rs) n
      later w = record { one = w.one; listed = behind r rs w.one w.listed; wait = w.wait; numbered = w.numbered }

      by : (b : Bool) → stmts_wait r.body ≡ b → Contains (if b then option_to_list (number keys r.place) ++ waiters keys rs [] else waiters keys rs []) n → (Contains (waiters keys rs []) n → WaitsAt keys rs n) → WaitsAt keys (r ∷ rs) n
      by false is h rest = later (rest h)
      by true is h rest = one (number keys r.place) refl h
        where
          one : (o : Option ℕ) → number keys r.place ≡ o → Contains (option_to_list o ++ waiters keys rs []) n → WaitsAt keys (r ∷ rs) n
          one None no_number h = later (rest h)
          one (Some m) numbered h = head (front_or_behind m (waiters keys rs []) n h)
            where
              head : (m ≡ n) ⊎ Contains (waiters keys rs []) n → WaitsAt keys (r ∷ rs) n
              head (inl same) = record { one = r; listed = (0, omega arith, refl); wait = is; numbered = numbered ∙ ap Some same }
              head (inr there) = later (rest there)

-- all edges are between numbers
pub edges-within : (declared : Declared) (keys : List Key) (rs : List (Routine Place)) → All (λ e. (e.0 < length keys) × (e.1 < length keys)) (edges_of declared keys rs [])
edges-within declared keys rs = each (λ (e : ℕ × ℕ). (e.0 < length keys) × (e.1 < length keys)) (edges_of declared keys rs []) at
  where
    at : (e : ℕ × ℕ) → Contains (edges_of declared keys rs []) e → (e.0 < length keys) × (e.1 < length keys)
    at e h = let l = edge-only keys declared rs e.0 e.1 h in (number-within keys l.caller.place e.0 l.numbered, number-within keys l.goes.callee e.1 l.goes.numbered)

pub waiters-within : (keys : List Key) (rs : List (Routine Place)) → All (λ n. n < length keys) (waiters keys rs [])
waiters-within keys rs = each (λ n. n < length keys) (waiters keys rs []) (λ n h. let w = waiter-only keys rs n h in number-within keys w.one.place n w.numbered)
