-- Where no routine reaches itself, how many routines one reaches is a level: it falls along each call.
use Rattle.std.proofs.Common.{◌≡◌, ◌<◌, ℕ, ◌⊎◌, inl, inr, Bool, true, false, List, [], ◌∷◌, length, map, refl, ap, sym, subst}
use Rattle.std.specs.Prelude.{Contains, ◌&&◌, count_by}
use Rattle.std.specs.List.{list_any}
use Rattle.std.proofs.lemmas.Bool.{and_parts, and_from, eqb-true, eq-eqb, false_from_ne_true}
use Rattle.base.proofs.Members.{at_front, none_in, front_or_behind, behind}
use Rattle.syntax_tree.specs.Placed.{Routine, Prog}
use Rattle.syntax_tree.specs.declared.place.Place.{Place}
use Rattle.syntax_tree.specs.Parts.{same_place, routines}
use Rattle.static_names.specs.Occurrences.{names, declared_at}
use Rattle.static_calls.specs.Calls.{routine_calls}
use Rattle.static_calls.specs.Reaching.{Calls, Reaches, by_call, by_calls, ReachesItself}
use Rattle.wellformed_law.specs.Levels.{HasPlaceLevels}
use Rattle.wellformed_law.proofs.CallLists.{Passing, any-passes, any-from, count-lt, count-few}
use Rattle.wellformed_law.proofs.Through.{through, through-edge, through-joined, through-holds}

pub place-true : (p q : Place) → same_place p q ≡ true → p ≡ q
place-true p q h = let parts = and_parts _ _ h in λ i. record { line = eqb-true p.line q.line parts.0 i; col = eqb-true p.col q.col parts.1 i }

place-same : (p q : Place) → p ≡ q → same_place p q ≡ true
place-same p q e = and_from _ _ (eq-eqb p.line q.line (ap (λ (r : Place). r.line) e)) (eq-eqb p.col q.col (ap (λ (r : Place). r.col) e))

place-listed : (rs : List (Routine Place)) (r : Routine Place) → Contains rs r → Contains (map (λ q. q.place) rs) r.place
place-listed [] r h = absurd (none_in r h)
place-listed (q ∷ rs) r h = by (front_or_behind q rs r h) (place-listed rs r)
  where
    by : (q ≡ r) ⊎ Contains rs r → (Contains rs r → Contains (map (λ s. s.place) rs) r.place) → Contains (map (λ s. s.place) (q ∷ rs)) r.place
    by (inl same) rest = subst (Contains (map (λ s. s.place) (q ∷ rs))) (ap (λ (s : Routine Place). s.place) same) (at_front q.place (map (λ s. s.place) rs))
    by (inr there) rest = behind q.place (map (λ s. s.place) rs) r.place (rest there)

reaches-joined : (g : Prog Place) (p q r : Place) → Reaches g p q → Reaches g q r → Reaches g p r
reaches-joined g p q r (by_call c) rest = by_calls c rest
reaches-joined g p q r (by_calls {q = m} c more) rest = by_calls c (reaches-joined g m q r more rest)

module _ (g : Prog Place) where
  -- the test of a routine that stands at the one place and calls the other
  calls_from : (from to : Place) → Routine Place → Bool
  calls_from from to r = same_place r.place from && list_any (λ q. same_place q to) (routine_calls (declared_at (names g)) r)

  calls_to : Place → Place → Bool
  calls_to from to = list_any (calls_from from to) (routines g.decls)

  calls-true : (from to : Place) → calls_to from to ≡ true → Calls g from to
  unfolding calls_to calls_from
  calls-true from to h = record { caller = r.one; listed = r.listed; is = place-true r.one.place from parts.0; call = subst (Contains (routine_calls (declared_at (names g)) r.one)) (place-true q.one to q.passes) q.listed }
    where
      r : Passing (calls_from from to) (routines g.decls)
      r = any-passes (calls_from from to) (routines g.decls) h

      parts : (same_place r.one.place from ≡ true) × (list_any (λ q. same_place q to) (routine_calls (declared_at (names g)) r.one) ≡ true)
      parts = and_parts _ _ r.passes

      q : Passing (λ q. same_place q to) (routine_calls (declared_at (names g)) r.one)
      q = any-passes (λ q. same_place q to) (routine_calls (declared_at (names g)) r.one) parts.1

  calls-same : (from to : Place) → Calls g from to → calls_to from to ≡ true
  unfolding calls_to calls_from
  calls-same from to c =
      any-from (calls_from from to) (routines g.decls) c.caller c.listed
      (and_from _ _ (place-same c.caller.place from c.is) (any-from (λ q. same_place q to) (routine_calls (declared_at (names g)) c.caller) to c.call (place-same to to refl)))

  places : List Place
  places = map (λ r. r.place) (routines g.decls)

  -- one place is reached from the other by calls
  reaches : Place → Place → Bool
  reaches from to = through calls_to places from to

  reaches-true : (from to : Place) → reaches from to ≡ true → Reaches g from to
  unfolding reaches
  reaches-true from to h = through-holds calls_to (Reaches g) (λ p q c. by_call (calls-true p q c)) (reaches-joined g) places from to h

  reaches-call : (from to : Place) → Calls g from to → reaches from to ≡ true
  unfolding reaches
  reaches-call from to c = through-edge calls_to places from to (calls-same from to c)

  reaches-next : (one : Routine Place) → Contains (routines g.decls) one → (from to : Place) → reaches from one.place ≡ true → reaches one.place to ≡ true → reaches from to ≡ true
  unfolding reaches places
  reaches-next one listed from to a b = through-joined calls_to (map (λ r. r.place) (routines g.decls)) one.place (place-listed (routines g.decls) one listed) from to a b

  -- how many routines are reached
  height : Place → ℕ
  height place = count_by (λ r. reaches place r.place) (routines g.decls)

  module _ (apart : (place : Place) → ¬ ReachesItself g place) where
    not_itself : (one : Routine Place) → Contains (routines g.decls) one → reaches one.place one.place ≡ false
    not_itself one listed = false_from_ne_true (reaches one.place one.place) (λ h. apart one.place (record { one = one; listed = listed; is = refl; round = reaches-true one.place one.place h }))

    falls : (from to : Place) → Calls g from to → (one : Routine Place) → Contains (routines g.decls) one → one.place ≡ to → height to < height from
    unfolding height
    falls from to c one listed is =
        count-lt (λ r. reaches to r.place) (λ r. reaches from r.place) (λ r h. reaches-next one listed from r.place to_one (subst (λ p. reaches p r.place ≡ true) (sym is) h)) (routines g.decls) one listed
        (subst (λ p. reaches p one.place ≡ false) is (not_itself one listed)) to_one
      where
        to_one : reaches from one.place ≡ true
        to_one = subst (λ p. reaches from p ≡ true) (sym is) (reaches-call from to c)

    few : (one : Routine Place) → Contains (routines g.decls) one → height one.place < length (routines g.decls)
    unfolding height
    few one listed = count-few (λ r. reaches one.place r.place) (routines g.decls) one listed (not_itself one listed)

pub has_levels : (g : Prog Place) → ((place : Place) → ¬ ReachesItself g place) → HasPlaceLevels g
has_levels g apart = record { level = height g; are_levels = record { falls = falls g apart; few = few g apart } }
