-- At each place stands one event at most.
use Rattle.std.proofs.Common.{◌≡◌, ◌≤◌, ◌+◌, ℕ, Bool, true, false, ◌&&◌, nat_eq, cond, List, [], ◌∷◌, Option, Some, None, refl, ap, sym, ◌∙◌, arith}
use Rattle.std.proofs.lemmas.List.Sums.{sum_by-cons}
use Rattle.std.proofs.lemmas.Bool.{eqb-true, eq-eqb}
use Rattle.syntax_tree.specs.declared.place.Place.{Place}
use Rattle.syntax_tree.specs.Placed.{Var, Param, Routine, Member, variable_member, condition_member, Decl, constant, device, event, routine, monitor, process, Prog}
use Rattle.syntax_tree.specs.Parts.{same_place, events}
use Rattle.static_names.specs.Occurrences.{Occurrence, declares, closes, used, names}
use Rattle.static_names.specs.Rules.{place_of}
use Rattle.static_declarations.specs.Things.{Thing, vars_things, params_things, routine_things, routines_things, member_things, members_things, decls_things, other_thing}
use Rattle.static_semantics.specs.Places.{count_at, StandApart}
use Rattle.wellformed_law.proofs.WellformedScopesCounts.{stands, stands-is, standing, loops, declares_at, declared, program_count}
use Rattle.static_declarations.specs.Parts.{parts}
use Rattle.table_law.proofs.Users.{count}

-- ---- equality of places goes both ways

numbers_turned : (a b : ℕ) → nat_eq a b ≡ nat_eq b a
numbers_turned a b = by (nat_eq a b) refl (nat_eq b a) refl
  where
    by : (x : Bool) → nat_eq a b ≡ x → (y : Bool) → nat_eq b a ≡ y → x ≡ y
    by true one true other = refl
    by false one false other = refl
    by true one false other = (let e = eqb-true a b one in let f = eq-eqb b a (sym e) in absurd cc)
    by false one true other = (let e = eqb-true b a other in let f = eq-eqb a b (sym e) in absurd cc)

places_turned : (p q : Place) → same_place p q ≡ same_place q p
places_turned p q = (let a = numbers_turned p.line q.line in let b = numbers_turned p.col q.col in λ i. a i && b i)

-- ---- more things, and no fewer at a place

vars_up : (q : Place) (owner : Option Place) (vs : List (Var Place)) (more : List (Place × Thing)) → standing q more ≤ standing q (vars_things owner vs more)
vars_up q owner [] more = omega arith
vars_up q owner (v ∷ vs) more = omega (arith, vars_up q owner vs more)

params_up : (q : Place) (owner : Option Place) (vs : List (Param Place)) (more : List (Place × Thing)) → standing q more ≤ standing q (params_things owner vs more)
params_up q owner [] more = omega arith
params_up q owner (v ∷ vs) more = omega (arith, params_up q owner vs more)

routine_up : (q : Place) (is_entry : Bool) (r : Routine Place) (more : List (Place × Thing)) → standing q more ≤ standing q (routine_things is_entry r more)
routine_up q is_entry r more = omega (arith, params_up q (Some r.place) r.params (vars_things (Some r.place) r.vars more), vars_up q (Some r.place) r.vars more)

routines_up : (q : Place) (is_entry : Bool) (rs : List (Routine Place)) (more : List (Place × Thing)) → standing q more ≤ standing q (routines_things is_entry rs more)
routines_up q is_entry [] more = omega arith
routines_up q is_entry (r ∷ rs) more = omega (arith, routine_up q is_entry r (routines_things is_entry rs more), routines_up q is_entry rs more)

members_up : (q : Place) (ms : List (Member Place)) (more : List (Place × Thing)) → standing q more ≤ standing q (members_things ms more)
members_up q [] more = omega arith
members_up q (variable_member v ∷ ms) more = omega (arith, members_up q ms more)
members_up q (condition_member name place ∷ ms) more = omega (arith, members_up q ms more)

one_stands : (q p : Place) → cond (same_place p q) 1 0 ≡ stands q p
one_stands q p = ap {B = ℕ} (λ b. cond b 1 0) (places_turned p q) ∙ sym (stands-is q p)

events_stand : (q : Place) (ds : List (Decl Place)) (more : List (Place × Thing)) → count q (events ds) ≤ standing q (decls_things ds more)
events_stand q [] more = omega arith
events_stand q (constant name p c ∷ ds) more = omega (arith, events_stand q ds more)
events_stand q (device name p is_out ∷ ds) more = omega (arith, events_stand q ds more)
events_stand q (event name p ∷ ds) more = omega (arith, events_stand q ds more, one_stands q p)
events_stand q (routine r ∷ ds) more = omega (arith, events_stand q ds more, routine_up q false r (decls_things ds more))
events_stand q (monitor m ∷ ds) more =
    omega (arith, events_stand q ds more, routines_up q true m.entries (decls_things ds more), members_up q m.members (routines_things true m.entries (decls_things ds more)))
events_stand q (process p ∷ ds) more =
    omega (arith, events_stand q ds more, routines_up q false p.routines (decls_things ds more), vars_up q None p.vars (routines_things false p.routines (decls_things ds more)))

-- ---- names

abbrev counted : Place → List Occurrence → ℕ
counted q [] = 0
counted q (o ∷ os) = cond (same_place (place_of o) q) 1 0 + counted q os

counted-is : (q : Place) (os : List Occurrence) → count_at q os ≡ counted q os
counted-is q [] = refl
counted-is q (o ∷ os) = sum_by-cons (λ x. cond (same_place (place_of x) q) 1 0) o os ∙ ap {B = ℕ} (λ n. cond (same_place (place_of o) q) 1 0 + n) (counted-is q os)

declared_few : (q : Place) (os : List Occurrence) → declared q os ≤ counted q os
declared_few q [] = omega arith
declared_few q (declares name p taken ∷ os) = omega (arith, declared_few q os, ap {B = ℕ} (λ b. cond b 1 0) (places_turned p q), stands-is q p)
declared_few q (closes name p opening ∷ os) = omega (arith, declared_few q os)
declared_few q (used name p want means ∷ os) = omega (arith, declared_few q os)

pub one_event : (g : Prog Place) → StandApart g → (q : Place) → count q (events g.decls) ≤ 1
one_event g apart q =
    omega (arith, events_stand q g.decls ((g.place, other_thing) ∷ []), program_count g q, declared_few q (names g), counted-is q (names g), apart q)
