-- What names are declared as in a tree and in the tree with other places.
use Rattle.std.proofs.Common.{◌≡◌, Bool, true, false, List, [], ◌∷◌, map, Option, Some, None, refl, sym, ◌∙◌, ap}
use Rattle.std.specs.Prelude.{if◌then◌else◌, option_map, unwrap_or}
use Rattle.syntax_tree.specs.Placed.{Scalar, int, boolean, subrange, Kind, scalar, array, Var, Param, Routine, Member, variable_member, condition_member, Decl, constant, device, event, routine, monitor, process, Prog}
use Rattle.syntax_tree.specs.declared.place.Place.{Place}
use Rattle.syntax_tree.specs.Parts.{same_place}
use Rattle.static_names.specs.Occurrences.{names, declared_at}
use Rattle.static_declarations.specs.declared.sort.VarType.TheVariants as shape_is
use Rattle.static_declarations.specs.Things as things
use Rattle.static_declarations.specs.Things.{Thing, constant_thing, device_thing, routine_thing, variable_thing, loop_thing, other_thing, sort_of, shape_of, learn, thing_at, named_at}
use Rattle.printed_law.specs.Moved.{moved_scalar, moved_kind, moved_var, moved_param, moved_routine, moved_member, moved_decl, moved}
use Rattle.printed_law.specs.Alike.{AreAlike}
use Rattle.printed_law.proofs.Both.{Both, here, both-same, Likewise, Pairwise, chosen}
use Rattle.printed_law.proofs.NameRules.{found-like}

abbrev pub LikeThing : {X : Type 0} → (a b : X → Place) → Thing → Thing → Type 0
LikeThing a b constant_thing constant_thing = Unit {0}
LikeThing a b (device_thing is_out) (device_thing other) = is_out ≡ other
LikeThing a b (routine_thing is_entry r) (routine_thing other s) = (is_entry ≡ other) × Both (moved_routine a) (moved_routine b) r s
LikeThing a b (variable_thing owner shape) (variable_thing other form) = Likewise (Both a b) owner other × (shape ≡ form)
LikeThing a b loop_thing loop_thing = Unit {0}
LikeThing a b other_thing other_thing = Unit {0}
LikeThing a b x y = ⊥

pub record LikePlaced {X : Type 0} (a b : X → Place) (d e : Place × Thing) : Type 0 where
  pub place : Both a b d.0 e.0
  pub thing : LikeThing a b d.1 e.1

record Ts {X : Type 0} (a b : X → Place) (xs ys : List (Place × Thing)) : Type 0 where
  are : Pairwise (LikePlaced a b) xs ys

pub sorts : {P Q : Type 0} (f : P → Q) (s : Scalar P) → sort_of (moved_scalar f s) ≡ sort_of s
sorts f int = refl
sorts f boolean = refl
sorts f (subrange low high) = refl

shapes : {P Q : Type 0} (f : P → Q) (k : Kind P) → shape_of (moved_kind f k) ≡ shape_of k
shapes f (scalar s) = λ i. shape_is.One (sorts f s i)
shapes f (array low high s) = λ i. shape_is.Many (sorts f s i)

module _ {X : Type 0} (a b : X → Place) where
  vars-like : (owner other : Option Place) → Likewise (Both a b) owner other → (vs : List (Var X)) {xs ys : List (Place × Thing)} → Ts a b xs ys
      → Ts a b (things.vars_things owner (map (moved_var a) vs) xs) (things.vars_things other (map (moved_var b) vs) ys)
  vars-like owner other own [] rest = rest
  vars-like owner other own (v ∷ vs) rest = record {
    are = (record { place = here a b v.place; thing = (own, shapes a v.kind ∙ sym (shapes b v.kind)) }, (vars-like owner other own vs rest).are);
  }

  params-like : (owner other : Option Place) → Likewise (Both a b) owner other → (vs : List (Param X)) {xs ys : List (Place × Thing)} → Ts a b xs ys
      → Ts a b (things.params_things owner (map (moved_param a) vs) xs) (things.params_things other (map (moved_param b) vs) ys)
  params-like owner other own [] rest = rest
  params-like owner other own (v ∷ vs) rest = record {
    are = (record { place = here a b v.place; thing = (own, ap shape_is.One (sorts a v.kind ∙ sym (sorts b v.kind))) }, (params-like owner other own vs rest).are);
  }

  routine-like : (is_entry : Bool) (r : Routine X) {xs ys : List (Place × Thing)} → Ts a b xs ys → Ts a b (things.routine_things is_entry (moved_routine a r) xs) (things.routine_things is_entry (moved_routine b r) ys)
  routine-like is_entry r rest =
      let own = here a b r.place in
      record {
        are = (
          record { place = own; thing = (refl, here (moved_routine a) (moved_routine b) r) },
          (params-like (Some (a r.place)) (Some (b r.place)) own r.params (vars-like (Some (a r.place)) (Some (b r.place)) own r.vars rest)).are,
        );
      }

  routines-like : (is_entry : Bool) (rs : List (Routine X)) {xs ys : List (Place × Thing)} → Ts a b xs ys
      → Ts a b (things.routines_things is_entry (map (moved_routine a) rs) xs) (things.routines_things is_entry (map (moved_routine b) rs) ys)
  routines-like is_entry [] rest = rest
  routines-like is_entry (r ∷ rs) rest = routine-like is_entry r (routines-like is_entry rs rest)

  other-like : (x : X) {xs ys : List (Place × Thing)} → Ts a b xs ys → Ts a b ((a x, other_thing) ∷ xs) ((b x, other_thing) ∷ ys)
  other-like x rest = record { are = (record { place = here a b x; thing = tt }, rest.are) }

  members-like : (ms : List (Member X)) {xs ys : List (Place × Thing)} → Ts a b xs ys → Ts a b (things.members_things (map (moved_member a) ms) xs) (things.members_things (map (moved_member b) ms) ys)
  members-like [] rest = rest
  members-like (variable_member v ∷ ms) rest = record { are = (record { place = here a b v.place; thing = (tt, shapes a v.kind ∙ sym (shapes b v.kind)) }, (members-like ms rest).are) }
  members-like (condition_member name p ∷ ms) rest = other-like p (members-like ms rest)

  decls-like : (ds : List (Decl X)) {xs ys : List (Place × Thing)} → Ts a b xs ys → Ts a b (things.decls_things (map (moved_decl a) ds) xs) (things.decls_things (map (moved_decl b) ds) ys)
  decls-like [] rest = rest
  decls-like (constant name p c ∷ ds) rest = record { are = (record { place = here a b p; thing = tt }, (decls-like ds rest).are) }
  decls-like (device name p is_out ∷ ds) rest = record { are = (record { place = here a b p; thing = refl }, (decls-like ds rest).are) }
  decls-like (event name p ∷ ds) rest = other-like p (decls-like ds rest)
  decls-like (routine r ∷ ds) rest = routine-like false r (decls-like ds rest)
  decls-like (monitor m ∷ ds) rest = other-like m.place (members-like m.members (routines-like true m.entries (decls-like ds rest)))
  decls-like (process p ∷ ds) rest = other-like p.place (vars-like None None tt p.vars (routines-like false p.routines (decls-like ds rest)))

  module _ (alike : AreAlike a b) where
    learn-like : (known other : Place → Option Thing) → ((p q : Place) → Both a b p q → Likewise (LikeThing a b) (known p) (other q)) → (xs ys : List (Place × Thing)) → Pairwise (LikePlaced a b) xs ys
        → (p q : Place) → Both a b p q → Likewise (LikeThing a b) (learn known xs p) (learn other ys q)
    learn-like known other are [] [] like p q places = are p q places
    learn-like known other are [] (y ∷ ys) like p q places = absurd like
    learn-like known other are (x ∷ xs) [] like p q places = absurd like
    learn-like known other are (x ∷ xs) (y ∷ ys) like p q places =
        learn-like (λ r. if same_place r x.0 then Some x.1 else known r) (λ r. if same_place r y.0 then Some y.1 else other r)
        (λ r s both. chosen (Likewise (LikeThing a b)) (same_place r x.0) (same_place s y.0) (both-same a b alike r s x.0 y.0 both like.0.place) (Some x.1) (known r) (Some y.1) (other s) like.0.thing (are r s both))
        xs ys like.1 p q places

    known-like : (x y : Option Thing) → Likewise (LikeThing a b) x y → LikeThing a b (unwrap_or x loop_thing) (unwrap_or y loop_thing)
    known-like None None like = tt
    known-like (Some x) (Some y) like = like
    known-like None (Some y) like = absurd like
    known-like (Some x) None like = absurd like

    thing-like : (t : Prog X) (p q : Place) → Both a b p q → LikeThing a b (thing_at (moved a t) p) (thing_at (moved b t) q)
    thing-like t p q places =
        let one = things.decls_things (map (moved_decl a) t.decls) ((a t.place, other_thing) ∷ []) in
        let two = things.decls_things (map (moved_decl b) t.decls) ((b t.place, other_thing) ∷ []) in
        let are = decls-like t.decls (other-like t.place (record { are = tt })) in
        known-like (learn (λ p. None) one p) (learn (λ p. None) two q) (learn-like (λ p. None) (λ p. None) (λ p q both. tt) one two are.are p q places)

    named-of : (t : Prog X) (x y : Option Place) → Likewise (Both a b) x y → Likewise (LikeThing a b) (option_map (thing_at (moved a t)) x) (option_map (thing_at (moved b t)) y)
    named-of t None None like = tt
    named-of t (Some p) (Some q) like = thing-like t p q like
    named-of t None (Some q) like = absurd like
    named-of t (Some p) None like = absurd like

    pub named-like : (t : Prog X) (p q : Place) → Both a b p q → Likewise (LikeThing a b) (named_at (moved a t) p) (named_at (moved b t) q)
    named-like t p q places = named-of t (declared_at (names (moved a t)) p) (declared_at (names (moved b t)) q) (found-like a b alike t p q places)
