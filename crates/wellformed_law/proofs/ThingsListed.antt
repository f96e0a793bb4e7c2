-- What is declared stands among the things of the program, and so its place is known.
use Rattle.std.proofs.Common.{◌≡◌, inl, inr, Bool, true, false, List, [], ◌∷◌, Option, Some, None, refl, ap, sym, subst}
use Rattle.syntax_tree.specs.Placed.{Var, Param, Routine, Member, variable_member, condition_member, Monitor, Process, Decl, constant, device, event, routine, monitor, process, Prog}
use Rattle.syntax_tree.specs.declared.place.Place.{Place}
use Rattle.static_declarations.specs.declared.sort.VarType.TheVariants as shape_is
use Rattle.static_declarations.specs.Things.{Thing, routine_thing, variable_thing, sort_of, shape_of, vars_things, params_things, routine_things, routines_things, member_things, members_things, decl_things, decls_things, thing_at}
use Rattle.static_semantics.specs.Things.{ThingsKnown}
use Rattle.wellformed_law.proofs.Members.{In, in-contains, Ends, ends-same, ends-cons, ends-two, ends-in}

pub ends-vars_things : (owner : Option Place) (vs : List (Var Place)) (more : List (Place × Thing)) → Ends more (vars_things owner vs more)
ends-vars_things owner [] more = ends-same _
ends-vars_things owner (v ∷ vs) more = ends-cons _ (ends-vars_things owner vs more)

pub ends-params_things : (owner : Option Place) (vs : List (Param Place)) (more : List (Place × Thing)) → Ends more (params_things owner vs more)
ends-params_things owner [] more = ends-same _
ends-params_things owner (v ∷ vs) more = ends-cons _ (ends-params_things owner vs more)

ends-routine_things : (is_entry : Bool) (r : Routine Place) (more : List (Place × Thing)) → Ends more (routine_things is_entry r more)
ends-routine_things is_entry r more = ends-cons _ (ends-two (ends-vars_things (Some r.place) r.vars more) (ends-params_things (Some r.place) r.params _))

ends-routines_things : (is_entry : Bool) (rs : List (Routine Place)) (more : List (Place × Thing)) → Ends more (routines_things is_entry rs more)
ends-routines_things is_entry [] more = ends-same _
ends-routines_things is_entry (r ∷ rs) more = ends-two (ends-routines_things is_entry rs more) (ends-routine_things is_entry r _)

ends-member_things : (m : Member Place) (more : List (Place × Thing)) → Ends more (member_things m more)
ends-member_things (variable_member v) more = ends-cons _ (ends-same _)
ends-member_things (condition_member n p) more = ends-cons _ (ends-same _)

ends-members_things : (ms : List (Member Place)) (more : List (Place × Thing)) → Ends more (members_things ms more)
ends-members_things [] more = ends-same _
ends-members_things (m ∷ ms) more = ends-two (ends-members_things ms more) (ends-member_things m _)

ends-decl_things : (d : Decl Place) (more : List (Place × Thing)) → Ends more (decl_things d more)
ends-decl_things (constant n p c) more = ends-cons _ (ends-same _)
ends-decl_things (device n p o) more = ends-cons _ (ends-same _)
ends-decl_things (event n p) more = ends-cons _ (ends-same _)
ends-decl_things (routine r) more = ends-routine_things false r more
ends-decl_things (monitor m) more = ends-cons _ (ends-two (ends-routines_things true m.entries more) (ends-members_things m.members _))
ends-decl_things (process p) more = ends-cons _ (ends-two (ends-routines_things false p.routines more) (ends-vars_things None p.vars _))

-- ---- each part is listed

vars-in : (owner : Option Place) (vs : List (Var Place)) (v : Var Place) (more : List (Place × Thing)) → In vs v → In (vars_things owner vs more) (v.place, variable_thing owner (shape_of v.kind))
vars-in owner [] v more i = absurd i
vars-in owner (w ∷ vs) v more (inl e) = inl (ap (λ z. (z.place, variable_thing owner (shape_of z.kind))) e)
vars-in owner (w ∷ vs) v more (inr i) = inr (vars-in owner vs v more i)

params-in : (owner : Option Place) (vs : List (Param Place)) (v : Param Place) (more : List (Place × Thing)) → In vs v → In (params_things owner vs more) (v.place, variable_thing owner (shape_is.One (sort_of v.kind)))
params-in owner [] v more i = absurd i
params-in owner (w ∷ vs) v more (inl e) = inl (ap (λ z. (z.place, variable_thing owner (shape_is.One (sort_of z.kind)))) e)
params-in owner (w ∷ vs) v more (inr i) = inr (params-in owner vs v more i)

abbrev pub Always : (List (Place × Thing) → List (Place × Thing)) → Place × Thing → Type 0
Always f t = (more : List (Place × Thing)) → In (f more) t

pub routine-always : (is_entry : Bool) (r : Routine Place) → Always (routine_things is_entry r) (r.place, routine_thing is_entry r)
routine-always is_entry r more = inl refl

pub param-always : (is_entry : Bool) (r : Routine Place) (v : Param Place) → In r.params v → Always (routine_things is_entry r) (v.place, variable_thing (Some r.place) (shape_is.One (sort_of v.kind)))
param-always is_entry r v i more = inr (params-in (Some r.place) r.params v _ i)

pub own-always : (is_entry : Bool) (r : Routine Place) (v : Var Place) → In r.vars v → Always (routine_things is_entry r) (v.place, variable_thing (Some r.place) (shape_of v.kind))
own-always is_entry r v i more = inr (ends-in _ _ _ (ends-params_things (Some r.place) r.params _) (vars-in (Some r.place) r.vars v more i))

routines-in : (is_entry : Bool) (rs : List (Routine Place)) (r : Routine Place) (t : Place × Thing) (more : List (Place × Thing)) → In rs r → Always (routine_things is_entry r) t → In (routines_things is_entry rs more) t
routines-in is_entry [] r t more i always = absurd i
routines-in is_entry (q ∷ rs) r t more (inl e) always = subst (λ z. In (routine_things is_entry z (routines_things is_entry rs more)) t) (sym e) (always _)
routines-in is_entry (q ∷ rs) r t more (inr i) always = ends-in _ _ _ (ends-routine_things is_entry q _) (routines-in is_entry rs r t more i always)

members-in : (ms : List (Member Place)) (v : Var Place) (more : List (Place × Thing)) → In ms (variable_member v) → In (members_things ms more) (v.place, variable_thing None (shape_of v.kind))
members-in [] v more i = absurd i
members-in (m ∷ ms) v more (inl e) = subst (λ z. In (member_things z (members_things ms more)) (v.place, variable_thing None (shape_of v.kind))) (sym e) (inl refl)
members-in (m ∷ ms) v more (inr i) = ends-in _ _ _ (ends-member_things m _) (members-in ms v more i)

pub process_var-always : (p : Process Place) (v : Var Place) → In p.vars v → Always (decl_things (process p)) (v.place, variable_thing None (shape_of v.kind))
process_var-always p v i more = inr (vars-in None p.vars v _ i)

pub process_routine-always : (p : Process Place) (r : Routine Place) (t : Place × Thing) → In p.routines r → Always (routine_things false r) t → Always (decl_things (process p)) t
process_routine-always p r t i always more = inr (ends-in _ _ _ (ends-vars_things None p.vars _) (routines-in false p.routines r t more i always))

pub member-always : (m : Monitor Place) (v : Var Place) → In m.members (variable_member v) → Always (decl_things (monitor m)) (v.place, variable_thing None (shape_of v.kind))
member-always m v i more = inr (members-in m.members v _ i)

pub entry-always : (m : Monitor Place) (r : Routine Place) (t : Place × Thing) → In m.entries r → Always (routine_things true r) t → Always (decl_things (monitor m)) t
entry-always m r t i always more = inr (ends-in _ _ _ (ends-members_things m.members _) (routines-in true m.entries r t more i always))

decls-in : (ds : List (Decl Place)) (d : Decl Place) (t : Place × Thing) (more : List (Place × Thing)) → In ds d → Always (decl_things d) t → In (decls_things ds more) t
decls-in [] d t more i always = absurd i
decls-in (c ∷ ds) d t more (inl e) always = subst (λ z. In (decl_things z (decls_things ds more)) t) (sym e) (always _)
decls-in (c ∷ ds) d t more (inr i) always = ends-in _ _ _ (ends-decl_things c _) (decls-in ds d t more i always)

-- what a declaration declares is known by its place
pub thing-known : (g : Prog Place) → ThingsKnown g → (d : Decl Place) (place : Place) (thing : Thing) → In g.decls d → Always (decl_things d) (place, thing) → thing_at g place ≡ thing
thing-known g known d place thing i always = known.declared place thing (in-contains _ _ (decls-in g.decls d (place, thing) _ i always))
