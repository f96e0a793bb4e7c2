-- What a name means, by the rules and in the code.
use Rattle.std.specs.Prelude.{◌≡◌, ◌+◌, ◌||◌, ℕ, suc, Bool, true, false, not, cond, List, [], ◌∷◌, ◌++◌, Option, Some, None, ℤ, slice_get, map, bytes_eq}
use Rattle.std.proofs.Common.{refl, sym, ◌∙◌, ap, subst}
use Rattle.std.proofs.lemmas.Option.{none-some}
use Rattle.std.proofs.lemmas.Bool.{false≢true}
use Rattle.syntax_tree.specs.Plain.{Name, Param, Scalar, int, boolean, subrange, Kind, scalar, array as array_of, Var, Routine, Monitor, Program}
use Rattle.source_semantics.specs.Names.{monitors, processes}
use Rattle.source_semantics.specs.Store.{range_of, kind_range}
use Rattle.source_semantics.specs.Run.{or_else}
use Rattle.code_spec.specs.Layout.{Owner, by_program, by_process, by_monitor, home_of, Shape, single, array, size_of, shape_of, Place, Area, in_frame, in_process, in_monitor, Spot, Scope, in_area, place_named, spot_of, outer_spot, places_from, param_places, monitor_base, vars_of_process, vars_of_monitor, routine_places, count}
use Rattle.code_spec.specs.Code.{constant_named, range_of_spot}
use Rattle.code_spec.specs.Memory.{Setting}
use Rattle.code_spec.specs.Proper.{IsValue, IsArray, IsSingle, IsFree}
use Rattle.static_declarations.specs.declared.sort.Sort.{Sort}
use Rattle.static_declarations.specs.declared.sort.Sort.TheVariants as sort_is
use Rattle.static_semantics.specs.Here.{Here, Meant, turn, own_variable, outer_variable, value, nothing, is_among, meant_constant, meant_outer, meant_own, var_named, meant, outer_vars, kind_sort, kind_element, word_sort, element_sort, is_assignable, scalar_sort, param_var, own_of, monitor_vars}

-- where a text stands, by the rules
abbrev pub here_of : Setting → Scope → List Name → List Var → Here
here_of e c turns vars = record { program = e.program; process = e.text; home = home_of c.owner; is_function = c.is_function; turns = turns; own = vars }

-- ---- variables and their places

abbrev pub VarAt : Program → Var → Place → Type 0
VarAt g v p = (p.name ≡ v.name) × (p.shape ≡ shape_of g v.kind) × (p.fixed ≡ false) × (p.range ≡ kind_range g v.kind)

abbrev pub VarsAt : Program → List Var → List Place → Type 0
VarsAt g [] [] = Unit {0}
VarsAt g (v ∷ vs) (p ∷ ps) = VarAt g v p × VarsAt g vs ps
VarsAt g vs ps = ⊥

-- the variables of the loops around, and then those of the routine
abbrev pub OwnAt : Program → List Name → List Var → List Place → Type 0
OwnAt g [] vars ps = VarsAt g vars ps
OwnAt g (x ∷ xs) vars [] = ⊥
OwnAt g (x ∷ xs) vars (p ∷ ps) = (p.name ≡ x) × (p.shape ≡ single) × (p.fixed ≡ true) × OwnAt g xs vars ps

pub vars_at : (g : Program) (w : ℕ) (vs : List Var) → VarsAt g vs (places_from g w vs)
vars_at g w [] = tt
vars_at g w (v ∷ vs) = ((refl, refl, refl, refl), vars_at g (w + size_of (shape_of g v.kind)) vs)

params_at : (g : Program) (w : ℕ) (ps : List Param) → VarsAt g (map param_var ps) (param_places g w ps)
params_at g w [] = tt
params_at g w (p ∷ ps) = ((refl, refl, refl, refl), params_at g (suc w) ps)

both_at : (g : Program) (vs us : List Var) (ps qs : List Place) → VarsAt g vs ps → VarsAt g us qs → VarsAt g (vs ++ us) (ps ++ qs)
both_at g [] us [] qs h k = k
both_at g (v ∷ vs) us (p ∷ ps) qs h k = (h.0, both_at g vs us ps qs h.1 k)
both_at g [] us (p ∷ ps) qs h k = absurd h
both_at g (v ∷ vs) us [] qs h k = absurd h

pub routine_at : (g : Program) (r : Routine) → VarsAt g (own_of r) (routine_places g r)
routine_at g r = both_at g (map param_var r.params) r.vars (param_places g 0 r.params) (places_from g (count r.params) r.vars) (params_at g 0 r.params) (vars_at g (count r.params) r.vars)

abbrev pub Paired : Program → Option Var → Option Place → Type 0
Paired g None None = Unit {0}
Paired g (Some v) (Some p) = VarAt g v p
Paired g v p = ⊥

pub paired : (g : Program) (x : Name) (vs : List Var) (ps : List Place) → VarsAt g vs ps → Paired g (var_named x vs) (place_named x ps)
paired g x [] [] h = tt
paired g x [] (p ∷ ps) h = absurd h
paired g x (v ∷ vs) [] h = absurd h
paired g x (v ∷ vs) (p ∷ ps) h =
    subst (λ n. Paired g (cond (bytes_eq v.name x) (Some v) (var_named x vs)) (cond (bytes_eq n x) (Some p) (place_named x ps))) (sym h.0.0) (by_case (bytes_eq v.name x) (paired g x vs ps h.1))
  where
    by_case : (b : Bool) → Paired g (var_named x vs) (place_named x ps) → Paired g (cond b (Some v) (var_named x vs)) (cond b (Some p) (place_named x ps))
    by_case true k = h.0
    by_case false k = k

-- ---- what is meant

-- the spot of what is meant, and the constant
abbrev pub SpotOf : Program → Meant → Option Spot → Option (Name × ℤ) → Type 0
SpotOf g turn s k = (sp : Spot) × (s ≡ Some sp) × (sp.place.shape ≡ single) × (sp.place.fixed ≡ true)
SpotOf g (own_variable kind) s k = (sp : Spot) × (s ≡ Some sp) × (sp.place.shape ≡ shape_of g kind) × (sp.place.fixed ≡ false) × (sp.place.range ≡ kind_range g kind) × (sp.area ≡ in_frame)
SpotOf g (outer_variable kind) s k = (sp : Spot) × (s ≡ Some sp) × (sp.place.shape ≡ shape_of g kind) × (sp.place.fixed ≡ false) × (sp.place.range ≡ kind_range g kind)
SpotOf g value s k = (s ≡ None) × ((x : Name × ℤ) × (k ≡ Some x))
SpotOf g nothing s k = Unit {0}

abbrev pub OwnerKnown : Setting → Owner → Type 0
OwnerKnown e by_program = Unit {0}
OwnerKnown e (by_process k) = k ≡ e.number
OwnerKnown e (by_monitor m) = Unit {0}

constant_meant : (g : Program) (k : Option (Name × ℤ)) → SpotOf g (meant_constant k) None k
constant_meant g None = tt
constant_meant g (Some x) = (refl, (x, refl))

area_meant : (g : Program) (a : Area) (v : Option Var) (p : Option Place) (k : Option (Name × ℤ)) → Paired g v p → SpotOf g (meant_outer v (meant_constant k)) (in_area a p) k
area_meant g a None None k h = constant_meant g k
area_meant g a (Some v) (Some p) k h = (record { area = a; place = p }, refl, h.1, h.2, h.3)
area_meant g a None (Some p) k h = absurd h
area_meant g a (Some v) None k h = absurd h

outer_meant : (e : Setting) (r : Owner) (x : Name) (k : Option (Name × ℤ)) → slice_get (processes e.program) e.number ≡ Some e.text → OwnerKnown e r
    → SpotOf e.program (meant_outer (var_named x (outer_vars e.program e.text (home_of r))) (meant_constant k)) (outer_spot e.program r x) k
outer_meant e by_program x k at known = constant_meant e.program k
outer_meant e (by_process j) x k at known =
    subst (λ p. SpotOf e.program (meant_outer (var_named x e.text.vars) (meant_constant k)) (in_area in_process (place_named x (places_from e.program 0 (vars_of_process p)))) k) (sym (ap (λ n. slice_get (processes e.program) n) known ∙ at))
    (area_meant e.program in_process (var_named x e.text.vars) (place_named x (places_from e.program 0 e.text.vars)) k (paired e.program x e.text.vars (places_from e.program 0 e.text.vars) (vars_at e.program 0 e.text.vars)))
outer_meant e (by_monitor m) x k at known = by_found (slice_get (monitors e.program) m)
  where
    by_found : (d : Option Monitor) → SpotOf e.program (meant_outer (var_named x (monitor_vars d)) (meant_constant k)) (in_area in_monitor (place_named x (places_from e.program (monitor_base e.program m) (vars_of_monitor d)))) k
    by_found None = constant_meant e.program k
    by_found (Some d) = area_meant e.program in_monitor (var_named x (monitor_vars (Some d))) (place_named x (places_from e.program (monitor_base e.program m) (vars_of_monitor (Some d)))) k
        (paired e.program x (monitor_vars (Some d)) (places_from e.program (monitor_base e.program m) (vars_of_monitor (Some d))) (vars_at e.program (monitor_base e.program m) (monitor_vars (Some d))))

own_meant : (g : Program) (v : Option Var) (p : Option Place) (m : Meant) (s : Option Spot) (k : Option (Name × ℤ)) → Paired g v p → SpotOf g m s k → SpotOf g (meant_own v m) (or_else (in_area in_frame p) s) k
own_meant g None None m s k h l = l
own_meant g (Some v) (Some p) m s k h l = (record { area = in_frame; place = p }, refl, h.1, h.2, h.3, refl)
own_meant g None (Some p) m s k h l = absurd h
own_meant g (Some v) None m s k h l = absurd h

turns_meant : (g : Program) (x : Name) (turns : List Name) (vars : List Var) (ps : List Place) (m : Meant) (s : Option Spot) (k : Option (Name × ℤ)) → OwnAt g turns vars ps → SpotOf g m s k
    → SpotOf g (cond (is_among x turns) turn (meant_own (var_named x vars) m)) (or_else (in_area in_frame (place_named x ps)) s) k
turns_meant g x [] vars ps m s k own h = own_meant g (var_named x vars) (place_named x ps) m s k (paired g x vars ps own) h
turns_meant g x (y ∷ ys) vars [] m s k own h = absurd own
turns_meant g x (y ∷ ys) vars (p ∷ ps) m s k own h =
    subst (λ n. SpotOf g (cond (bytes_eq y x || is_among x ys) turn (meant_own (var_named x vars) m)) (or_else (in_area in_frame (cond (bytes_eq n x) (Some p) (place_named x ps))) s) k) (sym own.0)
    (by_case (bytes_eq y x) (turns_meant g x ys vars ps m s k own.3 h))
  where
    by_case : (b : Bool) → SpotOf g (cond (is_among x ys) turn (meant_own (var_named x vars) m)) (or_else (in_area in_frame (place_named x ps)) s) k
        → SpotOf g (cond (b || is_among x ys) turn (meant_own (var_named x vars) m)) (or_else (in_area in_frame (cond b (Some p) (place_named x ps))) s) k
    by_case true l = (record { area = in_frame; place = p }, refl, own.1, own.2)
    by_case false l = l

pub spot_meant : (e : Setting) (c : Scope) (turns : List Name) (vars : List Var) (x : Name) → slice_get (processes e.program) e.number ≡ Some e.text → OwnerKnown e c.owner → OwnAt e.program turns vars c.own
    → SpotOf e.program (meant (here_of e c turns vars) x) (spot_of e.program c x) (constant_named e.program x)
spot_meant e c turns vars x at known own =
    turns_meant e.program x turns vars c.own (meant_outer (var_named x (outer_vars e.program e.text (home_of c.owner))) (meant_constant (constant_named e.program x))) (outer_spot e.program c.owner x) (constant_named e.program x) own
    (outer_meant e c.owner x (constant_named e.program x) at known)

-- ---- what the rules say of it

one_word : (g : Program) (k : Kind) (s : Sort) → kind_sort k ≡ Some s → shape_of g k ≡ single
one_word g (scalar t) s h = refl
one_word g (array_of low high t) s h = absurd (none-some s h)

pub value_meant : (g : Program) (m : Meant) (sp : Option Spot) (k : Option (Name × ℤ)) (s : Sort) → SpotOf g m sp k → word_sort m ≡ Some s → IsValue sp k
value_meant g turn sp k s h w = subst (λ t. IsValue t k) (sym h.1) h.2
value_meant g (own_variable kind) sp k s h w = subst (λ t. IsValue t k) (sym h.1) (h.2 ∙ one_word g kind s w)
value_meant g (outer_variable kind) sp k s h w = subst (λ t. IsValue t k) (sym h.1) (h.2 ∙ one_word g kind s w)
value_meant g value sp k s h w = subst (λ t. IsValue t k) (sym h.0) (subst (λ t. IsValue None t) (sym h.1.1) tt)
value_meant g nothing sp k s h w = absurd (none-some s w)

an_array : (g : Program) (k : Kind) (s : Sort) (shape : Shape) → shape ≡ shape_of g k → kind_element k ≡ Some s → (low : ℤ) × (len : ℕ) × (shape ≡ array low len)
an_array g (scalar t) s shape e h = absurd (none-some s h)
an_array g (array_of low high t) s shape e h = (_, _, e)

pub array_meant : (g : Program) (m : Meant) (sp : Option Spot) (k : Option (Name × ℤ)) (s : Sort) → SpotOf g m sp k → element_sort m ≡ Some s → IsArray sp
array_meant g turn sp k s h w = absurd (none-some s w)
array_meant g (own_variable kind) sp k s h w = subst (λ t. IsArray t) (sym h.1) (an_array g kind s h.0.place.shape h.2 w)
array_meant g (outer_variable kind) sp k s h w = subst (λ t. IsArray t) (sym h.1) (an_array g kind s h.0.place.shape h.2 w)
array_meant g value sp k s h w = absurd (none-some s w)
array_meant g nothing sp k s h w = absurd (none-some s w)

function_no : (b : Bool) (a : Area) → not b ≡ true → b ≡ true → a ≡ in_frame
function_no true a h t = absurd (false≢true h)
function_no false a h t = absurd (false≢true t)

pub free_meant : (g : Program) (m : Meant) (sp : Option Spot) (k : Option (Name × ℤ)) (b : Bool) → SpotOf g m sp k → is_assignable b m ≡ true → IsFree b sp
free_meant g turn sp k b h a = absurd (false≢true a)
free_meant g (own_variable kind) sp k b h a = subst (λ t. IsFree b t) (sym h.1) (h.3, λ t. h.5)
free_meant g (outer_variable kind) sp k b h a = subst (λ t. IsFree b t) (sym h.1) (h.3, λ t. function_no b h.0.area a t)
free_meant g value sp k b h a = absurd (false≢true a)
free_meant g nothing sp k b h a = absurd (false≢true a)

pub single_meant : (g : Program) (m : Meant) (sp : Option Spot) (k : Option (Name × ℤ)) (b : Bool) (s : Sort) → SpotOf g m sp k → is_assignable b m ≡ true → word_sort m ≡ Some s → IsSingle sp
single_meant g turn sp k b s h a w = absurd (false≢true a)
single_meant g (own_variable kind) sp k b s h a w = subst (λ t. IsSingle t) (sym h.1) (h.2 ∙ one_word g kind s w)
single_meant g (outer_variable kind) sp k b s h a w = subst (λ t. IsSingle t) (sym h.1) (h.2 ∙ one_word g kind s w)
single_meant g value sp k b s h a w = absurd (false≢true a)
single_meant g nothing sp k b s h a w = absurd (false≢true a)

-- what holds truths has no range

truth_range : (g : Program) (t : Scalar) → Some (scalar_sort t) ≡ Some sort_is.Truth → range_of g t ≡ None
truth_range g boolean h = refl
truth_range g int h = absurd cc
truth_range g (subrange low high) h = absurd cc

one_truth : (g : Program) (k : Kind) → kind_sort k ≡ Some sort_is.Truth → kind_range g k ≡ None
one_truth g (scalar t) h = truth_range g t h
one_truth g (array_of low high t) h = absurd (none-some sort_is.Truth h)

element_truth : (g : Program) (k : Kind) → kind_element k ≡ Some sort_is.Truth → kind_range g k ≡ None
element_truth g (scalar t) h = absurd (none-some sort_is.Truth h)
element_truth g (array_of low high t) h = truth_range g t h

pub unranged_word : (g : Program) (m : Meant) (sp : Option Spot) (k : Option (Name × ℤ)) (b : Bool) → SpotOf g m sp k → is_assignable b m ≡ true → word_sort m ≡ Some sort_is.Truth → range_of_spot sp ≡ None
unranged_word g turn sp k b h a w = absurd (false≢true a)
unranged_word g (own_variable kind) sp k b h a w = ap (λ t. range_of_spot t) h.1 ∙ (h.4 ∙ one_truth g kind w)
unranged_word g (outer_variable kind) sp k b h a w = ap (λ t. range_of_spot t) h.1 ∙ (h.4 ∙ one_truth g kind w)
unranged_word g value sp k b h a w = absurd (false≢true a)
unranged_word g nothing sp k b h a w = absurd (false≢true a)

pub unranged_element : (g : Program) (m : Meant) (sp : Option Spot) (k : Option (Name × ℤ)) (b : Bool) → SpotOf g m sp k → is_assignable b m ≡ true → element_sort m ≡ Some sort_is.Truth → range_of_spot sp ≡ None
unranged_element g turn sp k b h a w = absurd (false≢true a)
unranged_element g (own_variable kind) sp k b h a w = ap (λ t. range_of_spot t) h.1 ∙ (h.4 ∙ element_truth g kind w)
unranged_element g (outer_variable kind) sp k b h a w = ap (λ t. range_of_spot t) h.1 ∙ (h.4 ∙ element_truth g kind w)
unranged_element g value sp k b h a w = absurd (false≢true a)
unranged_element g nothing sp k b h a w = absurd (false≢true a)
