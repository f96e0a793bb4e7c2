-- What the names of a table's program are declared as: variables of whole numbers, and procedures
-- without parameters.
use Rattle.std.proofs.Common.{◌≡◌, ◌⊎◌, inl, inr, Bool, true, false, List, [], ◌∷◌, Option, Some, None, refl, ap, sym, ◌∙◌, subst}
use Rattle.std.specs.Prelude.{if◌then◌else◌, option_map, unwrap_or}
use Rattle.syntax_tree.specs.Plain.{Name}
use Rattle.syntax_tree.specs.declared.place.Place.{Place}
use Rattle.syntax_tree.specs.Placed.{scalar, int, Kind, Var, Param, no_exprs, procedure, Routine, Monitor, Process, Decl, event, monitor, process, Prog}
use Rattle.syntax_tree.specs.Parts.{same_place}
use Rattle.static_names.specs.Occurrences.{names, declared_at}
use Rattle.static_declarations.specs.declared.sort.Sort.TheVariants as sort_is
use Rattle.static_declarations.specs.declared.sort.VarType.{VarType}
use Rattle.static_declarations.specs.declared.sort.VarType.TheVariants as shape_is
use Rattle.static_declarations.specs.Things.{Thing, constant_thing, device_thing, routine_thing, variable_thing, loop_thing, other_thing, shape_of, vars_things, params_things, members_things, routines_things, decls_things, learn, thing_at, named_at}
use Rattle.static_types.specs.Sorts.{Named, word_sort, is_array, asked, call_agrees}
use Rattle.static_types.specs.Conduct.{is_function, is_function_kind}
use Rattle.table_format.specs.declared.table.TaskTable.{TaskTable}
use Rattle.table_format.specs.Spending.{of_x}
use Rattle.table_law.proofs.Lists.{Every}
use Rattle.table_law.proofs.Shapes.{OneInt, IsEntryOf, IsSomeEntry, IsMonitorOf, IsProcessOf, IsDeclOf, an_event, a_monitor, a_process}

abbrev pub IsTame : Thing → Type 0
IsTame constant_thing = Unit {0}
IsTame (device_thing is_out) = Unit {0}
IsTame (routine_thing is_entry r) = (r.params ≡ []) × (r.kind ≡ procedure)
IsTame (variable_thing owner shape) = shape ≡ shape_is.One sort_is.Number
IsTame loop_thing = Unit {0}
IsTame other_thing = Unit {0}

abbrev AreTame : List (Place × Thing) → Type 0
AreTame ds = Every (λ d. IsTame d.1) ds

vars_tame : (owner : Option Place) (name : Name) (vs : List (Var Place)) → OneInt name vs → (more : List (Place × Thing)) → AreTame more → AreTame (vars_things owner vs more)
vars_tame owner name vs x more tame =
    let shape : shape_of x.one.kind ≡ shape_is.One sort_is.Number = ap (λ (k : Kind Place). shape_of k) x.whole in
    subst (λ us. AreTame (vars_things owner us more)) (sym x.is) (shape, tame)

entries_tame : (tail : Name) (rs : List (Routine Place)) → Every (IsSomeEntry tail) rs → (more : List (Place × Thing)) → AreTame more → AreTame (routines_things true rs more)
entries_tame tail [] are more tame = tame
entries_tame tail (r ∷ rs) are more tame =
    let is = are.0.is in
    let kind : r.kind ≡ procedure = ap (λ x. x.kind) is.like in
    let rest = vars_tame (Some r.place) (of_x tail) r.vars is.x (routines_things true rs more) (entries_tame tail rs are.1 more tame) in
    ((is.params, kind), subst (λ ps. AreTame (params_things (Some r.place) ps (vars_things (Some r.place) r.vars (routines_things true rs more)))) (sym is.params) rest)

pub decls_tame : (tail : Name) (t : TaskTable) (ds : List (Decl Place)) → Every (IsDeclOf tail t) ds → (more : List (Place × Thing)) → AreTame more → AreTame (decls_things ds more)
decls_tame tail t [] are more tame = tame
decls_tame tail t (d ∷ ds) are more tame = one d are.0 (decls_things ds more) (decls_tame tail t ds are.1 more tame)
  where
    one : (d : Decl Place) → IsDeclOf tail t d → (more : List (Place × Thing)) → AreTame more → AreTame (decls_things (d ∷ []) more)
    one d (an_event name place) more tame = (tt, tame)
    one d (a_monitor name m is) more tame =
        (tt, subst (λ ms. AreTame (members_things ms (routines_things true m.entries more))) (sym is.members) (entries_tame tail m.entries is.entries more tame))
    one d (a_process line p is) more tame = (
      tt,
      vars_tame None (of_x tail) p.vars is.x (routines_things false p.routines more)
          (subst (λ rs. AreTame (routines_things false rs more)) (sym is.routines) tame),
    )

-- ---- what a name is declared as

abbrev pub IsTameOption : Option Thing → Type 0
IsTameOption None = Unit {0}
IsTameOption (Some thing) = IsTame thing

chosen : (b : Bool) (thing : Thing) (o : Option Thing) → IsTame thing → IsTameOption o → IsTameOption (if b then Some thing else o)
chosen true thing o one other = one
chosen false thing o one other = other

learned : (known : Place → Option Thing) → ((p : Place) → IsTameOption (known p)) → (ds : List (Place × Thing)) → AreTame ds → (p : Place) → IsTameOption (learn known ds p)
learned known before [] are p = before p
learned known before (d ∷ ds) are p =
    learned (λ q. if same_place q d.0 then Some d.1 else known q) (λ q. chosen (same_place q d.0) d.1 (known q) are.0 (before q)) ds are.1 p

or_loop : (o : Option Thing) → IsTameOption o → IsTame (unwrap_or o loop_thing)
or_loop None tame = tt
or_loop (Some thing) tame = tame

mapped : (f : Place → Thing) → ((p : Place) → IsTame (f p)) → (o : Option Place) → IsTameOption (option_map f o)
mapped f all None = tt
mapped f all (Some p) = all p

pub named_tame : (tail : Name) (t : TaskTable) (g : Prog Place) → Every (IsDeclOf tail t) g.decls → (p : Place) → IsTameOption (named_at g p)
named_tame tail t g are p =
    let ds = decls_things g.decls ((g.place, other_thing) ∷ []) in
    let tame = decls_tame tail t g.decls are ((g.place, other_thing) ∷ []) (tt, tt) in
    mapped (thing_at g) (λ q. or_loop (learn (λ r. None) ds q) (learned (λ r. None) (λ r. tt) ds tame q)) (declared_at (names g) p)

-- ---- what the rules ask of it

pub no_array : (o : Option Thing) → IsTameOption o → is_array o ≡ false
no_array None tame = refl
no_array (Some constant_thing) tame = refl
no_array (Some (device_thing is_out)) tame = refl
no_array (Some (routine_thing is_entry r)) tame = refl
no_array (Some (variable_thing owner shape)) tame = ap (λ (s : VarType). is_array (Some (variable_thing owner s))) tame
no_array (Some loop_thing) tame = refl
no_array (Some other_thing) tame = refl

pub a_number : (o : Option Thing) → IsTameOption o → (word_sort o ≡ None) ⊎ (word_sort o ≡ Some sort_is.Number)
a_number None tame = inl refl
a_number (Some constant_thing) tame = inr refl
a_number (Some (device_thing is_out)) tame = inl refl
a_number (Some (routine_thing is_entry r)) tame = inl refl
a_number (Some (variable_thing owner shape)) tame = inr (ap (λ (s : VarType). word_sort (Some (variable_thing owner s))) tame)
a_number (Some loop_thing) tame = inr refl
a_number (Some other_thing) tame = inl refl

pub no_function : (o : Option Thing) → IsTameOption o → is_function o ≡ false
no_function None tame = refl
no_function (Some constant_thing) tame = refl
no_function (Some (device_thing is_out)) tame = refl
no_function (Some (routine_thing is_entry r)) tame = ap is_function_kind tame.1
no_function (Some (variable_thing owner shape)) tame = refl
no_function (Some loop_thing) tame = refl
no_function (Some other_thing) tame = refl

-- no arguments are as many as are asked for
pub no_asked : (named : Named) (o : Option Thing) → IsTameOption o → call_agrees named (asked o) no_exprs ≡ true
no_asked named None tame = refl
no_asked named (Some constant_thing) tame = refl
no_asked named (Some (device_thing is_out)) tame = refl
no_asked named (Some (routine_thing is_entry r)) tame = ap (λ (ps : List (Param Place)). call_agrees named (Some ps) no_exprs) tame.0
no_asked named (Some (variable_thing owner shape)) tame = refl
no_asked named (Some loop_thing) tame = refl
no_asked named (Some other_thing) tame = refl
