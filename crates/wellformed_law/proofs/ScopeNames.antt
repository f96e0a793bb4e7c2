-- A name of the scope of a process, of a monitor or of a routine stands in a text for what the meaning looks up; a name from
-- around the scope stands for what it stood for.
use Rattle.std.proofs.Common.{◌≡◌, inl, inr, Bool, true, false, cond, List, [], ◌∷◌, ◌++◌, map, Option, Some, None, refl, ap, sym, subst, ◌∙◌}
use Rattle.std.specs.Prelude.{option_map, filter_map, slice_get, bytes_eq}
use Rattle.std.proofs.lemmas.List.Elements.{All-contains}
use Rattle.std.proofs.lemmas.Option.{same_Some, none-some}
use Rattle.syntax_tree.specs.Plain.{Name}
use Rattle.syntax_tree.specs.Plain as plain_of
use Rattle.syntax_tree.specs.Placed.{Var, Param, scalar, Routine, Member, variable_member, condition_member, Monitor, Process, Decl, constant, device, event, routine, monitor, process, Prog, plain, plain_var, plain_param, plain_member, plain_routine, plain_monitor, plain_process, plain_decl}
use Rattle.syntax_tree.specs.declared.place.Place.{Place}
use Rattle.static_names.specs.declared.kind.Declared.{Declared}
use Rattle.static_names.specs.Reach.{Site, first, or_else, inside}
use Rattle.static_names.specs.Occurrences.{var_name, param_name, routine_name, entry_name, member_name, routine_scope, process_scope, monitor_scope}
use Rattle.source_semantics.specs.Names.{named, monitors, monitor_in, variable_in, condition_in}
use Rattle.source_semantics.specs.Run.{Home, of_process, of_monitor}
use Rattle.static_declarations.specs.Things.{Thing, routine_things, decl_things, variable_thing, routine_thing, shape_of}
use Rattle.static_semantics.specs.Here.{Meant, own_variable, outer_variable, meant_own, meant_outer, var_named, outer_vars, monitor_vars, monitor_conditions, param_var, own_of}
use Rattle.static_semantics.specs.Written.{IsWritten, DeclWritten, RoutineWritten}
use Rattle.static_semantics.specs.Things.{ThingsKnown}
use Rattle.static_semantics.specs.Mirrors.{StandsAs, process_site, monitor_site, program_site, monitors_in}
use Rattle.wellformed_law.proofs.Members.{In, in-contains, in-middle}
use Rattle.wellformed_law.proofs.Lookups.{named-map, named-append, named-front, named-in, some-none, FoundBy, found-by, not-found-by, or_else-first, or_else-second, Either, in_first, in_second, either}
use Rattle.wellformed_law.proofs.ThingsListed.{Always, thing-known, routine-always, param-always, own-always, process_var-always, process_routine-always, member-always, entry-always}
use Rattle.wellformed_law.proofs.ProgramScope.{program-means, routine_called}
use Rattle.wellformed_law.proofs.ProgramNames.{text_at, program-stands, process-routine-found, process-routine-listed}
use Rattle.static_names.proofs.Programs.{first-append}

-- ---- variables by their names

abbrev pub plain_name : plain_of.Var → Name
plain_name v = v.name

pub vars-found : (vs : List (Var Place)) (x : Name) (v : Var Place) → named (λ w. (var_name w).0) x vs ≡ Some v → var_named x (map plain_var vs) ≡ Some (plain_var v)
vars-found vs x v e = named-map plain_var plain_name x vs ∙ ap (option_map plain_var) e

pub vars-not-found : (vs : List (Var Place)) (x : Name) → first (map var_name vs) x ≡ None → var_named x (map plain_var vs) ≡ None
vars-not-found vs x e = named-map plain_var plain_name x vs ∙ ap (option_map plain_var) (not-found-by var_name vs x e)

abbrev pub param_as_var : Param Place → plain_of.Var
param_as_var v = param_var (plain_param v)

map-twice : (vs : List (Param Place)) → map param_var (map plain_param vs) ≡ map param_as_var vs
map-twice [] = refl
map-twice (v ∷ vs) = ap (λ l. param_as_var v ∷ l) (map-twice vs)

pub params-found : (vs : List (Param Place)) (x : Name) (v : Param Place) → named (λ w. (param_name w).0) x vs ≡ Some v → var_named x (map param_var (map plain_param vs)) ≡ Some (param_as_var v)
params-found vs x v e = ap (var_named x) (map-twice vs) ∙ named-map param_as_var plain_name x vs ∙ ap (option_map param_as_var) e

pub params-not-found : (vs : List (Param Place)) (x : Name) → first (map param_name vs) x ≡ None → var_named x (map param_var (map plain_param vs)) ≡ None
params-not-found vs x e = ap (var_named x) (map-twice vs) ∙ named-map param_as_var plain_name x vs ∙ ap (option_map param_as_var) (not-found-by param_name vs x e)

-- ---- members of monitors

abbrev pub member_called : Member Place → Name
member_called m = (member_name m).0

abbrev pub member_vars : List (Member Place) → List plain_of.Var
member_vars ms = filter_map variable_in (map plain_member ms)

member-var-found : (ms : List (Member Place)) (x : Name) (v : Var Place) → named member_called x ms ≡ Some (variable_member v) → var_named x (member_vars ms) ≡ Some (plain_var v)
member-var-found [] x v e = absurd (none-some _ e)
member-var-found (variable_member w ∷ ms) x v e = by (bytes_eq w.name x) e (member-var-found ms x v)
  where
    same_var : variable_member w ≡ variable_member v → w ≡ v
    same_var f = cc

    by : (b : Bool) → cond b (Some (variable_member w)) (named member_called x ms) ≡ Some (variable_member v) → (named member_called x ms ≡ Some (variable_member v) → var_named x (member_vars ms) ≡ Some (plain_var v))
        → cond b (Some (plain_var w)) (var_named x (member_vars ms)) ≡ Some (plain_var v)
    by true f h = ap (λ z. Some (plain_var z)) (same_var (same_Some _ _ f))
    by false f h = h f
member-var-found (condition_member n q ∷ ms) x v e = by (bytes_eq n x) e (member-var-found ms x v)
  where
    other : condition_member n q ≡ variable_member v → ⊥
    other f = cc

    by : (b : Bool) → cond b (Some (condition_member n q)) (named member_called x ms) ≡ Some (variable_member v) → (named member_called x ms ≡ Some (variable_member v) → var_named x (member_vars ms) ≡ Some (plain_var v))
        → var_named x (member_vars ms) ≡ Some (plain_var v)
    by true f h = absurd (other (same_Some _ _ f))
    by false f h = h f

member-var-not-found : (ms : List (Member Place)) (x : Name) → named member_called x ms ≡ None → var_named x (member_vars ms) ≡ None
member-var-not-found [] x e = refl
member-var-not-found (variable_member w ∷ ms) x e = by (bytes_eq w.name x) e (member-var-not-found ms x)
  where
    by : (b : Bool) → cond b (Some (variable_member w)) (named member_called x ms) ≡ None → (named member_called x ms ≡ None → var_named x (member_vars ms) ≡ None) → cond b (Some (plain_var w)) (var_named x (member_vars ms)) ≡ None
    by true f h = absurd (some-none _ f)
    by false f h = h f
member-var-not-found (condition_member n q ∷ ms) x e = by (bytes_eq n x) e (member-var-not-found ms x)
  where
    by : (b : Bool) → cond b (Some (condition_member n q)) (named member_called x ms) ≡ None → (named member_called x ms ≡ None → var_named x (member_vars ms) ≡ None) → var_named x (member_vars ms) ≡ None
    by true f h = absurd (some-none _ f)
    by false f h = h f

condition-in : (ms : List (Member Place)) (n : Name) (q : Place) → In ms (condition_member n q) → In (filter_map condition_in (map plain_member ms)) n
condition-in [] n q i = i
condition-in (c ∷ ms) n q (inl e) = subst (λ z. In (filter_map condition_in (map plain_member (z ∷ ms))) n) (sym e) (inl refl)
condition-in (variable_member v ∷ ms) n q (inr i) = condition-in ms n q i
condition-in (condition_member k r ∷ ms) n q (inr i) = inr (condition-in ms n q i)

-- a monitor stands behind those that are declared before it
pub monitor-at : (before : List (Decl Place)) (m : Monitor Place) (after : List (Decl Place)) → slice_get (filter_map monitor_in (map plain_decl (before ++ monitor m ∷ after))) (monitors_in before) ≡ Some (plain_monitor m)
monitor-at [] m after = refl
monitor-at (constant n q k ∷ before) m after = monitor-at before m after
monitor-at (device n q is_out ∷ before) m after = monitor-at before m after
monitor-at (event n q ∷ before) m after = monitor-at before m after
monitor-at (routine r ∷ before) m after = monitor-at before m after
monitor-at (monitor k ∷ before) m after = monitor-at before m after
monitor-at (process p ∷ before) m after = monitor-at before m after

-- ---- what variables mean

meant-outer : (a b : Option plain_of.Var) (rest : Meant) (v : plain_of.Var) → a ≡ None → b ≡ Some v → meant_own a (meant_outer b rest) ≡ outer_variable v.kind
meant-outer a b rest v e f = ap (λ o. meant_own o (meant_outer b rest)) e ∙ ap (λ o. meant_outer o rest) f

meant-own : (a : Option plain_of.Var) (rest : Meant) (v : plain_of.Var) → a ≡ Some v → meant_own a rest ≡ own_variable v.kind
meant-own a rest v e = ap (λ o. meant_own o rest) e

module _ (g : Prog Place) (written : IsWritten g) (known : ThingsKnown g) (p : Process Place) (hidden : (r : Routine Place) → In g.decls (routine r) → named routine_called r.name p.routines ≡ None) where
  -- ---- in a process

  module _ (listed : In g.decls (process p)) (f : Bool) (own : List plain_of.Var) (at : Option Place) where
    process-var : (x : Name) (d : Declared) → var_named x own ≡ None → FoundBy var_name p.vars x d → StandsAs g p (text_at g p of_process f own) at x d.place d.kind
    process-var x d none l = subst (λ e. StandsAs g p (text_at g p of_process f own) at x e.place e.kind) l.is (record {
      kind = l.one.kind;
      stands = inr (thing-known g known (process p) l.one.place (variable_thing None (shape_of l.one.kind)) listed (process_var-always p l.one l.listed), meant-outer _ _ _ (plain_var l.one) none (vars-found p.vars x l.one l.found));
    })

    process-routine : (x : Name) (d : Declared) → FoundBy routine_name p.routines x d → StandsAs g p (text_at g p of_process f own) at x d.place d.kind
    process-routine x d l = subst (λ e. StandsAs g p (text_at g p of_process f own) at x e.place e.kind) l.is (record {
      one = l.one;
      home = of_process;
      is = refl;
      thing = thing-known g known (process p) l.one.place (routine_thing false l.one) listed (process_routine-always p l.one _ l.listed (routine-always false l.one));
      result = (All-contains RoutineWritten p.routines l.one (All-contains DeclWritten g.decls (process p) written (in-contains _ _ listed)).routines (in-contains _ _ l.listed)).result;
      listed = process-routine-listed g p x l.one l.found;
      found = process-routine-found g p x l.one l.found;
    })

    pub process-stands : (before after : List (Decl Place)) → g.decls ≡ before ++ process p ∷ after → (x : Name) (d : Declared) → var_named x own ≡ None → (process_site g before p after).means x ≡ Some d → StandsAs g p (text_at g p of_process f own) at x d.place d.kind
    process-stands before after is x d none e = by (either _ _ d e)
      where
        both : Either (first (map var_name p.vars) x) (first (map routine_name p.routines) x) d → StandsAs g p (text_at g p of_process f own) at x d.place d.kind
        both (in_first h) = process-var x d none (found-by var_name p.vars x d h)
        both (in_second n h) = process-routine x d (found-by routine_name p.routines x d h)

        by : Either (first (process_scope p) x) ((program_site g before (process p ∷ after)).means x) d → StandsAs g p (text_at g p of_process f own) at x d.place d.kind
        by (in_first h) = both (either _ _ d (sym (first-append (map var_name p.vars) (map routine_name p.routines) x) ∙ h))
        by (in_second n h) =
            program-stands g written known p hidden of_process f own at x d (program-means g before (process p ∷ after) is x d h) none
            (vars-not-found p.vars x (or_else-first _ _ (sym (first-append (map var_name p.vars) (map routine_name p.routines) x) ∙ n)))

  -- ---- in the entries of a monitor

  module _ (f : Bool) (own : List plain_of.Var) (at : Option Place) (before : List (Decl Place)) (m : Monitor Place) (after : List (Decl Place)) (is : g.decls ≡ before ++ monitor m ∷ after) where
    listed : In g.decls (monitor m)
    listed = subst (λ ds. In ds (monitor m)) (sym is) (in-middle before (monitor m) after)

    monitor-is : slice_get (monitors (plain g)) (monitors_in before) ≡ Some (plain_monitor m)
    monitor-is = ap (λ ds. slice_get (filter_map monitor_in (map plain_decl ds)) (monitors_in before)) is ∙ monitor-at before m after

    outer-is : outer_vars (plain g) (plain_process p) (of_monitor (monitors_in before)) ≡ member_vars m.members
    outer-is = ap monitor_vars monitor-is

    monitor-member : (x : Name) (d : Declared) → var_named x own ≡ None → FoundBy member_name m.members x d → StandsAs g p (text_at g p (of_monitor (monitors_in before)) f own) at x d.place d.kind
    monitor-member x d none l = subst (λ e. StandsAs g p (text_at g p (of_monitor (monitors_in before)) f own) at x e.place e.kind) l.is (by l.one l.listed l.found)
      where
        by : (one : Member Place) → In m.members one → named member_called x m.members ≡ Some one → StandsAs g p (text_at g p (of_monitor (monitors_in before)) f own) at x (member_name one).1.place (member_name one).1.kind
        by (variable_member v) i found = record {
          kind = v.kind;
          stands = inr (thing-known g known (monitor m) v.place (variable_thing None (shape_of v.kind)) listed (member-always m v i), meant-outer _ _ _ (plain_var v) none (ap (var_named x) outer-is ∙ member-var-found m.members x v found));
        }
        by (condition_member n q) i found = in-contains _ _ (subst (λ c. In c x) (sym (ap monitor_conditions monitor-is)) (subst (In (filter_map condition_in (map plain_member m.members))) (named-in member_called m.members x (condition_member n q) found).name (condition-in m.members n q i)))

    monitor-entry : (x : Name) (d : Declared) → FoundBy entry_name m.entries x d → StandsAs g p (text_at g p (of_monitor (monitors_in before)) f own) at x d.place d.kind
    monitor-entry x d l = subst (λ e. StandsAs g p (text_at g p (of_monitor (monitors_in before)) f own) at x e.place e.kind) l.is (record {
      one = l.one;
      inside = refl;
      is = refl;
      thing = thing-known g known (monitor m) l.one.place (routine_thing true l.one) listed (entry-always m l.one _ l.listed (routine-always true l.one));
    })

    pub monitor-stands : (x : Name) (d : Declared) → var_named x own ≡ None → (monitor_site g before m after).means x ≡ Some d → StandsAs g p (text_at g p (of_monitor (monitors_in before)) f own) at x d.place d.kind
    monitor-stands x d none e = by (either _ _ d e)
      where
        both : Either (first (map member_name m.members) x) (first (map entry_name m.entries) x) d → StandsAs g p (text_at g p (of_monitor (monitors_in before)) f own) at x d.place d.kind
        both (in_first h) = monitor-member x d none (found-by member_name m.members x d h)
        both (in_second n h) = monitor-entry x d (found-by entry_name m.entries x d h)

        by : Either (first (monitor_scope m) x) ((program_site g before (monitor m ∷ after)).means x) d → StandsAs g p (text_at g p (of_monitor (monitors_in before)) f own) at x d.place d.kind
        by (in_first h) = both (either _ _ d (sym (first-append (map member_name m.members) (map entry_name m.entries) x) ∙ h))
        by (in_second n h) =
            program-stands g written known p hidden (of_monitor (monitors_in before)) f own at x d (program-means g before (monitor m ∷ after) is x d h) none
            (ap (var_named x) outer-is ∙ member-var-not-found m.members x (not-found-by member_name m.members x (or_else-first _ _ (sym (first-append (map member_name m.members) (map entry_name m.entries) x) ∙ n))))

  -- ---- in a routine

  -- the declaration that a routine belongs to declares it whole
  module _ (whole : Decl Place) (in_program : In g.decls whole) (is_entry : Bool) (r : Routine Place) (always : (t : Place × Thing) → Always (routine_things is_entry r) t → Always (decl_things whole) t) (home : Home) (f : Bool) where
    own-param : (x : Name) (d : Declared) → FoundBy param_name r.params x d → StandsAs g p (text_at g p home f (own_of (plain_routine r))) (Some r.place) x d.place d.kind
    own-param x d l = subst (λ e. StandsAs g p (text_at g p home f (own_of (plain_routine r))) (Some r.place) x e.place e.kind) l.is (record {
      kind = scalar l.one.kind;
      stands = inl (
        thing-known g known whole l.one.place _ in_program (always _ (param-always is_entry r l.one l.listed)),
        meant-own _ _ (param_as_var l.one) (named-front plain_name x (param_as_var l.one) (map param_var (map plain_param r.params)) (map plain_var r.vars) (params-found r.params x l.one l.found)),
      );
    })

    own-var : (x : Name) (d : Declared) → first (map param_name r.params) x ≡ None → FoundBy var_name r.vars x d → StandsAs g p (text_at g p home f (own_of (plain_routine r))) (Some r.place) x d.place d.kind
    own-var x d none l = subst (λ e. StandsAs g p (text_at g p home f (own_of (plain_routine r))) (Some r.place) x e.place e.kind) l.is (record {
      kind = l.one.kind;
      stands = inl (
        thing-known g known whole l.one.place _ in_program (always _ (own-always is_entry r l.one l.listed)),
        meant-own _ _ (plain_var l.one) (named-append plain_name x (map param_var (map plain_param r.params)) (map plain_var r.vars) (params-not-found r.params x none) ∙ vars-found r.vars x l.one l.found),
      );
    })

    pub routine-stands : (outer : Site) → ((x : Name) (d : Declared) → var_named x (own_of (plain_routine r)) ≡ None → outer.means x ≡ Some d → StandsAs g p (text_at g p home f (own_of (plain_routine r))) (Some r.place) x d.place d.kind)
        → (x : Name) (d : Declared) → (inside (routine_scope r) outer).means x ≡ Some d → StandsAs g p (text_at g p home f (own_of (plain_routine r))) (Some r.place) x d.place d.kind
    routine-stands outer around x d e = by (either _ _ d e)
      where
        both : Either (first (map param_name r.params) x) (first (map var_name r.vars) x) d → StandsAs g p (text_at g p home f (own_of (plain_routine r))) (Some r.place) x d.place d.kind
        both (in_first h) = own-param x d (found-by param_name r.params x d h)
        both (in_second n h) = own-var x d n (found-by var_name r.vars x d h)

        none : first (map param_name r.params ++ map var_name r.vars) x ≡ None → var_named x (own_of (plain_routine r)) ≡ None
        none n =
            let split : or_else (first (map param_name r.params) x) (first (map var_name r.vars) x) ≡ None = sym (first-append (map param_name r.params) (map var_name r.vars) x) ∙ n in
            named-append plain_name x (map param_var (map plain_param r.params)) (map plain_var r.vars) (params-not-found r.params x (or_else-first (first (map param_name r.params) x) (first (map var_name r.vars) x) split)) ∙ vars-not-found r.vars x (or_else-second (first (map param_name r.params) x) (first (map var_name r.vars) x) split)

        by : Either (first (routine_scope r) x) (outer.means x) d → StandsAs g p (text_at g p home f (own_of (plain_routine r))) (Some r.place) x d.place d.kind
        by (in_first h) = both (either _ _ d (sym (first-append (map param_name r.params) (map var_name r.vars) x) ∙ h))
        by (in_second n h) = around x d (none n) h
