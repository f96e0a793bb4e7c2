-- What is in reach from the declarations of a program: each name is that of a declaration, which look-ups by name find.
use Rattle.std.proofs.Common.{◌≡◌, ◌⊎◌, inl, inr, Bool, true, false, cond, ◌||◌, List, [], ◌∷◌, ◌++◌, map, Option, Some, None, is_some, refl, ap, sym, subst, ◌∙◌}
use Rattle.std.specs.Prelude.{filter_map}
use Rattle.std.proofs.lemmas.Option.{same_Some, none-some}
use Rattle.syntax_tree.specs.Plain.{Name}
use Rattle.syntax_tree.specs.Placed.{Routine, Monitor, Process, Decl, constant, device, event, routine, monitor, process, Prog, plain_routine, plain_monitor, plain_decl}
use Rattle.syntax_tree.specs.Parts.{program_routines, monitors}
use Rattle.syntax_tree.specs.declared.place.Place.{Place}
use Rattle.static_names.specs.declared.kind.Declared.{Declared}
use Rattle.static_names.specs.Reach.{same, Names, Reach, first}
use Rattle.static_names.specs.Occurrences.{Occurrence, declares, declarations, decl_name, others, routine_name, var_name, process_scope, program_name}
use Rattle.source_semantics.specs.Names.{named, routine_in, monitor_in}
use Rattle.static_semantics.specs.Places.{NamesFound}
use Rattle.static_semantics.specs.Mirrors.{NamesListed, program_site}
use Rattle.wellformed_law.proofs.Members.{In, in-contains, in-right, in-map}
use Rattle.wellformed_law.proofs.Lookups.{same-is, named-step, named-here, named-in, first-not}
use Rattle.static_names.proofs.Scopes.{none-of}

pub routines-plain : (ds : List (Decl Place)) → filter_map routine_in (map plain_decl ds) ≡ map plain_routine (program_routines ds)
routines-plain [] = refl
routines-plain (constant name q k ∷ ds) = routines-plain ds
routines-plain (device name q is_out ∷ ds) = routines-plain ds
routines-plain (event name q ∷ ds) = routines-plain ds
routines-plain (routine r ∷ ds) = ap (λ l. plain_routine r ∷ l) (routines-plain ds)
routines-plain (monitor m ∷ ds) = routines-plain ds
routines-plain (process q ∷ ds) = routines-plain ds

pub monitors-plain : (ds : List (Decl Place)) → filter_map monitor_in (map plain_decl ds) ≡ map plain_monitor (monitors ds)
monitors-plain [] = refl
monitors-plain (constant name q k ∷ ds) = monitors-plain ds
monitors-plain (device name q is_out ∷ ds) = monitors-plain ds
monitors-plain (event name q ∷ ds) = monitors-plain ds
monitors-plain (routine r ∷ ds) = monitors-plain ds
monitors-plain (monitor m ∷ ds) = ap (λ l. plain_monitor m ∷ l) (monitors-plain ds)
monitors-plain (process q ∷ ds) = monitors-plain ds

abbrev pub routine_called : Routine Place → Name
routine_called r = r.name

abbrev pub monitor_called : Monitor Place → Name
monitor_called m = m.name

-- the routine or the monitor of a name is the first of its kind that has the name
abbrev pub Looks : Decl Place → List (Decl Place) → Name → Type 0
Looks (constant name q k) ds x = Unit {0}
Looks (device name q is_out) ds x = Unit {0}
Looks (event name q) ds x = Unit {0}
Looks (routine r) ds x = named routine_called x (program_routines ds) ≡ Some r
Looks (monitor m) ds x = named monitor_called x (monitors ds) ≡ Some m
Looks (process q) ds x = Unit {0}

pub record Listed (ds : List (Decl Place)) (x : Name) (d : Declared) : Type 0 where
  pub one : Decl Place
  pub listed : In ds one
  pub name : (decl_name one).0 ≡ x
  pub is : (decl_name one).1 ≡ d
  pub looks : Looks one ds x

looks-here : (c : Decl Place) (ds : List (Decl Place)) (x : Name) → same x (decl_name c).0 ≡ true → Looks c (c ∷ ds) x
looks-here (constant name q k) ds x s = tt
looks-here (device name q is_out) ds x s = tt
looks-here (event name q) ds x s = tt
looks-here (routine r) ds x s = named-here routine_called x r (program_routines ds) s
looks-here (monitor m) ds x s = named-here monitor_called x m (monitors ds) s
looks-here (process q) ds x s = tt

routine-after : (c : Decl Place) (ds : List (Decl Place)) (x : Name) → same x (decl_name c).0 ≡ false → named routine_called x (program_routines (c ∷ ds)) ≡ named routine_called x (program_routines ds)
routine-after (constant name q k) ds x s = refl
routine-after (device name q is_out) ds x s = refl
routine-after (event name q) ds x s = refl
routine-after (routine r) ds x s = named-step routine_called x r (program_routines ds) s
routine-after (monitor m) ds x s = refl
routine-after (process q) ds x s = refl

monitor-after : (c : Decl Place) (ds : List (Decl Place)) (x : Name) → same x (decl_name c).0 ≡ false → named monitor_called x (monitors (c ∷ ds)) ≡ named monitor_called x (monitors ds)
monitor-after (constant name q k) ds x s = refl
monitor-after (device name q is_out) ds x s = refl
monitor-after (event name q) ds x s = refl
monitor-after (routine r) ds x s = refl
monitor-after (monitor m) ds x s = named-step monitor_called x m (monitors ds) s
monitor-after (process q) ds x s = refl

looks-after : (one c : Decl Place) (ds : List (Decl Place)) (x : Name) → same x (decl_name c).0 ≡ false → Looks one ds x → Looks one (c ∷ ds) x
looks-after (constant name q k) c ds x s l = tt
looks-after (device name q is_out) c ds x s l = tt
looks-after (event name q) c ds x s l = tt
looks-after (routine r) c ds x s l = routine-after c ds x s ∙ l
looks-after (monitor m) c ds x s l = monitor-after c ds x s ∙ l
looks-after (process q) c ds x s l = tt

looks-constant : (one : Decl Place) (c : Decl Place) (ds : List (Decl Place)) (x : Name) → program_routines (c ∷ ds) ≡ program_routines ds → monitors (c ∷ ds) ≡ monitors ds → Looks one ds x → Looks one (c ∷ ds) x
looks-constant (constant name q k) c ds x r m l = tt
looks-constant (device name q is_out) c ds x r m l = tt
looks-constant (event name q) c ds x r m l = tt
looks-constant (routine _) c ds x r m l = ap (named routine_called x) r ∙ l
looks-constant (monitor _) c ds x r m l = ap (named monitor_called x) m ∙ l
looks-constant (process q) c ds x r m l = tt

listed-step : (c : Decl Place) (es : Names) (ds : List (Decl Place)) (x : Name) (d : Declared) → first (decl_name c ∷ es) x ≡ Some d → (first es x ≡ Some d → Listed ds x d) → Listed (c ∷ ds) x d
listed-step c es ds x d e rest = by (same x (decl_name c).0) refl e
  where
    by : (b : Bool) → same x (decl_name c).0 ≡ b → cond b (Some (decl_name c).1) (first es x) ≡ Some d → Listed (c ∷ ds) x d
    by true s f = record { one = c; listed = inl refl; name = sym (same-is x (decl_name c).0 s); is = same_Some (decl_name c).1 d f; looks = looks-here c ds x s }
    by false s f = let l = rest f in record { one = l.one; listed = inr l.listed; name = l.name; is = l.is; looks = looks-after l.one c ds x s l.looks }

listed-others : (ds : List (Decl Place)) (x : Name) (d : Declared) → first (others ds) x ≡ Some d → Listed ds x d
listed-others [] x d e = absurd (none-some d e)
listed-others (constant name q k ∷ ds) x d e =
    let l = listed-others ds x d e in
    record { one = l.one; listed = inr l.listed; name = l.name; is = l.is; looks = looks-constant l.one (constant name q k) ds x refl refl l.looks }
listed-others (device name q is_out ∷ ds) x d e = listed-step (device name q is_out) (others ds) ds x d e (listed-others ds x d)
listed-others (event name q ∷ ds) x d e = listed-step (event name q) (others ds) ds x d e (listed-others ds x d)
listed-others (routine r ∷ ds) x d e = listed-step (routine r) (others ds) ds x d e (listed-others ds x d)
listed-others (monitor m ∷ ds) x d e = listed-step (monitor m) (others ds) ds x d e (listed-others ds x d)
listed-others (process q ∷ ds) x d e = listed-step (process q) (others ds) ds x d e (listed-others ds x d)

listed-all : (before rest : List (Decl Place)) (x : Name) (d : Declared) → first (map decl_name before ++ others rest) x ≡ Some d → Listed (before ++ rest) x d
listed-all [] rest x d e = listed-others rest x d e
listed-all (c ∷ before) rest x d e = listed-step c (map decl_name before ++ others rest) (before ++ rest) x d e (listed-all before rest x d)

-- what a name means among the declarations is the program or a declaration
pub program-means : (g : Prog Place) (before rest : List (Decl Place)) → g.decls ≡ before ++ rest → (x : Name) (d : Declared) → (program_site g before rest).means x ≡ Some d → ((program_name g).1 ≡ d) ⊎ Listed g.decls x d
program-means g before rest is x d e = by (same x g.name) e
  where
    by : (b : Bool) → cond b (Some (program_name g).1) (first (map decl_name before ++ others rest) x) ≡ Some d → ((program_name g).1 ≡ d) ⊎ Listed g.decls x d
    by true f = inl (same_Some _ _ f)
    by false f = inr (subst (λ ds. Listed ds x d) (sym is) (listed-all before rest x d f))

-- ---- routines are in reach everywhere

others-more : (c : Decl Place) (ds : List (Decl Place)) (e : Name × Declared) → In (others ds) e → In (others (c ∷ ds)) e
others-more (constant name q k) ds e i = i
others-more (device name q is_out) ds e i = inr i
others-more (event name q) ds e i = inr i
others-more (routine r) ds e i = inr i
others-more (monitor m) ds e i = inr i
others-more (process q) ds e i = inr i

others-in : (ds : List (Decl Place)) (r : Routine Place) → In ds (routine r) → In (others ds) (routine_name r)
others-in [] r i = i
others-in (c ∷ ds) r (inl e) = subst (λ z. In (others (z ∷ ds)) (routine_name r)) (sym e) (inl refl)
others-in (c ∷ ds) r (inr i) = others-more c ds (routine_name r) (others-in ds r i)

pub reach-in : (before rest : List (Decl Place)) (r : Routine Place) → In (before ++ rest) (routine r) → In (map decl_name before ++ others rest) (routine_name r)
reach-in [] rest r i = others-in rest r i
reach-in (c ∷ before) rest r (inl e) = inl (ap decl_name e)
reach-in (c ∷ before) rest r (inr i) = inr (reach-in before rest r i)

-- ---- no name of a scope is in reach from outside

either-false : (a b : Bool) → (a || b) ≡ false → b ≡ false
either-false false b e = e
either-false true b e = let h : true ≡ false = e in cc

pub declarations-free : (outside : Reach) (earlier ds : Names) (more : List Occurrence) → ((n : Name) (q : Place) (t : Bool) → In (declarations outside earlier ds more) (declares n q t) → t ≡ false) → (e : Name × Declared) → In ds e → outside e.0 ≡ None
declarations-free outside earlier [] more free e i = absurd i
declarations-free outside earlier (d ∷ ds) more free e (inl is) = ap (λ z. outside z.0) (sym is) ∙ none-of (outside d.0) (either-false (is_some (first earlier d.0)) (is_some (outside d.0)) (free d.0 d.1.place _ (inl refl)))
declarations-free outside earlier (d ∷ ds) more free e (inr i) = declarations-free outside (earlier ++ d ∷ []) ds more (λ n q t j. free n q t (inr j)) e i

pub record Split {X : Type 0} (xs : List X) (x : X) : Type 0 where
  pub before : List X
  pub after : List X
  pub is : xs ≡ before ++ x ∷ after

pub split-in : {X : Type 0} (xs : List X) (x : X) → In xs x → Split xs x
split-in [] x i = absurd i
split-in (y ∷ ys) x (inl e) = record { before = []; after = ys; is = ap (λ z. z ∷ ys) e }
split-in (y ∷ ys) x (inr i) = let s = split-in ys x i in record { before = y ∷ s.before; after = s.after; is = ap (λ l. y ∷ l) s.is }

-- no routine of a process has the name of a routine of the program
pub none-hidden : (g : Prog Place) → NamesFound g → NamesListed g → (p : Process Place) → In g.decls (process p) → (r : Routine Place) → In g.decls (routine r) → named routine_called r.name p.routines ≡ None
none-hidden g found listed p i r j = by (named routine_called r.name p.routines) refl
  where
    s : Split g.decls (process p)
    s = split-in g.decls (process p) i

    outside : Reach
    outside = (program_site g s.before (process p ∷ s.after)).means

    free : (e : Name × Declared) → In (process_scope p) e → (program_site g s.before (process p ∷ s.after)).means e.0 ≡ None
    free e k =
        declarations-free (program_site g s.before (process p ∷ s.after)).means [] (process_scope p) _
        (λ n q t l. found.free n q t (listed s.before (process p) s.after s.is (declares n q t) (in-contains _ _ l)))
        e k

    reached : In (program_name g ∷ (map decl_name s.before ++ others (process p ∷ s.after))) (routine_name r)
    reached = inr (reach-in s.before (process p ∷ s.after) r (subst (λ ds. In ds (routine r)) s.is j))

    by : (o : Option (Routine Place)) → named routine_called r.name p.routines ≡ o → o ≡ None
    by None e = refl
    by (Some q) e =
        let n = named-in routine_called p.routines r.name q e in
        let k : In (process_scope p) (routine_name q) = in-right (map var_name p.vars) _ _ (in-map routine_name p.routines q n.listed) in
        absurd (first-not (program_name g ∷ (map decl_name s.before ++ others (process p ∷ s.after))) (routine_name r) reached (ap (program_site g s.before (process p ∷ s.after)).means (sym n.name) ∙ free (routine_name q) k))
