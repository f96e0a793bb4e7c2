-- What a text calls by its tree is what its calls name in the code, routine by routine.
use Rattle.std.proofs.Common.{◌≡◌, ◌⊎◌, inl, inr, ℕ, zero, suc, Bool, true, false, cond, List, [], ◌∷◌, ◌++◌, map, Option, Some, None, refl, ap, sym, ◌∙◌, subst, true≢false}
use Rattle.std.specs.Prelude.{Contains, slice_get, option_map, bytes_eq}
use Rattle.std.proofs.lemmas.Option.{none-some, same_Some}
use Rattle.syntax_tree.specs.Plain as plain_of
use Rattle.syntax_tree.specs.Plain.{Name}
use Rattle.syntax_tree.specs.Placed.{Routine, Member, variable_member, condition_member, Monitor, Handler, Process, Decl, constant, device, event, routine, monitor, process, Prog, plain, plain_routine, plain_monitor, plain_process, plain_stmts}
use Rattle.syntax_tree.specs.Parts.{program_routines, processes, monitors, routines}
use Rattle.syntax_tree.specs.declared.place.Place.{Place}
use Rattle.static_names.specs.declared.kind.Declared.{Declared}
use Rattle.static_names.specs.declared.kind.NameUse.TheVariants as want_is
use Rattle.static_names.specs.Reach.{suits, Names, Site, first, inside, through}
use Rattle.static_names.specs.Occurrences.{Occurrence, closes, declares, names, declared_at, stmts_names, routines_names, optional_names, handler_names, var_name, param_name, routine_name, entry_name, member_name, decl_name, others, program_name, routine_scope, process_scope, monitor_scope, monitor_inner}
use Rattle.source_semantics.specs.Names.{named, place_of, monitor_number, routines as plain_routines_of, processes as plain_processes_of}
use Rattle.source_semantics.specs.Run.{or_else as or_else_of}
use Rattle.code_spec.specs.Layout.{Owner, by_program, by_process, by_monitor}
use Rattle.code_spec.specs.Numbering.{Text, routine_of, process_routines, entry_of, Called, calls_routine, calls_entry, called_text}
use Rattle.code_spec.specs.Numbering as call_of
use Rattle.static_calls.specs.Calls.{routine_calls, stmts_calls}
use Rattle.static_semantics.specs.Mirrors.{program_site, process_site, monitor_site}
use Rattle.wellformed_law.proofs.Members.{In, in-contains, contains-in, in-left, in-right, ends-in, Ends}
use Rattle.wellformed_law.proofs.Lookups.{first-not, named-map, named-in, FoundBy, found-by, not-found-by, or_else-second, Either, in_first, in_second, either}
use Rattle.wellformed_law.proofs.NamesAfter.{ends-constants, ends-members}
use Rattle.wellformed_law.proofs.ProgramScope.{routines-plain, monitors-plain, routine_called, monitor_called, Listed, Looks, program-means, reach-in, declarations-free, split-in}
use Rattle.wellformed_law.proofs.EntryNames.{monitors-apart, through-is}
use Rattle.wellformed_law.proofs.Mirrored.{Reaches, HasEntries, reaches-inside, reaches-program, in-routine, in-process, in-monitor, entries-program, entries-monitor}
use Rattle.wellformed_law.proofs.Below.{AreNames, names-rest}
use Rattle.wellformed_law.proofs.WellformedCallsBehind.{at_routine, at_process_routine, behind_declarations}
use Rattle.wellformed_law.proofs.WellformedLaw.{Laws}
use Rattle.wellformed_law.proofs.Standing.{plain_processes}
use Rattle.wellformed_law.proofs.ProcessesFit.{in_process_names}
use Rattle.codegen_law.proofs.NameNumbers.{found_there}
use Rattle.codegen_law.specs.Called.{AllCalled}
use Rattle.built_image_law.proofs.Shared.{nobody}
use Rattle.built_image_law.proofs.Standing.{routine_at}
use Rattle.built_image_law.proofs.Walk.{AllIn, routine_leads, body_leads}
use Rattle.wellformed_law.proofs.Calls.{entry_kind}
use Rattle.static_names.proofs.Programs.{first-append}

-- ---- the placed routine that a text stands for

abbrev pub StandsAt : Prog Place → Routine Place → Owner → Type 0
StandsAt g r by_program = In g.decls (routine r)
StandsAt g r (by_process k) = (p : Process Place) × (slice_get (processes g.decls) k ≡ Some p) × In p.routines r
StandsAt g r (by_monitor j) = (m : Monitor Place) × (slice_get (monitors g.decls) j ≡ Some m) × In m.entries r

pub record StandsFor (g : Prog Place) (t : Text) (r : Routine Place) : Type 0 where
  pub is : plain_routine r ≡ t.routine
  pub at : StandsAt g r t.owner

-- one of the places, at which stands the routine that the text stands for
pub record Led (g : Prog Place) (total : List Place) (t : Text) : Type 0 where
  pub one : Routine Place
  pub stands : StandsFor g t one
  pub called : Contains total one.place

-- what the call names stands at one of the places
abbrev pub LeadsTo : Prog Place → Owner → List Place → Called → Type 0
LeadsTo g o total c = (t : Text) → called_text (plain g) o c ≡ Some t → Led g total t

led : (g : Prog Place) (total : List Place) (o : Owner) (one : Routine Place) (t : Text) → record { owner = o; routine = plain_routine one } ≡ t → StandsAt g one o → Contains total one.place → Led g total t
led g total o one t e at called = subst (Led g total) e (record { one = one; stands = record { is = refl; at = at }; called = called })

-- ---- lists

pub slice_in : {X : Type 0} (xs : List X) (k : ℕ) (x : X) → slice_get xs k ≡ Some x → In xs x
slice_in [] k x e = absurd (none-some x e)
slice_in (y ∷ ys) zero x e = inl (same_Some y x e)
slice_in (y ∷ ys) (suc k) x e = inr (slice_in ys k x e)

pub slice_map : {X Y : Type 0} (f : X → Y) (xs : List X) (k : ℕ) → slice_get (map f xs) k ≡ option_map f (slice_get xs k)
slice_map f [] k = refl
slice_map f (x ∷ xs) zero = refl
slice_map f (x ∷ xs) (suc k) = slice_map f xs k

in_processes : (ds : List (Decl Place)) (p : Process Place) → In (processes ds) p → In ds (process p)
in_processes [] p i = absurd i
in_processes (constant n q k ∷ ds) p i = inr (in_processes ds p i)
in_processes (device n q b ∷ ds) p i = inr (in_processes ds p i)
in_processes (event n q ∷ ds) p i = inr (in_processes ds p i)
in_processes (routine r ∷ ds) p i = inr (in_processes ds p i)
in_processes (monitor m ∷ ds) p i = inr (in_processes ds p i)
in_processes (process q ∷ ds) p (inl e) = inl (ap (λ z. process z) e)
in_processes (process q ∷ ds) p (inr i) = inr (in_processes ds p i)

in_monitors : (ds : List (Decl Place)) (m : Monitor Place) → In (monitors ds) m → In ds (monitor m)
in_monitors [] m i = absurd i
in_monitors (constant n q k ∷ ds) m i = inr (in_monitors ds m i)
in_monitors (device n q b ∷ ds) m i = inr (in_monitors ds m i)
in_monitors (event n q ∷ ds) m i = inr (in_monitors ds m i)
in_monitors (routine r ∷ ds) m i = inr (in_monitors ds m i)
in_monitors (monitor k ∷ ds) m (inl e) = inl (ap (λ z. monitor z) e)
in_monitors (monitor k ∷ ds) m (inr i) = inr (in_monitors ds m i)
in_monitors (process q ∷ ds) m i = inr (in_monitors ds m i)

-- the routines of a declaration
abbrev own_routines : Decl Place → List (Routine Place)
own_routines (constant n q k) = []
own_routines (device n q b) = []
own_routines (event n q) = []
own_routines (routine r) = r ∷ []
own_routines (monitor m) = m.entries
own_routines (process p) = p.routines

in_own : (d : Decl Place) (ds : List (Decl Place)) (r : Routine Place) → In (own_routines d) r → In (routines (d ∷ ds)) r
in_own (constant n q k) ds r i = absurd i
in_own (device n q b) ds r i = absurd i
in_own (event n q) ds r i = absurd i
in_own (routine s) ds r (inl e) = inl e
in_own (routine s) ds r (inr i) = absurd i
in_own (monitor m) ds r i = in-left m.entries (routines ds) r i
in_own (process p) ds r i = in-left p.routines (routines ds) r i

in_later : (d : Decl Place) (ds : List (Decl Place)) (r : Routine Place) → In (routines ds) r → In (routines (d ∷ ds)) r
in_later (constant n q k) ds r i = i
in_later (device n q b) ds r i = i
in_later (event n q) ds r i = i
in_later (routine s) ds r i = inr i
in_later (monitor m) ds r i = in-right m.entries (routines ds) r i
in_later (process p) ds r i = in-right p.routines (routines ds) r i

in_routines : (ds : List (Decl Place)) (d : Decl Place) (r : Routine Place) → In ds d → In (own_routines d) r → In (routines ds) r
in_routines [] d r i j = absurd i
in_routines (c ∷ ds) d r (inl e) j = in_own c ds r (subst (λ z. In (own_routines z) r) (sym e) j)
in_routines (c ∷ ds) d r (inr i) j = in_later c ds r (in_routines ds d r i j)

pub stands_listed : (g : Prog Place) (r : Routine Place) (o : Owner) → StandsAt g r o → Contains (routines g.decls) r
stands_listed g r by_program at = in-contains (routines g.decls) r (in_routines g.decls (routine r) r at (inl refl))
stands_listed g r (by_process k) at = in-contains (routines g.decls) r (in_routines g.decls (process at.0) r (in_processes g.decls at.0 (slice_in (processes g.decls) k at.0 at.1)) at.2)
stands_listed g r (by_monitor j) at = in-contains (routines g.decls) r (in_routines g.decls (monitor at.0) r (in_monitors g.decls at.0 (slice_in (monitors g.decls) j at.0 at.1)) at.2)

-- ---- scopes in which nothing is called

abbrev NotCalled : Names → Type 0
NotCalled scope = (x : Name) (d : Declared) → first scope x ≡ Some d → suits want_is.Routine d.kind ≡ true → ⊥

not_called_map : {A : Type 0} (label : A → Name × Declared) → ((a : A) → suits want_is.Routine (label a).1.kind ≡ true → ⊥) → (things : List A) → NotCalled (map label things)
not_called_map label none things x d e suited = let l = found-by label things x d e in none l.one (ap (λ (c : Declared). suits want_is.Routine c.kind) l.is ∙ suited)

routine_not_called : (r : Routine Place) → NotCalled (routine_scope r)
routine_not_called r x d e suited = by (either _ _ d (sym (first-append (map param_name r.params) (map var_name r.vars) x) ∙ e))
  where
    by : Either (first (map param_name r.params) x) (first (map var_name r.vars) x) d → ⊥
    by (in_first h) = not_called_map param_name (λ v s. true≢false (sym s)) r.params x d h suited
    by (in_second n h) = not_called_map var_name (λ v s. true≢false (sym s)) r.vars x d h suited

-- the monitor of a name stands at its number
monitor_there : (m : Name) (ms : List (Monitor Place)) (one : Monitor Place) → named monitor_called m ms ≡ Some one → slice_get ms (place_of m (map (λ (k : plain_of.Monitor). k.name) (map plain_monitor ms))) ≡ Some one
monitor_there m [] one e = absurd (none-some one e)
monitor_there m (k ∷ ms) one e = by (bytes_eq k.name m) e (monitor_there m ms one)
  where
    by : (b : Bool) → cond b (Some k) (named monitor_called m ms) ≡ Some one → (named monitor_called m ms ≡ Some one → slice_get ms (place_of m (map (λ (k : plain_of.Monitor). k.name) (map plain_monitor ms))) ≡ Some one)
        → slice_get (k ∷ ms) (cond b 0 (suc (place_of m (map (λ (k : plain_of.Monitor). k.name) (map plain_monitor ms))))) ≡ Some one
    by true h rest = h
    by false h rest = rest h

module _ (g : Prog Place) (l : Laws g) where
  -- ---- routines of the program

  program_text : (x : Name) (r : Routine Place) → named routine_called x (program_routines g.decls) ≡ Some r → routine_of by_program (plain_routines_of (plain g)) x ≡ Some (record { owner = by_program; routine = plain_routine r })
  program_text x r e =
      ap (option_map (λ y. record { owner = by_program; routine = y }))
      (ap (named (λ k. k.name) x) (routines-plain g.decls) ∙ (named-map plain_routine (λ k. k.name) x (program_routines g.decls) ∙ ap (option_map plain_routine) e))

  program_leads : (total : List Place) (x : Name) (d : Declared) → Listed g.decls x d → suits want_is.Routine d.kind ≡ true → Contains total d.place → (t : Text) → routine_of by_program (plain_routines_of (plain g)) x ≡ Some t → Led g total t
  program_leads total x d is suited called t e =
      by is.one is.listed (ap (λ (c : Declared). suits want_is.Routine c.kind) is.is ∙ suited) (subst (λ (c : Declared). Contains total c.place) (sym is.is) called) is.looks
    where
      by : (one : Decl Place) → In g.decls one → suits want_is.Routine (decl_name one).1.kind ≡ true → Contains total (decl_name one).1.place → Looks one g.decls x → Led g total t
      by (constant n q k) i s c looks = absurd (true≢false (sym s))
      by (device n q b) i s c looks = absurd (true≢false (sym s))
      by (event n q) i s c looks = absurd (true≢false (sym s))
      by (routine r) i s c looks = led g total by_program r t (same_Some (record { owner = by_program; routine = plain_routine r }) t (sym (program_text x r looks) ∙ e)) i c
      by (monitor m) i s c looks = absurd (true≢false (sym s))
      by (process p) i s c looks = absurd (true≢false (sym s))

  site_leads : (total : List Place) (before rest : List (Decl Place)) → g.decls ≡ before ++ rest → (x : Name) (d : Declared) → (program_site g before rest).means x ≡ Some d → suits want_is.Routine d.kind ≡ true → Contains total d.place
      → (t : Text) → routine_of by_program (plain_routines_of (plain g)) x ≡ Some t → Led g total t
  site_leads total before rest is x d means suited called t e = by (program-means g before rest is x d means)
    where
      by : ((program_name g).1 ≡ d) ⊎ Listed g.decls x d → Led g total t
      by (inl h) = absurd (true≢false (sym suited ∙ ap (λ (c : Declared). suits want_is.Routine c.kind) (sym h)))
      by (inr h) = program_leads total x d h suited called t e

  -- ---- entries behind their monitor's name

  monitor_text : (m x : Name) (one : Monitor Place) (r : Routine Place) → named monitor_called m (monitors g.decls) ≡ Some one → named (λ a. (entry_name a).0) x one.entries ≡ Some r
      → call_of.entry_in (plain g) m x ≡ Some (record { owner = by_monitor (monitor_number (plain g) m); routine = plain_routine r })
  monitor_text m x one r found e =
      ap (λ o. entry_of (monitor_number (plain g) m) o x) (ap (named (λ k. k.name) m) (monitors-plain g.decls) ∙ (named-map plain_monitor (λ k. k.name) m (monitors g.decls) ∙ ap (option_map plain_monitor) found))
      ∙ ap (option_map (λ y. record { owner = by_monitor (monitor_number (plain g) m); routine = y })) (named-map plain_routine (λ k. k.name) x one.entries ∙ ap (option_map plain_routine) e)

  entry_leads : (o : Owner) (total : List Place) (site : Site) → Reaches g site.means → HasEntries g site.members → (m x : Name) (d : Declared) → through site m x ≡ Some d → suits want_is.Entry d.kind ≡ true → Contains total d.place
      → LeadsTo g o total (calls_entry m x)
  entry_leads o total site reach member m x d means suited called t e =
      let w = through-is g l.written l.things nobody site m x d means in
      let k = reach m w.declared w.means w.kind in
      let f = found-by entry_name k.one.entries x d (member k.one w.declared.place x d k.listed k.place w.member (entry_kind d.kind suited)) in
      led g total (by_monitor (monitor_number (plain g) m)) f.one t (same_Some (record { owner = by_monitor (monitor_number (plain g) m); routine = plain_routine f.one }) t (sym (monitor_text m x k.one f.one k.found f.found) ∙ e))
      (k.one, subst (λ (ms : List plain_of.Monitor). slice_get (monitors g.decls) (place_of m (map (λ z. z.name) ms)) ≡ Some k.one) (sym (monitors-plain g.decls)) (monitor_there m (monitors g.decls) k.one k.found), f.listed)
      (subst (λ (c : Declared). Contains total c.place) (sym f.is) called)

  -- ---- routines of a process

  process_is : (k : ℕ) (p : Process Place) → slice_get (processes g.decls) k ≡ Some p → slice_get (plain_processes_of (plain g)) k ≡ Some (plain_process p)
  process_is k p at = ap (λ ps. slice_get ps k) (plain_processes g.decls) ∙ (slice_map plain_process (processes g.decls) k ∙ ap (option_map plain_process) at)

  own_leads : (total : List Place) (k : ℕ) (p : Process Place) → slice_get (processes g.decls) k ≡ Some p → (before after : List (Decl Place)) → g.decls ≡ before ++ process p ∷ after
      → (x : Name) (d : Declared) → (process_site g before p after).means x ≡ Some d → suits want_is.Routine d.kind ≡ true → Contains total d.place → LeadsTo g (by_process k) total (calls_routine x)
  own_leads total k p at before after is x d means suited called t e =
      by (either _ _ d means) (subst (λ (q : Option plain_of.Process). or_else_of (routine_of (by_process k) (process_routines q) x) (routine_of by_program (plain_routines_of (plain g)) x) ≡ Some t) (process_is k p at) e)
    where
      abbrev_named : named (λ y. y.name) x (map plain_routine p.routines) ≡ option_map plain_routine (named routine_called x p.routines)
      abbrev_named = named-map plain_routine (λ y. y.name) x p.routines

      here : FoundBy routine_name p.routines x d → or_else_of (routine_of (by_process k) (map plain_routine p.routines) x) (routine_of by_program (plain_routines_of (plain g)) x) ≡ Some t → Led g total t
      here f h =
          led g total (by_process k) f.one t
          (same_Some (record { owner = by_process k; routine = plain_routine f.one }) t
          (sym (ap (λ o. or_else_of (option_map (λ y. record { owner = by_process k; routine = y }) o) (routine_of by_program (plain_routines_of (plain g)) x)) (abbrev_named ∙ ap (option_map plain_routine) f.found)) ∙ h))
          (p, at, f.listed) (subst (λ (c : Declared). Contains total c.place) (sym f.is) called)

      elsewhere : named routine_called x p.routines ≡ None → or_else_of (routine_of (by_process k) (map plain_routine p.routines) x) (routine_of by_program (plain_routines_of (plain g)) x) ≡ Some t → routine_of by_program (plain_routines_of (plain g)) x ≡ Some t
      elsewhere none h = sym (ap (λ o. or_else_of (option_map (λ y. record { owner = by_process k; routine = y }) o) (routine_of by_program (plain_routines_of (plain g)) x)) (abbrev_named ∙ ap (option_map plain_routine) none)) ∙ h

      both : Either (first (map var_name p.vars) x) (first (map routine_name p.routines) x) d → or_else_of (routine_of (by_process k) (map plain_routine p.routines) x) (routine_of by_program (plain_routines_of (plain g)) x) ≡ Some t → Led g total t
      both (in_first h) e = absurd (not_called_map var_name (λ v s. true≢false (sym s)) p.vars x d h suited)
      both (in_second n h) e = here (found-by routine_name p.routines x d h) e

      by : Either (first (process_scope p) x) ((program_site g before (process p ∷ after)).means x) d → or_else_of (routine_of (by_process k) (map plain_routine p.routines) x) (routine_of by_program (plain_routines_of (plain g)) x) ≡ Some t → Led g total t
      by (in_first h) e = both (either _ _ d (sym (first-append (map var_name p.vars) (map routine_name p.routines) x) ∙ h)) e
      by (in_second n h) e =
          site_leads total before (process p ∷ after) is x d h suited called t
          (elsewhere (not-found-by routine_name p.routines x (or_else-second _ _ (sym (first-append (map var_name p.vars) (map routine_name p.routines) x) ∙ n))) e)

  -- ---- routines that entries call

  -- no entry has the name of a routine of the program
  entry_hides_none : (before : List (Decl Place)) (m : Monitor Place) (after : List (Decl Place)) → g.decls ≡ before ++ monitor m ∷ after → (a : Routine Place) → In m.entries a → (x : Name) → a.name ≡ x
      → (t : Text) → routine_of by_program (plain_routines_of (plain g)) x ≡ Some t → ⊥
  entry_hides_none before m after is a i x name t e =
      by (named (λ k. k.name) x (plain_routines_of (plain g))) refl e
    where
      none : (program_site g before (monitor m ∷ after)).means a.name ≡ None
      none =
          declarations-free (program_site g before (monitor m ∷ after)).means [] (monitor_scope m) (monitor_inner (monitor_site g before m after) m [])
          (λ n q t j. l.found.free n q t (l.all_names before (monitor m) after is (declares n q t) (in-contains _ _ j)))
          (entry_name a) (in-right (map member_name m.members) (map entry_name m.entries) (entry_name a) (mapped m.entries i))
        where
          mapped : (rs : List (Routine Place)) → In rs a → In (map entry_name rs) (entry_name a)
          mapped [] j = absurd j
          mapped (r ∷ rs) (inl s) = inl (ap entry_name s)
          mapped (r ∷ rs) (inr j) = inr (mapped rs j)

      by : (o : Option plain_of.Routine) → named (λ k. k.name) x (plain_routines_of (plain g)) ≡ o → option_map (λ y. record { owner = by_program; routine = y }) o ≡ Some t → ⊥
      by None f h = none-some t h
      by (Some r) f h =
          let j = found_there x (plain_routines_of (plain g)) r f in
          let s = routine_at g.decls j.0 r j.1 in
          let called : s.one.name ≡ x = ap (λ (z : plain_of.Routine). z.name) s.is ∙ named_name r f in
          first-not (program_name g ∷ (map decl_name before ++ others (monitor m ∷ after))) (routine_name s.one)
          (inr (reach-in before (monitor m ∷ after) s.one (subst (λ ds. In ds (routine s.one)) is s.stands)))
          (ap (program_site g before (monitor m ∷ after)).means (called ∙ sym name) ∙ none)
        where
          named_name : (r : plain_of.Routine) → named (λ k. k.name) x (plain_routines_of (plain g)) ≡ Some r → r.name ≡ x
          named_name r f = (named-in (λ (k : plain_of.Routine). k.name) (plain_routines_of (plain g)) x r f).name

  in_entry_leads : (total : List Place) (j : ℕ) (before : List (Decl Place)) (m : Monitor Place) (after : List (Decl Place)) → g.decls ≡ before ++ monitor m ∷ after
      → (x : Name) (d : Declared) → (monitor_site g before m after).means x ≡ Some d → suits want_is.Routine d.kind ≡ true → Contains total d.place → LeadsTo g (by_monitor j) total (calls_routine x)
  in_entry_leads total j before m after is x d means suited called t e = by (either _ _ d means)
    where
      member_not_called : (a : Member Place) → suits want_is.Routine (member_name a).1.kind ≡ true → ⊥
      member_not_called (variable_member v) s = true≢false (sym s)
      member_not_called (condition_member n q) s = true≢false (sym s)

      both : Either (first (map member_name m.members) x) (first (map entry_name m.entries) x) d → Led g total t
      both (in_first h) = absurd (not_called_map member_name member_not_called m.members x d h suited)
      both (in_second n h) =
          let f = found-by entry_name m.entries x d h in
          absurd (entry_hides_none before m after is f.one f.listed x (named-in (λ a. (entry_name a).0) m.entries x f.one f.found).name t e)

      by : Either (first (monitor_scope m) x) ((program_site g before (monitor m ∷ after)).means x) d → Led g total t
      by (in_first h) = both (either _ _ d (sym (first-append (map member_name m.members) (map entry_name m.entries) x) ∙ h))
      by (in_second n h) = site_leads total before (monitor m ∷ after) is x d h suited called t e

  -- ---- whole texts

  -- in a routine the same as around it
  inner_leads : (P : Called → Type 0) (total : List Place) (outer : Site) (r : Routine Place) → ((x : Name) (d : Declared) → outer.means x ≡ Some d → suits want_is.Routine d.kind ≡ true → Contains total d.place → P (calls_routine x))
      → (x : Name) (d : Declared) → (inside (routine_scope r) outer).means x ≡ Some d → suits want_is.Routine d.kind ≡ true → Contains total d.place → P (calls_routine x)
  inner_leads P total outer r around x d means suited called = by (either _ _ d means)
    where
      by : Either (first (routine_scope r) x) (outer.means x) d → P (calls_routine x)
      by (in_first h) = absurd (routine_not_called r x d h suited)
      by (in_second n h) = around x d h suited called

  self : (ps : List Place) → AllIn ps ps
  self ps q i = i

  names_behind : (more whole : List Occurrence) → Ends more whole → AreNames g whole → AreNames g more
  names_behind more whole ends are o i = are o (in-contains whole o (ends-in more whole o ends (contains-in more o i)))

  abbrev pub Calls : Routine Place → List Place
  Calls r = routine_calls (declared_at (names g)) r

  pub text_leads : (o : Owner) (r : Routine Place) → StandsAt g r o → AllCalled (LeadsTo g o (routine_calls (declared_at (names g)) r)) (call_of.routine_calls (plain_routine r))
  text_leads by_program r at =
      let s = split-in g.decls (routine r) at in
      let outer = program_site g s.before (routine r ∷ s.after) in
      routine_leads g l.found (LeadsTo g by_program (Calls r)) (Calls r) outer r []
      (record {
        routines = inner_leads (LeadsTo g by_program (Calls r)) (Calls r) outer r (λ x d means suited called t e. site_leads (Calls r) s.before (routine r ∷ s.after) s.is x d means suited called t e);
        entries = entry_leads by_program (Calls r) (inside (routine_scope r) outer) (reaches-inside g (routine_scope r) outer (in-routine r) (reaches-program g s.before (routine r ∷ s.after) s.is)) (entries-program g (monitors-apart g l.apart));
      })
      (l.all_names s.before (routine r) s.after s.is) (self (Calls r))
  text_leads (by_process k) r at =
      let s = split-in g.decls (process at.0) (in_processes g.decls at.0 (slice_in (processes g.decls) k at.0 at.1)) in
      let outer = process_site g s.before at.0 s.after in
      let a = at_process_routine (AreNames g) (names-rest g) (program_site g s.before (process at.0 ∷ s.after)) at.0 r [] (in-contains at.0.routines r at.2) (l.all_names s.before (process at.0) s.after s.is) in
      routine_leads g l.found (LeadsTo g (by_process k) (Calls r)) (Calls r) outer r a.more
      (record {
        routines = inner_leads (LeadsTo g (by_process k) (Calls r)) (Calls r) outer r (λ x d means suited called. own_leads (Calls r) k at.0 at.1 s.before s.after s.is x d means suited called);
        entries = entry_leads (by_process k) (Calls r) (inside (routine_scope r) outer)
            (reaches-inside g (routine_scope r) outer (in-routine r) (reaches-inside g (process_scope at.0) (program_site g s.before (process at.0 ∷ s.after)) (in-process at.0) (reaches-program g s.before (process at.0 ∷ s.after) s.is)))
            (entries-program g (monitors-apart g l.apart));
      })
      a.holds (self (Calls r))
  text_leads (by_monitor j) r at =
      let s = split-in g.decls (monitor at.0) (in_monitors g.decls at.0 (slice_in (monitors g.decls) j at.0 at.1)) in
      let outer = monitor_site g s.before at.0 s.after in
      let around = program_site g s.before (monitor at.0 ∷ s.after) in
      let entries = routines_names outer at.0.entries (closes at.0.close at.0.close_place at.0.name ∷ []) in
      let listed : AreNames g (monitor_inner outer at.0 []) = behind_declarations (AreNames g) (names-rest g) around.means [] (monitor_scope at.0) (monitor_inner outer at.0 []) (l.all_names s.before (monitor at.0) s.after s.is) in
      let a = at_routine (AreNames g) (names-rest g) outer at.0.entries r (closes at.0.close at.0.close_place at.0.name ∷ []) (in-contains at.0.entries r at.2) (names_behind entries (monitor_inner outer at.0 []) (ends-members outer at.0.members entries) listed) in
      routine_leads g l.found (LeadsTo g (by_monitor j) (Calls r)) (Calls r) outer r a.more
      (record {
        routines = inner_leads (LeadsTo g (by_monitor j) (Calls r)) (Calls r) outer r (λ x d means suited called. in_entry_leads (Calls r) j s.before at.0 s.after s.is x d means suited called);
        entries = entry_leads (by_monitor j) (Calls r) (inside (routine_scope r) outer)
            (reaches-inside g (routine_scope r) outer (in-routine r) (reaches-inside g (monitor_scope at.0) around (in-monitor at.0) (reaches-program g s.before (monitor at.0 ∷ s.after) s.is)))
            (entries-monitor g (monitors-apart g l.apart) s.before at.0 s.after s.is);
      })
      a.holds (self (Calls r))

  pub handler_leads : (k : ℕ) (p : Process Place) → slice_get (processes g.decls) k ≡ Some p → (h : Handler Place) → p.handler ≡ Some h
      → AllCalled (LeadsTo g (by_process k) (stmts_calls (declared_at (names g)) h.body [])) (call_of.stmts_calls (plain_stmts h.body))
  handler_leads k p at h is =
      let s = split-in g.decls (process p) (in_processes g.decls p (slice_in (processes g.decls) k p at)) in
      let site = process_site g s.before p s.after in
      let total = stmts_calls (declared_at (names g)) h.body [] in
      let listed : AreNames g (handler_names site h []) = subst (λ o. AreNames g (optional_names (handler_names site) o [])) is (in_process_names g l s.before p s.after s.is).handler in
      body_leads g l.found (LeadsTo g (by_process k) total) total site h.body []
      (record {
        routines = λ x d means suited called. own_leads total k p at s.before s.after s.is x d means suited called;
        entries = entry_leads (by_process k) total site (reaches-inside g (process_scope p) (program_site g s.before (process p ∷ s.after)) (in-process p) (reaches-program g s.before (process p ∷ s.after) s.is)) (entries-program g (monitors-apart g l.apart));
      })
      (names_behind (stmts_names site h.body []) (handler_names site h []) (ends-constants site h.numbers (stmts_names site h.body [])) listed) (self total)
