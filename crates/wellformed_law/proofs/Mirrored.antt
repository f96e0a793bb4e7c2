-- The texts that a process may run stand in the meaning as they stand in the program.
use Rattle.std.proofs.Common.{◌≡◌, ◌⊎◌, inl, inr, Bool, true, false, cond, List, [], ◌∷◌, ◌++◌, map, Some, None, refl, ap, sym, subst, ◌∙◌}
use Rattle.std.specs.Prelude.{Contains}
use Rattle.syntax_tree.specs.Plain.{Name}
use Rattle.syntax_tree.specs.Placed.{Routine, Member, variable_member, condition_member, Monitor, Process, Decl, routine, monitor, process, Prog, plain, plain_process, plain_routine}
use Rattle.syntax_tree.specs.declared.place.Place.{Place}
use Rattle.static_names.specs.declared.kind.Declared.{Declared}
use Rattle.static_names.specs.declared.kind.Kind.TheVariants as kind_is
use Rattle.syntax_tree.specs.Parts.{same_place}
use Rattle.static_names.specs.Reach.{Names, Reach, Site, first, inside}
use Rattle.static_names.specs.Occurrences.{var_name, param_name, routine_name, entry_name, member_name, routine_scope, process_scope, monitor_scope, program_name, entries_at}
use Rattle.source_semantics.specs.Names.{named}
use Rattle.source_semantics.specs.Run.{of_program, of_process, of_monitor}
use Rattle.static_semantics.specs.Here.{own_of, is_function_at, in_routine}
use Rattle.static_semantics.specs.Written.{IsWritten}
use Rattle.static_semantics.specs.Things.{ThingsKnown}
use Rattle.static_semantics.specs.Places.{StandApart, NamesFound}
use Rattle.static_semantics.specs.Mirrors.{NamesListed, Mirrors, AreMirrored, program_site, process_site, monitor_site, monitors_in}
use Rattle.wellformed_law.proofs.Members.{In, contains-in, in-middle}
use Rattle.wellformed_law.proofs.Lookups.{found-by, Either, in_first, in_second, either}
use Rattle.wellformed_law.proofs.ThingsListed.{process_routine-always, entry-always}
use Rattle.wellformed_law.proofs.ProgramScope.{Listed, program-means, routine_called, none-hidden}
use Rattle.wellformed_law.proofs.ProgramNames.{program-stands}
use Rattle.wellformed_law.proofs.EntryNames.{MonitorsApart, monitors-apart, MonitorOf, monitor-of, entries-of, entries-stand}
use Rattle.wellformed_law.proofs.ScopeNames.{process-stands, monitor-stands, routine-stands}
use Rattle.static_names.proofs.Programs.{first-append}

-- ---- no monitor is declared inside a scope

abbrev pub NoMonitors : Names → Type 0
NoMonitors scope = (x : Name) (d : Declared) → first scope x ≡ Some d → d.kind ≡ kind_is.Monitor → ⊥

no-monitors-map : {A : Type 0} (label : A → Name × Declared) → ((a : A) → (label a).1.kind ≡ kind_is.Monitor → ⊥) → (things : List A) → NoMonitors (map label things)
no-monitors-map label none things x d e kind = let l = found-by label things x d e in none l.one (ap (λ c. c.kind) l.is ∙ kind)

no-monitors-append : (a b : Names) → NoMonitors a → NoMonitors b → NoMonitors (a ++ b)
no-monitors-append a b f h x d e kind = by (either _ _ d (sym (first-append a b x) ∙ e))
  where
    by : Either (first a x) (first b x) d → ⊥
    by (in_first i) = f x d i kind
    by (in_second n i) = h x d i kind

no-member : (m : Member Place) → (member_name m).1.kind ≡ kind_is.Monitor → ⊥
no-member (variable_member v) e = cc
no-member (condition_member n q) e = cc

pub in-routine : (r : Routine Place) → NoMonitors (routine_scope r)
in-routine r = no-monitors-append _ _ (no-monitors-map param_name (λ v e. cc) r.params) (no-monitors-map var_name (λ v e. cc) r.vars)

pub in-process : (p : Process Place) → NoMonitors (process_scope p)
in-process p = no-monitors-append _ _ (no-monitors-map var_name (λ v e. cc) p.vars) (no-monitors-map routine_name (λ v e. cc) p.routines)

pub in-monitor : (m : Monitor Place) → NoMonitors (monitor_scope m)
in-monitor m = no-monitors-append _ _ (no-monitors-map member_name no-member m.members) (no-monitors-map entry_name (λ v e. cc) m.entries)

-- the names of monitors that are in reach are those of the program's monitors
abbrev pub Reaches : Prog Place → Reach → Type 0
Reaches g means = (m : Name) (d : Declared) → means m ≡ Some d → d.kind ≡ kind_is.Monitor → MonitorOf g m d

pub reaches-inside : (g : Prog Place) (scope : Names) (outer : Site) → NoMonitors scope → Reaches g outer.means → Reaches g (inside scope outer).means
reaches-inside g scope outer none around m d e kind = by (either _ _ d e)
  where
    by : Either (first scope m) (outer.means m) d → MonitorOf g m d
    by (in_first i) = absurd (none m d i kind)
    by (in_second n i) = around m d i kind

pub reaches-program : (g : Prog Place) (before rest : List (Decl Place)) → g.decls ≡ before ++ rest → Reaches g (program_site g before rest).means
reaches-program g before rest is m d e kind = by (program-means g before rest is m d e)
  where
    no-program : kind_is.Program ≡ kind_is.Monitor → ⊥
    no-program f = cc

    by : ((program_name g).1 ≡ d) ⊎ Listed g.decls m d → MonitorOf g m d
    by (inl f) = absurd (no-program (ap (λ c. c.kind) f ∙ kind))
    by (inr l) = monitor-of g m d kind l

-- ---- at the place of a monitor are its entries

abbrev pub HasEntries : Prog Place → (Place → Reach) → Type 0
HasEntries g members = (one : Monitor Place) (place : Place) (x : Name) (d : Declared) → In g.decls (monitor one) → one.place ≡ place → members place x ≡ Some d → d.kind ≡ kind_is.Entry → first (map entry_name one.entries) x ≡ Some d

pub entries-program : (g : Prog Place) → MonitorsApart g → HasEntries g (λ place. first (entries_at g.decls place))
entries-program g apart one place x d i is e kind = entries-of g.decls place one x d (λ k j s. sym (apart one k i j (ap (λ q. same_place q k.place) is ∙ s))) e

entry-member : (m : Member Place) → (member_name m).1.kind ≡ kind_is.Entry → ⊥
entry-member (variable_member v) e = cc
entry-member (condition_member n q) e = cc

entries-scope : (m : Monitor Place) (x : Name) (d : Declared) → first (monitor_scope m) x ≡ Some d → d.kind ≡ kind_is.Entry → first (map entry_name m.entries) x ≡ Some d
entries-scope m x d e kind = by (either _ _ d (sym (first-append (map member_name m.members) (map entry_name m.entries) x) ∙ e))
  where
    by : Either (first (map member_name m.members) x) (first (map entry_name m.entries) x) d → first (map entry_name m.entries) x ≡ Some d
    by (in_first i) = let l = found-by member_name m.members x d i in absurd (entry-member l.one (ap (λ c. c.kind) l.is ∙ kind))
    by (in_second n i) = i

pub entries-monitor : (g : Prog Place) → MonitorsApart g → (before : List (Decl Place)) (m : Monitor Place) (after : List (Decl Place)) → g.decls ≡ before ++ monitor m ∷ after → HasEntries g (monitor_site g before m after).members
entries-monitor g apart before m after split one place x d i is e kind = by (same_place place m.place) refl e
  where
    listed : In g.decls (monitor m)
    listed = subst (λ ds. In ds (monitor m)) (sym split) (in-middle before (monitor m) after)

    by : (b : Bool) → same_place place m.place ≡ b → (cond b (first (monitor_scope m)) (first (entries_at g.decls place))) x ≡ Some d → first (map entry_name one.entries) x ≡ Some d
    by true s f = subst (λ k. first (map entry_name k.entries) x ≡ Some d) (sym (apart one m i listed (ap (λ q. same_place q m.place) is ∙ s))) (entries-scope m x d f kind)
    by false s f = entries-program g apart one place x d i is f kind

-- ---- texts that every process may run

module _ (g : Prog Place) (written : IsWritten g) (apart : MonitorsApart g) (known : ThingsKnown g) (p : Process Place) (hidden : (r : Routine Place) → In g.decls (routine r) → named routine_called r.name p.routines ≡ None) where
  pub program_routine_mirrors : (before after : List (Decl Place)) (r : Routine Place) → g.decls ≡ before ++ routine r ∷ after
      → Mirrors g p (Some r.place) (inside (routine_scope r) (program_site g before (routine r ∷ after))) (in_routine (plain g) (plain_process p) of_program (plain_routine r))
  program_routine_mirrors before after r is = record {
    program = refl;
    process = refl;
    names = routine-stands g written known p hidden (routine r) (subst (λ ds. In ds (routine r)) (sym is) (in-middle before (routine r) after)) false r (λ t a. a) of_program (is_function_at of_program (plain_routine r)) (program_site g before (routine r ∷ after))
        (λ x d none e. program-stands g written known p hidden of_program (is_function_at of_program (plain_routine r)) (own_of (plain_routine r)) (Some r.place) x d (program-means g before (routine r ∷ after) is x d e) none refl);
    entries = entries-stand g written known p (inside (routine_scope r) (program_site g before (routine r ∷ after))) of_program (is_function_at of_program (plain_routine r)) (own_of (plain_routine r))
        (reaches-inside g (routine_scope r) (program_site g before (routine r ∷ after)) (in-routine r) (reaches-program g before _ is)) (entries-program g apart);
  }

  pub entry_mirrors : (before after : List (Decl Place)) (m : Monitor Place) (r : Routine Place) → g.decls ≡ before ++ monitor m ∷ after → Contains m.entries r
      → Mirrors g p (Some r.place) (inside (routine_scope r) (monitor_site g before m after)) (in_routine (plain g) (plain_process p) (of_monitor (monitors_in before)) (plain_routine r))
  entry_mirrors before after m r is i = record {
    program = refl;
    process = refl;
    names = routine-stands g written known p hidden (monitor m) (subst (λ ds. In ds (monitor m)) (sym is) (in-middle before (monitor m) after)) true r (λ t a. entry-always m r t (contains-in _ _ i) a) (of_monitor (monitors_in before)) false (monitor_site g before m after)
        (λ x d none e. monitor-stands g written known p hidden false (own_of (plain_routine r)) (Some r.place) before m after is x d none e);
    entries = entries-stand g written known p (inside (routine_scope r) (monitor_site g before m after)) (of_monitor (monitors_in before)) false (own_of (plain_routine r))
        (reaches-inside g (routine_scope r) (monitor_site g before m after) (in-routine r) (reaches-inside g (monitor_scope m) (program_site g before (monitor m ∷ after)) (in-monitor m) (reaches-program g before _ is))) (entries-monitor g apart before m after is);
  }

-- ---- all texts

pub mirrored : (g : Prog Place) → IsWritten g → MonitorsApart g → NamesFound g → NamesListed g → ThingsKnown g → (p : Process Place) → Contains g.decls (process p) → AreMirrored g p
mirrored g written apart found names_listed known p contained = record {
  bodies = λ before after is. record {
    program = refl;
    process = refl;
    names = λ x d e. process-stands g written known p hidden listed false [] None before after is x d refl e;
    entries = entries-stand g written known p (process_site g before p after) of_process false [] (reaches-inside g (process_scope p) (program_site g before (process p ∷ after)) (in-process p) (reaches-program g before _ is)) (entries-program g apart);
  };
  routines_of_process = λ before after r is i. record {
    program = refl;
    process = refl;
    names = routine-stands g written known p hidden (process p) listed false r (λ t a. process_routine-always p r t (contains-in _ _ i) a) of_process (is_function_at of_process (plain_routine r)) (process_site g before p after)
        (λ x d none e. process-stands g written known p hidden listed (is_function_at of_process (plain_routine r)) (own_of (plain_routine r)) (Some r.place) before after is x d none e);
    entries = entries-stand g written known p (inside (routine_scope r) (process_site g before p after)) of_process (is_function_at of_process (plain_routine r)) (own_of (plain_routine r))
        (reaches-inside g (routine_scope r) (process_site g before p after) (in-routine r) (reaches-inside g (process_scope p) (program_site g before (process p ∷ after)) (in-process p) (reaches-program g before _ is))) (entries-program g apart);
  };
  routines_of_program = program_routine_mirrors g written apart known p hidden;
  entries = entry_mirrors g written apart known p hidden;
}
  where
    listed : In g.decls (process p)
    listed = contains-in _ _ contained

    hidden : (r : Routine Place) → In g.decls (routine r) → named routine_called r.name p.routines ≡ None
    hidden = none-hidden g found names_listed p listed

-- where names stand apart, so do monitors
pub texts_mirrored : (g : Prog Place) → StandApart g → IsWritten g → NamesFound g → NamesListed g → ThingsKnown g → (p : Process Place) → Contains g.decls (process p) → AreMirrored g p
texts_mirrored g apart written found names_listed known p contained = mirrored g written (monitors-apart g apart) found names_listed known p contained
