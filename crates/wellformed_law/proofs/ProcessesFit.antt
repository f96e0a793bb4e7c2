-- The processes of a program fit with all text that they may run, and so do its monitors.
use Rattle.std.proofs.Common.{◌≡◌, ℕ, true, false, List, [], ◌∷◌, ◌++◌, map, Some, None, ◌⊎◌, inl, inr, refl, subst}
use Rattle.std.specs.Prelude.{Contains, All, filter_map}
use Rattle.std.proofs.lemmas.List.Elements.{All-contains}
use Rattle.base.proofs.Members.{front_or_behind, none_in}
use Rattle.syntax_tree.specs.Plain as plain_of
use Rattle.syntax_tree.specs.Placed.{Routine, Member, variable_member, condition_member, Monitor, Process, Decl, routine, monitor, process, Prog, plain, plain_decl, plain_routine, plain_monitor, plain_process}
use Rattle.syntax_tree.specs.Parts.{program_routines, processes, monitors}
use Rattle.syntax_tree.specs.declared.place.Place.{Place}
use Rattle.static_names.specs.declared.kind.Kind.TheVariants as kind_is
use Rattle.static_names.specs.Reach.{Site, inside}
use Rattle.static_names.specs.Occurrences.{Occurrence, closes, names, activation_names, vars_names, routines_names, stmts_names, optional_names, handler_names, routine_scope, process_scope, process_inner, monitor_scope, monitor_inner, var_name, routine_name, member_name, entry_name}
use Rattle.static_declarations.specs.Parts.{parts, stmts_parts, handler_parts, outside_loops}
use Rattle.static_declarations.specs.declared.home.StmtContext.TheVariants as home_is
use Rattle.static_numbers.specs.Types.{Bounds, decls_bounds, decl_bounds, routines_bounds}
use Rattle.static_numbers.specs.Processes.{handler_numbers, all_handled}
use Rattle.source_semantics.specs.Names.{constants, routine_in, monitor_in, process_in}
use Rattle.source_semantics.specs.Run.{of_program, of_process, of_monitor}
use Rattle.static_semantics.specs.Here.{in_routine, in_process}
use Rattle.static_semantics.specs.WellFormed.{RoutineFits, ProcessFits, MonitorFits}
use Rattle.static_semantics.specs.Written.{DeclWritten, RoutineWritten, ProcessWritten, MonitorWritten}
use Rattle.static_semantics.specs.Mirrors.{Mirrors, program_site, process_site, monitor_site, monitors_in}
use Rattle.wellformed_law.proofs.Lists.{each_map, same_members, in_split, Within, front, rest}
use Rattle.wellformed_law.proofs.Adding.{activation_adds, vars_add, members_add, routines_add, stmts_add, optional_adds, handler_adds, declarations_add, routines_parts_add, stmts_parts_add, vars_bounds_add, members_bounds_add}
use Rattle.wellformed_law.proofs.Declared.{Lacks, lacks_both, lacks_map}
use Rattle.wellformed_law.proofs.Constants.{Reaches, reaches_program, reaches_inside, reaches_monitor}
use Rattle.wellformed_law.proofs.WellformedLaw.{Laws, kept}
use Rattle.wellformed_law.proofs.TypesFit.{vars_fit, members_fit}
use Rattle.wellformed_law.proofs.Standing.{plain_processes, process_declared, monitor_declared, routine_declared, MonitorAt, monitor_at, names_of_routine, parts_of_routine, bounds_of_routine, bounds_of_decl}
use Rattle.wellformed_law.proofs.Texts.{routine_fits}
use Rattle.wellformed_law.proofs.Activations.{handler_numbers_add, activation_fits, handler_fits}
use Rattle.wellformed_law.proofs.Named.{Split, split-listed}
use Rattle.wellformed_law.proofs.ProgramScope.{monitors-plain, routines-plain}

no_constant_in_process : (p : Process Place) → Lacks kind_is.Constant (process_scope p)
no_constant_in_process p = lacks_both kind_is.Constant (map var_name p.vars) (map routine_name p.routines) (lacks_map kind_is.Constant var_name p.vars (λ v e. cc)) (lacks_map kind_is.Constant routine_name p.routines (λ v e. cc))

no_constant_member : (m : Member Place) → (member_name m).1.kind ≡ kind_is.Constant → ⊥
no_constant_member (variable_member v) e = cc
no_constant_member (condition_member name p) e = cc

no_constant_in_monitor : (m : Monitor Place) → Lacks kind_is.Constant (monitor_scope m)
no_constant_in_monitor m = lacks_both kind_is.Constant (map member_name m.members) (map entry_name m.entries) (lacks_map kind_is.Constant member_name m.members no_constant_member) (lacks_map kind_is.Constant entry_name m.entries (λ v e. cc))

numbers_of_handler : (ps : List (Process Place)) (p : Process Place) → Contains ps p → Within (handler_numbers p.handler []) (all_handled ps)
numbers_of_handler [] p h = absurd (none_in p h)
numbers_of_handler (q ∷ ps) p h = by (numbers_of_handler ps p) (front_or_behind q ps p h)
  where
    whole : Within (handler_numbers q.handler (all_handled ps)) (all_handled (q ∷ ps))
    whole x m = m

    by : (Contains ps p → Within (handler_numbers p.handler []) (all_handled ps)) → (q ≡ p) ⊎ Contains ps p → Within (handler_numbers p.handler []) (all_handled (q ∷ ps))
    by again (inl e) = subst (λ z. Within (handler_numbers z.handler []) (all_handled (q ∷ ps))) e (front (all_handled (q ∷ ps)) (handler_numbers_add q.handler) (all_handled ps) whole)
    by again (inr m) = λ x c. rest (all_handled (q ∷ ps)) (handler_numbers_add q.handler) (all_handled ps) whole x (again m x c)

-- the names in a process
pub record InProcess (g : Prog Place) (p : Process Place) (site : Site) : Type 0 where
  pub activation : Within (activation_names site p.activation []) (names g)
  pub vars : Within (vars_names site p.vars []) (names g)
  pub routines : Within (routines_names site p.routines []) (names g)
  pub body : Within (stmts_names site p.body []) (names g)
  pub handler : Within (optional_names (handler_names site) p.handler []) (names g)

module _ (g : Prog Place) (l : Laws g) where
  pub in_process_names : (before : List (Decl Place)) (p : Process Place) (after : List (Decl Place)) → g.decls ≡ before ++ process p ∷ after → InProcess g p (process_site g before p after)
  in_process_names before p after is = record {
    activation = front (names g) (activation_adds site p.activation) from_vars all;
    vars = front (names g) (vars_add site p.vars) from_routines below_activation;
    routines = front (names g) (routines_add site p.routines) from_body below_vars;
    body = front (names g) (stmts_add site p.body) from_handler below_routines;
    handler = front (names g) (optional_adds (handler_names site) (handler_adds site) p.handler) ends below_body;
  }
    where
      outer : Site
      outer = program_site g before (process p ∷ after)

      site : Site
      site = process_site g before p after

      ends : List Occurrence
      ends = closes p.close p.close_place p.name ∷ []

      from_handler : List Occurrence
      from_handler = optional_names (handler_names site) p.handler ends

      from_body : List Occurrence
      from_body = stmts_names site p.body from_handler

      from_routines : List Occurrence
      from_routines = routines_names site p.routines from_body

      from_vars : List Occurrence
      from_vars = vars_names site p.vars from_routines

      all : Within (activation_names site p.activation from_vars) (names g)
      all = rest (names g) (declarations_add outer.means [] (process_scope p)) (process_inner site p []) (l.all_names before (process p) after is)

      below_activation : Within from_vars (names g)
      below_activation = rest (names g) (activation_adds site p.activation) from_vars all

      below_vars : Within from_routines (names g)
      below_vars = rest (names g) (vars_add site p.vars) from_routines below_activation

      below_routines : Within from_body (names g)
      below_routines = rest (names g) (routines_add site p.routines) from_body below_vars

      below_body : Within from_handler (names g)
      below_body = rest (names g) (stmts_add site p.body) from_handler below_routines

  abbrev all_bounds : List Bounds
  all_bounds = decls_bounds g.decls []

  bounds_listed : (d : Decl Place) → Contains g.decls d → Within (decl_bounds d []) all_bounds
  bounds_listed d h = bounds_of_decl g.decls all_bounds (λ x m. m) d h

  -- the routines of the process, of the program and of monitors
  own_fit : (before : List (Decl Place)) (p : Process Place) (after : List (Decl Place)) → g.decls ≡ before ++ process p ∷ after → Contains g.decls (process p)
      → All (RoutineFits (plain g) (plain_process p) of_process) (map plain_routine p.routines)
  own_fit before p after is h = each_map (RoutineFits (plain g) (plain_process p) of_process) plain_routine p.routines
      (λ r m. routine_fits g l p of_process (process_site g before p after) r ((l.mirrored p h).routines_of_process before after r is m)
      (reaches_inside (constants (plain g)) (process_scope p) (program_site g before (process p ∷ after)) (no_constant_in_process p) (reaches_program g before (process p ∷ after) is))
      (All-contains RoutineWritten p.routines r w.routines m)
      (names_of_routine (process_site g before p after) p.routines (names g) (in_process_names before p after is).routines r m)
      (parts_of_routine false p.routines (parts g) (front (parts g) (routines_parts_add false p.routines) (stmts_parts (outside_loops home_is.Free) p.body (handler_parts p.handler [])) (l.all_parts before (process p) after is)) r m)
      (bounds_of_routine p.routines all_bounds (rest all_bounds (vars_bounds_add p.vars) (routines_bounds p.routines []) (bounds_listed (process p) h)) r m))
    where
      w : ProcessWritten p
      w = All-contains DeclWritten g.decls (process p) l.written h

  -- of every process as which the program's routines mirror themselves
  abbrev pub ProgramMirrors : Process Place → Type 0
  ProgramMirrors p = (before after : List (Decl Place)) (r : Routine Place) → g.decls ≡ before ++ routine r ∷ after
      → Mirrors g p (Some r.place) (inside (routine_scope r) (program_site g before (routine r ∷ after))) (in_routine (plain g) (plain_process p) of_program (plain_routine r))

  abbrev pub EntryMirrors : Process Place → Type 0
  EntryMirrors p = (before after : List (Decl Place)) (m : Monitor Place) (r : Routine Place) → g.decls ≡ before ++ monitor m ∷ after → Contains m.entries r
      → Mirrors g p (Some r.place) (inside (routine_scope r) (monitor_site g before m after)) (in_routine (plain g) (plain_process p) (of_monitor (monitors_in before)) (plain_routine r))

  pub shared_fit : (p : Process Place) → ProgramMirrors p → All (RoutineFits (plain g) (plain_process p) of_program) (map plain_routine (program_routines g.decls))
  shared_fit p mirrors = each_map (RoutineFits (plain g) (plain_process p) of_program) plain_routine (program_routines g.decls) (λ r m. one r (routine_declared g.decls r m))
    where
      one : (r : Routine Place) → Contains g.decls (routine r) → RoutineFits (plain g) (plain_process p) of_program (plain_routine r)
      one r m = let s = split-listed g.decls (routine r) m in
          routine_fits g l p of_program (program_site g s.before (routine r ∷ s.after)) r (mirrors s.before s.after r s.is)
          (reaches_program g s.before (routine r ∷ s.after) s.is) (All-contains DeclWritten g.decls (routine r) l.written m)
          (l.all_names s.before (routine r) s.after s.is) (l.all_parts s.before (routine r) s.after s.is) (bounds_listed (routine r) m)

  pub entries_fit : (p : Process Place) → EntryMirrors p → (before : List (Decl Place)) (m : Monitor Place) (after : List (Decl Place)) → g.decls ≡ before ++ monitor m ∷ after
      → All (RoutineFits (plain g) (plain_process p) (of_monitor (monitors_in before))) (map plain_routine m.entries)
  entries_fit p mirrors before m after is = each_map (RoutineFits (plain g) (plain_process p) (of_monitor (monitors_in before))) plain_routine m.entries
      (λ r c. routine_fits g l p (of_monitor (monitors_in before)) (monitor_site g before m after) r (mirrors before after m r is c)
      (reaches_monitor (constants (plain g)) m.place (monitor_scope m) (program_site g before (monitor m ∷ after)) (no_constant_in_monitor m) (reaches_program g before (monitor m ∷ after) is))
      (All-contains RoutineWritten m.entries r w.entries c)
      (names_of_routine (monitor_site g before m after) m.entries (names g) (front (names g) (routines_add (monitor_site g before m after) m.entries) (closes m.close m.close_place m.name ∷ []) below_members) r c)
      (parts_of_routine true m.entries (parts g) (l.all_parts before (monitor m) after is) r c)
      (bounds_of_routine m.entries all_bounds (rest all_bounds (members_bounds_add m.members) (routines_bounds m.entries []) (bounds_listed (monitor m) listed)) r c))
    where
      listed : Contains g.decls (monitor m)
      listed = in_split g.decls before after (monitor m) is

      w : MonitorWritten m
      w = All-contains DeclWritten g.decls (monitor m) l.written listed

      below_members : Within (routines_names (monitor_site g before m after) m.entries (closes m.close m.close_place m.name ∷ [])) (names g)
      below_members = rest (names g) (members_add (monitor_site g before m after) m.members) (routines_names (monitor_site g before m after) m.entries (closes m.close m.close_place m.name ∷ []))
          (rest (names g) (declarations_add (program_site g before (monitor m ∷ after)).means [] (monitor_scope m)) (monitor_inner (monitor_site g before m after) m []) (l.all_names before (monitor m) after is))

  monitor_fit : (m : Monitor Place) → Contains g.decls (monitor m) → MonitorFits (plain g) (plain_monitor m)
  monitor_fit m h = members_fit g l (monitor_site g s.before m s.after)
      (reaches_monitor (constants (plain g)) m.place (monitor_scope m) (program_site g s.before (monitor m ∷ s.after)) (no_constant_in_monitor m) (reaches_program g s.before (monitor m ∷ s.after) s.is))
      m.members w.members
      (front (names g) (members_add (monitor_site g s.before m s.after) m.members) (routines_names (monitor_site g s.before m s.after) m.entries (closes m.close m.close_place m.name ∷ []))
      (rest (names g) (declarations_add (program_site g s.before (monitor m ∷ s.after)).means [] (monitor_scope m)) (monitor_inner (monitor_site g s.before m s.after) m []) (l.all_names s.before (monitor m) s.after s.is)))
      (front all_bounds (members_bounds_add m.members) (routines_bounds m.entries []) (bounds_listed (monitor m) h))
    where
      s : Split g.decls (monitor m)
      s = split-listed g.decls (monitor m) h

      w : MonitorWritten m
      w = All-contains DeclWritten g.decls (monitor m) l.written h

  process_fit : (p : Process Place) → Contains (processes g.decls) p → ProcessFits (plain g) (plain_process p)
  process_fit p listed = record {
    activation = activation_fits g l s.before p s.after s.is reaches p.activation w.activation inside.activation (l.limits.frames p listed) (l.limits.deadlines p listed) (l.limits.firsts p listed);
    vars = vars_fit g l site reaches p.vars w.vars inside.vars (front all_bounds (vars_bounds_add p.vars) (routines_bounds p.routines []) (bounds_listed (process p) h));
    body = l.bodies p None site (in_process (plain g) (plain_process p)) (outside_loops home_is.Free) p.body (kept g l) mirrors (record { home = (refl, refl); loops = refl }) w.body inside.body
        (front (parts g) (stmts_parts_add (outside_loops home_is.Free) p.body) (handler_parts p.handler []) below_routines);
    handler = handler_fits g l p site mirrors reaches p.handler w.handler inside.handler (rest (parts g) (stmts_parts_add (outside_loops home_is.Free) p.body) (handler_parts p.handler []) below_routines) (numbers_of_handler (processes g.decls) p listed);
    own = own_fit s.before p s.after s.is h;
    shared = same_members (RoutineFits (plain g) (plain_process p) of_program) (filter_map routine_in (map plain_decl g.decls)) (map plain_routine (program_routines g.decls)) (routines-plain g.decls) (shared_fit p (l.mirrored p h).routines_of_program);
    entries = λ k m e. entries_at k m (monitor_at g.decls k m e);
    levels = l.levels p h;
  }
    where
      h : Contains g.decls (process p)
      h = process_declared g.decls p listed

      s : Split g.decls (process p)
      s = split-listed g.decls (process p) h

      site : Site
      site = process_site g s.before p s.after

      w : ProcessWritten p
      w = All-contains DeclWritten g.decls (process p) l.written h

      reaches : Reaches (constants (plain g)) site
      reaches = reaches_inside (constants (plain g)) (process_scope p) (program_site g s.before (process p ∷ s.after)) (no_constant_in_process p) (reaches_program g s.before (process p ∷ s.after) s.is)

      inside : InProcess g p site
      inside = in_process_names s.before p s.after s.is

      mirrors : Mirrors g p None site (in_process (plain g) (plain_process p))
      mirrors = (l.mirrored p h).bodies s.before s.after s.is

      below_routines : Within (stmts_parts (outside_loops home_is.Free) p.body (handler_parts p.handler [])) (parts g)
      below_routines = rest (parts g) (routines_parts_add false p.routines) (stmts_parts (outside_loops home_is.Free) p.body (handler_parts p.handler [])) (l.all_parts s.before (process p) s.after s.is)

      entries_at : (k : ℕ) (m : plain_of.Monitor) → MonitorAt g.decls k m → All (RoutineFits (plain g) (plain_process p) (of_monitor k)) m.entries
      entries_at k m a = subst (λ n. All (RoutineFits (plain g) (plain_process p) (of_monitor n)) m.entries) a.number
          (subst (λ z. All (RoutineFits (plain g) (plain_process p) (of_monitor (monitors_in a.before))) z.entries) a.same (entries_fit p (l.mirrored p h).entries a.before a.one a.after a.is))

  pub all_processes_fit : All (ProcessFits (plain g)) (filter_map process_in (map plain_decl g.decls))
  all_processes_fit = same_members (ProcessFits (plain g)) (filter_map process_in (map plain_decl g.decls)) (map plain_process (processes g.decls)) (plain_processes g.decls)
      (each_map (ProcessFits (plain g)) plain_process (processes g.decls) process_fit)

  pub all_monitors_fit : All (MonitorFits (plain g)) (filter_map monitor_in (map plain_decl g.decls))
  all_monitors_fit = same_members (MonitorFits (plain g)) (filter_map monitor_in (map plain_decl g.decls)) (map plain_monitor (monitors g.decls)) (monitors-plain g.decls)
      (each_map (MonitorFits (plain g)) plain_monitor (monitors g.decls) (λ m c. monitor_fit m (monitor_declared g.decls m c)))
