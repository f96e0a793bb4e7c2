-- The names of a checked program stand apart.
use Rattle.std.proofs.Common.{◌≡◌, ℕ, List, [], ◌∷◌, map, Some, None, inr, ap, sym, ◌∙◌, subst}
use Rattle.std.specs.Prelude.{All, option_map, slice_get}
use Rattle.base.proofs.Lists.{one_of}
use Rattle.syntax_tree.specs.Plain as plain_of
use Rattle.syntax_tree.specs.Plain.{Name}
use Rattle.syntax_tree.specs.Placed.{Routine, Monitor, Process, monitor, process, Prog, plain, plain_routine, plain_process}
use Rattle.syntax_tree.specs.Parts.{program_routines}
use Rattle.syntax_tree.specs.declared.place.Place.{Place}
use Rattle.static_names.specs.Occurrences.{declares, names, entries_at, closes, program_name, var_name, routine_name, member_name, entry_name, process_scope, process_inner, monitor_scope, monitor_inner}
use Rattle.static_names.specs.Reach.{first}
use Rattle.source_semantics.specs.Names.{named, routines, monitors, processes}
use Rattle.source_semantics.specs.Run.{of_program, of_monitor}
use Rattle.static_semantics.specs.WellFormed.{RoutineFits}
use Rattle.static_semantics.specs.Mirrors.{program_site, process_site, monitor_site, monitors_in}
use Rattle.static_semantics.specs.Static.{IsChecked}
use Rattle.wellformed_law.proofs.Members.{In, in-contains}
use Rattle.wellformed_law.proofs.Lookups.{named-map}
use Rattle.wellformed_law.proofs.ProgramScope.{routine_called, none-hidden, split-in, routines-plain}
use Rattle.wellformed_law.proofs.EntryNames.{monitors-apart}
use Rattle.wellformed_law.proofs.Mirrored.{program_routine_mirrors, entry_mirrors}
use Rattle.wellformed_law.proofs.WellformedLaw.{Laws}
use Rattle.wellformed_law.proofs.Standing.{monitor_at}
use Rattle.wellformed_law.proofs.ProcessesFit.{shared_fit, entries_fit}
use Rattle.wellformed_law.proofs.WellFormed.{RuleLaws, laws_of}
use Rattle.codegen_law.specs.Kept.{AllFound, NamesDiffer}
use Rattle.codegen_law.proofs.NameNumbers.{found_name, found_there}
use Rattle.codegen_law.specs.Ruled.{NamesApart}
use Rattle.built_image_law.proofs.Differ.{Differ, differ_behind, scope_differs, DeclsDiffer, decls_differ, differ_found, program_found}
use Rattle.built_image_law.proofs.Standing.{mapped_at, routine_at, process_at, monitor_at as monitor_placed}
use Rattle.built_image_law.proofs.Shared.{nobody, nothing_hidden, calls_program}

-- routines that are found in the placed tree are found in the plain one
mapped_found : (rs : List (Routine Place)) → ((r : Routine Place) → In rs r → named routine_called r.name rs ≡ Some r) → AllFound (map plain_routine rs)
mapped_found rs found j r e =
    let p = mapped_at plain_routine rs j r e in
    subst (λ q. named (λ k. k.name) q.name (map plain_routine rs) ≡ Some q) p.is
    (named-map plain_routine (λ k. k.name) p.one.name rs ∙ ap (option_map plain_routine) (found p.one p.stands))

module _ (g : Prog Place) (l : Laws g) where
  program_differs : DeclsDiffer g.decls
  program_differs =
      decls_differ (λ place. first (entries_at g.decls place)) (program_name g ∷ []) g.decls (closes g.close g.close_place g.name ∷ [])
      (λ n q t i. l.found.free n q t (in-contains (names g) (declares n q t) (inr i)))

  process_differs : (p : Process Place) → In g.decls (process p) → Differ (map routine_name p.routines)
  process_differs p i =
      let s = split-in g.decls (process p) i in
      differ_behind (map var_name p.vars) (map routine_name p.routines)
      (scope_differs (program_site g s.before (process p ∷ s.after)).means [] (process_scope p) (process_inner (process_site g s.before p s.after) p [])
      (λ n q t j. l.found.free n q t (l.all_names s.before (process p) s.after s.is (declares n q t) (in-contains _ _ j))))

  monitor_differs : (m : Monitor Place) → In g.decls (monitor m) → Differ (map entry_name m.entries)
  monitor_differs m i =
      let s = split-in g.decls (monitor m) i in
      differ_behind (map member_name m.members) (map entry_name m.entries)
      (scope_differs (program_site g s.before (monitor m ∷ s.after)).means [] (monitor_scope m) (monitor_inner (monitor_site g s.before m s.after) m [])
      (λ n q t j. l.found.free n q t (l.all_names s.before (monitor m) s.after s.is (declares n q t) (in-contains _ _ j))))

  program_all : AllFound (routines (plain g))
  program_all j r e =
      let p = routine_at g.decls j r e in
      subst (λ q. named (λ k. k.name) q.name (routines (plain g)) ≡ Some q) p.is
      (ap (named (λ k. k.name) p.one.name) (routines-plain g.decls)
      ∙ (named-map plain_routine (λ k. k.name) p.one.name (program_routines g.decls) ∙ ap (option_map plain_routine) (program_found g.decls program_differs p.one p.stands)))

  names_differ : NamesDiffer (plain g)
  names_differ = record {
    program = program_all;
    process = λ k p e.
        let q = process_at g.decls k p e in
        subst (λ z. AllFound z.routines) q.is (mapped_found q.one.routines (λ r i. differ_found routine_name q.one.routines (process_differs q.one q.stands) r i));
    monitor = λ k m e.
        let q = monitor_placed g.decls k m e in
        subst (λ z. AllFound z.entries) q.is (mapped_found q.one.entries (λ r i. differ_found entry_name q.one.entries (monitor_differs q.one q.stands) r i));
  }

  names_hidden : (k : ℕ) (p : plain_of.Process) (f : Name) (r : plain_of.Routine) → slice_get (processes (plain g)) k ≡ Some p → named (λ x. x.name) f (routines (plain g)) ≡ Some r → named (λ x. x.name) f p.routines ≡ None
  names_hidden k p f r at found =
      let q = process_at g.decls k p at in
      let j = found_there f (routines (plain g)) r found in
      let s = routine_at g.decls j.0 r j.1 in
      let name : s.one.name ≡ f = ap (λ (z : plain_of.Routine). z.name) s.is ∙ found_name f (routines (plain g)) r found in
      subst (λ z. named (λ x. x.name) f z.routines ≡ None) q.is
      (named-map plain_routine (λ x. x.name) f q.one.routines
      ∙ ap (option_map plain_routine) (subst (λ z. named routine_called z q.one.routines ≡ None) name (none-hidden g l.found l.all_names q.one q.stands s.one s.stands)))

  -- ---- calls

  shared_all : All (RoutineFits (plain g) (plain_process nobody) of_program) (routines (plain g))
  shared_all =
      subst (λ rs. All (RoutineFits (plain g) (plain_process nobody) of_program) rs) (sym (routines-plain g.decls))
      (shared_fit g l nobody (program_routine_mirrors g l.written (monitors-apart g l.apart) l.things nobody (nothing_hidden g.decls)))

  entries_all : (k : ℕ) (m : plain_of.Monitor) → slice_get (monitors (plain g)) k ≡ Some m → All (RoutineFits (plain g) (plain_process nobody) (of_monitor k)) m.entries
  entries_all k m e =
      let a = monitor_at g.decls k m e in
      subst (λ n. All (RoutineFits (plain g) (plain_process nobody) (of_monitor n)) m.entries) a.number
      (subst (λ z. All (RoutineFits (plain g) (plain_process nobody) (of_monitor (monitors_in a.before))) z.entries) a.same
      (entries_fit g l nobody (entry_mirrors g l.written (monitors-apart g l.apart) l.things nobody (nothing_hidden g.decls)) a.before a.one a.after a.is))

  pub apart : NamesApart (plain g)
  apart = record {
    differ = names_differ;
    apart = names_hidden;
    routine_calls_program = λ j r e. calls_program (plain g) of_program r (one_of (RoutineFits (plain g) (plain_process nobody) of_program) (routines (plain g)) j r shared_all e);
    entry_calls_program = λ m k j r at e. calls_program (plain g) (of_monitor m) r (one_of (RoutineFits (plain g) (plain_process nobody) (of_monitor m)) k.entries j r (entries_all m k at) e);
  }

pub names_apart : RuleLaws → (g : Prog Place) → IsChecked g → NamesApart (plain g)
names_apart laws g is = apart g (laws_of laws g is)
