-- A program has no more than it may have.
use Rattle.std.proofs.Common.{◌≡◌, ◌≤◌, ℕ, zero, suc, ◌+◌, false, List, [], ◌∷◌, ◌++◌, map, length, length-append, None, refl, ap, sym, ◌∙◌, subst, arith}
use Rattle.std.specs.Prelude.{filter_map, sum_by, nat_lt}
use Rattle.std.proofs.lemmas.Option.{none-some}
use Rattle.std.proofs.lemmas.Bool.Decides.{nat_tests}
use Rattle.std.proofs.lemmas.List.{length-map}
use Rattle.syntax_tree.specs.Plain.{Name}
use Rattle.syntax_tree.specs.Plain as plain_of
use Rattle.syntax_tree.specs.Placed.{Kind, scalar, array, Var, Member, variable_member, condition_member, Monitor, Process, Decl, constant, device, event, routine, monitor, process, Prog, plain, plain_kind, plain_var, plain_member, plain_routine, plain_monitor, plain_process, plain_decl}
use Rattle.syntax_tree.specs.declared.place.Place.{Place}
use Rattle.static_declarations.specs.Values.{value}
use Rattle.syntax_tree.specs.Parts.{processes, events}
use Rattle.syntax_tree.specs.Parts as tree
use Rattle.static_numbers.specs.Counts as limit
use Rattle.source_semantics.specs.Names.{device_in, event_in, monitor_in, process_in, variable_in, condition_in, conditions_of, condition_count, routines_in}
use Rattle.static_semantics.specs.WellFormed.{kind_size, vars_words, CountsFit}
use Rattle.wellformed_law.proofs.Lists.{sum_cons}
use Rattle.wellformed_law.proofs.WellformedLaw.{Laws}
use Rattle.wellformed_law.proofs.Standing.{plain_processes}
use Rattle.wellformed_law.proofs.ProgramScope.{monitors-plain}
use Rattle.wellformed_law.proofs.Basics.{not_held}

-- nothing at the place past the last
few : (most : ℕ) (places : List Place) → limit.one_too_many most places ≡ None → length places ≤ most
few zero [] e = omega arith
few zero (p ∷ places) e = absurd (none-some p (sym e))
few (suc most) [] e = omega arith
few (suc most) (p ∷ places) e = let l = few most places e in omega arith

same_few : (most : ℕ) (places : List Place) (n : ℕ) → n ≡ length places → limit.one_too_many most places ≡ None → n ≤ most
same_few most places n same e = let l = few most places e in omega arith

process_count : (ds : List (Decl Place)) → length (filter_map process_in (map plain_decl ds)) ≡ length (limit.process_places ds)
process_count ds = ap length (plain_processes ds) ∙ length-map (processes ds) plain_process ∙ sym (length-map (processes ds) (λ p. p.place))

monitor_count : (ds : List (Decl Place)) → length (filter_map monitor_in (map plain_decl ds)) ≡ length (limit.monitor_places ds)
monitor_count ds = ap length (monitors-plain ds) ∙ length-map (tree.monitors ds) plain_monitor ∙ sym (length-map (tree.monitors ds) (λ m. m.place))

device_count : (ds : List (Decl Place)) → length (filter_map device_in (map plain_decl ds)) ≡ length (tree.devices ds)
device_count [] = refl
device_count (constant n p k ∷ ds) = device_count ds
device_count (device n p is_out ∷ ds) = ap suc (device_count ds)
device_count (event n p ∷ ds) = device_count ds
device_count (routine r ∷ ds) = device_count ds
device_count (monitor m ∷ ds) = device_count ds
device_count (process p ∷ ds) = device_count ds

event_count : (ds : List (Decl Place)) → length (filter_map event_in (map plain_decl ds)) ≡ length (events ds)
event_count [] = refl
event_count (constant n p k ∷ ds) = event_count ds
event_count (device n p is_out ∷ ds) = event_count ds
event_count (event n p ∷ ds) = ap suc (event_count ds)
event_count (routine r ∷ ds) = event_count ds
event_count (monitor m ∷ ds) = event_count ds
event_count (process p ∷ ds) = event_count ds

-- ---- conditions

member_conditions : (ms : List (Member Place)) → length (filter_map condition_in (map plain_member ms)) ≡ length (limit.member_conditions ms)
member_conditions [] = refl
member_conditions (variable_member v ∷ ms) = member_conditions ms
member_conditions (condition_member name p ∷ ms) = ap suc (member_conditions ms)

conditions_in : (ms : List (Monitor Place)) → condition_count (map plain_monitor ms) ≡ length (limit.conditions ms)
conditions_in [] = refl
conditions_in (m ∷ ms) = let e = member_conditions m.members in let h = conditions_in ms in
    sum_cons (λ k. length (conditions_of k)) (plain_monitor m) (map plain_monitor ms) ∙ omega (arith, e, h, length-append (limit.member_conditions m.members) (limit.conditions ms))

-- ---- routines

routines_of : (ds : List (Decl Place)) → sum_by routines_in (map plain_decl ds) ≡ length (limit.routine_places ds)
routines_of [] = refl
routines_of (constant n p k ∷ ds) = let h = routines_of ds in sum_cons routines_in (plain_decl (constant n p k)) (map plain_decl ds) ∙ omega (arith, h)
routines_of (device n p is_out ∷ ds) = let h = routines_of ds in sum_cons routines_in (plain_decl (device n p is_out)) (map plain_decl ds) ∙ omega (arith, h)
routines_of (event n p ∷ ds) = let h = routines_of ds in sum_cons routines_in (plain_decl (event n p)) (map plain_decl ds) ∙ omega (arith, h)
routines_of (routine r ∷ ds) = let h = routines_of ds in sum_cons routines_in (plain_decl (routine r)) (map plain_decl ds) ∙ omega (arith, h)
routines_of (monitor m ∷ ds) = let h = routines_of ds in sum_cons routines_in (plain_decl (monitor m)) (map plain_decl ds)
    ∙ omega (arith, h, length-map m.entries plain_routine, length-map (m.entries ++ tree.routines ds) (λ r. r.place), length-map (tree.routines ds) (λ r. r.place), length-append m.entries (tree.routines ds))
routines_of (process p ∷ ds) = let h = routines_of ds in sum_cons routines_in (plain_decl (process p)) (map plain_decl ds)
    ∙ omega (arith, h, length-map p.routines plain_routine, length-map (p.routines ++ tree.routines ds) (λ r. r.place), length-map (tree.routines ds) (λ r. r.place), length-append p.routines (tree.routines ds))

module _ (g : Prog Place) where
  -- ---- words

  same_kind_words : (k : Kind Place) → kind_size (plain g) (plain_kind k) ≡ limit.placed_kind_size (value g) k
  same_kind_words (scalar s) = refl
  same_kind_words (array low high s) = refl

  same_vars_words : (vs : List (Var Place)) → vars_words (plain g) (map plain_var vs) ≡ limit.vars_words (value g) vs
  same_vars_words [] = refl
  same_vars_words (v ∷ vs) = let e = same_kind_words v.kind in let h = same_vars_words vs in
      sum_cons (λ w. kind_size (plain g) w.kind) (plain_var v) (map plain_var vs) ∙ omega (arith, e, h)

  same_members_words : (ms : List (Member Place)) → vars_words (plain g) (filter_map variable_in (map plain_member ms)) ≡ limit.members_words (value g) ms
  same_members_words [] = refl
  same_members_words (variable_member v ∷ ms) = let e = same_kind_words v.kind in let h = same_members_words ms in
      sum_cons (λ w. kind_size (plain g) w.kind) (plain_var v) (filter_map variable_in (map plain_member ms)) ∙ omega (arith, e, h)
  same_members_words (condition_member name p ∷ ms) = same_members_words ms

  abbrev of_processes : List plain_of.Process → ℕ
  of_processes ps = sum_by (λ p. vars_words (plain g) p.vars) ps

  abbrev of_monitors : List plain_of.Monitor → ℕ
  of_monitors ms = sum_by (λ m. vars_words (plain g) (filter_map variable_in m.members)) ms

  same_words : (ds : List (Decl Place)) → of_processes (filter_map process_in (map plain_decl ds)) + of_monitors (filter_map monitor_in (map plain_decl ds)) ≡ limit.words (value g) ds
  same_words [] = refl
  same_words (constant n p k ∷ ds) = same_words ds
  same_words (device n p is_out ∷ ds) = same_words ds
  same_words (event n p ∷ ds) = same_words ds
  same_words (routine r ∷ ds) = same_words ds
  same_words (monitor m ∷ ds) = omega (arith, same_words ds, same_members_words m.members, sum_cons (λ k. vars_words (plain g) (filter_map variable_in k.members)) (plain_monitor m) (filter_map monitor_in (map plain_decl ds)))
  same_words (process p ∷ ds) = omega (arith, same_words ds, same_vars_words p.vars, sum_cons (λ k. vars_words (plain g) k.vars) (plain_process p) (filter_map process_in (map plain_decl ds)))

  few_words : (n : ℕ) → nat_lt 1048576 n ≡ false → n ≤ 1048576
  few_words n e = grind (arith, nat_tests)

  one : (ps : List (Process Place)) → limit.at_none g.place ps ≡ None → 1 ≤ length ps
  one [] e = absurd (none-some g.place (sym e))
  one (p ∷ ps) e = omega arith

  pub counts_fit : Laws g → CountsFit (plain g)
  counts_fit l = record {
    one_process = let h = one (processes g.decls) l.limits.a_process in omega (arith, h, process_count g.decls, length-map (processes g.decls) (λ p. p.place));
    few_processes = same_few 64 (limit.process_places g.decls) (length (filter_map process_in (map plain_decl g.decls))) (process_count g.decls) l.limits.few_processes;
    few_monitors = same_few 64 (limit.monitor_places g.decls) (length (filter_map monitor_in (map plain_decl g.decls))) (monitor_count g.decls) l.limits.few_monitors;
    few_devices = same_few 64 (tree.devices g.decls) (length (filter_map device_in (map plain_decl g.decls))) (device_count g.decls) l.limits.few_devices;
    few_events = same_few 64 (events g.decls) (length (filter_map event_in (map plain_decl g.decls))) (event_count g.decls) l.limits.few_events;
    few_conditions = same_few 256 (limit.conditions (tree.monitors g.decls)) (condition_count (filter_map monitor_in (map plain_decl g.decls))) (ap condition_count (monitors-plain g.decls) ∙ conditions_in (tree.monitors g.decls)) l.limits.few_conditions;
    few_routines = same_few 512 (limit.routine_places g.decls) (sum_by routines_in (map plain_decl g.decls)) (routines_of g.decls) l.limits.few_routines;
    few_words = subst (λ n. n ≤ 1048576) (sym (same_words g.decls)) (few_words (limit.words (value g) g.decls) (not_held (nat_lt 1048576 (limit.words (value g) g.decls)) g.place l.limits.few_words));
  }
