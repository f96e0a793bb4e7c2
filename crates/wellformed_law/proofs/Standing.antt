-- Where the processes, routines and monitors of a program stand among its declarations.
use Rattle.std.proofs.Common.{◌≡◌, ℕ, zero, suc, Bool, List, [], ◌∷◌, ◌++◌, map, Some, ◌⊎◌, inl, inr, refl, ap, ◌∙◌, subst}
use Rattle.std.specs.Prelude.{Contains, filter_map, slice_get}
use Rattle.std.proofs.lemmas.Option.{none-some, same_Some}
use Rattle.base.proofs.Members.{at_front, behind, none_in, front_or_behind}
use Rattle.syntax_tree.specs.Plain as plain_of
use Rattle.syntax_tree.specs.Placed.{Routine, Monitor, Process, Decl, constant, device, event, routine, monitor, process, plain_monitor, plain_process, plain_decl}
use Rattle.syntax_tree.specs.Parts.{program_routines, processes, monitors}
use Rattle.syntax_tree.specs.declared.place.Place.{Place}
use Rattle.static_names.specs.Reach.{Site}
use Rattle.static_names.specs.Occurrences.{Occurrence, routine_names, routines_names}
use Rattle.static_declarations.specs.Parts.{Part, routine_parts, routines_parts}
use Rattle.static_numbers.specs.Types.{Bounds, decls_bounds, decl_bounds, routine_bounds, routines_bounds}
use Rattle.source_semantics.specs.Names.{monitor_in, process_in}
use Rattle.static_semantics.specs.Mirrors.{monitors_in}
use Rattle.wellformed_law.proofs.Lists.{Within, front, rest}
use Rattle.wellformed_law.proofs.Adding.{routine_adds, routine_parts_add, routine_bounds_add, decl_bounds_add}

-- ---- plain lists

pub plain_processes : (ds : List (Decl Place)) → filter_map process_in (map plain_decl ds) ≡ map plain_process (processes ds)
plain_processes [] = refl
plain_processes (constant n p k ∷ ds) = plain_processes ds
plain_processes (device n p is_out ∷ ds) = plain_processes ds
plain_processes (event n p ∷ ds) = plain_processes ds
plain_processes (routine r ∷ ds) = plain_processes ds
plain_processes (monitor m ∷ ds) = plain_processes ds
plain_processes (process p ∷ ds) = ap (λ ps. plain_process p ∷ ps) (plain_processes ds)

-- ---- from the lists to the declarations

moved : (d e : Decl Place) (ds : List (Decl Place)) → Contains ds e → Contains (d ∷ ds) e
moved d e ds h = behind d ds e h

chosen : {X : Type 0} (f : X → Decl Place) (y x : X) (xs : List X) (ds : List (Decl Place)) → (Contains xs x → Contains ds (f x)) → (y ≡ x) ⊎ Contains xs x → Contains (f y ∷ ds) (f x)
chosen f y x xs ds again (inl e) = subst (λ z. Contains (f y ∷ ds) (f z)) e (at_front (f y) ds)
chosen f y x xs ds again (inr m) = behind (f y) ds (f x) (again m)

pub process_declared : (ds : List (Decl Place)) (p : Process Place) → Contains (processes ds) p → Contains ds (process p)
process_declared [] p h = absurd (none_in p h)
process_declared (constant n q k ∷ ds) p h = moved _ _ ds (process_declared ds p h)
process_declared (device n q is_out ∷ ds) p h = moved _ _ ds (process_declared ds p h)
process_declared (event n q ∷ ds) p h = moved _ _ ds (process_declared ds p h)
process_declared (routine r ∷ ds) p h = moved _ _ ds (process_declared ds p h)
process_declared (monitor m ∷ ds) p h = moved _ _ ds (process_declared ds p h)
process_declared (process q ∷ ds) p h = chosen (λ x. process x) q p (processes ds) ds (process_declared ds p) (front_or_behind q (processes ds) p h)

pub monitor_declared : (ds : List (Decl Place)) (m : Monitor Place) → Contains (monitors ds) m → Contains ds (monitor m)
monitor_declared [] m h = absurd (none_in m h)
monitor_declared (constant n q k ∷ ds) m h = moved _ _ ds (monitor_declared ds m h)
monitor_declared (device n q is_out ∷ ds) m h = moved _ _ ds (monitor_declared ds m h)
monitor_declared (event n q ∷ ds) m h = moved _ _ ds (monitor_declared ds m h)
monitor_declared (routine r ∷ ds) m h = moved _ _ ds (monitor_declared ds m h)
monitor_declared (monitor k ∷ ds) m h = chosen (λ x. monitor x) k m (monitors ds) ds (monitor_declared ds m) (front_or_behind k (monitors ds) m h)
monitor_declared (process q ∷ ds) m h = moved _ _ ds (monitor_declared ds m h)

pub routine_declared : (ds : List (Decl Place)) (r : Routine Place) → Contains (program_routines ds) r → Contains ds (routine r)
routine_declared [] r h = absurd (none_in r h)
routine_declared (constant n q k ∷ ds) r h = moved _ _ ds (routine_declared ds r h)
routine_declared (device n q is_out ∷ ds) r h = moved _ _ ds (routine_declared ds r h)
routine_declared (event n q ∷ ds) r h = moved _ _ ds (routine_declared ds r h)
routine_declared (routine s ∷ ds) r h = chosen (λ x. routine x) s r (program_routines ds) ds (routine_declared ds r) (front_or_behind s (program_routines ds) r h)
routine_declared (monitor m ∷ ds) r h = moved _ _ ds (routine_declared ds r h)
routine_declared (process q ∷ ds) r h = moved _ _ ds (routine_declared ds r h)

-- the monitor of a number, and how many stand before it
pub record MonitorAt (ds : List (Decl Place)) (k : ℕ) (m : plain_of.Monitor) : Type 0 where
  pub before : List (Decl Place)
  pub one : Monitor Place
  pub after : List (Decl Place)
  pub is : ds ≡ before ++ monitor one ∷ after
  pub number : monitors_in before ≡ k
  pub same : plain_monitor one ≡ m

passed_by : (d : Decl Place) (ds : List (Decl Place)) (k : ℕ) (m : plain_of.Monitor) → ((before : List (Decl Place)) → monitors_in (d ∷ before) ≡ monitors_in before) → MonitorAt ds k m → MonitorAt (d ∷ ds) k m
passed_by d ds k m none a = record { before = d ∷ a.before; one = a.one; after = a.after; is = ap (λ es. d ∷ es) a.is; number = none a.before ∙ a.number; same = a.same }

counted_by : (q : Monitor Place) (ds : List (Decl Place)) (k : ℕ) (m : plain_of.Monitor) → MonitorAt ds k m → MonitorAt (monitor q ∷ ds) (suc k) m
counted_by q ds k m a = record { before = monitor q ∷ a.before; one = a.one; after = a.after; is = ap (λ es. monitor q ∷ es) a.is; number = ap suc a.number; same = a.same }

pub monitor_at : (ds : List (Decl Place)) (k : ℕ) (m : plain_of.Monitor) → slice_get (filter_map monitor_in (map plain_decl ds)) k ≡ Some m → MonitorAt ds k m
monitor_at [] k m e = absurd (none-some m e)
monitor_at (constant n q c ∷ ds) k m e = passed_by (constant n q c) ds k m (λ b. refl) (monitor_at ds k m e)
monitor_at (device n q is_out ∷ ds) k m e = passed_by (device n q is_out) ds k m (λ b. refl) (monitor_at ds k m e)
monitor_at (event n q ∷ ds) k m e = passed_by (event n q) ds k m (λ b. refl) (monitor_at ds k m e)
monitor_at (routine r ∷ ds) k m e = passed_by (routine r) ds k m (λ b. refl) (monitor_at ds k m e)
monitor_at (process q ∷ ds) k m e = passed_by (process q) ds k m (λ b. refl) (monitor_at ds k m e)
monitor_at (monitor q ∷ ds) zero m e = record { before = []; one = q; after = ds; is = refl; number = refl; same = same_Some (plain_monitor q) m e }
monitor_at (monitor q ∷ ds) (suc k) m e = counted_by q ds k m (monitor_at ds k m e)

-- ---- routines among others

pub names_of_routine : (s : Site) (rs : List (Routine Place)) (ys : List Occurrence) → Within (routines_names s rs []) ys → (r : Routine Place) → Contains rs r → Within (routine_names s r []) ys
names_of_routine s [] ys w r h = absurd (none_in r h)
names_of_routine s (q ∷ rs) ys w r h = by (names_of_routine s rs ys (rest ys (routine_adds s q) (routines_names s rs []) w) r) (front_or_behind q rs r h)
  where
    by : (Contains rs r → Within (routine_names s r []) ys) → (q ≡ r) ⊎ Contains rs r → Within (routine_names s r []) ys
    by again (inl e) = subst (λ z. Within (routine_names s z []) ys) e (front ys (routine_adds s q) (routines_names s rs []) w)
    by again (inr m) = again m

pub parts_of_routine : (is_entry : Bool) (rs : List (Routine Place)) (ys : List Part) → Within (routines_parts is_entry rs []) ys → (r : Routine Place) → Contains rs r → Within (routine_parts is_entry r []) ys
parts_of_routine b [] ys w r h = absurd (none_in r h)
parts_of_routine b (q ∷ rs) ys w r h = by (parts_of_routine b rs ys (rest ys (routine_parts_add b q) (routines_parts b rs []) w) r) (front_or_behind q rs r h)
  where
    by : (Contains rs r → Within (routine_parts b r []) ys) → (q ≡ r) ⊎ Contains rs r → Within (routine_parts b r []) ys
    by again (inl e) = subst (λ z. Within (routine_parts b z []) ys) e (front ys (routine_parts_add b q) (routines_parts b rs []) w)
    by again (inr m) = again m

pub bounds_of_routine : (rs : List (Routine Place)) (ys : List Bounds) → Within (routines_bounds rs []) ys → (r : Routine Place) → Contains rs r → Within (routine_bounds r []) ys
bounds_of_routine [] ys w r h = absurd (none_in r h)
bounds_of_routine (q ∷ rs) ys w r h = by (bounds_of_routine rs ys (rest ys (routine_bounds_add q) (routines_bounds rs []) w) r) (front_or_behind q rs r h)
  where
    by : (Contains rs r → Within (routine_bounds r []) ys) → (q ≡ r) ⊎ Contains rs r → Within (routine_bounds r []) ys
    by again (inl e) = subst (λ z. Within (routine_bounds z []) ys) e (front ys (routine_bounds_add q) (routines_bounds rs []) w)
    by again (inr m) = again m

-- the bounds in a declaration are those of the program
pub bounds_of_decl : (ds : List (Decl Place)) (ys : List Bounds) → Within (decls_bounds ds []) ys → (d : Decl Place) → Contains ds d → Within (decl_bounds d []) ys
bounds_of_decl [] ys w d h = absurd (none_in d h)
bounds_of_decl (q ∷ ds) ys w d h = by (bounds_of_decl ds ys (rest ys (decl_bounds_add q) (decls_bounds ds []) w) d) (front_or_behind q ds d h)
  where
    by : (Contains ds d → Within (decl_bounds d []) ys) → (q ≡ d) ⊎ Contains ds d → Within (decl_bounds d []) ys
    by again (inl e) = subst (λ z. Within (decl_bounds z []) ys) e (front ys (decl_bounds_add q) (decls_bounds ds []) w)
    by again (inr m) = again m
