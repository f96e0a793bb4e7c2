-- Where the texts of a program stand: the process that runs each as well-formedness sees it, and what its calls find.
use Rattle.std.specs.Prelude.{◌≡◌, ◌≤◌, ℕ, true, List, [], ◌∷◌, Option, Some, None, slice_get, length, option_map}
use Rattle.std.proofs.Common.{refl, sym, ◌∙◌, ap, subst, arith}
use Rattle.std.proofs.lemmas.Option.{none-some, same_Some}
use Rattle.base.proofs.Lists.{one_of}
use Rattle.syntax_tree.specs.Plain.{Name, Routine, Monitor, Process, Program}
use Rattle.source_semantics.specs.Names.{named, routines, monitors, processes, monitor_number}
use Rattle.source_semantics.specs.Run.{Found, of_program, of_process, of_monitor, or_else, entry_name, routine_named, entry_named, entry_of as source_entry}
use Rattle.code_spec.specs.Layout.{Owner, by_program, by_process, by_monitor, home_of}
use Rattle.code_spec.specs.Numbering.{Text, routine_of, process_routines, routine_in, entry_of, entry_in, Called, calls_routine, calls_entry, routine_calls}
use Rattle.code_spec.specs.Memory.{Setting}
use Rattle.code_spec.specs.Proper.{found_of}
use Rattle.static_semantics.specs.WellFormed.{IsWellFormed, RoutineFits, ProcessFits}
use Rattle.codegen_law.proofs.NameNumbers.{IsText, found_there, of_list}
use Rattle.codegen_law.specs.Ruled.{AllOfProgram, NamesApart}
use Rattle.codegen_law.proofs.Mirror.{OwnerKnown}
use Rattle.codegen_law.specs.Called.{AllCalled}

-- what a call finds by the meaning is what it names in the code
pub record Named (in_code : Option Text) (found : Found) : Type 0 where
  pub text : Text
  pub is : in_code ≡ Some text
  pub same : found_of text ≡ found

-- ---- entries

pub entry_names : (g : Program) (mon en : Name) (x : Found) → entry_named g mon en ≡ Some x → Named (entry_in g mon en) x
entry_names g mon en x is = by (named (λ k. k.name) mon (monitors g)) is
  where
    found : (r : Option Routine) → option_map (λ y. record { home = of_monitor (monitor_number g mon); routine = y }) r ≡ Some x → Named (option_map (λ y. record { owner = by_monitor (monitor_number g mon); routine = y }) r) x
    found None h = absurd (none-some x h)
    found (Some r) h = record { text = record { owner = by_monitor (monitor_number g mon); routine = r }; is = refl; same = same_Some (record { home = of_monitor (monitor_number g mon); routine = r }) x h }

    by : (d : Option Monitor) → source_entry (monitor_number g mon) en d ≡ Some x → Named (entry_of (monitor_number g mon) d en) x
    by None h = absurd (none-some x h)
    by (Some k) h = found (named (λ y. y.name) en k.entries) h

-- ---- routines

-- in the text of a process
pub own_names : (g : Program) (k : ℕ) (p : Process) → slice_get (processes g) k ≡ Some p → (f : Name) (x : Found) → routine_named g p f ≡ Some x → Named (routine_in g (by_process k) f) x
own_names g k p at f x is =
    subst (λ q. Named (or_else (routine_of (by_process k) (process_routines q) f) (routine_of by_program (routines g) f)) x) (sym at) (by (named entry_name f p.routines) (named entry_name f (routines g)) is)
  where
    by : (a b : Option Routine) → or_else (option_map (λ r. record { home = of_process; routine = r }) a) (option_map (λ r. record { home = of_program; routine = r }) b) ≡ Some x
        → Named (or_else (option_map (λ r. record { owner = by_process k; routine = r }) a) (option_map (λ r. record { owner = by_program; routine = r }) b)) x
    by (Some r) b h = record { text = record { owner = by_process k; routine = r }; is = refl; same = same_Some (record { home = of_process; routine = r }) x h }
    by None (Some r) h = record { text = record { owner = by_program; routine = r }; is = refl; same = same_Some (record { home = of_program; routine = r }) x h }
    by None None h = absurd (none-some x h)

-- in the text of a routine of the program, or of an entry
pub shared_names : (g : Program) (p : Process) (f : Name) (x : Found) → routine_named g p f ≡ Some x → (r : Routine) → named (λ k. k.name) f (routines g) ≡ Some r → named (λ k. k.name) f p.routines ≡ None
    → Named (routine_of by_program (routines g) f) x
shared_names g p f x is r found apart = record {
  text = record { owner = by_program; routine = r };
  is = ap (λ y. option_map (λ k. record { owner = by_program; routine = k }) y) found;
  same = same_Some (record { home = of_program; routine = r }) x
      (sym (ap (λ y. or_else (option_map (λ k. record { home = of_process; routine = k }) y) (option_map (λ k. record { home = of_program; routine = k }) (named entry_name f (routines g)))) apart
      ∙ ap (λ y. option_map (λ k. record { home = of_program; routine = k }) y) found) ∙ is);
}

-- ---- what holds of a whole program

-- no image is asked for
abbrev pub setting_at : Program → ℕ → Process → Setting
setting_at g n p = record {
  image = record { over = 0; monitors = []; conditions = []; devices = []; routines = []; processes = []; code = [] };
  program = g;
  text = p;
  number = n;
  frame = 0;
  order = record { level = λ f. 0; runs = λ f. true };
}

-- what each call finds by the meaning is what it names in the code
abbrev pub Means : Program → Process → Owner → Called → Type 0
Means g p o (calls_routine f) = (x : Found) → routine_named g p f ≡ Some x → Named (routine_in g o f) x
Means g p o (calls_entry m e) = (x : Found) → entry_named g m e ≡ Some x → Named (entry_in g m e) x

pub own_means : (g : Program) (k : ℕ) (p : Process) → slice_get (processes g) k ≡ Some p → (cs : List Called) → AllCalled (Means g p (by_process k)) cs
own_means g k p at [] = tt
own_means g k p at (calls_routine f ∷ cs) = (own_names g k p at f, own_means g k p at cs)
own_means g k p at (calls_entry m e ∷ cs) = (entry_names g m e, own_means g k p at cs)

module _ (g : Program) (p : Process) (apart : (f : Name) (r : Routine) → named (λ x. x.name) f (routines g) ≡ Some r → named (λ x. x.name) f p.routines ≡ None) where
  pub program_means : (cs : List Called) → AllOfProgram g cs → AllCalled (Means g p by_program) cs
  program_means [] h = tt
  program_means (calls_routine f ∷ cs) h = (λ x is. shared_names g p f x is h.0.0 h.0.1 (apart f h.0.0 h.0.1), program_means cs h.1)
  program_means (calls_entry m e ∷ cs) h = (entry_names g m e, program_means cs h.1)

  pub monitor_means : (j : ℕ) (cs : List Called) → AllOfProgram g cs → AllCalled (Means g p (by_monitor j)) cs
  monitor_means j [] h = tt
  monitor_means j (calls_routine f ∷ cs) h = (λ x is. shared_names g p f x is h.0.0 h.0.1 (apart f h.0.0 h.0.1), monitor_means j cs h.1)
  monitor_means j (calls_entry m e ∷ cs) h = (entry_names g m e, monitor_means j cs h.1)

-- ---- texts

-- a process that runs the text: its own, or the first where it is the program's or an entry
pub record Stands (g : Program) (o : Owner) (r : Routine) : Type 0 where
  pub number : ℕ
  pub process : Process
  pub at : slice_get (processes g) number ≡ Some process
  pub known : OwnerKnown (setting_at g number process) o
  pub fits : RoutineFits g process (home_of o) r
  pub means : AllCalled (Means g process o) (routine_calls r)

module _ (g : Program) (form : IsWellFormed g) (names : NamesApart g) where
  pub process_fits : (k : ℕ) (p : Process) → slice_get (processes g) k ≡ Some p → ProcessFits g p
  process_fits k p at = one_of (λ q. ProcessFits g q) (processes g) k p form.processes_fit at

  -- there is a process
  pub first_process : (process : Process) × (slice_get (processes g) 0 ≡ Some process)
  first_process = by (processes g) form.counts_fit.one_process
    where
      by : (ps : List Process) → 1 ≤ length ps → (process : Process) × (slice_get ps 0 ≡ Some process)
      by [] h = absurd (omega arith)
      by (p ∷ ps) h = (p, refl)

  pub program_fits : (r : Routine) → named (λ k. k.name) r.name (routines g) ≡ Some r → RoutineFits g first_process.0 of_program r
  program_fits r is =
      let j : (j : ℕ) × (slice_get (routines g) j ≡ Some r) = found_there r.name (routines g) r is in
      one_of (λ y. RoutineFits g first_process.0 of_program y) (routines g) j.0 r (process_fits 0 first_process.0 first_process.1).shared j.1

  pub own_fits : (k : ℕ) (p : Process) (r : Routine) → slice_get (processes g) k ≡ Some p → named (λ x. x.name) r.name p.routines ≡ Some r → RoutineFits g p of_process r
  own_fits k p r at is =
      let j : (j : ℕ) × (slice_get p.routines j ≡ Some r) = found_there r.name p.routines r is in
      one_of (λ y. RoutineFits g p of_process y) p.routines j.0 r (process_fits k p at).own j.1

  pub entry_fits : (m : ℕ) (d : Monitor) (r : Routine) → slice_get (monitors g) m ≡ Some d → named (λ x. x.name) r.name d.entries ≡ Some r → RoutineFits g first_process.0 (of_monitor m) r
  entry_fits m d r at is =
      let j : (j : ℕ) × (slice_get d.entries j ≡ Some r) = found_there r.name d.entries r is in
      one_of (λ y. RoutineFits g first_process.0 (of_monitor m) y) d.entries j.0 r ((process_fits 0 first_process.0 first_process.1).entries m d at) j.1

  pub program_stands : (r : Routine) → named (λ k. k.name) r.name (routines g) ≡ Some r → Stands g by_program r
  program_stands r is =
      let j : (j : ℕ) × (slice_get (routines g) j ≡ Some r) = found_there r.name (routines g) r is in
      record {
        number = 0;
        process = first_process.0;
        at = first_process.1;
        known = tt;
        fits = program_fits r is;
        means = program_means g first_process.0 (λ f q found. names.apart 0 first_process.0 f q first_process.1 found) (routine_calls r) (names.routine_calls_program j.0 r j.1);
      }

  pub own_stands : (k : ℕ) (p : Process) (r : Routine) → slice_get (processes g) k ≡ Some p → named (λ x. x.name) r.name p.routines ≡ Some r → Stands g (by_process k) r
  own_stands k p r at is =
      record {
        number = k;
        process = p;
        at = at;
        known = refl;
        fits = own_fits k p r at is;
        means = own_means g k p at (routine_calls r);
      }

  pub entry_stands : (m : ℕ) (d : Monitor) (r : Routine) → slice_get (monitors g) m ≡ Some d → named (λ x. x.name) r.name d.entries ≡ Some r → Stands g (by_monitor m) r
  entry_stands m d r at is =
      let j : (j : ℕ) × (slice_get d.entries j ≡ Some r) = found_there r.name d.entries r is in
      record {
        number = 0;
        process = first_process.0;
        at = first_process.1;
        known = tt;
        fits = entry_fits m d r at is;
        means = monitor_means g first_process.0 (λ f q found. names.apart 0 first_process.0 f q first_process.1 found) m (routine_calls r) (names.entry_calls_program m d j.0 r at j.1);
      }

-- the list in which a text stands
pub data Listed (g : Program) (r : Routine) : Owner → Type 0 where
  of_the_program : named (λ k. k.name) r.name (routines g) ≡ Some r → Listed g r by_program
  of_a_process : (k : ℕ) (p : Process) → slice_get (processes g) k ≡ Some p → named (λ x. x.name) r.name p.routines ≡ Some r → Listed g r (by_process k)
  of_a_monitor : (m : ℕ) (d : Monitor) → slice_get (monitors g) m ≡ Some d → named (λ x. x.name) r.name d.entries ≡ Some r → Listed g r (by_monitor m)

pub is_listed : (g : Program) (o : Owner) (r : Routine) → IsText g (record { owner = o; routine = r }) → Listed g r o
is_listed g by_program r is = of_the_program (of_list by_program (routines g) r.name (record { owner = by_program; routine = r }) is).1
is_listed g (by_process k) r is = by (slice_get (processes g) k) refl is
  where
    by : (x : Option Process) → slice_get (processes g) k ≡ x → routine_of (by_process k) (process_routines x) r.name ≡ Some (record { owner = by_process k; routine = r }) → Listed g r (by_process k)
    by None at h = absurd (none-some (record { owner = by_process k; routine = r }) h)
    by (Some p) at h = of_a_process k p at (of_list (by_process k) p.routines r.name (record { owner = by_process k; routine = r }) h).1
is_listed g (by_monitor m) r is = by (slice_get (monitors g) m) refl is
  where
    by : (x : Option Monitor) → slice_get (monitors g) m ≡ x → entry_of m x r.name ≡ Some (record { owner = by_monitor m; routine = r }) → Listed g r (by_monitor m)
    by None at h = absurd (none-some (record { owner = by_monitor m; routine = r }) h)
    by (Some d) at h = of_a_monitor m d at (of_list (by_monitor m) d.entries r.name (record { owner = by_monitor m; routine = r }) h).1

pub text_stands : (g : Program) → IsWellFormed g → NamesApart g → (o : Owner) (r : Routine) → IsText g (record { owner = o; routine = r }) → Stands g o r
text_stands g form names o r is = by o (is_listed g o r is)
  where
    by : (o : Owner) → Listed g r o → Stands g o r
    by _ (of_the_program f) = program_stands g form names r f
    by _ (of_a_process k p at f) = own_stands g form names k p r at f
    by _ (of_a_monitor m d at f) = entry_stands g form names m d r at f
