-- No number of a well-formed program is cut off.
use Rattle.std.specs.Prelude.{sum_by}
use Rattle.std.proofs.Common.{◌≡◌, ◌+◌, ◌≤◌, ◌<◌, ℕ, zero, suc, List, [], ◌∷◌, length, filter_map, Option, Some, None, pos, slice_get, refl, ap, arith}
use Rattle.base.proofs.Lists.{one_of}
use Rattle.syntax_tree.specs.Plain.{Name, Routine, Monitor, Process, Handler, Program}
use Rattle.source_semantics.specs.Names.{routines, monitors, processes, variable_in}
use Rattle.source_semantics.specs.Run.{of_program, of_process, of_monitor}
use Rattle.code_spec.specs.Layout.{Owner, by_program, by_process, by_monitor, home_of, Scope, in_process, in_monitor, outer_spot, words_of, vars_of_process, vars_of_monitor, monitor_vars, process_places, monitor_places, monitor_base, places_from, routine_vars_words, routine_words, loops, handler_loops, count}
use Rattle.code_spec.specs.Numbering.{Text, numbered, number_of}
use Rattle.code_spec.specs.Emits.{monitor_of}
use Rattle.code_spec.specs.Compiled.{routine_scope, process_scope}
use Rattle.code_cost_spec.specs.Levels.{code_length, processes_length}
use Rattle.static_semantics.specs.Here.{own_of, is_function_at}
use Rattle.static_semantics.specs.WellFormed.{VarFits, IsWellFormed, vars_words, words}
use Rattle.static_semantics.specs.WellFormed as formed
use Rattle.codegen_law.specs.MadeRightFits.{Fit, SpotFits}
use Rattle.codegen_law.specs.MadeWholeFits.{OwnerFits, RoutineFits, HandlerFits, ProcessFits}
use Rattle.codegen_law.proofs.Numbers.{few_routines}
use Rattle.codegen_law.specs.Fitting.{WellFormedProgramsFit}
use Rattle.codegen_law.proofs.Words.{fit_low}
use Rattle.codegen_law.proofs.Places.{PlacesFit, both_fit, vars_fit, params_fit, named_fits, scope_fits}
use Rattle.codegen_law.proofs.Counts.{constants_fit, devices_fit, conditions_fit, words_same, one_low, base_low, process_low}
use Rattle.codegen_law.proofs.Reached.{OfEach, text_at, routine_found, entry_found, of_numbered}
use Rattle.codegen_law.proofs.Texts.{Facts, TextStands, answers_fit, stmts_fit}

there_low : {X : Type 0} (xs : List X) (j : ℕ) (x : X) → slice_get xs j ≡ Some x → j < length xs
there_low [] j x e = absurd cc
there_low (y ∷ ys) zero x e = omega arith
there_low (y ∷ ys) (suc j) x e = let h : j < length ys = there_low ys j x e in omega arith

-- a text that a process runs, well formed as that process sees it
record IsRun (g : Program) (t : Text) : Type 0 where
  process : Process
  fits : formed.RoutineFits g process (home_of t.owner) t.routine
  owner : OwnerFits t.owner

module _ (g : Program) (form : IsWellFormed g) where
  first_process : (ps : List Process) → processes g ≡ ps → 1 ≤ length ps → (p : Process) × (slice_get (processes g) 0 ≡ Some p)
  first_process [] is h = absurd (omega arith)
  first_process (p ∷ ps) is h = (p, ap (λ z. slice_get z 0) is)

  some_process : (p : Process) × (slice_get (processes g) 0 ≡ Some p)
  some_process = first_process (processes g) refl form.counts_fit.one_process

  process_at : (k : ℕ) (p : Process) → slice_get (processes g) k ≡ Some p → formed.ProcessFits g p
  process_at k p at = one_of (formed.ProcessFits g) (processes g) k p form.processes_fit at

  run_program : OfEach g (IsRun g) by_program (routines g)
  run_program j r at =
      let p = some_process in
      record { process = p.0; fits = one_of (formed.RoutineFits g p.0 of_program) (routines g) j r (process_at 0 p.0 p.1).shared at; owner = tt }

  run_process : (k : ℕ) (p : Process) → slice_get (processes g) k ≡ Some p → OfEach g (IsRun g) (by_process k) p.routines
  run_process k p there j r at = record { process = p; fits = one_of (formed.RoutineFits g p of_process) p.routines j r (process_at k p there).own at; owner = tt }

  run_monitor : (m : ℕ) (d : Monitor) → slice_get (monitors g) m ≡ Some d → OfEach g (IsRun g) (by_monitor m) d.entries
  run_monitor m d there j r at =
      let p = some_process in
      let low : m < length (monitors g) = there_low (monitors g) m d there in
      let few : length (monitors g) ≤ 64 = form.counts_fit.few_monitors in
      record { process = p.0; fits = one_of (formed.RoutineFits g p.0 (of_monitor m)) d.entries j r ((process_at 0 p.0 p.1).entries m d there) at; owner = omega arith }

  facts : code_length g ≤ 65535 → Facts g
  facts short = record {
    constants = constants_fit g form.constants_fit;
    devices = devices_fit g form.counts_fit.few_devices;
    conditions = conditions_fit g form.counts_fit.few_conditions;
    numbers = λ t. let low : number_of g t ≤ 65535 = few_routines g short t in fit_low (number_of g t) (omega arith);
    routines = λ o f t is. (routine_found g (IsRun g) run_program run_process run_monitor o f t is).fits.params;
    entries = λ m f t is. (entry_found g (IsRun g) run_program run_process run_monitor m f t is).fits.params;
  }

  -- ---- variables beside the frame's own

  process_fit : (k : ℕ) (x : Option Process) → slice_get (processes g) k ≡ x → PlacesFit (places_from g 0 (vars_of_process x))
  process_fit k None is = tt
  process_fit k (Some p) is =
      let few : words g ≤ 1048576 = form.counts_fit.few_words in
      let one : vars_words g p.vars ≤ sum_by (λ q. vars_words g q.vars) (processes g) = one_low (λ q. vars_words g q.vars) (processes g) k p is in
      let same : words_of g p.vars ≡ vars_words g p.vars = words_same g p.vars in
      vars_fit g 0 p.vars (process_at k p is).vars (omega arith)

  monitor_fit : (m : ℕ) (x : Option Monitor) → slice_get (monitors g) m ≡ x → PlacesFit (places_from g (monitor_base g m) (vars_of_monitor x))
  monitor_fit m None is = tt
  monitor_fit m (Some d) is =
      let few : words g ≤ 1048576 = form.counts_fit.few_words in
      let one : monitor_base g m + words_of g (monitor_vars d) ≤ 0 + sum_by (λ y. vars_words g (filter_map variable_in y.members)) (monitors g) = base_low g 0 m (monitors g) d is in
      vars_fit g (monitor_base g m) (monitor_vars d) (one_of (formed.MonitorFits g) (monitors g) m d form.monitors_fit is) (omega arith)

  outer_fits : (o : Owner) (x : Name) → SpotFits (outer_spot g o x)
  outer_fits by_program x = tt
  outer_fits (by_process k) x = named_fits in_process x (process_places g k) (process_fit k (slice_get (processes g) k) refl)
  outer_fits (by_monitor m) x = named_fits in_monitor x (monitor_places g m) (monitor_fit m (slice_get (monitors g) m) refl)

  owner_fits : (o : Owner) → OwnerFits o → Fit (pos (monitor_of o))
  owner_fits by_program h = fit_low 0 (omega arith)
  owner_fits (by_process k) h = fit_low 0 (omega arith)
  owner_fits (by_monitor m) h = fit_low m (omega arith)

  -- ---- routines and processes

  routine_fits : code_length g ≤ 65535 → (t : Text) → IsRun g t → routine_words g t.routine ≤ 2147483647 → RoutineFits g t
  routine_fits short t run low =
      let c : Scope = routine_scope g t in
      let r : Routine = t.routine in
      let params_low : 0 + count r.params ≤ 2147483647 = omega arith in
      let vars_low : count r.params + words_of g r.vars ≤ 2147483647 = omega arith in
      let stands : TextStands g c = record {
        spots = scope_fits g c (both_fit _ _ (params_fit g 0 r.params run.fits.params params_low) (vars_fit g (count r.params) r.vars run.fits.vars vars_low)) (outer_fits t.owner);
        monitor = owner_fits t.owner run.owner;
      } in
      record {
        owner = run.owner;
        body = stmts_fit g (facts short) run.process (home_of t.owner) (is_function_at (home_of t.owner) r) (own_of r) r.body c [] (routine_vars_words g r) stands low run.fits.body;
        answers = answers_fit g (facts short) run.process (home_of t.owner) (is_function_at (home_of t.owner) r) (own_of r) c stands.spots [] r.answers run.fits.answers;
      }

  handler_fits : (short : code_length g ≤ 65535) (p : Process) (c : Scope) (w : ℕ) → TextStands g c → (h : Option Handler) → w + handler_loops h ≤ 2147483647 → formed.OptionalFits g p h → HandlerFits g c w h
  handler_fits short p c w stands None low fits = tt
  handler_fits short p c w stands (Some h) low fits = stmts_fit g (facts short) p of_process _ [] h.body c [] w stands low fits.body

  process_fits : code_length g ≤ 65535 → (k : ℕ) (p : Process) → slice_get (processes g) k ≡ Some p → ProcessFits g k p
  process_fits short k p at =
      let c : Scope = process_scope g k p in
      let fits : formed.ProcessFits g p = process_at k p at in
      let frame : loops p.body + handler_loops p.handler ≤ processes_length g 0 (processes g) = process_low g 0 (processes g) k p at in
      let body_low : 0 + loops p.body ≤ 2147483647 = omega arith in
      let low : loops p.body + handler_loops p.handler ≤ 2147483647 = omega arith in
      let stands : TextStands g c = record { spots = scope_fits g c tt (outer_fits (by_process k)); monitor = fit_low 0 (omega arith) } in
      record { body = stmts_fit g (facts short) p of_process _ [] p.body c [] 0 stands body_low fits.body; handler = handler_fits short p c (loops p.body) stands p.handler low fits.handler }

pub well_formed_fits : WellFormedProgramsFit
well_formed_fits g form frames short = record {
  routines = λ r t at. routine_fits g form short t (text_at g (IsRun g) (numbered g) r t (of_numbered g (IsRun g) (run_program g form) (run_process g form) (run_monitor g form)) at) (frames r t at);
  bodies = λ k p at. process_fits g form short k p at;
  code = short;
}
