-- The tables of monitors, conditions and devices, and the whole image.
use Rattle.std.proofs.Common.{◌≡◌, ◌∙◌, sym, ap, subst, refl, ℕ, suc, ◌+◌, ◌++◌, List, [], ◌∷◌, length, map, replicate}
use Rattle.std.specs.Prelude.{filter_map, slice_get}
use Rattle.std.proofs.lemmas.List.{map-append}
use Rattle.syntax_tree.specs.Plain.{Name, Monitor, Declaration, constant, device, event, routine, monitor, process, Program}
use Rattle.source_semantics.specs.Names.{conditions_of, event_in, monitors, processes}
use Rattle.machine_semantics.specs.Image as image
use Rattle.image.specs.declared.names.ConditionName.{ConditionName}
use Rattle.image.specs.declared.raw.RawImage.{RawImage}
use Rattle.image.specs.Raw.{image_of, monitor_of, process_of, routine_of}
use Rattle.code_spec.specs.Layout.{monitor_vars, words_of}
use Rattle.code_spec.specs.Numbering.{numbered}
use Rattle.code_spec.specs.Compiled.{AreMonitors, condition_monitors, device_direction}
use Rattle.built_image.specs.Named.{named_conditions, named_device, names_of}
use Rattle.code_cost.specs.declared.program.Measures.{Measures}
use Rattle.codegen_spec.specs.declared.code.Code.{Code}
use Rattle.codegen_spec.specs.Held.{Holds, HoldRoutines, HoldProcesses}
use Rattle.code_measures.specs.Declared.{Declares, DeclaresProcess}
use Rattle.code_cost.specs.Sizes.{AreDefined}
use Rattle.compile_image.specs.Fields.{FitsFields, HasParts}
use Rattle.compile_image.specs.Rows.{FitAll}
use Rattle.compile_image.specs.Told.{IsTold, monitors_told, processes_told, routines_told}
use Rattle.compile_image.proofs.Rows.{handlers-long}
use Rattle.compile_image.proofs.RoutineTable.{routines-held, routine-declares, rows-fit}
use Rattle.compile_image.proofs.ProcessTable.{processes-held, process-declares, sizes-fit}

are-monitors : (g : Program) (base : ℕ) (ms : List Monitor) → AreMonitors g base ms (monitors_told g base ms)
are-monitors g base [] = tt
are-monitors g base (m ∷ ms) = (refl, refl, are-monitors g (base + words_of g (monitor_vars m)) ms)

one-monitor : (m : ℕ) (cs : List Name) → map (λ (c : ConditionName). c.mon) (map (λ c. record { name = c; mon = m }) cs) ≡ replicate (length cs) m
one-monitor m [] = refl
one-monitor m (c ∷ cs) = ap (λ (ns : List ℕ). m ∷ ns) (one-monitor m cs)

conditions-told : (m : ℕ) (ks : List Monitor) → map (λ (c : ConditionName). c.mon) (named_conditions m ks) ≡ condition_monitors m ks
conditions-told m [] = refl
conditions-told m (k ∷ ks) =
    let own : List ConditionName = map (λ c. record { name = c; mon = m }) (conditions_of k) in
    map-append (λ (c : ConditionName). c.mon) own (named_conditions (suc m) ks)
    ∙ ap (λ (ns : List ℕ). ns ++ map (λ (c : ConditionName). c.mon) (named_conditions (suc m) ks)) (one-monitor m (conditions_of k))
    ∙ ap (λ (ns : List ℕ). replicate (length (conditions_of k)) m ++ ns) (conditions-told (suc m) ks)

devices-told : (ds : List Declaration) → map (λ d. d.out) (filter_map named_device ds) ≡ filter_map device_direction ds
devices-told [] = refl
devices-told (constant n c ∷ ds) = devices-told ds
devices-told (device n is_out ∷ ds) = ap (λ bs. is_out ∷ bs) (devices-told ds)
devices-told (event n ∷ ds) = devices-told ds
devices-told (routine r ∷ ds) = devices-told ds
devices-told (monitor m ∷ ds) = devices-told ds
devices-told (process p ∷ ds) = devices-told ds

-- an image as it stands in a file, whose parts are told so
pub assembled : (g : Program) (over : ℕ) (k : Code) (m : Measures) (raw : RawImage) → raw.overhead ≡ over → raw.names ≡ names_of g
    → map monitor_of raw.monitors ≡ monitors_told g 0 (monitors g)
    → map routine_of raw.routines ≡ routines_told (numbered g) k.routines m.routines
    → map process_of raw.processes ≡ processes_told g (filter_map event_in g.decls) over (processes g) k.processes m.processes
    → raw.code ≡ k.instrs → IsTold g over k m (image_of raw)
assembled g over k m raw overhead names mons routines bodies code = record {
  overhead = overhead;
  monitor_table = mons;
  conditions = ap (λ n. map (λ c. c.mon) n.conditions) names;
  devices = ap (λ n. map (λ d. d.out) n.devices) names;
  routines = routines;
  bodies = bodies;
  code = code;
}

pub all-fit : (g : Program) (k : Code) (m : Measures) → HasParts g k → FitsFields g k → AreDefined g m → FitAll g k m
all-fit g k m parts fits is = record {
  few_monitors = fits.few_monitors;
  few_events = fits.few_events;
  monitor_words = fits.monitor_words;
  routine_parts = parts.routines;
  rows = is.rows;
  fit_rows = rows-fit g k m parts fits is;
  process_parts = handlers-long (processes g) k.processes parts.processes;
  sizes = is.sizes;
  fit_sizes = sizes-fit g k m parts fits is;
}

pub told-holds : (g : Program) (over : ℕ) (k : Code) (m : Measures) (i : image.Image) → HasParts g k → FitsFields g k → AreDefined g m → IsTold g over k m i → Holds g k i
told-holds g over k m i parts fits is told = record {
  code = told.code;
  routines = subst (λ ys. HoldRoutines g (numbered g) k.routines ys) (sym told.routines) (routines-held g k m parts fits is);
  bodies = subst (λ ys. HoldProcesses g (processes g) k.processes ys) (sym told.bodies) (processes-held g over k m parts fits is);
  monitor_words = subst (λ ys. AreMonitors g 0 (monitors g) ys) (sym told.monitor_table) (are-monitors g 0 (monitors g));
  condition_table = told.conditions ∙ conditions-told 0 (monitors g);
  device_table = told.devices ∙ devices-told g.decls;
}

pub told-declares : (g : Program) (over : ℕ) (k : Code) (m : Measures) (i : image.Image) → HasParts g k → FitsFields g k → AreDefined g m → IsTold g over k m i → Declares g i
told-declares g over k m i parts fits is told = record {
  routines = λ r t y there found. routine-declares g k m parts fits is r t y there (ap (λ ys. slice_get ys r) (sym told.routines) ∙ found);
  bodies = λ n p y there found.
      subst (λ o. DeclaresProcess g o n p y) (sym told.overhead)
      (process-declares g (filter_map event_in g.decls) over k m parts fits is n p y there (ap (λ ys. slice_get ys n) (sym told.bodies) ∙ found));
}
