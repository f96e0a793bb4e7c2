-- The names of a program are those of the parts of its image.
use Rattle.std.proofs.Common.{◌≤◌, ◌<◌, ◌+◌, ◌∙◌, ℕ, suc, List, [], ◌∷◌, length, map, filter_map, arith, sym}
use Rattle.std.specs.Prelude.{All}
use Rattle.std.proofs.lemmas.List.{length-map}
use Rattle.std.proofs.lemmas.List.Elements.{All-append, All-cons, All-head, All-map, All-nil, All-tail, All-weaker}
use Rattle.syntax_tree.specs.Plain.{Name, Monitor, Process, Declaration, constant, device, event, routine, monitor, process, Program}
use Rattle.source_semantics.specs.Names.{processes, monitors, conditions_of, device_in, event_in}
use Rattle.machine_semantics.specs.Image.{Image}
use Rattle.image.specs.declared.names.ConditionName.{ConditionName}
use Rattle.image.specs.declared.names.DeviceName.{DeviceName}
use Rattle.image.specs.declared.names.EventName.{EventName}
use Rattle.image.specs.InRange as range
use Rattle.image.specs.InRange.{AreNamed}
use Rattle.event_log.specs.InRange.{AreSound}
use Rattle.vm_law.specs.Logged.{AreNamesOf}
use Rattle.built_image_law.specs.Short.{IsShort, MonitorIsShort, NamesAreShort}
use Rattle.built_image.specs.Named.{named_conditions, named_device, named_event, names_of}
use Rattle.built_valid_law.proofs.Counts.{Counted, named_in}

-- ---- conditions and devices

conditions_short : (k : ℕ) (ms : List Monitor) → All MonitorIsShort ms → All (λ (c : ConditionName). IsShort c.name) (named_conditions k ms)
conditions_short k [] short = All-nil (λ (c : ConditionName). IsShort c.name)
conditions_short k (m ∷ ms) short =
    All-append (λ (c : ConditionName). IsShort c.name) (map (named_in k) (conditions_of m)) (named_conditions (suc k) ms)
    (All-map (λ (c : ConditionName). IsShort c.name) (named_in k) (conditions_of m) (All-head MonitorIsShort m ms short).conditions)
    (conditions_short (suc k) ms (All-tail MonitorIsShort m ms short))

-- each stands in one of so many monitors
pub conditions_placed : (n k : ℕ) (ms : List Monitor) → k + length ms ≤ n → All (λ (c : ConditionName). c.mon < n) (named_conditions k ms)
conditions_placed n k [] within = All-nil (λ (c : ConditionName). c.mon < n)
conditions_placed n k (m ∷ ms) within =
    let here : k < n = omega (arith, within) in
    All-append (λ (c : ConditionName). c.mon < n) (map (named_in k) (conditions_of m)) (named_conditions (suc k) ms)
    (All-map (λ (c : ConditionName). c.mon < n) (named_in k) (conditions_of m) (λ j x low. here))
    (conditions_placed n (suc k) ms (omega (arith, within)))

devices_short : (ds : List Declaration) → All IsShort (filter_map device_in ds) → All (λ (d : DeviceName). IsShort d.name) (filter_map named_device ds)
devices_short [] short = All-nil (λ (d : DeviceName). IsShort d.name)
devices_short (constant n c ∷ ds) short = devices_short ds short
devices_short (device n o ∷ ds) short =
    All-cons (λ (d : DeviceName). IsShort d.name) (record { name = n; out = o }) (filter_map named_device ds) (All-head IsShort n (filter_map device_in ds) short)
    (devices_short ds (All-tail IsShort n (filter_map device_in ds) short))
devices_short (event n ∷ ds) short = devices_short ds short
devices_short (routine r ∷ ds) short = devices_short ds short
devices_short (monitor m ∷ ds) short = devices_short ds short
devices_short (process p ∷ ds) short = devices_short ds short

-- ---- all names

are_sound : (g : Program) → NamesAreShort g → AreSound (names_of g)
are_sound g short = record {
  processes = All-map IsShort (λ (p : Process). p.name) (processes g) short.of_processes;
  monitors = All-map IsShort (λ (m : Monitor). m.name) (monitors g) (All-weaker MonitorIsShort (λ (m : Monitor). IsShort m.name) (λ m s. s.name) (monitors g) short.of_monitors);
  conditions = conditions_short 0 (monitors g) short.of_monitors;
  placed = conditions_placed (length (map (λ (m : Monitor). m.name) (monitors g))) 0 (monitors g) (omega (arith, length-map (monitors g) (λ (m : Monitor). m.name)));
  devices = devices_short g.decls short.of_devices;
}

pub are_names : (g : Program) (m : Image) → Counted g m → NamesAreShort g → AreNamesOf (names_of g) m
are_names g m counts short = record {
  sound = are_sound g short;
  processes = length-map (processes g) (λ (p : Process). p.name) ∙ sym counts.processes_are;
  monitors = length-map (monitors g) (λ (x : Monitor). x.name) ∙ sym counts.monitors_are;
  conditions = counts.condition_names;
  devices = counts.device_names;
}

-- ---- one byte each for their lengths

pub name_fits : (name : Name) → IsShort name → range.IsShort name
name_fits name short = omega (arith, short)

all_fit : {X : Type 0} (f : X → Name) (xs : List X) → All (λ (x : X). IsShort (f x)) xs → All (λ (x : X). range.IsShort (f x)) xs
all_fit {X} f xs short = All-weaker (λ (x : X). IsShort (f x)) (λ (x : X). range.IsShort (f x)) (λ x s. name_fits (f x) s) xs short

pub are_named : (g : Program) (m : Image) → Counted g m → NamesAreShort g → AreNamed (names_of g) m
are_named g m counts short =
    let names : AreNamesOf (names_of g) m = are_names g m counts short in
    record {
      each_process = names.processes;
      each_monitor = names.monitors;
      processes = all_fit (λ (n : Name). n) (names_of g).processes names.sound.processes;
      monitors = all_fit (λ (n : Name). n) (names_of g).monitors names.sound.monitors;
      conditions = all_fit (λ (c : ConditionName). c.name) (names_of g).conditions names.sound.conditions;
      devices = all_fit (λ (d : DeviceName). d.name) (names_of g).devices names.sound.devices;
      events = all_fit (λ (e : EventName). e.name) (names_of g).events
          (All-map (λ (e : EventName). IsShort e.name) (λ (e : Name). named_event g e) (filter_map event_in g.decls) short.of_events);
    }
