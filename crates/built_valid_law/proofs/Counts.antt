-- How many parts an image has, and how many names.
use Rattle.std.proofs.Common.{◌≡◌, ◌≤◌, ◌+◌, ◌∙◌, ℕ, suc, List, [], ◌∷◌, length, map, filter_map, arith, refl, ap, sym}
use Rattle.std.specs.Prelude.{Bool}
use Rattle.std.proofs.lemmas.List.{length-append, length-map}
use Rattle.std.proofs.lemmas.List.Sums.{sum_by-cons}
use Rattle.syntax_tree.specs.Plain.{Name, Monitor, Declaration, constant, device, event, routine, monitor, process, Program}
use Rattle.source_semantics.specs.Names.{processes, monitors, conditions_of, condition_count, device_in, event_in, routine_count}
use Rattle.machine_semantics.specs.Image as image
use Rattle.image.specs.declared.names.ConditionName.{ConditionName}
use Rattle.code_spec.specs.Numbering.{numbered}
use Rattle.code_spec.specs.Compiled.{IsCodeOf, device_direction}
use Rattle.code_lifting.proofs.Words.{same_length, conditions_are as places_of_conditions}
use Rattle.static_semantics.specs.WellFormed.{CountsFit}
use Rattle.built_image.specs.Named.{named_conditions, named_device, named_event}
use Rattle.built_image_law.proofs.Joined.{as_many}
use Rattle.built_valid_law.proofs.Owning.{routines_counted}

-- ---- conditions and devices

-- a condition of monitor k
abbrev pub named_in : ℕ → Name → ConditionName
named_in k c = record { name = c; mon = k }

pub names_of_conditions : (k : ℕ) (ms : List Monitor) → length (named_conditions k ms) ≡ condition_count ms
names_of_conditions k [] = refl
names_of_conditions k (m ∷ ms) =
    let own : List ConditionName = map (named_in k) (conditions_of m) in
    let rest : length (named_conditions (suc k) ms) ≡ condition_count ms = names_of_conditions (suc k) ms in
    let here : length own ≡ length (conditions_of m) = length-map (conditions_of m) (named_in k) in
    let all : condition_count (m ∷ ms) ≡ length (conditions_of m) + condition_count ms = sum_by-cons (λ (x : Monitor). length (conditions_of x)) m ms in
    omega (arith, length-append own (named_conditions (suc k) ms), rest, here, all)

pub names_of_devices : (ds : List Declaration) → length (filter_map named_device ds) ≡ length (filter_map device_in ds)
names_of_devices [] = refl
names_of_devices (constant n c ∷ ds) = names_of_devices ds
names_of_devices (device n o ∷ ds) = ap (λ (k : ℕ). suc k) (names_of_devices ds)
names_of_devices (event n ∷ ds) = names_of_devices ds
names_of_devices (routine r ∷ ds) = names_of_devices ds
names_of_devices (monitor m ∷ ds) = names_of_devices ds
names_of_devices (process p ∷ ds) = names_of_devices ds

ways_of_devices : (ds : List Declaration) → length (filter_map device_direction ds) ≡ length (filter_map device_in ds)
ways_of_devices [] = refl
ways_of_devices (constant n c ∷ ds) = ways_of_devices ds
ways_of_devices (device n o ∷ ds) = ap (λ (k : ℕ). suc k) (ways_of_devices ds)
ways_of_devices (event n ∷ ds) = ways_of_devices ds
ways_of_devices (routine r ∷ ds) = ways_of_devices ds
ways_of_devices (monitor m ∷ ds) = ways_of_devices ds
ways_of_devices (process p ∷ ds) = ways_of_devices ds

-- ---- all

-- as many of each as in the text, and not too many
pub record Counted (g : Program) (m : image.Image) : Type 0 where
  pub processes_are : length m.processes ≡ length (processes g)
  pub monitors_are : length m.monitors ≡ length (monitors g)
  pub few_processes : length m.processes ≤ 64
  pub few_monitors : length m.monitors ≤ 64
  pub conditions : length m.conditions ≤ 256
  pub condition_names : length (named_conditions 0 (monitors g)) ≡ length m.conditions
  pub devices : length m.devices ≤ 64
  pub device_names : length (filter_map named_device g.decls) ≡ length m.devices
  pub events : length (map (λ (e : Name). named_event g e) (filter_map event_in g.decls)) ≤ 64
  pub routines : length m.routines ≤ 512

pub counted : (g : Program) (m : image.Image) → CountsFit g → length (numbered g) ≤ routine_count g → IsCodeOf g m → Counted g m
counted g m counts few code =
    let processes_are : length m.processes ≡ length (processes g) = as_many g m.code 0 code.between (length m.code) (processes g) m.processes code.process_code in
    let monitors_are : length m.monitors ≡ length (monitors g) = same_length g 0 (monitors g) m.monitors code.monitor_words in
    let routines_are : length m.routines ≡ length (numbered g) = routines_counted g m.code 0 code.between (numbered g) m.routines code.routine_code in
    let conditions_are : length m.conditions ≡ condition_count (monitors g) = ap (λ (xs : List ℕ). length xs) code.condition_table ∙ places_of_conditions 0 (monitors g) in
    let devices_are : length m.devices ≡ length (filter_map device_in g.decls) = ap (λ (xs : List Bool). length xs) code.device_table ∙ ways_of_devices g.decls in
    let events_are : length (map (λ (e : Name). named_event g e) (filter_map event_in g.decls)) ≡ length (filter_map event_in g.decls)
    = length-map (filter_map event_in g.decls) (λ (e : Name). named_event g e) in
    record {
      processes_are = processes_are;
      monitors_are = monitors_are;
      few_processes = omega (arith, processes_are, counts.few_processes);
      few_monitors = omega (arith, monitors_are, counts.few_monitors);
      conditions = omega (arith, conditions_are, counts.few_conditions);
      condition_names = names_of_conditions 0 (monitors g) ∙ sym conditions_are;
      devices = omega (arith, devices_are, counts.few_devices);
      device_names = names_of_devices g.decls ∙ sym devices_are;
      events = omega (arith, events_are, counts.few_events);
      routines = omega (arith, routines_are, few, counts.few_routines);
    }
