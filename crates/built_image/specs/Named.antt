-- The names of a program's parts, as an image has them: each list in the order of the text.
use Rattle.std.specs.Prelude.{ℕ, suc, ◌++◌, List, [], ◌∷◌, cond, Option, Some, None, map, filter_map}
use Rattle.syntax_tree.specs.Plain.{Name, Monitor, Process, Declaration, device, Program}
use Rattle.source_semantics.specs.Names.{processes, monitors, conditions_of, event_in, frame_of}
use Rattle.static_semantics.specs.WellFormed.{is_event_of}
use Rattle.image.specs.declared.names.ImageNames.{ImageNames}
use Rattle.image.specs.declared.names.ConditionName.{ConditionName}
use Rattle.image.specs.declared.names.DeviceName.{DeviceName}
use Rattle.image.specs.declared.names.EventName.{EventName}

-- the conditions of the monitors from number m on, each with the number of its monitor
abbrev pub named_conditions : ℕ → List Monitor → List ConditionName
named_conditions m [] = []
named_conditions m (k ∷ ks) = map (λ c. record { name = c; mon = m }) (conditions_of k) ++ named_conditions (suc m) ks

-- a device with its direction
abbrev pub named_device : Declaration → Option DeviceName
named_device (device n is_out) = Some (record { name = n; out = is_out })
named_device _ = None

-- the frame of the first process that an event releases, 0 where it releases none
abbrev pub frame_released : Program → Name → List Process → ℕ
frame_released g e [] = 0
frame_released g e (p ∷ ps) = cond (is_event_of e p.activation) (frame_of g p.activation) (frame_released g e ps)

-- an event with that frame
abbrev pub named_event : Program → Name → EventName
named_event g e = record { name = e; frame = frame_released g e (processes g) }

abbrev pub names_of : Program → ImageNames
names_of g = record {
  processes = map (λ p. p.name) (processes g);
  monitors = map (λ m. m.name) (monitors g);
  conditions = named_conditions 0 (monitors g);
  devices = filter_map named_device g.decls;
  events = map (λ e. named_event g e) (filter_map event_in g.decls);
}
