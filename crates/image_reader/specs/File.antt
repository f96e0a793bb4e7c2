-- A whole file: its head, the parts of the image, and nothing after them.
use Rattle.std.specs.Prelude.{◌+◌, ◌-◌, ◌++◌, ◌&&◌, ◌||◌, ◌==◌, not, ℕ, zero, suc, Bool, true, false, List, [], ◌∷◌, length, map, flat_map, codes, Ok, Err, nat_lt, nat_eq, if◌then◌else◌}
use Rattle.std.specs.List.{list_any}
use Rattle.std.specs.Cmp.Lexicographic.{pointwise}
use Rattle.machine_isa.specs.declared.instr.Instr.{Instr}
use Rattle.machine_semantics.specs.Image.{Monitor, Routine, Process}
use Rattle.image.specs.declared.names.ConditionName.{ConditionName}
use Rattle.image.specs.declared.names.DeviceName.{DeviceName}
use Rattle.image.specs.declared.names.EventName.{EventName}
use Rattle.image.specs.Bytes.{Version, First, Second}
use Rattle.image.specs.Named.{NamedImage}
use Rattle.image_reader.specs.declared.counts.Counts.{Counts}
use Rattle.image_format.specs.Format.{Format, Read, fault, ◌>>=◌, u16, bytes_as_are, given, unless, checked, both, via, each}
use Rattle.image_format.specs.TreeFormat.{u16_within}
use Rattle.image_reader.specs.Grammar.{counts_format, name_format, device_format, named_monitor_format, condition_format, routine_format, named_process_format, event_of, instr_format}

-- ---- the parts of an image, as their fields tell them

pub record Parts : Type 0 where
  pub over : ℕ
  pub program : List ℕ
  pub devices : List DeviceName
  pub events : List (List ℕ)
  pub monitors : List (List ℕ × Monitor)
  pub conditions : List ConditionName
  pub routines : List Routine
  pub processes : List (List ℕ × Process)
  pub code : List Instr

-- how many there are of each
abbrev pub counts_of : Parts → Counts
counts_of p = record {
  processes = length p.processes;
  monitors = length p.monitors;
  conditions = length p.conditions;
  devices = length p.devices;
  events = length p.events;
  routines = length p.routines;
  code = length p.code;
}

-- the frame of the process that an event releases
abbrev pub frame_for : (event : ℕ) → List Process → ℕ
frame_for event [] = 0
frame_for event (p ∷ ps) = if not (p.kind == 0) && nat_eq p.event event then p.frame else frame_for event ps

-- each event with its frame
abbrev pub framed : (at : ℕ) → List (List ℕ) → List Process → List EventName
framed at [] ps = []
framed at (e ∷ es) ps = record { name = e; frame = frame_for at ps } ∷ framed (at + 1) es ps

-- the image with its names that has these parts
abbrev pub image_with : Parts → NamedImage
image_with p = record {
  program = p.program;
  names = record {
    processes = map (λ x. x.0) p.processes;
    monitors = map (λ x. x.0) p.monitors;
    conditions = p.conditions;
    devices = p.devices;
    events = framed 0 p.events (map (λ x. x.1) p.processes);
  };
  image = record {
    over = p.over;
    monitors = map (λ x. x.1) p.monitors;
    conditions = map (λ c. c.mon) p.conditions;
    devices = map (λ d. d.out) p.devices;
    routines = p.routines;
    processes = map (λ x. x.1) p.processes;
    code = p.code;
  };
}

-- ---- their format

-- the events that release processes
abbrev pub used_by : List (List ℕ × Process) → List ℕ
used_by processes = flat_map (λ p. event_of p.1) processes

-- the overhead, where it stands
abbrev pub over_format : Version → Format ℕ
over_format First = given nat_eq 0
over_format Second = u16_within 0 1000

-- whether each of so many events from the place on is used
abbrev pub all_used : (used : List ℕ) → (at count : ℕ) → Bool
all_used used at zero = true
all_used used at (suc n) = list_any (λ e. nat_eq e at) used && all_used used (at + 1) n

-- I4 at the first byte after the processes where an event is of no process; there a lesser number
-- comes first
abbrev pub unused_fault : (count : ℕ) → List ℕ → ℕ
unused_fault zero [] = 4
unused_fault zero (b ∷ bs) = 3
unused_fault (suc n) [] = 2
unused_fault (suc n) (b ∷ bs) = 4

abbrev pub code_format : (is_used : Bool) → (count : ℕ) → Format (List Instr)
code_format true count = each (λ earlier. instr_format) [] count
code_format false count = record { write = λ code. []; is = λ code. false; read = λ bytes. Err (fault (unused_fault count bytes) (length bytes)) }

-- the devices and the events, the monitors and the conditions; names are compared with all before
-- them
abbrev pub devices_format : Counts → (taken : List (List ℕ)) → Format (List DeviceName)
devices_format counts taken = each (λ earlier. device_format (taken ++ map (λ d. d.name) earlier)) [] counts.devices

abbrev pub events_format : Counts → (taken : List (List ℕ)) → Format (List (List ℕ))
events_format counts taken = each (λ earlier. name_format (taken ++ earlier)) [] counts.events

abbrev pub monitors_format : Counts → (taken : List (List ℕ)) → Format (List (List ℕ × Monitor))
monitors_format counts taken = each (λ earlier. named_monitor_format (taken ++ map (λ m. m.0) earlier)) [] counts.monitors

abbrev pub conditions_format : Counts → (taken : List (List ℕ)) → Format (List ConditionName)
conditions_format counts taken = each (condition_format taken counts.monitors) [] counts.conditions

abbrev pub routines_format : Counts → Format (List Routine)
routines_format counts = each (λ earlier. routine_format counts) [] counts.routines

abbrev pub processes_format : Version → Counts → (taken : List (List ℕ)) → Format (List (List ℕ × Process))
processes_format version counts taken =
    each (λ earlier. named_process_format version counts (taken ++ map (λ p. p.0) earlier) (used_by earlier)) [] counts.processes

-- the names that come before the events, the monitors, and all that follows
abbrev pub with_devices : (taken : List (List ℕ)) → List DeviceName → List (List ℕ)
with_devices taken devices = taken ++ map (λ d. d.name) devices

abbrev pub with_monitors : (taken : List (List ℕ)) → List (List ℕ × Monitor) → List (List ℕ)
with_monitors taken monitors = taken ++ map (λ m. m.0) monitors

-- the routines, the processes and the code
abbrev pub work_format : Version → Counts → (taken : List (List ℕ)) → Format (List Routine × (List (List ℕ × Process) × List Instr))
work_format version counts taken =
    both (routines_format counts) (λ routines. both (processes_format version counts taken) (λ processes. code_format (all_used (used_by processes) 0 counts.events) counts.code))

-- the monitors, the conditions, and all that follows
abbrev pub guarded_format : Version → Counts → (taken : List (List ℕ)) → Format (List (List ℕ × Monitor) × (List ConditionName × (List Routine × (List (List ℕ × Process) × List Instr))))
guarded_format version counts taken =
    both (monitors_format counts taken) (λ monitors. both (conditions_format counts (with_monitors taken monitors)) (λ conditions. work_format version counts (with_monitors taken monitors)))

-- all after the counts and the program's name
abbrev pub named_format : Version → Counts → (program : List ℕ)
    → Format (List DeviceName × (List (List ℕ) × (List (List ℕ × Monitor) × (List ConditionName × (List Routine × (List (List ℕ × Process) × List Instr))))))
named_format version counts program =
    both (devices_format counts (program ∷ [])) (λ devices. both (events_format counts (with_devices (program ∷ []) devices)) (λ events.
    guarded_format version counts (with_devices (program ∷ []) devices ++ events)))

-- all after the version
abbrev pub parts_format : Version → Format Parts
parts_format version =
    via (λ x. record {
      over = x.0;
      program = x.1.1.0;
      devices = x.1.1.1.0;
      events = x.1.1.1.1.0;
      monitors = x.1.1.1.1.1.0;
      conditions = x.1.1.1.1.1.1.0;
      routines = x.1.1.1.1.1.1.1.0;
      processes = x.1.1.1.1.1.1.1.1.0;
      code = x.1.1.1.1.1.1.1.1.1;
    })
    (λ p. (p.over, (counts_of p, (p.program, (p.devices, (p.events, (p.monitors, (p.conditions, (p.routines, (p.processes, p.code))))))))))
    (both (over_format version) (λ over. both counts_format (λ counts. both (name_format []) (λ program. named_format version counts program))))

-- ---- the file

-- the letters, else I1
abbrev pub magic_format : Format (List ℕ)
magic_format = checked (bytes_as_are 4) (λ bytes. unless (pointwise nat_eq bytes (codes "RTEU")) 1)

-- the version, else I1
abbrev pub version_of : ℕ → Version
version_of n = if n == 1 then First else Second

abbrev pub number_of : Version → ℕ
number_of First = 1
number_of Second = 2

abbrev pub version_format : Format Version
version_format = via version_of number_of (checked u16 (λ n. unless (n == 1 || n == 2) 1))

-- the version and the parts
abbrev pub image_format : Format (Version × Parts)
image_format = via (λ x. x.1) (λ x. (codes "RTEU", x)) (both magic_format (λ magic. both version_format parts_format))

-- nothing after it, else I3
abbrev pub ended : {A : Type 0} → A × List ℕ → Read A
ended (x, []) = Ok (x, [])
ended (x, b ∷ bs) = Err (fault 3 (length (b ∷ bs)))

-- the image that the bytes are, whatever their number
abbrev pub whole_read : List ℕ → Read (Version × Parts)
whole_read bytes = image_format.read bytes >>= ended

-- how many bytes an image has at most
abbrev pub longest : ℕ
longest = 8388608

-- what a file of these bytes holds, or its first fault; more bytes than an image may have are I9
-- after the last of those
unfoldable pub read_file : List ℕ → Read (Version × Parts)
read_file bytes = if nat_lt longest (length bytes) then Err (fault 9 (length bytes - longest)) else whole_read bytes
