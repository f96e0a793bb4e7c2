-- The bytes of an image, in each of two versions: a head with all counts, the names of devices,
-- events, monitors and conditions, the routines, the processes, the code.
use Rattle.std.specs.Prelude.{◌++◌, ℕ, List, [], ◌∷◌, Option, Some, length, codes}
use Rattle.std.specs.List.{flat_map}
use Rattle.machine_isa.specs.Bytes.{instr_bytes}
use Rattle.machine_semantics.specs.Image.{Image, Monitor, Routine, Process}
use Rattle.machine_semantics.specs.Trees.{Segs}
use Rattle.image.specs.declared.names.ConditionName.{ConditionName}
use Rattle.image.specs.declared.names.DeviceName.{DeviceName}
use Rattle.image.specs.declared.names.EventName.{EventName}
use Rattle.image.specs.declared.names.ImageNames.{ImageNames}
use Rattle.image.specs.Named.{NamedImage}
use Rattle.image_format.specs.Numbers.{u8, u16, u32, flag, name_bytes}
use Rattle.image_format.specs.TreeBytes.{tree_bytes}

-- how many processes, monitors, conditions, devices, events, routines and instructions there are
abbrev pub counts_bytes : ImageNames → Image → List ℕ
counts_bytes names image =
    u16 (length image.processes) ++ (u16 (length image.monitors) ++ (u16 (length names.conditions) ++ (u16 (length names.devices)
    ++ (u16 (length names.events) ++ (u16 (length image.routines) ++ u32 (length image.code))))))

-- an image is written in one of two versions: the first has neither the overhead nor the deadlines
pub data Version : Type 0 where
  First : Version
  Second : Version

-- the number of the version, and the overhead where it stands
abbrev pub version_bytes : Version → (over : ℕ) → List ℕ
version_bytes First over = u16 1
version_bytes Second over = u16 2 ++ u16 over

-- the letters RTEU, the version, the counts, and the program's name
abbrev pub head_bytes : Version → NamedImage → List ℕ
head_bytes version named = codes "RTEU" ++ (version_bytes version named.image.over ++ (counts_bytes named.names named.image ++ name_bytes named.program))

-- a device: its name, and 1 where it is an out device
abbrev pub device_bytes : DeviceName → List ℕ
device_bytes d = name_bytes d.name ++ flag d.out

-- an event: its name
abbrev pub event_bytes : EventName → List ℕ
event_bytes e = name_bytes e.name

-- a condition: its name, and the number of its monitor
abbrev pub condition_bytes : ConditionName → List ℕ
condition_bytes c = name_bytes c.name ++ u16 c.mon

-- a monitor: its name, where its words begin and how many they are, and its ceiling
abbrev pub monitor_bytes : List ℕ → Monitor → List ℕ
monitor_bytes name m = name_bytes name ++ (u32 m.base ++ (u32 m.words ++ u16 m.ceiling))

-- each monitor with its name
abbrev pub monitors_bytes : List (List ℕ) → List Monitor → List ℕ
monitors_bytes (n ∷ ns) (m ∷ ms) = monitor_bytes n m ++ monitors_bytes ns ms
monitors_bytes names monitors = []

-- whose a routine is, its parameters and locals, and whether it has a result
abbrev pub owner_bytes : Routine → List ℕ
owner_bytes r = u8 r.kind ++ (u16 r.owner ++ (u16 r.params ++ (u32 r.locals ++ flag r.gives)))

-- where its code stands, what it takes of time, and how long it is inside its monitor
abbrev pub cost_bytes : Routine → List ℕ
cost_bytes r = u32 r.start ++ (u32 r.run ++ (u32 r.susp ++ (u32 r.waits ++ u32 r.stay)))

-- a routine, with the tree of its code
abbrev pub routine_bytes : Routine → List ℕ
routine_bytes r = owner_bytes r ++ (cost_bytes r ++ tree_bytes r.tree)

-- the deadline, where it stands
abbrev pub deadline_bytes : Version → Process → List ℕ
deadline_bytes First p = []
deadline_bytes Second p = u32 p.deadline

-- when a process is released, within what it has to end, and its rank
abbrev pub release_bytes : Version → Process → List ℕ
release_bytes version p = u8 p.kind ++ (u32 p.frame ++ (deadline_bytes version p ++ (u32 p.first ++ (u16 p.event ++ u16 p.rank))))

-- what it takes of time: run, suspension, waits, blocking and bound
abbrev pub time_bytes : Process → List ℕ
time_bytes p = u32 p.run ++ (u32 p.susp ++ (u32 p.waits ++ (u32 p.block ++ u32 p.bound)))

-- what it takes of memory, and where its body and its handler stand
abbrev pub room_bytes : Process → List ℕ
room_bytes p = u32 p.words ++ (u32 p.stack ++ (u32 p.locals ++ (u32 p.start ++ u32 p.handler)))

-- how many numbers a handler takes, and these numbers
abbrev pub numbers_bytes : List ℕ → List ℕ
numbers_bytes numbers = u16 (length numbers) ++ flat_map u16 numbers

-- the tree of a handler, which stands only where there are numbers that it takes
abbrev pub handler_bytes : List ℕ → Option Segs → List ℕ
handler_bytes (n ∷ ns) (Some tree) = tree_bytes tree
handler_bytes numbers tree = []

-- a process: its name, its numbers, and the trees of its body and its handler
abbrev pub process_bytes : Version → List ℕ → Process → List ℕ
process_bytes version name p =
    name_bytes name ++ (release_bytes version p ++ (time_bytes p ++ (room_bytes p ++ (numbers_bytes p.numbers ++ (tree_bytes p.body ++ handler_bytes p.numbers p.handler_tree)))))

-- each process with its name
abbrev pub processes_bytes : Version → List (List ℕ) → List Process → List ℕ
processes_bytes version (n ∷ ns) (p ∷ ps) = process_bytes version n p ++ processes_bytes version ns ps
processes_bytes version names processes = []

-- the devices, the events, the monitors and the conditions
abbrev pub names_bytes : ImageNames → List Monitor → List ℕ
names_bytes names monitors =
    flat_map device_bytes names.devices ++ (flat_map event_bytes names.events ++ (monitors_bytes names.monitors monitors ++ flat_map condition_bytes names.conditions))

-- the whole image; the directions of devices and the monitors of conditions stand with their names
unfoldable pub bytes_of : Version → NamedImage → List ℕ
bytes_of version named =
    head_bytes version named ++ (names_bytes named.names named.image.monitors ++ (flat_map routine_bytes named.image.routines
    ++ (processes_bytes version named.names.processes named.image.processes ++ flat_map instr_bytes named.image.code)))
