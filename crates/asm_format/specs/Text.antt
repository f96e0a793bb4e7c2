-- The text of an image: lines of words with one space between them, each ended by a line feed;
-- numbers are decimal.
use Rattle.std.specs.Prelude.{◌++◌, ◌==◌, ℕ, zero, suc, Bool, true, false, List, [], ◌∷◌, Option, Some, None, codes, decimal, if◌then◌else◌}
use Rattle.std.specs.List.{flat_map}
use Rattle.machine_semantics.specs.Image.{Monitor, Routine, Process}
use Rattle.machine_semantics.specs.Trees.{Segs}
use Rattle.image.specs.declared.names.ConditionName.{ConditionName}
use Rattle.image.specs.declared.names.DeviceName.{DeviceName}
use Rattle.image.specs.declared.names.EventName.{EventName}
use Rattle.image.specs.declared.names.ImageNames.{ImageNames}
use Rattle.image.specs.Named.{NamedImage}
use Rattle.asm_format.specs.Mnemonics.{instr_line}
use Rattle.asm_format.specs.TreeText as trees

abbrev pub field : List ℕ → ℕ → List ℕ
field = trees.field

abbrev pub tree_line : Segs → List ℕ
tree_line = trees.tree_line

-- the program's name, and the overhead
abbrev pub head_line : (program : List ℕ) → (over : ℕ) → List ℕ
head_line program over = codes "image " ++ (program ++ (field (codes " overhead ") over ++ codes "\n"))

-- ---- devices, events, monitors and conditions

abbrev pub direction : (out : Bool) → List ℕ
direction true = codes " out\n"
direction false = codes " in\n"

abbrev pub device_line : DeviceName → List ℕ
device_line d = codes "device " ++ (d.name ++ direction d.out)

abbrev pub event_line : (name : List ℕ) → List ℕ
event_line name = codes "event " ++ (name ++ codes "\n")

-- a ceiling of 65535 is none
abbrev pub ceiling_text : ℕ → List ℕ
ceiling_text c = if c == 65535 then codes "none" else decimal c

abbrev pub monitor_line : (name : List ℕ) → Monitor → List ℕ
monitor_line name m =
    codes "monitor " ++ (name ++ (field (codes " base ") m.base ++ (field (codes " words ") m.words ++ (codes " ceiling " ++ (ceiling_text m.ceiling ++ codes "\n")))))

-- a condition, with the number of its monitor
abbrev pub condition_line : ConditionName → List ℕ
condition_line c = codes "condition " ++ (c.name ++ (field (codes " ") c.mon ++ codes "\n"))

-- ---- routines

-- whose a routine is: the program's, or that of a process or a monitor by its number
abbrev pub owner_text : (kind owner : ℕ) → List ℕ
owner_text zero owner = codes "program"
owner_text (suc zero) owner = field (codes "process ") owner
owner_text (suc (suc kind)) owner = field (codes "monitor ") owner

abbrev pub bit : Bool → ℕ
bit true = 1
bit false = 0

-- the stay of a monitor's routine
abbrev pub stay_text : (kind stay : ℕ) → List ℕ
stay_text zero stay = []
stay_text (suc zero) stay = []
stay_text (suc (suc kind)) stay = field (codes " stay ") stay

-- what a routine takes of time
abbrev pub cost_text : Routine → List ℕ
cost_text r = field (codes " run ") r.run ++ (field (codes " suspend ") r.susp ++ (field (codes " waits ") r.waits ++ stay_text r.kind r.stay))

-- what it has of memory, whether it has a result, and where it begins
abbrev pub place_text : Routine → List ℕ
place_text r = field (codes " params ") r.params ++ (field (codes " locals ") r.locals ++ (field (codes " result ") (bit r.gives) ++ field (codes " start ") r.start))

-- a routine, and the line of its tree
abbrev pub routine_lines : Routine → List ℕ
routine_lines r = codes "routine " ++ (owner_text r.kind r.owner ++ (place_text r ++ (cost_text r ++ (codes "\n" ++ tree_line r.tree))))

-- ---- processes

-- what releases a process, and within what it ends
abbrev pub release_text : Process → (kind : ℕ) → List ℕ
release_text p zero = field (codes " periodic frame ") p.frame ++ (field (codes " deadline ") p.deadline ++ field (codes " first ") p.first)
release_text p (suc kind) = field (codes " event ") p.event ++ (field (codes " frame ") p.frame ++ field (codes " deadline ") p.deadline)

-- its rank, and what it takes of time
abbrev pub time_text : Process → List ℕ
time_text p =
    field (codes " rank ") p.rank ++ (field (codes " run ") p.run ++ (field (codes " suspend ") p.susp ++ (field (codes " waits ") p.waits
    ++ (field (codes " block ") p.block ++ field (codes " bound ") p.bound))))

-- what it takes of memory, and where it begins
abbrev pub room_text : Process → List ℕ
room_text p = field (codes " data ") p.words ++ (field (codes " stack ") p.stack ++ (field (codes " locals ") p.locals ++ field (codes " start ") p.start))

-- numbers, each after a space, to the end of the line
abbrev pub numbers_text : List ℕ → List ℕ
numbers_text [] = codes "\n"
numbers_text (n ∷ ns) = field (codes " ") n ++ numbers_text ns

-- the address of the handler and the numbers that it takes, where there are any, to the end of the
-- line
abbrev pub handler_text : (handler : ℕ) → (numbers : List ℕ) → List ℕ
handler_text handler [] = codes "\n"
handler_text handler (n ∷ ns) = field (codes " handler ") handler ++ numbers_text (n ∷ ns)

-- the line of the handler's tree, where there are numbers
abbrev pub handler_line : (numbers : List ℕ) → Option Segs → List ℕ
handler_line (n ∷ ns) (Some tree) = tree_line tree
handler_line numbers tree = []

-- a process, the line of its tree, and that of its handler's
abbrev pub process_lines : (name : List ℕ) → Process → List ℕ
process_lines name p =
    codes "process " ++ (name ++ (release_text p p.kind ++ (time_text p ++ (room_text p ++ (handler_text p.handler p.numbers
    ++ (tree_line p.body ++ handler_line p.numbers p.handler_tree))))))

-- ---- the whole text

-- each monitor and each process with its name
abbrev pub monitors_text : (names : List (List ℕ)) → List Monitor → List ℕ
monitors_text (n ∷ ns) (m ∷ ms) = monitor_line n m ++ monitors_text ns ms
monitors_text names monitors = []

abbrev pub processes_text : (names : List (List ℕ)) → List Process → List ℕ
processes_text (n ∷ ns) (p ∷ ps) = process_lines n p ++ processes_text ns ps
processes_text names processes = []

-- the devices, the events, the monitors and the conditions
abbrev pub names_text : ImageNames → List Monitor → List ℕ
names_text names monitors =
    flat_map device_line names.devices ++ (flat_map (λ e. event_line e.name) names.events ++ (monitors_text names.monitors monitors ++ flat_map condition_line names.conditions))

-- the lines of an image
unfoldable pub text_of : NamedImage → List ℕ
text_of named =
    head_line named.program named.image.over ++ (names_text named.names named.image.monitors ++ (flat_map routine_lines named.image.routines
    ++ (processes_text named.names.processes named.image.processes ++ (flat_map instr_line named.image.code ++ codes "end\n"))))
