-- The text of an image is read as that image.
use Rattle.std.proofs.Common.{◌≡◌, ◌≤◌, ◌<◌, ◌+◌, ◌&&◌, ◌++◌, ℕ, zero, suc, Bool, true, false, List, [], ◌∷◌, length, Ok, refl, sym, ap, ◌∙◌, subst, arith, append_assoc}
use Rattle.std.specs.Prelude.{not, nat_lt, nat_eq, codes, map, flat_map}
use Rattle.std.proofs.lemmas.Bool.{and_parts, and_from, lt-ltb}
use Rattle.machine_isa.specs.declared.instr.Instr.{Instr}
use Rattle.machine_semantics.specs.Image.{Monitor, Routine, Process}
use Rattle.image.specs.Bytes.{Second}
use Rattle.image.specs.declared.names.ConditionName.{ConditionName}
use Rattle.image.specs.declared.names.DeviceName.{DeviceName}
use Rattle.image_reader.specs.declared.counts.Counts.{Counts}
use Rattle.image_format.specs.Format.{Format, each_is}
use Rattle.image_format.specs.TreeFormat.{u16_within, u32_within}
use Rattle.image_reader.specs.Grammar.{name_format, device_format, named_monitor_format, condition_format, routine_format, named_process_format, instr_format, counts_format}
use Rattle.image_reader.specs.File as file
use Rattle.image_reader.specs.File.{Parts, framed, all_used, counts_of, image_format, image_with, used_by, with_devices, with_monitors}
use Rattle.asm_format.specs.Mnemonics.{instr_line}
use Rattle.asm_format.specs.Text.{head_line, direction, device_line, event_line, monitor_line, monitors_text, condition_line, routine_lines, process_lines, processes_text, text_of}
use Rattle.text_fields.specs.Front.{Front, Read, begins, skip, end_read, line_start}
use Rattle.asm_lines.specs.Names.{device_read, event_read, monitor_read, condition_read}
use Rattle.asm_lines.specs.Routines.{routine_line_read, routine_read}
use Rattle.asm_lines.specs.Processes.{process_line_read, process_read}
use Rattle.asm_lines.specs.Instrs.{instr_read}
use Rattle.assembler.specs.Sections.{rows_read, devices_read, events_read, monitors_read, conditions_read, routines_read, processes_read, is_end, is_complete, code_read, work_read, guarded_read, named_read, last_read, finish_read, owners_in, text_read}
use Rattle.asm_law.specs.AsmReads.{TextsWrittenAreRead}
use Rattle.asm_law.proofs.ReadsNumbers.{Stops, begins_self}
use Rattle.asm_law.proofs.ReadsNames.{in_u16, in_u32, is_name, head_reads, device_reads, event_reads, monitor_reads, condition_reads}
use Rattle.asm_law.proofs.ReadsRoutines.{routine_reads}
use Rattle.asm_law.proofs.ReadsProcesses.{process_reads}
use Rattle.asm_law.proofs.ReadsInstrs.{instr_reads}
use Rattle.asm_law.proofs.Owners.{not_first, head_owners, device_owners, event_owners, monitor_owners, condition_owners, routine_owners, process_owners, instr_stops, instr_owners, row_owners, row_counts}

-- ---- rows of lines

module _ {A B : Type 0} (is_next : List ℕ → Bool) (one : List A → Front → Read A) (line : List A → Front → Read B) (f : List A → Format A) (write : A → List ℕ)
    (next : (x : A) (rest : List ℕ) → is_next (write x ++ rest) ≡ true)
    (reads : (earlier : List A) (x : A) (rest : List ℕ) → (f earlier).is x ≡ true → one earlier (line_start (write x ++ rest)) ≡ Ok (x, line_start rest)) (rest : List ℕ) (stop : is_next rest ≡ false) where
  rows : (earlier : List A) (count most : ℕ) (xs : List A) → count ≤ most → each_is f earlier count xs ≡ true → rows_read is_next one line earlier most (line_start (flat_map write xs ++ rest)) ≡ Ok (xs, line_start rest)
  unfolding rows_read
  rows earlier zero zero [] few h = rw stop refl
  rows earlier zero (suc most) [] few h = rw stop refl
  rows earlier zero zero (x ∷ xs) few h = absurd cc
  rows earlier zero (suc most) (x ∷ xs) few h = absurd cc
  rows earlier (suc n) zero xs few h = absurd (omega (arith, few))
  rows earlier (suc n) (suc most) [] few h = absurd cc
  rows earlier (suc n) (suc most) (x ∷ xs) few h =
      let p = and_parts ((f earlier).is x) (each_is f (earlier ++ x ∷ []) n xs) h in
      let after = flat_map write xs ++ rest in
      ap (λ t. rows_read is_next one line earlier (suc most) (line_start t)) (append_assoc (write x) (flat_map write xs) rest)
      ∙ rw (next x after, reads earlier x after p.0, rows (earlier ++ x ∷ []) n most xs (omega (arith, few)) p.1) refl

-- lines of another kind, and what is after them, do not begin with a byte
rows_stop : {A : Type 0} (test : ℕ → Bool) (write : A → List ℕ) → ((x : A) (rest : List ℕ) → Stops test (write x ++ rest)) → (xs : List A) (rest : List ℕ) → Stops test rest → Stops test (flat_map write xs ++ rest)
rows_stop test write first [] rest h = h
rows_stop test write first (x ∷ xs) rest h = subst (Stops test) (sym (append_assoc (write x) (flat_map write xs) rest)) (first x (flat_map write xs ++ rest))

-- nor where there is a line of the other kind
some_stop : {A : Type 0} (test : ℕ → Bool) (write : A → List ℕ) → ((x : A) (rest : List ℕ) → Stops test (write x ++ rest)) → (xs : List A) (rest : List ℕ) → 0 < length xs → Stops test (flat_map write xs ++ rest)
some_stop test write first [] rest some = absurd (omega (arith, some))
some_stop test write first (x ∷ xs) rest some = subst (Stops test) (sym (append_assoc (write x) (flat_map write xs) rest)) (first x (flat_map write xs ++ rest))

-- ---- the first line of a section

device_next : (d : DeviceName) (rest : List ℕ) → begins (codes "device ") (device_line d ++ rest) ≡ true
device_next d rest = begins_self (codes "device ") ((d.name ++ direction d.out) ++ rest)

event_next : (name rest : List ℕ) → begins (codes "event ") (event_line name ++ rest) ≡ true
event_next name rest = begins_self (codes "event ") ((name ++ codes "\n") ++ rest)

-- a line that begins with the word
behind : (word more rest : List ℕ) → begins word ((word ++ more) ++ rest) ≡ true
behind word more rest = ap (begins word) (append_assoc word more rest) ∙ begins_self word (more ++ rest)

monitor_next : (x : List ℕ × Monitor) (rest : List ℕ) → begins (codes "monitor ") (monitor_line x.0 x.1 ++ rest) ≡ true
monitor_next x rest = behind (codes "monitor ") _ rest

condition_next : (c : ConditionName) (rest : List ℕ) → begins (codes "condition ") (condition_line c ++ rest) ≡ true
condition_next c rest = behind (codes "condition ") _ rest

routine_next : (r : Routine) (rest : List ℕ) → begins (codes "routine ") (routine_lines r ++ rest) ≡ true
routine_next r rest = behind (codes "routine ") _ rest

process_next : (x : List ℕ × Process) (rest : List ℕ) → begins (codes "process ") (process_lines x.0 x.1 ++ rest) ≡ true
process_next x rest = behind (codes "process ") _ rest

instr_next : (instr : Instr) (rest : List ℕ) → not (is_end (instr_line instr ++ rest)) ≡ true
instr_next instr rest = ap not (not_first 101 (codes "nd\n") (instr_line instr ++ rest) (instr_stops 101 (omega arith) instr rest))

finish_back : finish_read (line_start (codes "end\n")) ≡ Ok (line_start [])
unfolding finish_read last_read skip end_read
finish_back = refl

-- ---- the text, row by row

events_text : (at_event : ℕ) (events : List (List ℕ)) (processes : List Process) → flat_map (λ e. event_line e.name) (framed at_event events processes) ≡ flat_map event_line events
events_text n [] processes = refl
events_text n (e ∷ es) processes = ap (λ (more : List ℕ). event_line e ++ more) (events_text (n + 1) es processes)

pub monitors_are_rows : (ms : List (List ℕ × Monitor)) → monitors_text (map (λ m. m.0) ms) (map (λ m. m.1) ms) ≡ flat_map (λ m. monitor_line m.0 m.1) ms
monitors_are_rows [] = refl
monitors_are_rows (m ∷ ms) = ap (λ (more : List ℕ). monitor_line m.0 m.1 ++ more) (monitors_are_rows ms)

pub processes_are_rows : (ps : List (List ℕ × Process)) → processes_text (map (λ p. p.0) ps) (map (λ p. p.1) ps) ≡ flat_map (λ p. process_lines p.0 p.1) ps
processes_are_rows [] = refl
processes_are_rows (p ∷ ps) = ap (λ (more : List ℕ). process_lines p.0 p.1 ++ more) (processes_are_rows ps)

sections : {es events ms monitors ps processes : List ℕ} (head devices conditions routines code : List ℕ) → es ≡ events → ms ≡ monitors → ps ≡ processes
    → head ++ ((devices ++ (es ++ (ms ++ conditions))) ++ (routines ++ (ps ++ code))) ≡ head ++ (devices ++ (events ++ (monitors ++ (conditions ++ (routines ++ (processes ++ code))))))
sections head devices conditions routines code e m p = rw (e, m, p) (simp append_assoc)

-- ---- what the format says of the parts

abbrev devices_are : List ℕ → List DeviceName → Bool
devices_are program devices = each_is (λ earlier. device_format ((program ∷ []) ++ map (λ d. d.name) earlier)) [] (length devices) devices

abbrev events_are : List (List ℕ) → List (List ℕ) → Bool
events_are taken events = each_is (λ earlier. name_format (taken ++ earlier)) [] (length events) events

abbrev monitors_are : List (List ℕ) → List (List ℕ × Monitor) → Bool
monitors_are taken monitors = each_is (λ earlier. named_monitor_format (taken ++ map (λ m. m.0) earlier)) [] (length monitors) monitors

abbrev conditions_are : List (List ℕ) → ℕ → List ConditionName → Bool
conditions_are taken monitors conditions = each_is (condition_format taken monitors) [] (length conditions) conditions

abbrev routines_are : Counts → List Routine → Bool
routines_are counts routines = each_is (λ earlier. routine_format counts) [] (length routines) routines

abbrev processes_are : Counts → List (List ℕ) → List (List ℕ × Process) → Bool
processes_are counts taken processes = each_is (λ earlier. named_process_format Second counts (taken ++ map (λ p. p.0) earlier) (used_by earlier)) [] (length processes) processes

abbrev code_is : List Instr → Bool
code_is code = each_is (λ earlier. instr_format) [] (length code) code

module _ (p : Parts) where
  abbrev counts : Counts
  counts = counts_of p

  abbrev before_events : List (List ℕ)
  before_events = with_devices (p.program ∷ []) p.devices

  abbrev before_monitors : List (List ℕ)
  before_monitors = before_events ++ p.events

  abbrev before_conditions : List (List ℕ)
  before_conditions = with_monitors before_monitors p.monitors

  record Known : Type 0 where
    over : p.over ≤ 1000
    some : 0 < length p.processes
    few_processes : length p.processes ≤ 64
    few_monitors : length p.monitors ≤ 64
    few_conditions : length p.conditions ≤ 256
    few_devices : length p.devices ≤ 64
    few_events : length p.events ≤ 64
    few_routines : length p.routines ≤ 512
    short : length p.code ≤ 65535
    program : (name_format []).is p.program ≡ true
    devices : devices_are p.program p.devices ≡ true
    events : events_are before_events p.events ≡ true
    monitors : monitors_are before_monitors p.monitors ≡ true
    conditions : conditions_are before_conditions (length p.monitors) p.conditions ≡ true
    routines : routines_are counts p.routines ≡ true
    processes : processes_are counts before_conditions p.processes ≡ true
    used : all_used (used_by p.processes) 0 (length p.events) ≡ true
    code : code_is p.code ≡ true

  code_known : (is_used : Bool) → (file.code_format is_used (length p.code)).is p.code ≡ true → (is_used ≡ true) × (code_is p.code ≡ true)
  code_known true h = (refl, h)
  code_known false h = absurd cc

  known : image_format.is (Second, p) ≡ true → Known
  known h =
      let used_is = all_used (used_by p.processes) 0 (length p.events) in
      let last_is = (file.code_format used_is (length p.code)).is p.code in
      let processes_is = processes_are counts before_conditions p.processes in
      let routines_is = routines_are counts p.routines in
      let conditions_is = conditions_are before_conditions (length p.monitors) p.conditions in
      let monitors_is = monitors_are before_monitors p.monitors in
      let events_is = events_are before_events p.events in
      let devices_is = devices_are p.program p.devices in
      let from_processes = processes_is && last_is in
      let from_routines = routines_is && from_processes in
      let from_conditions = conditions_is && from_routines in
      let from_monitors = monitors_is && from_conditions in
      let from_events = events_is && from_monitors in
      let from_devices = devices_is && from_events in
      let program_is = (name_format []).is p.program in
      let counts_are = counts_format.is counts in
      let over_is = (file.over_format Second).is p.over in
      let whole = and_parts (file.magic_format.is (codes "RTEU")) (file.version_format.is Second && (over_is && (counts_are && (program_is && from_devices)))) h in
      let versioned = and_parts (file.version_format.is Second) (over_is && (counts_are && (program_is && from_devices))) whole.1 in
      let over = and_parts over_is (counts_are && (program_is && from_devices)) versioned.1 in
      let counted = and_parts counts_are (program_is && from_devices) over.1 in
      let program = and_parts program_is from_devices counted.1 in
      let devices = and_parts devices_is from_events program.1 in
      let events = and_parts events_is from_monitors devices.1 in
      let monitors = and_parts monitors_is from_conditions events.1 in
      let conditions = and_parts conditions_is from_routines monitors.1 in
      let routines = and_parts routines_is from_processes conditions.1 in
      let processes = and_parts processes_is last_is routines.1 in
      let code = code_known used_is processes.1 in
      let many_processes = (u16_within 1 64).is (length p.processes) in
      let many_monitors = (u16_within 0 64).is (length p.monitors) in
      let many_conditions = (u16_within 0 256).is (length p.conditions) in
      let many_devices = (u16_within 0 64).is (length p.devices) in
      let many_events = (u16_within 0 64).is (length p.events) in
      let many_routines = (u16_within 0 512).is (length p.routines) in
      let much_code = (u32_within 0 65535).is (length p.code) in
      let c0 = and_parts many_processes (many_monitors && (many_conditions && (many_devices && (many_events && (many_routines && much_code))))) counted.0 in
      let c1 = and_parts many_monitors (many_conditions && (many_devices && (many_events && (many_routines && much_code)))) c0.1 in
      let c2 = and_parts many_conditions (many_devices && (many_events && (many_routines && much_code))) c1.1 in
      let c3 = and_parts many_devices (many_events && (many_routines && much_code)) c2.1 in
      let c4 = and_parts many_events (many_routines && much_code) c3.1 in
      let c5 = and_parts many_routines much_code c4.1 in
      record {
        over = (in_u16 0 1000 p.over over.0).1;
        some = (in_u16 1 64 (length p.processes) c0.0).0;
        few_processes = (in_u16 1 64 (length p.processes) c0.0).1;
        few_monitors = (in_u16 0 64 (length p.monitors) c1.0).1;
        few_conditions = (in_u16 0 256 (length p.conditions) c2.0).1;
        few_devices = (in_u16 0 64 (length p.devices) c3.0).1;
        few_events = (in_u16 0 64 (length p.events) c4.0).1;
        few_routines = (in_u16 0 512 (length p.routines) c5.0).1;
        short = (in_u32 0 65535 (length p.code) c5.1).1;
        program = program.0;
        devices = devices.0;
        events = events.0;
        monitors = monitors.0;
        conditions = conditions.0;
        routines = routines.0;
        processes = processes.0;
        used = code.0;
        code = code.1;
      }

  -- ---- the text, from each section on

  abbrev last_line : List ℕ
  last_line = codes "end\n"

  abbrev at_code : List ℕ
  at_code = flat_map instr_line p.code ++ last_line

  abbrev at_processes : List ℕ
  at_processes = flat_map (λ x. process_lines x.0 x.1) p.processes ++ at_code

  abbrev at_routines : List ℕ
  at_routines = flat_map routine_lines p.routines ++ at_processes

  abbrev at_conditions : List ℕ
  at_conditions = flat_map condition_line p.conditions ++ at_routines

  abbrev at_monitors : List ℕ
  at_monitors = flat_map (λ x. monitor_line x.0 x.1) p.monitors ++ at_conditions

  abbrev at_events : List ℕ
  at_events = flat_map event_line p.events ++ at_monitors

  abbrev at_devices : List ℕ
  at_devices = flat_map device_line p.devices ++ at_events

  abbrev text : List ℕ
  text = head_line p.program p.over ++ at_devices

  text_is : text_of (image_with p) ≡ text
  unfolding text_of
  text_is =
      sections (head_line p.program p.over) (flat_map device_line p.devices) (flat_map condition_line p.conditions) (flat_map routine_lines p.routines) at_code (events_text 0 p.events (map (λ x. x.1) p.processes))
      (monitors_are_rows p.monitors) (processes_are_rows p.processes)

  -- ---- no section begins as another one

  stops_code : Stops (λ b. nat_eq b 112) at_code
  stops_code = rows_stop (λ b. nat_eq b 112) instr_line (instr_stops 112 (omega arith)) p.code last_line refl

  module _ (c : ℕ) (some : 0 < length p.processes) where
    stops_processes : nat_eq 112 c ≡ false → Stops (λ b. nat_eq b c) at_processes
    stops_processes h = some_stop (λ b. nat_eq b c) (λ (x : List ℕ × Process). process_lines x.0 x.1) (λ x rest. h) p.processes at_code some

    stops_routines : nat_eq 112 c ≡ false → nat_eq 114 c ≡ false → Stops (λ b. nat_eq b c) at_routines
    stops_routines h i = rows_stop (λ b. nat_eq b c) routine_lines (λ x rest. i) p.routines at_processes (stops_processes h)

    stops_conditions : nat_eq 112 c ≡ false → nat_eq 114 c ≡ false → nat_eq 99 c ≡ false → Stops (λ b. nat_eq b c) at_conditions
    stops_conditions h i j = rows_stop (λ b. nat_eq b c) condition_line (λ x rest. j) p.conditions at_routines (stops_routines h i)

    stops_monitors : nat_eq 112 c ≡ false → nat_eq 114 c ≡ false → nat_eq 99 c ≡ false → nat_eq 109 c ≡ false → Stops (λ b. nat_eq b c) at_monitors
    stops_monitors h i j k = rows_stop (λ b. nat_eq b c) (λ (x : List ℕ × Monitor). monitor_line x.0 x.1) (λ x rest. k) p.monitors at_conditions (stops_conditions h i j)

    stops_events : nat_eq 112 c ≡ false → nat_eq 114 c ≡ false → nat_eq 99 c ≡ false → nat_eq 109 c ≡ false → nat_eq 101 c ≡ false → Stops (λ b. nat_eq b c) at_events
    stops_events h i j k l = rows_stop (λ b. nat_eq b c) event_line (λ x rest. l) p.events at_monitors (stops_monitors h i j k)

  -- ---- each section is read

  module _ (k : Known) where
    devices_back : devices_read (p.program ∷ []) (line_start at_devices) ≡ Ok (p.devices, line_start at_events)
    devices_back =
        rows (begins (codes "device ")) (λ earlier. device_read ((p.program ∷ []) ++ map (λ d. d.name) earlier)) (λ earlier. device_read ((p.program ∷ []) ++ map (λ d. d.name) earlier))
        (λ earlier. device_format ((p.program ∷ []) ++ map (λ d. d.name) earlier)) device_line device_next (λ earlier. device_reads ((p.program ∷ []) ++ map (λ d. d.name) earlier)) at_events
        (not_first 100 (codes "evice ") at_events (stops_events 100 k.some refl refl refl refl refl)) [] (length p.devices) 64 p.devices k.few_devices k.devices

    events_back : events_read before_events (line_start at_events) ≡ Ok (p.events, line_start at_monitors)
    events_back =
        rows (begins (codes "event ")) (λ earlier. event_read (before_events ++ earlier)) (λ earlier. event_read (before_events ++ earlier)) (λ earlier. name_format (before_events ++ earlier)) event_line event_next
        (λ earlier. event_reads (before_events ++ earlier)) at_monitors (not_first 101 (codes "vent ") at_monitors (stops_monitors 101 k.some refl refl refl refl)) [] (length p.events) 64 p.events k.few_events k.events

    monitors_back : monitors_read before_monitors (line_start at_monitors) ≡ Ok (p.monitors, line_start at_conditions)
    monitors_back =
        rows (begins (codes "monitor ")) (λ earlier. monitor_read (before_monitors ++ map (λ m. m.0) earlier)) (λ earlier. monitor_read (before_monitors ++ map (λ m. m.0) earlier))
        (λ earlier. named_monitor_format (before_monitors ++ map (λ m. m.0) earlier)) (λ x. monitor_line x.0 x.1) monitor_next (λ earlier. monitor_reads (before_monitors ++ map (λ m. m.0) earlier)) at_conditions
        (not_first 109 (codes "onitor ") at_conditions (stops_conditions 109 k.some refl refl refl)) [] (length p.monitors) 64 p.monitors k.few_monitors k.monitors

    conditions_back : conditions_read before_conditions (length p.monitors) (line_start at_conditions) ≡ Ok (p.conditions, line_start at_routines)
    conditions_back =
        rows (begins (codes "condition ")) (condition_read before_conditions (length p.monitors)) (condition_read before_conditions (length p.monitors)) (condition_format before_conditions (length p.monitors)) condition_line condition_next
        (condition_reads before_conditions (length p.monitors)) at_routines (not_first 99 (codes "ondition ") at_routines (stops_routines 99 k.some refl refl)) [] (length p.conditions) 256 p.conditions k.few_conditions k.conditions

    routines_back : routines_read (length p.processes) (length p.monitors) (line_start at_routines) ≡ Ok (p.routines, line_start at_processes)
    routines_back =
        rows (begins (codes "routine ")) (λ earlier. routine_read (length p.processes) (length p.monitors)) (λ earlier. routine_line_read (length p.processes) (length p.monitors)) (λ earlier. routine_format counts) routine_lines routine_next
        (λ earlier. routine_reads counts) at_processes (not_first 114 (codes "outine ") at_processes (stops_processes 114 k.some refl)) [] (length p.routines) 512 p.routines k.few_routines k.routines

    processes_back : processes_read (length p.monitors) (length p.events) before_conditions (line_start at_processes) ≡ Ok (p.processes, line_start at_code)
    processes_back =
        rows (begins (codes "process ")) (λ earlier. process_read (length p.monitors) (length p.events) (before_conditions ++ map (λ p. p.0) earlier) (used_by earlier))
        (λ earlier. process_line_read (length p.events) (before_conditions ++ map (λ p. p.0) earlier) (used_by earlier)) (λ earlier. named_process_format Second counts (before_conditions ++ map (λ p. p.0) earlier) (used_by earlier))
        (λ x. process_lines x.0 x.1) process_next (λ earlier. process_reads counts (before_conditions ++ map (λ p. p.0) earlier) (used_by earlier)) at_code (not_first 112 (codes "rocess ") at_code stops_code)
        [] (length p.processes) 64 p.processes k.few_processes k.processes

    code_back : code_read (is_complete (length p.events) p.processes) (line_start at_code) ≡ Ok (p.code, line_start last_line)
    unfolding code_read
    code_back =
        let complete : is_complete (length p.events) p.processes ≡ true = and_from (nat_lt 0 (length p.processes)) (all_used (used_by p.processes) 0 (length p.events)) (lt-ltb 0 (length p.processes) k.some) k.used in
        rw complete
        (rows (λ bytes. not (is_end bytes)) (λ earlier. instr_read) (λ earlier. instr_read) (λ earlier. instr_format) instr_line instr_next (λ earlier. instr_reads) last_line refl [] (length p.code) 65535 p.code k.short k.code)

    work_back : work_read (length p.processes) (length p.monitors) (length p.events) before_conditions (line_start at_routines) ≡ Ok ((p.routines, (p.processes, p.code)), line_start last_line)
    unfolding work_read
    work_back = rw (routines_back, processes_back, code_back) refl

    guarded_back : guarded_read (length p.processes) (length p.events) before_monitors (line_start at_monitors) ≡ Ok ((p.monitors, (p.conditions, (p.routines, (p.processes, p.code)))), line_start last_line)
    unfolding guarded_read
    guarded_back = rw (monitors_back, conditions_back, work_back) refl

    named_back : named_read (length p.processes) p.program (line_start at_devices) ≡ Ok ((p.devices, (p.events, (p.monitors, (p.conditions, (p.routines, (p.processes, p.code)))))), line_start last_line)
    unfolding named_read
    named_back = rw (devices_back, events_back, guarded_back) refl

    -- the owners of routines that the text tells are the processes
    owners : owners_in text ≡ length p.processes
    owners =
        head_owners p.program p.over at_devices (is_name [] p.program k.program) k.over
        ∙ row_owners (λ earlier. device_format ((p.program ∷ []) ++ map (λ d. d.name) earlier)) device_line at_events (λ earlier. device_owners ((p.program ∷ []) ++ map (λ d. d.name) earlier)) [] (length p.devices) p.devices k.devices
        ∙ row_owners (λ earlier. name_format (before_events ++ earlier)) event_line at_monitors (λ earlier. event_owners (before_events ++ earlier)) [] (length p.events) p.events k.events
        ∙ row_owners (λ earlier. named_monitor_format (before_monitors ++ map (λ m. m.0) earlier)) (λ x. monitor_line x.0 x.1) at_conditions (λ earlier. monitor_owners (before_monitors ++ map (λ m. m.0) earlier)) [] (length p.monitors) p.monitors k.monitors
        ∙ row_owners (condition_format before_conditions (length p.monitors)) condition_line at_routines (condition_owners before_conditions (length p.monitors)) [] (length p.conditions) p.conditions k.conditions
        ∙ row_owners (λ earlier. routine_format counts) routine_lines at_processes (λ earlier. routine_owners counts) [] (length p.routines) p.routines k.routines
        ∙ row_counts (λ earlier. named_process_format Second counts (before_conditions ++ map (λ p. p.0) earlier) (used_by earlier)) (λ x. process_lines x.0 x.1) at_code
        (λ earlier. process_owners counts (before_conditions ++ map (λ p. p.0) earlier) (used_by earlier)) [] (length p.processes) p.processes k.processes
        ∙ ap (λ n. length p.processes + n) (row_owners (λ earlier. instr_format) instr_line last_line (λ earlier. instr_owners) [] (length p.code) p.code k.code)
        ∙ (let e : length p.processes + 0 ≡ length p.processes = omega arith in e)

    text_back : text_read text ≡ Ok p
    unfolding text_read
    text_back = rw (head_reads p.program p.over at_devices (is_name [] p.program k.program) k.over, owners, named_back, finish_back) refl

pub written_are_read : TextsWrittenAreRead
written_are_read p h = ap text_read (text_is p) ∙ text_back p (known p h)
