-- The text of an image: its lines in their order, and the fault of the first line that is none of
-- them.
use Rattle.std.specs.Prelude.{◌+◌, ◌-◌, ◌++◌, ◌&&◌, ◌==◌, not, ℕ, zero, suc, Bool, true, false, List, [], ◌∷◌, length, map, take, Result, Ok, Err, codes, count_by, nat_lt, if◌then◌else◌}
use Rattle.machine_isa.specs.declared.instr.Instr.{Instr}
use Rattle.machine_semantics.specs.Image.{Monitor, Routine, Process}
use Rattle.image.specs.declared.names.ConditionName.{ConditionName}
use Rattle.image.specs.declared.names.DeviceName.{DeviceName}
use Rattle.image_reader.specs.File.{Parts, all_used, used_by, with_devices, with_monitors}
use Rattle.text_fields.specs.declared.fault.FieldFault.{FieldFault}
use Rattle.text_fields.specs.Front.{Front, Read, ◌>>=◌, no_form, out_of_range, begins, skip, end_read, line_start}
use Rattle.asm_lines.specs.TreeForm.{cuts}
use Rattle.asm_lines.specs.Names.{head_read, device_read, event_read, monitor_read, condition_read}
use Rattle.asm_lines.specs.Routines.{routine_line_read, routine_read}
use Rattle.asm_lines.specs.Processes.{process_line_read, process_read}
use Rattle.asm_lines.specs.Instrs.{instr_read}

-- ---- parts of a kind, one after the other

-- a line that must not stand here is in no form, or else out of range
abbrev pub refused : {A : Type 0} → Read A → Front → FieldFault
refused (Err e) s = e
refused (Ok x) s = out_of_range s

-- no more lines of the kind
abbrev pub no_more : {A : Type 0} → (is_next : List ℕ → Bool) → (line : Front → Read A) → Front → Result Front FieldFault
no_more is_next line s = if is_next s.rest then Err (refused (line s) s) else Ok s

-- parts of a kind as long as a line of the kind is next, at most so many; a part may depend on
-- those before it
unfoldable pub rows_read : {A B : Type 0} → (is_next : List ℕ → Bool) → (one : List A → Front → Read A) → (line : List A → Front → Read B) → (earlier : List A) → (most : ℕ) → Front → Read (List A)
rows_read is_next one line earlier zero s = no_more is_next (line earlier) s >>= λ t. Ok ([], t)
rows_read is_next one line earlier (suc n) s =
    if is_next s.rest then (one earlier s >>= λ x. rows_read is_next one line (earlier ++ x.0 ∷ []) n x.1 >>= λ xs. Ok (x.0 ∷ xs.0, xs.1)) else Ok ([], s)

abbrev pub devices_read : (taken : List (List ℕ)) → Front → Read (List DeviceName)
devices_read taken s =
    rows_read (begins (codes "device ")) (λ earlier. device_read (taken ++ map (λ d. d.name) earlier)) (λ earlier. device_read (taken ++ map (λ d. d.name) earlier)) [] 64 s

abbrev pub events_read : (taken : List (List ℕ)) → Front → Read (List (List ℕ))
events_read taken s = rows_read (begins (codes "event ")) (λ earlier. event_read (taken ++ earlier)) (λ earlier. event_read (taken ++ earlier)) [] 64 s

abbrev pub monitors_read : (taken : List (List ℕ)) → Front → Read (List (List ℕ × Monitor))
monitors_read taken s =
    rows_read (begins (codes "monitor ")) (λ earlier. monitor_read (taken ++ map (λ m. m.0) earlier)) (λ earlier. monitor_read (taken ++ map (λ m. m.0) earlier)) [] 64 s

abbrev pub conditions_read : (taken : List (List ℕ)) → (monitors : ℕ) → Front → Read (List ConditionName)
conditions_read taken monitors s = rows_read (begins (codes "condition ")) (condition_read taken monitors) (condition_read taken monitors) [] 256 s

abbrev pub routines_read : (processes monitors : ℕ) → Front → Read (List Routine)
routines_read processes monitors s = rows_read (begins (codes "routine ")) (λ earlier. routine_read processes monitors) (λ earlier. routine_line_read processes monitors) [] 512 s

abbrev pub processes_read : (monitors events : ℕ) → (taken : List (List ℕ)) → Front → Read (List (List ℕ × Process))
processes_read monitors events taken s =
    rows_read (begins (codes "process ")) (λ earlier. process_read monitors events (taken ++ map (λ p. p.0) earlier) (used_by earlier))
    (λ earlier. process_line_read events (taken ++ map (λ p. p.0) earlier) (used_by earlier)) [] 64 s

-- ---- the code, and the end

abbrev pub is_end : List ℕ → Bool
is_end bytes = begins (codes "end\n") bytes

-- the last line
unfoldable pub last_read : Front → Result Front FieldFault
last_read s = skip (codes "end") s >>= end_read

-- a line after the processes, where there must be none: there is no process, or an event of none
unfoldable pub none_read : Front → FieldFault
none_read s = if is_end s.rest then out_of_range s else refused (instr_read s) s

-- there is a process, and each event is of one
abbrev pub is_complete : (events : ℕ) → List (List ℕ × Process) → Bool
is_complete events processes = nat_lt 0 (length processes) && all_used (used_by processes) 0 events

unfoldable pub code_read : (complete : Bool) → Front → Read (List Instr)
code_read complete s = if complete then rows_read (λ bytes. not (is_end bytes)) (λ earlier. instr_read) (λ earlier. instr_read) [] 65535 s else Err (none_read s)

-- the routines, the processes and the code
unfoldable pub work_read : (owners monitors events : ℕ) → (taken : List (List ℕ)) → Front → Read (List Routine × (List (List ℕ × Process) × List Instr))
work_read owners monitors events taken s =
    routines_read owners monitors s >>= λ routines. processes_read monitors events taken routines.1 >>= λ processes.
    code_read (is_complete events processes.0) processes.1 >>= λ code. Ok ((routines.0, (processes.0, code.0)), code.1)

-- the monitors, the conditions, and all that follows
unfoldable pub guarded_read : (owners events : ℕ) → (taken : List (List ℕ)) → Front → Read (List (List ℕ × Monitor) × (List ConditionName × (List Routine × (List (List ℕ × Process) × List Instr))))
guarded_read owners events taken s =
    monitors_read taken s >>= λ monitors. conditions_read (with_monitors taken monitors.0) (length monitors.0) monitors.1 >>= λ conditions.
    work_read owners (length monitors.0) events (with_monitors taken monitors.0) conditions.1 >>= λ work. Ok ((monitors.0, (conditions.0, work.0)), work.1)

-- the devices, the events, and all that follows
unfoldable pub named_read : (owners : ℕ) → (program : List ℕ) → Front
    → Read (List DeviceName × (List (List ℕ) × (List (List ℕ × Monitor) × (List ConditionName × (List Routine × (List (List ℕ × Process) × List Instr))))))
named_read owners program s =
    devices_read (program ∷ []) s >>= λ devices. events_read (with_devices (program ∷ []) devices.0) devices.1 >>= λ events.
    guarded_read owners (length events.0) (with_devices (program ∷ []) devices.0 ++ events.0) events.1 >>= λ guarded. Ok ((devices.0, (events.0, guarded.0)), guarded.1)

-- the last line, and nothing after it
abbrev pub nothing_after : Front → Result Front FieldFault
nothing_after s = if length s.rest == 0 then Ok s else Err (no_form s)

unfoldable pub finish_read : Front → Result Front FieldFault
finish_read s = last_read s >>= nothing_after

abbrev pub parts_of_lines : List ℕ × ℕ → List DeviceName × (List (List ℕ) × (List (List ℕ × Monitor) × (List ConditionName × (List Routine × (List (List ℕ × Process) × List Instr))))) → Parts
parts_of_lines head x = record {
  over = head.1;
  program = head.0;
  devices = x.0;
  events = x.1.0;
  monitors = x.1.1.0;
  conditions = x.1.1.1.0;
  routines = x.1.1.1.1.0;
  processes = x.1.1.1.1.1.0;
  code = x.1.1.1.1.1.1;
}

-- the processes of a text, of which a routine names its owner, are as many as it has lines that
-- begin with this word
abbrev pub owners_in : (text : List ℕ) → ℕ
owners_in text = count_by (begins (codes "process ")) (cuts 10 text)

-- the parts of an image that the text tells, or the first fault
unfoldable pub text_read : (text : List ℕ) → Result Parts FieldFault
text_read text =
    head_read (line_start text) >>= λ head. named_read (owners_in text) head.0.0 head.1 >>= λ x. finish_read x.1 >>= λ t. Ok (parts_of_lines head.0 x.0)

-- the line of a text from which on so many bytes are left, counted from 1
abbrev pub line_at : (text : List ℕ) → (left : ℕ) → ℕ
line_at text left = count_by (λ b. b == 10) (take (length text - left) text) + 1
