-- The sections of a text.
use Rattle.std.proofs.Common.{◌≡◌, ◌≤◌, ◌+◌, ◌++◌, ◌==◌, ℕ, Bool, true, false, List, [], ◌∷◌, length, map, refl, arith}
use Rattle.std.specs.Prelude.{codes, not}
use Rattle.std.specs.List.{flat_map}
use Rattle.std.proofs.lemmas.Bool.{eqb-true}
use Rattle.machine_isa.specs.declared.instr.Instr.{Instr}
use Rattle.machine_semantics.specs.Image.{Monitor, Routine, Process}
use Rattle.image.specs.declared.names.ConditionName.{ConditionName}
use Rattle.image.specs.declared.names.DeviceName.{DeviceName}
use Rattle.image_reader.specs.Grammar as g
use Rattle.image_reader.specs.File.{used_by, with_devices, with_monitors}
use Rattle.asm_format.specs.Mnemonics.{instr_line}
use Rattle.asm_format.specs.Text.{device_line, event_line, monitor_line, condition_line, routine_lines, process_lines}
use Rattle.text_fields.specs.Front.{Front, begins}
use Rattle.asm_lines.specs.Names.{device_read, event_read, monitor_read, condition_read}
use Rattle.asm_lines.specs.Routines.{routine_line_read, routine_read}
use Rattle.asm_lines.specs.Processes.{process_line_read, process_read}
use Rattle.asm_lines.specs.Instrs.{instr_read}
use Rattle.assembler.specs.Sections.{devices_read, events_read, monitors_read, conditions_read, routines_read, processes_read, is_end, is_complete, code_read, work_read, guarded_read, named_read, last_read, finish_read}
use Rattle.asm_law.proofs.Took.{Start, Takes, on, along, recount, shown, Holds, went, failed, next, choice, mapped, both_hold}
use Rattle.asm_law.proofs.Passing.{other_line, skip_took, end_took, end_fine}
use Rattle.asm_law.proofs.SoundNames.{IsName, device_took, event_took, monitor_took, condition_took}
use Rattle.asm_law.proofs.SoundRoutines.{IsRoutine, routine_took}
use Rattle.asm_law.proofs.SoundProcesses.{IsProcess, process_took}
use Rattle.asm_law.proofs.SoundInstrs.{instr_took}
use Rattle.asm_law.proofs.SoundRows.{EachHeld, plain_rows, owner_rows}
use Rattle.image_reader_law.proofs.ImageFaultsWhole.{Work, Guarded, Named}

-- a section of no processes
abbrev Section : {A : Type 0} → (write : A → List ℕ) → (Held : List A → A → Type 0) → (most : ℕ) → Front → List A × Front → Type 0
Section write Held most s z = (length z.0 ≤ most) × Takes Start Start 0 s z.1 (flat_map write z.0) (EachHeld Held [] z.0)

abbrev pub IsDevice : (taken : List (List ℕ)) → List DeviceName → DeviceName → Type 0
IsDevice taken earlier d = (g.device_format (taken ++ map (λ e. e.name) earlier)).is d ≡ true

devices_took : (taken : List (List ℕ)) (s : Front) → Holds (Section device_line (IsDevice taken) 64 s) (devices_read taken s)
devices_took taken s =
    plain_rows (begins (codes "device ")) (λ earlier. device_read (taken ++ map (λ d. d.name) earlier)) (λ earlier. device_read (taken ++ map (λ d. d.name) earlier)) device_line (IsDevice taken)
    (λ earlier t. device_took (taken ++ map (λ d. d.name) earlier) t) 64 s

abbrev pub IsEvent : (taken : List (List ℕ)) → List (List ℕ) → List ℕ → Type 0
IsEvent taken earlier name = IsName (taken ++ earlier) name

events_took : (taken : List (List ℕ)) (s : Front) → Holds (Section event_line (IsEvent taken) 64 s) (events_read taken s)
events_took taken s =
    plain_rows (begins (codes "event ")) (λ earlier. event_read (taken ++ earlier)) (λ earlier. event_read (taken ++ earlier)) event_line (IsEvent taken) (λ earlier t. event_took (taken ++ earlier) t) 64 s

abbrev pub monitor_text : List ℕ × Monitor → List ℕ
monitor_text m = monitor_line m.0 m.1

abbrev pub IsMonitor : (taken : List (List ℕ)) → List (List ℕ × Monitor) → List ℕ × Monitor → Type 0
IsMonitor taken earlier m = (g.named_monitor_format (taken ++ map (λ e. e.0) earlier)).is m ≡ true

monitors_took : (taken : List (List ℕ)) (s : Front) → Holds (Section monitor_text (IsMonitor taken) 64 s) (monitors_read taken s)
monitors_took taken s =
    plain_rows (begins (codes "monitor ")) (λ earlier. monitor_read (taken ++ map (λ m. m.0) earlier)) (λ earlier. monitor_read (taken ++ map (λ m. m.0) earlier)) monitor_text (IsMonitor taken)
    (λ earlier t. monitor_took (taken ++ map (λ m. m.0) earlier) t) 64 s

abbrev pub IsCondition : (taken : List (List ℕ)) → (monitors : ℕ) → List ConditionName → ConditionName → Type 0
IsCondition taken monitors earlier c = (g.condition_format taken monitors earlier).is c ≡ true

conditions_took : (taken : List (List ℕ)) (monitors : ℕ) (s : Front) → Holds (Section condition_line (IsCondition taken monitors) 256 s) (conditions_read taken monitors s)
conditions_took taken monitors s =
    plain_rows (begins (codes "condition ")) (condition_read taken monitors) (condition_read taken monitors) condition_line (IsCondition taken monitors) (λ earlier t. condition_took taken monitors earlier t) 256 s

abbrev pub IsRoutineOf : (owners monitors : ℕ) → List Routine → Routine → Type 0
IsRoutineOf owners monitors earlier r = IsRoutine owners monitors r

routines_took : (owners monitors : ℕ) (s : Front) → Holds (Section routine_lines (IsRoutineOf owners monitors) 512 s) (routines_read owners monitors s)
routines_took owners monitors s =
    plain_rows (begins (codes "routine ")) (λ earlier. routine_read owners monitors) (λ earlier. routine_line_read owners monitors) routine_lines (IsRoutineOf owners monitors)
    (λ earlier t. routine_took owners monitors t) 512 s

abbrev pub process_text : List ℕ × Process → List ℕ
process_text p = process_lines p.0 p.1

abbrev pub IsProcessOf : (monitors events : ℕ) → (taken : List (List ℕ)) → List (List ℕ × Process) → List ℕ × Process → Type 0
IsProcessOf monitors events taken earlier p = IsProcess monitors events (taken ++ map (λ e. e.0) earlier) (used_by earlier) p

abbrev Processes : (monitors events : ℕ) → (taken : List (List ℕ)) → Front → List (List ℕ × Process) × Front → Type 0
Processes monitors events taken s z =
    (length z.0 ≤ 64) × Takes Start Start (length z.0) s z.1 (flat_map process_text z.0) (EachHeld (IsProcessOf monitors events taken) [] z.0)

processes_took : (monitors events : ℕ) (taken : List (List ℕ)) (s : Front) → Holds (Processes monitors events taken s) (processes_read monitors events taken s)
processes_took monitors events taken s =
    owner_rows (begins (codes "process ")) (λ earlier. process_read monitors events (taken ++ map (λ p. p.0) earlier) (used_by earlier))
    (λ earlier. process_line_read events (taken ++ map (λ p. p.0) earlier) (used_by earlier)) process_text (IsProcessOf monitors events taken)
    (λ earlier t. process_took monitors events (taken ++ map (λ p. p.0) earlier) (used_by earlier) t) 64 s

abbrev pub IsInstr : List Instr → Instr → Type 0
IsInstr earlier i = g.instr_format.is i ≡ true

abbrev Code : (complete : Bool) → Front → List Instr × Front → Type 0
Code complete s z = (complete ≡ true) × Section instr_line IsInstr 65535 s z

code_took : (complete : Bool) (s : Front) → Holds (Code complete s) (code_read complete s)
unfolding code_read
code_took false s = failed
code_took true s =
    mapped (λ z a. (refl, a)) (plain_rows (λ bytes. not (is_end bytes)) (λ earlier. instr_read) (λ earlier. instr_read) instr_line IsInstr (λ earlier t. instr_took t) 65535 s)

-- ---- the routines, the processes and the code

abbrev pub work_text : Work → List ℕ
work_text w = flat_map routine_lines w.0 ++ (flat_map process_text w.1.0 ++ flat_map instr_line w.1.1)

abbrev pub WorkFits : (events : ℕ) → Work → Type 0
WorkFits events w = (length w.0 ≤ 512) × (length w.1.0 ≤ 64) × (length w.1.1 ≤ 65535) × (is_complete events w.1.0 ≡ true)

abbrev pub IsWork : (owners monitors events : ℕ) → (taken : List (List ℕ)) → Work → Type 0
IsWork owners monitors events taken w =
    EachHeld (IsRoutineOf owners monitors) [] w.0 × (EachHeld (IsProcessOf monitors events taken) [] w.1.0 × EachHeld IsInstr [] w.1.1)

work_took : (owners monitors events : ℕ) (taken : List (List ℕ)) (s : Front)
    → Holds (λ z. WorkFits events z.0 × Takes Start Start (length z.0.1.0) s z.1 (work_text z.0) (IsWork owners monitors events taken z.0)) (work_read owners monitors events taken s)
unfolding work_read
work_took owners monitors events taken s =
    next (routines_took owners monitors s) (λ routines a. next (processes_took monitors events taken routines.1) (λ processes b. next (code_took (is_complete events processes.0) processes.1) (λ code c.
    went ((a.0, b.0, c.1.0, c.0), recount (let n = length processes.0 in let e : 0 + (n + 0) ≡ n = omega arith in e) (along a.1 (along b.1 c.1.1))))))

-- ---- the monitors, the conditions, and all that follows

abbrev pub guarded_text : Guarded → List ℕ
guarded_text x = flat_map monitor_text x.0 ++ (flat_map condition_line x.1.0 ++ work_text x.1.1)

abbrev pub GuardedFits : (events : ℕ) → Guarded → Type 0
GuardedFits events x = (length x.0 ≤ 64) × (length x.1.0 ≤ 256) × WorkFits events x.1.1

abbrev pub IsGuarded : (owners events : ℕ) → (taken : List (List ℕ)) → Guarded → Type 0
IsGuarded owners events taken x =
    EachHeld (IsMonitor taken) [] x.0 × (EachHeld (IsCondition (with_monitors taken x.0) (length x.0)) [] x.1.0 × IsWork owners (length x.0) events (with_monitors taken x.0) x.1.1)

guarded_took : (owners events : ℕ) (taken : List (List ℕ)) (s : Front)
    → Holds (λ z. GuardedFits events z.0 × Takes Start Start (length z.0.1.1.1.0) s z.1 (guarded_text z.0) (IsGuarded owners events taken z.0)) (guarded_read owners events taken s)
unfolding guarded_read
guarded_took owners events taken s =
    next (monitors_took taken s) (λ monitors a. next (conditions_took (with_monitors taken monitors.0) (length monitors.0) monitors.1) (λ conditions b.
    next (work_took owners (length monitors.0) events (with_monitors taken monitors.0) conditions.1) (λ work c.
    went ((a.0, b.0, c.0), recount (let n = length work.0.1.0 in let e : 0 + (0 + n) ≡ n = omega arith in e) (along a.1 (along b.1 c.1))))))

-- ---- the devices, the events, and all that follows

abbrev pub named_text : Named → List ℕ
named_text x = flat_map device_line x.0 ++ (flat_map event_line x.1.0 ++ guarded_text x.1.1)

abbrev pub NamedFits : Named → Type 0
NamedFits x = (length x.0 ≤ 64) × (length x.1.0 ≤ 64) × GuardedFits (length x.1.0) x.1.1

abbrev pub IsNamed : (owners : ℕ) → (program : List ℕ) → Named → Type 0
IsNamed owners program x =
    EachHeld (IsDevice (program ∷ [])) [] x.0
    × (EachHeld (IsEvent (with_devices (program ∷ []) x.0)) [] x.1.0 × IsGuarded owners (length x.1.0) (with_devices (program ∷ []) x.0 ++ x.1.0) x.1.1)

pub named_took : (owners : ℕ) (program : List ℕ) (s : Front)
    → Holds (λ z. NamedFits z.0 × Takes Start Start (length z.0.1.1.1.1.1.0) s z.1 (named_text z.0) (IsNamed owners program z.0)) (named_read owners program s)
unfolding named_read
named_took owners program s =
    next (devices_took (program ∷ []) s) (λ devices a. next (events_took (with_devices (program ∷ []) devices.0) devices.1) (λ events b.
    next (guarded_took owners (length events.0) (with_devices (program ∷ []) devices.0 ++ events.0) events.1) (λ guarded c.
    went ((a.0, b.0, c.0), recount (let n = length guarded.0.1.1.1.0 in let e : 0 + (0 + n) ≡ n = omega arith in e) (along a.1 (along b.1 c.1))))))

-- ---- the last line

abbrev Last : Front → Front → Type 0
Last s t = (t.fine ≡ true) × Takes Start Start 0 s t (codes "end\n") (Unit {0})

last_took : (s : Front) → Holds (Last s) (last_read s)
unfolding last_read
last_took s =
    next (skip_took (codes "end") s (other_line (codes "end") refl)) (λ t a. mapped (λ u b. (b.0, (let took = on a b.1 in shown took refl (λ held. tt)))) (both_hold (end_fine t) (end_took t)))

no_bytes : (bytes : List ℕ) → (length bytes == 0) ≡ true → bytes ≡ []
no_bytes [] h = refl
no_bytes (b ∷ bs) h = absurd (let e : length (b ∷ bs) ≡ 0 = eqb-true (length (b ∷ bs)) 0 h in omega (arith, e))

pub finish_took : (s : Front) → Holds (λ t. (t.rest ≡ []) × Last s t) (finish_read s)
unfolding finish_read
finish_took s = next (last_took s) (λ t a. choice (length t.rest == 0) (λ h. went (no_bytes t.rest h, a)) (λ h. failed))
