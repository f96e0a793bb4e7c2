-- The format of images is put together of fields.
use Rattle.std.proofs.Common.{◌≡◌, ◌||◌, ◌==◌, ◌++◌, ℕ, Bool, true, false, List, [], ◌∷◌, length, Option, refl, sym, ap}
use Rattle.std.specs.Prelude.{nat_lt, nat_eq, map, codes, if◌then◌else◌}
use Rattle.std.specs.Cmp.Lexicographic.{pointwise}
use Rattle.std.proofs.lemmas.Bool.{eqb-true, and_parts}
use Rattle.machine_isa.specs.declared.instr.Instr.{Instr}
use Rattle.machine_semantics.specs.Image.{Monitor, Routine, Process}
use Rattle.image.specs.Bytes.{Version, First, Second}
use Rattle.image.specs.declared.names.ConditionName.{ConditionName}
use Rattle.image.specs.declared.names.DeviceName.{DeviceName}
use Rattle.image_reader.specs.declared.counts.Counts.{Counts}
use Rattle.image_format.specs.Format.{Format, u16, bytes_as_are, unless, is_fine, checked, both}
use Rattle.image_reader.specs.Grammar as g
use Rattle.image_reader.specs.File as f
use Rattle.image_reader.proofs.Words.{same_words}
use Rattle.image_reader_law.proofs.ImageSoundFields.{each_long}
use Rattle.image_reader_law.specs.Faults as s
use Rattle.image_reader_law.specs.Faults.{Sort, Thing, Form, IsMade, natural, device, monitor, condition, routine, process, instruction, pair, list}
use Rattle.image_reader_law.proofs.Known as k
use Rattle.image_reader_law.proofs.Known.{Known}
use Rattle.image_reader_law.proofs.Grammar.{a_name, a_device, a_named_monitor, a_condition, some_counts, a_routine}
use Rattle.image_reader_law.proofs.Processes.{a_named_process}
use Rattle.image_reader_law.proofs.ImageFaultsInstructions.{an_instruction}
use Rattle.image_reader_law.proofs.ImageFaultsFields.{fine_is}

made_pair : (a b : Sort) (f : Form a) (g : Thing a → Form b) → IsMade a f → ((x : Thing a) → IsMade b (g x)) → IsMade (pair a b) (both f g)
made_pair a b f g m ms = s.a_pair m ms

-- ---- the lists of a file

pub all_devices : (counts : Counts) (taken : List (List ℕ)) → Known (list device) (f.devices_format counts taken)
all_devices counts taken = k.a_list device (λ earlier. g.device_format (taken ++ map (λ d. d.name) earlier)) (λ earlier. a_device (taken ++ map (λ d. d.name) earlier)) [] counts.devices

pub all_events : (counts : Counts) (taken : List (List ℕ)) → Known (list (list natural)) (f.events_format counts taken)
all_events counts taken = k.a_list (list natural) (λ earlier. g.name_format (taken ++ earlier)) (λ earlier. a_name (taken ++ earlier)) [] counts.events

pub all_monitors : (counts : Counts) (taken : List (List ℕ)) → Known (list (pair (list natural) monitor)) (f.monitors_format counts taken)
all_monitors counts taken =
    k.a_list (pair (list natural) monitor) (λ earlier. g.named_monitor_format (taken ++ map (λ m. m.0) earlier)) (λ earlier. a_named_monitor (taken ++ map (λ m. m.0) earlier)) [] counts.monitors

pub all_conditions : (counts : Counts) (taken : List (List ℕ)) → Known (list condition) (f.conditions_format counts taken)
all_conditions counts taken = k.a_list condition (g.condition_format taken counts.monitors) (a_condition taken counts.monitors) [] counts.conditions

pub all_routines : (counts : Counts) → Known (list routine) (f.routines_format counts)
all_routines counts = k.a_list routine (λ earlier. g.routine_format counts) (λ earlier. a_routine counts) [] counts.routines

pub all_processes : (version : Version) (counts : Counts) (taken : List (List ℕ)) → Known (list (pair (list natural) process)) (f.processes_format version counts taken)
all_processes version counts taken =
    k.a_list (pair (list natural) process) (λ earlier. g.named_process_format version counts (taken ++ map (λ p. p.0) earlier) (f.used_by earlier))
    (λ earlier. a_named_process version counts (f.used_by earlier) (taken ++ map (λ p. p.0) earlier)) [] counts.processes

pub all_code : (count : ℕ) → Known (list instruction) (f.code_format true count)
all_code count = k.a_list instruction (λ earlier. g.instr_format) (λ earlier. an_instruction) [] count

code_made : (is_used : Bool) (count : ℕ) → IsMade (list instruction) (f.code_format is_used count)
code_made true count = (all_code count).made
code_made false count = s.no_code count

-- ---- what stands behind the counts

abbrev pub Work : Type 0
Work = List Routine × (List (List ℕ × Process) × List Instr)

abbrev pub Guarded : Type 0
Guarded = List (List ℕ × Monitor) × (List ConditionName × Work)

abbrev pub Named : Type 0
Named = List DeviceName × (List (List ℕ) × Guarded)

abbrev pub Content : Type 0
Content = ℕ × (Counts × (List ℕ × Named))

abbrev run_sort : Sort
run_sort = pair (list (pair (list natural) process)) (list instruction)

abbrev work_sort : Sort
work_sort = pair (list routine) run_sort

abbrev waiting_sort : Sort
waiting_sort = pair (list condition) work_sort

abbrev guarded_sort : Sort
guarded_sort = pair (list (pair (list natural) monitor)) waiting_sort

abbrev event_sort : Sort
event_sort = pair (list (list natural)) guarded_sort

abbrev named_sort : Sort
named_sort = pair (list device) event_sort

module _ (version : Version) (counts : Counts) where
  abbrev pub with_code : List (List ℕ × Process) → Format (List Instr)
  with_code processes = f.code_format (f.all_used (f.used_by processes) 0 counts.events) counts.code

  abbrev pub with_processes : List (List ℕ) → Format (List (List ℕ × Process) × List Instr)
  with_processes taken = both (f.processes_format version counts taken) with_code

  abbrev pub after_monitors : List (List ℕ) → List (List ℕ × Monitor) → Format (List ConditionName × Work)
  after_monitors taken monitors = both (f.conditions_format counts (f.with_monitors taken monitors)) (λ conditions. f.work_format version counts (f.with_monitors taken monitors))

  abbrev pub after_events : List (List ℕ) → List DeviceName → List (List ℕ) → Format Guarded
  after_events taken devices events = f.guarded_format version counts (f.with_devices taken devices ++ events)

  abbrev pub after_devices : List (List ℕ) → List DeviceName → Format (List (List ℕ) × Guarded)
  after_devices taken devices = both (f.events_format counts (f.with_devices taken devices)) (after_events taken devices)

  work_made : (taken : List (List ℕ)) → IsMade work_sort (f.work_format version counts taken)
  work_made taken =
      made_pair (list routine) run_sort (f.routines_format counts) (λ routines. with_processes taken) (all_routines counts).made (λ routines.
      made_pair (list (pair (list natural) process)) (list instruction) (f.processes_format version counts taken) with_code (all_processes version counts taken).made
      (λ ps. code_made (f.all_used (f.used_by ps) 0 counts.events) counts.code))

  guarded_made : (taken : List (List ℕ)) → IsMade guarded_sort (f.guarded_format version counts taken)
  guarded_made taken =
      made_pair (list (pair (list natural) monitor)) waiting_sort (f.monitors_format counts taken) (after_monitors taken) (all_monitors counts taken).made (λ ms.
      made_pair (list condition) work_sort (f.conditions_format counts (f.with_monitors taken ms)) (λ conditions. f.work_format version counts (f.with_monitors taken ms))
      (all_conditions counts (f.with_monitors taken ms)).made (λ conditions. work_made (f.with_monitors taken ms)))

  named_made : (program : List ℕ) → IsMade named_sort (f.named_format version counts program)
  named_made program =
      made_pair (list device) event_sort (f.devices_format counts (program ∷ [])) (after_devices (program ∷ [])) (all_devices counts (program ∷ [])).made (λ ds.
      made_pair (list (list natural)) guarded_sort (f.events_format counts (f.with_devices (program ∷ []) ds)) (after_events (program ∷ []) ds) (all_events counts (f.with_devices (program ∷ []) ds)).made
      (λ es. guarded_made (f.with_devices (program ∷ []) ds ++ es)))

pub an_over : (version : Version) → Known natural (f.over_format version)
an_over First = k.a_given natural nat_eq 0 (record { itself = refl; no_other = λ y h. eqb-true 0 y h })
an_over Second = k.u16_range 0 1000

abbrev pub after_counts : Version → Counts → Format (List ℕ × Named)
after_counts version counts = both (g.name_format []) (λ program. f.named_format version counts program)

abbrev pub content : Version → Format Content
content version = both (f.over_format version) (λ over. both g.counts_format (after_counts version))

abbrev program_sort : Sort
program_sort = pair (list natural) named_sort

abbrev counted_sort : Sort
counted_sort = pair s.counts program_sort

content_made : (version : Version) → IsMade (pair natural counted_sort) (content version)
content_made version =
    made_pair natural counted_sort (f.over_format version) (λ over. both g.counts_format (after_counts version)) (an_over version).made (λ over.
    made_pair s.counts program_sort g.counts_format (after_counts version) some_counts.made (λ counts.
    made_pair (list natural) named_sort (g.name_format []) (λ program. f.named_format version counts program) (a_name []).made (λ program. named_made version counts program)))

abbrev pub parts_with : Content → f.Parts
parts_with x = record {
  over = x.0;
  program = x.1.1.0;
  devices = x.1.1.1.0;
  events = x.1.1.1.1.0;
  monitors = x.1.1.1.1.1.0;
  conditions = x.1.1.1.1.1.1.0;
  routines = x.1.1.1.1.1.1.1.0;
  processes = x.1.1.1.1.1.1.1.1.0;
  code = x.1.1.1.1.1.1.1.1.1;
}

abbrev pub content_of : f.Parts → Content
content_of p = (p.over, (f.counts_of p, (p.program, (p.devices, (p.events, (p.monitors, (p.conditions, (p.routines, (p.processes, p.code)))))))))

pub code_long : (is_used : Bool) (count : ℕ) (code : List Instr) → (f.code_format is_used count).is code ≡ true → length code ≡ count
code_long true count code h = each_long (λ earlier. g.instr_format) [] count code h
code_long false count code h = cc

-- the counts are those of the lists
counted : (version : Version) (x : Content) → (content version).is x ≡ true → f.counts_of (parts_with x) ≡ x.1.0
counted version x h =
    let counts = x.1.0 in
    let program = x.1.1.0 in
    let named = x.1.1.1 in
    let guarded = named.1.1 in
    let taken = f.with_devices (program ∷ []) named.0 ++ named.1.0 in
    let inner = f.with_monitors taken guarded.0 in
    let work = guarded.1.1 in
    let a = and_parts ((f.over_format version).is x.0) ((both g.counts_format (after_counts version)).is x.1) h in
    let b = and_parts (g.counts_format.is counts) ((after_counts version counts).is x.1.1) a.1 in
    let c = and_parts ((g.name_format []).is program) ((f.named_format version counts program).is named) b.1 in
    let d = and_parts ((f.devices_format counts (program ∷ [])).is named.0) ((after_devices version counts (program ∷ []) named.0).is named.1) c.1 in
    let e = and_parts ((f.events_format counts (f.with_devices (program ∷ []) named.0)).is named.1.0) ((f.guarded_format version counts taken).is guarded) d.1 in
    let m = and_parts ((f.monitors_format counts taken).is guarded.0) ((after_monitors version counts taken guarded.0).is guarded.1) e.1 in
    let n = and_parts ((f.conditions_format counts inner).is guarded.1.0) ((f.work_format version counts inner).is work) m.1 in
    let r = and_parts ((f.routines_format counts).is work.0) ((with_processes version counts inner).is work.1) n.1 in
    let p = and_parts ((f.processes_format version counts inner).is work.1.0) ((with_code version counts work.1.0).is work.1.1) r.1 in
    let devices = each_long (λ earlier. g.device_format ((program ∷ []) ++ map (λ d. d.name) earlier)) [] counts.devices named.0 d.0 in
    let events = each_long (λ earlier. g.name_format (f.with_devices (program ∷ []) named.0 ++ earlier)) [] counts.events named.1.0 e.0 in
    let monitors = each_long (λ earlier. g.named_monitor_format (taken ++ map (λ m. m.0) earlier)) [] counts.monitors guarded.0 m.0 in
    let conditions = each_long (g.condition_format inner counts.monitors) [] counts.conditions guarded.1.0 n.0 in
    let routines = each_long (λ earlier. g.routine_format counts) [] counts.routines work.0 r.0 in
    let processes = each_long (λ earlier. g.named_process_format version counts (inner ++ map (λ p. p.0) earlier) (f.used_by earlier)) [] counts.processes work.1.0 p.0 in
    let code = code_long (f.all_used (f.used_by work.1.0) 0 counts.events) counts.code work.1.1 p.1 in
    rw (devices, events, monitors, conditions, routines, processes, code) refl

pub parts_made : (version : Version) → IsMade s.parts (f.parts_format version)
parts_made version =
    s.a_view {a = pair natural counted_sort} {f = content version} {to = parts_with} {from = content_of} (record { back = λ x h. ap (λ (counts : Counts). (x.0, (counts, x.1.1))) (counted version x h); there = λ y h. refl })
    (content_made version)

-- ---- the file

abbrev pub magic_rule : List ℕ → Option ℕ
magic_rule bytes = unless (pointwise nat_eq bytes (codes "RTEU")) 1

abbrev pub version_rule : ℕ → Option ℕ
version_rule n = unless (n == 1 || n == 2) 1

pub version_made : IsMade s.version f.version_format
version_made = s.a_view {a = natural} {f = checked u16 version_rule} {to = f.version_of} {from = f.number_of} (record { back = there; there = again }) (s.a_rule version_rule (s.a_field s.of_two)) where
  by : (n : ℕ) (a b : Bool) → n == 1 ≡ a → n == 2 ≡ b → (a || b) ≡ true → f.number_of (if a then First else Second) ≡ n
  by n true b one two h = sym (eqb-true n 1 one)
  by n false true one two h = sym (eqb-true n 2 two)
  by n false false one two h = absurd cc

  there : (n : ℕ) → (checked u16 version_rule).is n ≡ true → f.number_of (f.version_of n) ≡ n
  there n h = by n (n == 1) (n == 2) refl refl (fine_is (n == 1 || n == 2) 1 (and_parts (nat_lt n 65536) (is_fine (version_rule n)) h).1)

  again : (v : Version) → (checked u16 version_rule).is (f.number_of v) ≡ true → f.version_of (f.number_of v) ≡ v
  again First h = refl
  again Second h = refl

abbrev pub after_magic : Format (Version × f.Parts)
after_magic = both f.version_format f.parts_format

pub magic_made : IsMade (list natural) f.magic_format
magic_made = s.a_rule magic_rule (s.a_field (s.of_bytes 4))

pub image_made : IsMade (pair s.version s.parts) f.image_format
image_made =
    s.a_view {a = pair (list natural) (pair s.version s.parts)} {f = both f.magic_format (λ magic. after_magic)} {to = λ (x : List ℕ × (Version × f.Parts)). x.1} {from = λ x. (codes "RTEU", x)}
    (record {
      back = λ x h. ap (λ (magic : List ℕ). (magic, x.1)) (sym (same_words x.0 (codes "RTEU") (fine_is (pointwise nat_eq x.0 (codes "RTEU")) 1 (and_parts ((bytes_as_are 4).is x.0) (is_fine (magic_rule x.0)) (and_parts (f.magic_format.is x.0) (after_magic.is x.1) h).0).1)));
      there = λ y h. refl;
    })
    (made_pair (list natural) (pair s.version s.parts) f.magic_format (λ magic. after_magic) magic_made (λ magic. made_pair s.version s.parts f.version_format f.parts_format version_made parts_made))
