-- The layout of a text tells what reading the text tells.
use Rattle.std.proofs.Common.{◌≡◌, ◌++◌, ℕ, suc, List, [], ◌∷◌, length, map, drop, Ok, Err, Result, Option, Some, None, refl, ap, ◌∙◌, true, false, Bool}
use Rattle.std.specs.Prelude.{◌&&◌, ◌==◌, codes, flat_map, nat_lt, if◌then◌else◌}
use Rattle.machine_semantics.specs.Image.{Monitor, Routine, Process}
use Rattle.image.specs.declared.names.DeviceName.{DeviceName}
use Rattle.image_reader.specs.File.{Parts, all_used, used_by, with_devices, with_monitors}
use Rattle.text_fields.specs.declared.fault.FieldFault.{FieldFault}
use Rattle.text_fields.specs.Front.{Front, Read, ◌>>=◌, no_form, out_of_range, begins, moved, skip, end_read, ended, line_start}
use Rattle.asm_lines.specs.Names as n
use Rattle.asm_lines.specs.Routines as r
use Rattle.asm_lines.specs.Processes as p
use Rattle.assembler.specs.Sections as sections
use Rattle.assembler.specs.Sections.{rows_read, refused, text_read, owners_in}
use Rattle.asm_law.specs.Notes.{too_many}
use Rattle.asm_law.specs.Layout as l
use Rattle.asm_law.specs.Layout.{Layout, done, note}
use Rattle.asm_law.proofs.Walks.{walk}
use Rattle.asm_law.proofs.Reading.{follow, told, Reads, Skips, chain, pass, a_head}
use Rattle.asm_law.proofs.Refusing.{line_refused}
use Rattle.asm_law.proofs.Ones.{a_device_is_one, an_event_is_one, a_monitor_is_one, a_condition_is_one, a_routine_line_is_one, a_process_line_is_one}
use Rattle.asm_law.proofs.FieldLines.{a_device, a_event, a_monitor, a_condition}
use Rattle.asm_law.proofs.FieldTrees.{a_routine_line, a_routine}
use Rattle.asm_law.proofs.FieldProcesses.{a_process_line, a_process, told_of, seen}
use Rattle.asm_law.proofs.FieldRows.{grows, some_rows, a_code}

-- ---- rows of each kind

abbrev device_name : DeviceName → List ℕ
device_name d = d.name

abbrev monitor_name : List ℕ × Monitor → List ℕ
monitor_name m = m.0

some_devices : (taken : List (List ℕ)) → Reads (sections.devices_read taken) (map device_name) (l.devices taken)
some_devices taken =
    some_rows (codes "device ") (λ earlier. n.device_read (taken ++ map device_name earlier)) (λ earlier. n.device_read (taken ++ map device_name earlier)) device_name (map device_name)
    (λ earlier. l.device (taken ++ earlier)) (λ earlier. l.device (taken ++ earlier) (λ x. done)) (grows device_name) (λ earlier. a_device (taken ++ map device_name earlier))
    (λ earlier. line_refused (n.device_read (taken ++ map device_name earlier)) device_name (l.device (taken ++ map device_name earlier)) (a_device (taken ++ map device_name earlier)) (a_device_is_one (taken ++ map device_name earlier)) too_many refl) 64 refl

some_events : (taken : List (List ℕ)) → Reads (sections.events_read taken) (λ xs. xs) (l.events taken)
some_events taken =
    some_rows (codes "event ") (λ earlier. n.event_read (taken ++ earlier)) (λ earlier. n.event_read (taken ++ earlier)) (λ x. x) (λ xs. xs) (λ earlier. l.an_event (taken ++ earlier)) (λ earlier. l.an_event (taken ++ earlier) (λ x. done))
    (λ xs x. refl) (λ earlier. a_event (taken ++ earlier)) (λ earlier. line_refused (n.event_read (taken ++ earlier)) (λ x. x) (l.an_event (taken ++ earlier)) (a_event (taken ++ earlier)) (an_event_is_one (taken ++ earlier)) too_many refl) 64 refl

some_monitors : (taken : List (List ℕ)) → Reads (sections.monitors_read taken) (map monitor_name) (l.monitors taken)
some_monitors taken =
    some_rows (codes "monitor ") (λ earlier. n.monitor_read (taken ++ map monitor_name earlier)) (λ earlier. n.monitor_read (taken ++ map monitor_name earlier)) monitor_name (map monitor_name)
    (λ earlier. l.monitor (taken ++ earlier)) (λ earlier. l.monitor (taken ++ earlier) (λ x. done)) (grows monitor_name) (λ earlier. a_monitor (taken ++ map monitor_name earlier))
    (λ earlier. line_refused (n.monitor_read (taken ++ map monitor_name earlier)) monitor_name (l.monitor (taken ++ map monitor_name earlier)) (a_monitor (taken ++ map monitor_name earlier)) (a_monitor_is_one (taken ++ map monitor_name earlier)) too_many refl) 64 refl

some_conditions : (taken : List (List ℕ)) (monitors : ℕ) → Reads (sections.conditions_read taken monitors) (λ xs. xs) (l.conditions taken monitors)
some_conditions taken monitors =
    some_rows (codes "condition ") (n.condition_read taken monitors) (n.condition_read taken monitors) (λ x. x) (λ xs. xs) (l.condition taken monitors) (λ earlier. l.condition taken monitors earlier (λ x. done))
    (λ xs x. refl) (a_condition taken monitors) (λ earlier. line_refused (n.condition_read taken monitors earlier) (λ x. x) (l.condition taken monitors earlier) (a_condition taken monitors earlier) (a_condition_is_one taken monitors earlier) too_many refl) 256 refl

abbrev nothing_of : Routine → ℕ
nothing_of x = 0

some_routines : (owners monitors : ℕ) → Skips (sections.routines_read owners monitors) (l.routines owners monitors)
some_routines owners monitors k =
    some_rows {B = ℕ} (codes "routine ") (λ earlier. r.routine_read owners monitors) (λ earlier. r.routine_line_read owners monitors) nothing_of (map nothing_of)
    (λ earlier m. l.routine owners monitors (m 0)) (λ earlier. l.routine_line owners monitors done) (grows nothing_of) (λ earlier m. a_routine owners monitors (m 0))
    (λ earlier. line_refused (r.routine_line_read owners monitors) (λ y. 0) (λ (m : ℕ → Layout). l.routine_line owners monitors (m 0)) (λ m. a_routine_line owners monitors (m 0)) (a_routine_line_is_one owners monitors) too_many refl) 512 refl (λ all. k)

-- ---- processes

first_told : List ℕ × List ℕ → List ℕ
first_told p = p.0

module _ (monitors events : ℕ) (taken : List (List ℕ)) where
  names_of : (earlier : List (List ℕ × Process)) → map (λ p. p.0) (map told_of earlier) ≡ map (λ p. p.0) earlier
  names_of [] = refl
  names_of (x ∷ xs) = ap (λ (ys : List (List ℕ)). x.0 ∷ ys) (names_of xs)

  used_of : (earlier : List (List ℕ × Process)) → flat_map (λ p. p.1) (map told_of earlier) ≡ used_by earlier
  used_of [] = refl
  used_of (x ∷ xs) = ap (λ (ys : List ℕ). (told_of x).1 ++ ys) (used_of xs)

  abbrev one_told : List (List ℕ × List ℕ) → (List ℕ × List ℕ → Layout) → Layout
  one_told earlier k = l.process monitors events (taken ++ map (λ p. p.0) earlier) (flat_map (λ p. p.1) earlier) k

  abbrev line_told : List (List ℕ × List ℕ) → Layout
  line_told earlier = l.process_line events (taken ++ map (λ p. p.0) earlier) (flat_map (λ p. p.1) earlier) (λ x. done)

  abbrev one_of : List (List ℕ × Process) → Front → Read (List ℕ × Process)
  one_of earlier = p.process_read monitors events (taken ++ map (λ p. p.0) earlier) (used_by earlier)

  one_reads : (earlier : List (List ℕ × Process)) → Reads (one_of earlier) told_of (one_told (map told_of earlier))
  one_reads earlier k s =
      ap (λ (ns : List (List ℕ)). told (l.process monitors events (taken ++ ns) (flat_map (λ p. p.1) (map told_of earlier)) k) s) (names_of earlier)
      ∙ (ap (λ (us : List ℕ). told (l.process monitors events (taken ++ map (λ p. p.0) earlier) us k) s) (used_of earlier) ∙ a_process monitors events (taken ++ map (λ p. p.0) earlier) (used_by earlier) k s)

  line_refuses : (earlier : List (List ℕ × Process)) (s : Front) → told (note too_many (line_told (map told_of earlier))) s ≡ Some (refused (p.process_line_read events (taken ++ map (λ p. p.0) earlier) (used_by earlier) s) s)
  line_refuses earlier s =
      ap (λ (ns : List (List ℕ)). told (note too_many (l.process_line events (taken ++ ns) (flat_map (λ p. p.1) (map told_of earlier)) (λ x. done))) s) (names_of earlier)
      ∙ (ap (λ (us : List ℕ). told (note too_many (l.process_line events (taken ++ map (λ p. p.0) earlier) us (λ x. done))) s) (used_of earlier)
      ∙ line_refused (p.process_line_read events (taken ++ map (λ p. p.0) earlier) (used_by earlier)) (λ x. (x.0, seen x.1)) (l.process_line events (taken ++ map (λ p. p.0) earlier) (used_by earlier))
      (a_process_line events (taken ++ map (λ p. p.0) earlier) (used_by earlier)) (a_process_line_is_one events (taken ++ map (λ p. p.0) earlier) (used_by earlier)) too_many refl s)

  pub some_processes : Reads (sections.processes_read monitors events taken) (map told_of) (l.processes monitors events taken)
  some_processes =
      some_rows (codes "process ") one_of (λ earlier. p.process_line_read events (taken ++ map (λ p. p.0) earlier) (used_by earlier)) told_of (map told_of) one_told line_told (grows told_of) one_reads line_refuses 64 refl

-- ---- all behind the head

length_of : {A B : Type 0} (f : A → B) (xs : List A) → length (map f xs) ≡ length xs
length_of f [] = refl
length_of f (x ∷ xs) = ap suc (length_of f xs)

complete_as : (events : ℕ) (ps : List (List ℕ × Process)) → l.is_complete events (map told_of ps) ≡ sections.is_complete events ps
complete_as events ps =
    ap (λ m. nat_lt 0 m && all_used (flat_map (λ p. p.1) (map told_of ps)) 0 events) (length_of told_of ps)
    ∙ ap (λ (us : List ℕ). nat_lt 0 (length ps) && all_used us 0 events) (used_of 0 events [] ps)

pub work : (owners monitors events : ℕ) (taken : List (List ℕ)) → Skips (sections.work_read owners monitors events taken) (l.work owners monitors events taken)
unfolding sections.work_read
work owners monitors events taken k =
    pass _ (l.routines owners monitors) (l.processes monitors events taken (λ all. l.code (l.is_complete events all) k)) _ _ (some_routines owners monitors)
    (λ routines. chain _ _ (l.processes monitors events taken) (λ all. l.code (l.is_complete events all) k) _ _ (some_processes monitors events taken)
    (λ ps s. ap (λ b. told (l.code b k) s) (complete_as events ps) ∙ pass _ (l.code (sections.is_complete events ps)) k _ _ (a_code (sections.is_complete events ps)) (λ code s. refl) s))

guarded : (owners events : ℕ) (taken : List (List ℕ)) → Skips (sections.guarded_read owners events taken) (l.guarded owners events taken)
unfolding sections.guarded_read
guarded owners events taken k =
    chain _ _ (l.monitors taken) (λ ms. l.conditions (taken ++ ms) (length ms) (λ all. l.work owners (length ms) events (taken ++ ms) k)) _ _ (some_monitors taken)
    (λ ms s. ap (λ m. told (l.conditions (with_monitors taken ms) m (λ all. l.work owners m events (with_monitors taken ms) k)) s) (length_of monitor_name ms)
    ∙ chain _ _ (l.conditions (with_monitors taken ms) (length ms)) (λ all. l.work owners (length ms) events (with_monitors taken ms) k) _ _ (some_conditions (with_monitors taken ms) (length ms))
    (λ conditions. pass _ (l.work owners (length ms) events (with_monitors taken ms)) k _ _ (work owners (length ms) events (with_monitors taken ms)) (λ work s. refl)) s)

named : (owners : ℕ) (program : List ℕ) → Skips (sections.named_read owners program) (l.named owners program)
unfolding sections.named_read
named owners program k =
    chain _ _ (l.devices (program ∷ [])) (λ ds. l.events ((program ∷ []) ++ ds) (λ es. l.guarded owners (length es) (((program ∷ []) ++ ds) ++ es) k)) _ _ (some_devices (program ∷ []))
    (λ ds. chain _ _ (l.events (with_devices (program ∷ []) ds)) (λ es. l.guarded owners (length es) (with_devices (program ∷ []) ds ++ es) k) _ _ (some_events (with_devices (program ∷ []) ds))
    (λ es. pass _ (l.guarded owners (length es) (with_devices (program ∷ []) ds ++ es)) k _ _ (guarded owners (length es) (with_devices (program ∷ []) ds ++ es)) (λ guarded s. refl)))

-- ---- the end

abbrev pub fault_of : {A : Type 0} → Result A FieldFault → Option FieldFault
fault_of (Ok x) = None
fault_of (Err e) = Some e

finishes : (t : Front) → t.fine ≡ true → walk l.finish t ≡ fault_of (sections.nothing_after t)
finishes t fine = ap (λ b. if length t.rest == 0 then (if b then None else Some (out_of_range t)) else Some (no_form t)) fine ∙ by (length t.rest == 0) where
  by : (b : Bool) → (if b then None else Some (no_form t)) ≡ fault_of (if b then Ok t else Err (no_form t))
  by true = refl
  by false = refl

a_last : (s : Front) → told l.last s ≡ fault_of (sections.finish_read s)
unfolding told sections.finish_read sections.last_read skip end_read
a_last s = by (begins (codes "end") s.rest) where
  behind : Front
  behind = moved s (drop 3 s.rest)

  over : (fine : Bool) → (if fine then walk l.finish (line_start (drop 1 behind.rest)) else Some (out_of_range behind)) ≡ fault_of ((if fine then Ok (line_start (drop 1 behind.rest)) else Err (out_of_range behind)) >>= sections.nothing_after)
  over true = finishes (line_start (drop 1 behind.rest)) refl
  over false = refl

  ends : (b : Bool)
      → (if b then (if s.fine then walk l.finish (line_start (drop 1 behind.rest)) else Some (out_of_range behind)) else Some (no_form s))
      ≡ fault_of (((if b then Ok (moved behind (drop 1 behind.rest)) else Err (no_form behind)) >>= ended) >>= sections.nothing_after)
  ends true = over s.fine
  ends false = refl

  by : (b : Bool)
      → (if b then (if begins (codes "\n") behind.rest then (if s.fine then walk l.finish (line_start (drop 1 behind.rest)) else Some (out_of_range behind)) else Some (no_form s)) else Some (no_form s))
      ≡ fault_of (((if b then Ok behind else Err (no_form s)) >>= λ t. (if begins (codes "\n") t.rest then Ok (moved t (drop 1 t.rest)) else Err (no_form t)) >>= ended) >>= sections.nothing_after)
  by true = ends (begins (codes "\n") behind.rest)
  by false = refl

-- ---- the whole

abbrev behind_head : (owners : ℕ) → (List ℕ × ℕ) × Front → Result Parts FieldFault
behind_head owners head = sections.named_read owners head.0.0 head.1 >>= λ x. sections.finish_read x.1 >>= λ t. Ok (sections.parts_of_lines head.0 x.0)

parts : (owners : ℕ) (head : List ℕ × ℕ) (s : Front) → told (l.named owners head.0 l.last) s ≡ fault_of (behind_head owners (head, s))
parts owners head s = named owners head.0 l.last s ∙ by (sections.named_read owners head.0 s) where
  finished : (x : _) (f : Result Front FieldFault) → fault_of f ≡ fault_of (f >>= λ t. Ok (sections.parts_of_lines head x))
  finished x (Ok t) = refl
  finished x (Err e) = refl

  by : (r : Read _) → follow r (λ x more. told l.last more) ≡ fault_of (r >>= λ x. sections.finish_read x.1 >>= λ t. Ok (sections.parts_of_lines head x.0))
  by (Ok x) = a_last x.1 ∙ finished x.0 (sections.finish_read x.1)
  by (Err e) = refl

pub a_text : (bytes : List ℕ) → told (l.text (owners_in bytes)) (line_start bytes) ≡ fault_of (text_read bytes)
unfolding text_read
a_text bytes = a_head (λ program. l.named (owners_in bytes) program l.last) (line_start bytes) ∙ by (n.head_read (line_start bytes)) where
  by : (r : Read (List ℕ × ℕ)) → follow r (λ x more. told (l.named (owners_in bytes) x.0 l.last) more) ≡ fault_of (r >>= behind_head (owners_in bytes))
  by (Ok x) = parts (owners_in bytes) x.0 x.1
  by (Err e) = refl
