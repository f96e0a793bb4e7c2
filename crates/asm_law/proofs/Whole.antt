-- The whole text pays for the bytes of the image.
use Rattle.std.proofs.Common.{◌≡◌, ◌≤◌, ◌+◌, ◌*◌, ◌&&◌, ◌++◌, ℕ, zero, suc, Bool, true, List, [], ◌∷◌, length, map, codes, refl, ap, arith}
use Rattle.std.specs.Prelude.{flat_map}
use Rattle.std.proofs.lemmas.Bool.{and_parts}
use Rattle.std.proofs.lemmas.List.{length-append}
use Rattle.machine_semantics.specs.Image.{Monitor, Process}
use Rattle.machine_isa.specs.Bytes.{instr_bytes}
use Rattle.image.specs.declared.names.DeviceName.{DeviceName}
use Rattle.image.specs.declared.names.EventName.{EventName}
use Rattle.image_format.specs.Numbers.{name_bytes}
use Rattle.image.specs.Bytes.{Second, bytes_of, head_bytes, device_bytes, event_bytes, condition_bytes, monitor_bytes, monitors_bytes, routine_bytes, process_bytes, processes_bytes}
use Rattle.image.specs.Named.{NamedImage}
use Rattle.asm_format.specs.Mnemonics.{instr_line}
use Rattle.asm_format.specs.Text.{text_of, head_line, device_line, event_line, monitor_line, monitors_text, condition_line, routine_lines, process_lines, processes_text}
use Rattle.image_reader.specs.declared.counts.Counts.{Counts}
use Rattle.image_format.specs.Format.{Format, each_is}
use Rattle.image_format.specs.TreeFormat.{u16_within, u32_within}
use Rattle.image_reader.specs.Grammar as g
use Rattle.image_reader.specs.File as f
use Rattle.asm_law.specs.AsmSize.{TextsHoldTheirBytes}
use Rattle.asm_law.proofs.Words.{all_pay}
use Rattle.asm_law.proofs.Lines.{device_pays, event_pays, monitor_pays, condition_pays, routine_pays, process_pays, instr_pays}
use Rattle.asm_law.proofs.Ranges.{u16_most, u32_most, name_short, device_short, monitor_short, condition_short, process_short}
use Rattle.asm_law.proofs.ReadsWhole.{monitors_are_rows, processes_are_rows}

-- ---- things in their ranges, one after the other

each_pays : {X : Type 0} (one : List X → Format X) (bytes text : X → List ℕ) (extra : ℕ)
    → ((earlier : List X) (x : X) → (one earlier).is x ≡ true → 10 * length (bytes x) ≤ 9 * length (text x) + extra)
    → (earlier : List X) (count : ℕ) (xs : List X) → each_is one earlier count xs ≡ true
    → 10 * length (flat_map bytes xs) ≤ 9 * length (flat_map text xs) + extra * length xs
each_pays one bytes text extra pays earlier count [] h = omega arith
each_pays one bytes text extra pays earlier zero (x ∷ xs) h = absurd cc
each_pays one bytes text extra pays earlier (suc count) (x ∷ xs) h =
    let tests = and_parts ((one earlier).is x) (each_is one (earlier ++ x ∷ []) count xs) h in
    let first = pays earlier x tests.0 in
    let rest = each_pays one bytes text extra pays (earlier ++ x ∷ []) count xs tests.1 in
    let more : extra * suc (length xs) ≡ extra * length xs + extra = grind arith in
    omega (arith, first, rest, more, length-append (bytes x) (flat_map bytes xs), length-append (text x) (flat_map text xs))

-- ---- named things are things with their names

monitors_are : (ms : List (List ℕ × Monitor)) → monitors_bytes (map (λ m. m.0) ms) (map (λ m. m.1) ms) ≡ flat_map (λ m. monitor_bytes m.0 m.1) ms
monitors_are [] = refl
monitors_are (m ∷ ms) = ap (λ rest. monitor_bytes m.0 m.1 ++ rest) (monitors_are ms)

processes_are : (ps : List (List ℕ × Process)) → processes_bytes Second (map (λ p. p.0) ps) (map (λ p. p.1) ps) ≡ flat_map (λ p. process_bytes Second p.0 p.1) ps
processes_are [] = refl
processes_are (p ∷ ps) = ap (λ rest. process_bytes Second p.0 p.1 ++ rest) (processes_are ps)

events_are : (at : ℕ) (names : List (List ℕ)) (ps : List Process) → flat_map event_bytes (f.framed at names ps) ≡ flat_map name_bytes names
events_are at [] ps = refl
events_are at (n ∷ ns) ps = ap (λ rest. name_bytes n ++ rest) (events_are (at + 1) ns ps)

events_read : (at : ℕ) (names : List (List ℕ)) (ps : List Process) → flat_map (λ (e : EventName). event_line e.name) (f.framed at names ps) ≡ flat_map event_line names
events_read at [] ps = refl
events_read at (n ∷ ns) ps = ap (λ rest. event_line n ++ rest) (events_read (at + 1) ns ps)

-- ---- the parts of an image in its ranges

module _ (p : f.Parts) where
  abbrev counts : Counts
  counts = f.counts_of p

  abbrev before_events : List (List ℕ)
  before_events = f.with_devices (p.program ∷ []) p.devices

  abbrev before_monitors : List (List ℕ)
  before_monitors = before_events ++ p.events

  abbrev before_conditions : List (List ℕ)
  before_conditions = f.with_monitors before_monitors p.monitors

  abbrev program_is : Bool
  program_is = (g.name_format []).is p.program

  abbrev devices_are : Bool
  devices_are = (f.devices_format counts (p.program ∷ [])).is p.devices

  abbrev events_fit : Bool
  events_fit = (f.events_format counts before_events).is p.events

  abbrev monitors_fit : Bool
  monitors_fit = (f.monitors_format counts before_monitors).is p.monitors

  abbrev conditions_fit : Bool
  conditions_fit = (f.conditions_format counts before_conditions).is p.conditions

  abbrev routines_fit : Bool
  routines_fit = (f.routines_format counts).is p.routines

  abbrev processes_fit : Bool
  processes_fit = (f.processes_format Second counts before_conditions).is p.processes

  abbrev code_fits : Bool
  code_fits = (f.code_format (f.all_used (f.used_by p.processes) 0 counts.events) counts.code).is p.code

  abbrev over_is : Bool
  over_is = (f.over_format Second).is p.over

  abbrev few : (low high : ℕ) → ℕ → Bool
  few low high = (u16_within low high).is

  abbrev code_is_few : Bool
  code_is_few = (u32_within 0 65535).is counts.code

  record Fits : Type 0 where
    events_few : length p.events ≤ 64
    processes_few : length p.processes ≤ 64
    code_few : length p.code ≤ 65535
    program : length p.program ≤ 63
    devices : devices_are ≡ true
    events : events_fit ≡ true
    monitors : monitors_fit ≡ true
    conditions : conditions_fit ≡ true
    processes : processes_fit ≡ true

  record Few : Type 0 where
    events : length p.events ≤ 64
    processes : length p.processes ≤ 64
    code : length p.code ≤ 65535

  counted : g.counts_format.is counts ≡ true → Few
  counted h =
      let ps = few 1 64 counts.processes in
      let ms = few 0 64 counts.monitors in
      let cs = few 0 256 counts.conditions in
      let ds = few 0 64 counts.devices in
      let es = few 0 64 counts.events in
      let rs = few 0 512 counts.routines in
      let a = and_parts ps (ms && (cs && (ds && (es && (rs && code_is_few))))) h in
      let b = and_parts ms (cs && (ds && (es && (rs && code_is_few)))) a.1 in
      let c = and_parts cs (ds && (es && (rs && code_is_few))) b.1 in
      let d = and_parts ds (es && (rs && code_is_few)) c.1 in
      let e = and_parts es (rs && code_is_few) d.1 in
      let r = and_parts rs code_is_few e.1 in
      record { events = u16_most 0 64 counts.events e.0; processes = u16_most 1 64 counts.processes a.0; code = u32_most 0 65535 counts.code r.1 }

  fits : f.image_format.is (Second, p) ≡ true → Fits
  fits h =
      let counts_are = g.counts_format.is counts in
      let work = routines_fit && (processes_fit && code_fits) in
      let guarded = monitors_fit && (conditions_fit && work) in
      let named = devices_are && (events_fit && guarded) in
      let a = and_parts over_is (counts_are && (program_is && named)) h in
      let b = and_parts counts_are (program_is && named) a.1 in
      let c = and_parts program_is named b.1 in
      let d = and_parts devices_are (events_fit && guarded) c.1 in
      let e = and_parts events_fit guarded d.1 in
      let m = and_parts monitors_fit (conditions_fit && work) e.1 in
      let k = and_parts conditions_fit work m.1 in
      let r = and_parts routines_fit (processes_fit && code_fits) k.1 in
      let w = and_parts processes_fit code_fits r.1 in
      let n = counted b.0 in
      record {
        events_few = n.events;
        processes_few = n.processes;
        code_few = n.code;
        program = name_short [] p.program c.0;
        devices = d.0;
        events = e.0;
        monitors = m.0;
        conditions = k.0;
        processes = w.0;
      }

-- ---- all parts together

head_pays : (named : NamedImage) → length named.program ≤ 63 → 10 * length (head_bytes Second named) ≤ 9 * length (head_line named.program named.image.over) + 170
head_pays named short = simp length-append (omega (arith, short))

total : (h d e m c r p i : List ℕ) (h' d' e' m' c' r' p' i' z' : List ℕ) (events processes code : ℕ)
    → events ≤ 64 → processes ≤ 64 → code ≤ 65535
    → 10 * length h ≤ 9 * length h' + 170
    → 10 * length d ≤ 9 * length d'
    → 10 * length e ≤ 9 * length e' + 10 * events
    → 10 * length m ≤ 9 * length m'
    → 10 * length c ≤ 9 * length c'
    → 10 * length r ≤ 9 * length r'
    → 10 * length p ≤ 9 * length p' + 2000 * processes
    → 10 * length i ≤ 9 * length i' + 121 * code
    → length (h' ++ ((d' ++ (e' ++ (m' ++ c'))) ++ (r' ++ (p' ++ (i' ++ z'))))) ≤ 8388608
    → length (h ++ ((d ++ (e ++ (m ++ c))) ++ (r ++ (p ++ i)))) ≤ 8388608
total h d e m c r p i h' d' e' m' c' r' p' i' z' events processes code few_e few_p few_i of_h of_d of_e of_m of_c of_r of_p of_i text =
    let long = simp length-append at text in
    simp length-append (omega (arith, long, few_e, few_p, few_i, of_h, of_d, of_e, of_m, of_c, of_r, of_p, of_i))

module _ (p : f.Parts) (k : Fits p) where
  abbrev periods : List Process
  periods = map (λ x. x.1) p.processes

  devices_pay : 10 * length (flat_map device_bytes p.devices) ≤ 9 * length (flat_map device_line p.devices)
  devices_pay =
      let all = each_pays (λ earlier. g.device_format ((p.program ∷ []) ++ map (λ (d : DeviceName). d.name) earlier)) device_bytes device_line 0
      (λ earlier d h. let one = device_pays d (device_short ((p.program ∷ []) ++ map (λ (d : DeviceName). d.name) earlier) d h) in omega (arith, one))
      [] (length p.devices) p.devices k.devices in
      omega (arith, all)

  events_pay : 10 * length (flat_map event_bytes (f.framed 0 p.events periods)) ≤ 9 * length (flat_map (λ (e : EventName). event_line e.name) (f.framed 0 p.events periods)) + 10 * length p.events
  events_pay =
      let all = each_pays (λ earlier. g.name_format (before_events p ++ earlier)) name_bytes event_line 10
      (λ earlier n h. event_pays n (name_short (before_events p ++ earlier) n h))
      [] (length p.events) p.events k.events in
      omega (arith, all, ap (λ bytes. length bytes) (events_are 0 p.events periods), ap (λ text. length text) (events_read 0 p.events periods))

  monitors_pay : 10 * length (monitors_bytes (map (λ m. m.0) p.monitors) (map (λ m. m.1) p.monitors)) ≤ 9 * length (monitors_text (map (λ m. m.0) p.monitors) (map (λ m. m.1) p.monitors))
  monitors_pay =
      let all = each_pays (λ earlier. g.named_monitor_format (before_monitors p ++ map (λ (m : List ℕ × Monitor). m.0) earlier)) (λ (m : List ℕ × Monitor). monitor_bytes m.0 m.1) (λ (m : List ℕ × Monitor). monitor_line m.0 m.1) 0
      (λ earlier m h. let one = monitor_pays m.0 m.1 (monitor_short (before_monitors p ++ map (λ (m : List ℕ × Monitor). m.0) earlier) m h) in omega (arith, one))
      [] (length p.monitors) p.monitors k.monitors in
      omega (arith, all, ap (λ bytes. length bytes) (monitors_are p.monitors), ap (λ text. length text) (monitors_are_rows p.monitors))

  conditions_pay : 10 * length (flat_map condition_bytes p.conditions) ≤ 9 * length (flat_map condition_line p.conditions)
  conditions_pay =
      let all = each_pays (g.condition_format (before_conditions p) (length p.monitors)) condition_bytes condition_line 0
      (λ earlier c h. let one = condition_pays c (condition_short (before_conditions p) (length p.monitors) earlier c h) in omega (arith, one))
      [] (length p.conditions) p.conditions k.conditions in
      omega (arith, all)

  processes_pay : 10 * length (processes_bytes Second (map (λ x. x.0) p.processes) periods) ≤ 9 * length (processes_text (map (λ x. x.0) p.processes) periods) + 2000 * length p.processes
  processes_pay =
      let all = each_pays (λ earlier. g.named_process_format Second (counts p) (before_conditions p ++ map (λ (x : List ℕ × Process). x.0) earlier) (f.used_by earlier)) (λ (x : List ℕ × Process). process_bytes Second x.0 x.1) (λ (x : List ℕ × Process). process_lines x.0 x.1) 2000
      (λ earlier x h. let short = process_short (counts p) (before_conditions p ++ map (λ (x : List ℕ × Process). x.0) earlier) (f.used_by earlier) x h in process_pays x.0 x.1 short.name short.numbers)
      [] (length p.processes) p.processes k.processes in
      omega (arith, all, ap (λ bytes. length bytes) (processes_are p.processes), ap (λ text. length text) (processes_are_rows p.processes))

  routines_pay : 10 * length (flat_map routine_bytes p.routines) ≤ 9 * length (flat_map routine_lines p.routines)
  routines_pay = let all = all_pay routine_bytes routine_lines 0 (λ r. let one = routine_pays r in omega (arith, one)) p.routines in omega (arith, all)

pub hold : TextsHoldTheirBytes
unfolding bytes_of text_of
hold p is small =
    let k = fits p is in
    let named = f.image_with p in
    total (head_bytes Second named) (flat_map device_bytes p.devices) (flat_map event_bytes (f.framed 0 p.events (periods p k))) (monitors_bytes (map (λ m. m.0) p.monitors) (map (λ m. m.1) p.monitors)) (flat_map condition_bytes p.conditions) (flat_map routine_bytes p.routines)
    (processes_bytes Second (map (λ x. x.0) p.processes) (periods p k)) (flat_map instr_bytes p.code)
    (head_line p.program p.over) (flat_map device_line p.devices) (flat_map (λ (e : EventName). event_line e.name) (f.framed 0 p.events (periods p k))) (monitors_text (map (λ m. m.0) p.monitors) (map (λ m. m.1) p.monitors)) (flat_map condition_line p.conditions) (flat_map routine_lines p.routines)
    (processes_text (map (λ x. x.0) p.processes) (periods p k)) (flat_map instr_line p.code) (codes "end\n")
    (length p.events) (length p.processes) (length p.code) k.events_few k.processes_few k.code_few
    (head_pays named k.program) (devices_pay p k) (events_pay p k) (monitors_pay p k) (conditions_pay p k) (routines_pay p k) (processes_pay p k) (all_pay instr_bytes instr_line 121 instr_pays p.code) small
