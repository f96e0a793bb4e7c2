-- A valid image, its fields in their ranges, has no more bytes than an image may have.
use Rattle.std.proofs.Common.{◌≡◌, ◌≤◌, ◌+◌, ◌*◌, ◌++◌, ℕ, List, [], ◌∷◌, length, map, refl, ap, arith}
use Rattle.std.specs.Prelude.{flat_map}
use Rattle.std.proofs.lemmas.List.{length-append}
use Rattle.machine_isa.specs.Bytes.{instr_bytes}
use Rattle.machine_semantics.specs.Image.{Monitor, Process}
use Rattle.image.specs.declared.names.DeviceName.{DeviceName}
use Rattle.image.specs.Bytes.{Second, bytes_of, condition_bytes, device_bytes, event_bytes, head_bytes, monitor_bytes, monitors_bytes, process_bytes, processes_bytes, routine_bytes}
use Rattle.image.specs.Named.{NamedImage}
use Rattle.image_format.specs.Numbers.{name_bytes}
use Rattle.image_reader.specs.Grammar as g
use Rattle.image_reader.specs.File as f
use Rattle.valid_image.specs.Valid.{Shape}
use Rattle.image_reader_law.specs.Stored.{ValidImagesAreShort}
use Rattle.image_reader_law.proofs.Fitting.{Fits, before_conditions, before_events, before_monitors, fits, few}
use Rattle.image_reader_law.proofs.StoredParts.{code_long, condition_low, device_low, each_short, event_low, monitor_low, process_low, routine_low}
use Rattle.image_reader_law.proofs.Ranged.{name_short}
use Rattle.image_reader_law.proofs.Spans.{covered, span_of_process, span_of_routine, weightless, weights, weights_map}

-- ---- named things are things with their names

monitors_are : (ms : List (List ℕ × Monitor)) → monitors_bytes (map (λ m. m.0) ms) (map (λ m. m.1) ms) ≡ flat_map (λ m. monitor_bytes m.0 m.1) ms
monitors_are [] = refl
monitors_are (m ∷ ms) = ap (λ rest. monitor_bytes m.0 m.1 ++ rest) (monitors_are ms)

processes_are : (ps : List (List ℕ × Process)) → processes_bytes Second (map (λ p. p.0) ps) (map (λ p. p.1) ps) ≡ flat_map (λ p. process_bytes Second p.0 p.1) ps
processes_are [] = refl
processes_are (p ∷ ps) = ap (λ rest. process_bytes Second p.0 p.1 ++ rest) (processes_are ps)

events_are : (at : ℕ) (names : List (List ℕ)) (ps : List Process) → flat_map event_bytes (f.framed at names ps) ≡ flat_map name_bytes names
events_are at [] ps = refl
events_are at (n ∷ ns) ps = ap (λ rest. name_bytes n ++ rest) (events_are (at + 1) ns ps)

-- ---- all parts together

head_low : (named : NamedImage) → length named.program ≤ 63 → length (head_bytes Second named) ≤ 88
head_low named short = simp length-append (omega (arith, short))

total : (h d e m c r p i : List ℕ) (devices events monitors conditions routines processes code spans others : ℕ)
    → devices ≤ 64 → events ≤ 64 → monitors ≤ 64 → conditions ≤ 256 → routines ≤ 512 → processes ≤ 64 → code ≤ 65535
    → spans + others ≡ code
    → length h ≤ 88
    → length d ≤ 65 * devices
    → length e ≤ 64 * events
    → length m ≤ 74 * monitors
    → length c ≤ 66 * conditions
    → length r ≤ 34 * routines + 9 * spans
    → length p ≤ 2131 * processes + 9 * others
    → length i ≡ 13 * code
    → length (h ++ ((d ++ (e ++ (m ++ c))) ++ (r ++ (p ++ i)))) ≤ 8388608
total h d e m c r p i devices events monitors conditions routines processes code spans others few_d few_e few_m few_c few_r few_p few_i all of_h of_d of_e of_m of_c of_r of_p of_i =
    simp length-append (omega (arith, few_d, few_e, few_m, few_c, few_r, few_p, few_i, all, of_h, of_d, of_e, of_m, of_c, of_r, of_p, of_i))

module _ (p : f.Parts) (k : Fits Second p) where
  abbrev periods : List Process
  periods = map (λ x. x.1) p.processes

  devices_low : length (flat_map device_bytes p.devices) ≤ 65 * length p.devices
  devices_low =
      let all = each_short (λ earlier. g.device_format ((p.program ∷ []) ++ map (λ (d : DeviceName). d.name) earlier)) device_bytes 65 (λ (d : DeviceName). 0)
      (λ earlier d h. device_low ((p.program ∷ []) ++ map (λ (d : DeviceName). d.name) earlier) d h) [] (length p.devices) p.devices k.devices in
      omega (arith, all, weightless p.devices)

  events_low : length (flat_map event_bytes (f.framed 0 p.events periods)) ≤ 64 * length p.events
  events_low =
      let all = each_short (λ earlier. g.name_format (before_events p ++ earlier)) name_bytes 64 (λ (n : List ℕ). 0)
      (λ earlier n h. event_low (before_events p ++ earlier) n h) [] (length p.events) p.events k.events in
      omega (arith, all, weightless p.events, ap (λ bytes. length bytes) (events_are 0 p.events periods))

  monitors_low : length (monitors_bytes (map (λ m. m.0) p.monitors) (map (λ m. m.1) p.monitors)) ≤ 74 * length p.monitors
  monitors_low =
      let all = each_short (λ earlier. g.named_monitor_format (before_monitors p ++ map (λ (m : List ℕ × Monitor). m.0) earlier)) (λ (m : List ℕ × Monitor). monitor_bytes m.0 m.1) 74 (λ (m : List ℕ × Monitor). 0)
      (λ earlier m h. monitor_low (before_monitors p ++ map (λ (m : List ℕ × Monitor). m.0) earlier) m h) [] (length p.monitors) p.monitors k.monitors in
      omega (arith, all, weightless p.monitors, ap (λ bytes. length bytes) (monitors_are p.monitors))

  conditions_low : length (flat_map condition_bytes p.conditions) ≤ 66 * length p.conditions
  conditions_low =
      let all = each_short (g.condition_format (before_conditions p) (length p.monitors)) condition_bytes 66 (λ c. 0)
      (λ earlier c h. condition_low (before_conditions p) (length p.monitors) earlier c h) [] (length p.conditions) p.conditions k.conditions in
      omega (arith, all, weightless p.conditions)

  routines_low : length (flat_map routine_bytes p.routines) ≤ 34 * length p.routines + 9 * weights span_of_routine p.routines
  routines_low =
      each_short (λ earlier. g.routine_format (f.counts_of p)) routine_bytes 34 span_of_routine (λ earlier r h. routine_low (f.counts_of p) r h) [] (length p.routines) p.routines k.routines

  processes_low : length (processes_bytes Second (map (λ x. x.0) p.processes) periods) ≤ 2131 * length p.processes + 9 * weights span_of_process periods
  processes_low =
      let all = each_short (λ earlier. g.named_process_format Second (f.counts_of p) (before_conditions p ++ map (λ (x : List ℕ × Process). x.0) earlier) (f.used_by earlier)) (λ (x : List ℕ × Process). process_bytes Second x.0 x.1) 2131 (λ (x : List ℕ × Process). span_of_process x.1)
      (λ earlier x h. process_low (f.counts_of p) (before_conditions p ++ map (λ (x : List ℕ × Process). x.0) earlier) (f.used_by earlier) x h) [] (length p.processes) p.processes k.processes in
      omega (arith, all, weights_map span_of_process (λ (x : List ℕ × Process). x.1) p.processes, ap (λ bytes. length bytes) (processes_are p.processes))

pub short : ValidImagesAreShort
unfolding bytes_of
short p is valid =
    let k = fits Second p is in
    let n = few (f.counts_of p) k.counts in
    let named = f.image_with p in
    total (head_bytes Second named) (flat_map device_bytes p.devices) (flat_map event_bytes (f.framed 0 p.events (periods p k))) (monitors_bytes (map (λ m. m.0) p.monitors) (map (λ m. m.1) p.monitors)) (flat_map condition_bytes p.conditions) (flat_map routine_bytes p.routines)
    (processes_bytes Second (map (λ x. x.0) p.processes) (periods p k)) (flat_map instr_bytes p.code)
    (length p.devices) (length p.events) (length p.monitors) (length p.conditions) (length p.routines) (length p.processes) (length p.code)
    (weights span_of_routine p.routines) (weights span_of_process (periods p k))
    n.devices n.events n.monitors n.conditions n.routines n.processes n.code (covered named.image (valid Shape))
    (head_low named (name_short [] p.program k.program)) (devices_low p k) (events_low p k) (monitors_low p k) (conditions_low p k) (routines_low p k) (processes_low p k) (code_long p.code)
