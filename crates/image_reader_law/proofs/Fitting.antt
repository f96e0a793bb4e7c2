-- The fields of an image are in their ranges where those of each of its parts are.
use Rattle.std.proofs.Common.{◌≡◌, ◌≤◌, ◌&&◌, ◌++◌, ℕ, Bool, true, List, [], ◌∷◌, length}
use Rattle.std.proofs.lemmas.Bool.{and_parts}
use Rattle.image.specs.Bytes.{Version, First, Second}
use Rattle.image_format.specs.TreeFormat.{u16_within, u32_within}
use Rattle.image_format.proofs.Booleans.{together}
use Rattle.image_reader.specs.declared.counts.Counts.{Counts}
use Rattle.image_reader.specs.Grammar as g
use Rattle.image_reader.specs.File as f
use Rattle.image_reader_law.proofs.Ranged.{u16_most, u32_most}

-- ---- counts

pub record Few (c : Counts) : Type 0 where
  pub processes : c.processes ≤ 64
  pub monitors : c.monitors ≤ 64
  pub conditions : c.conditions ≤ 256
  pub devices : c.devices ≤ 64
  pub events : c.events ≤ 64
  pub routines : c.routines ≤ 512
  pub code : c.code ≤ 65535

abbrev counted : (low high : ℕ) → ℕ → Bool
counted low high = (u16_within low high).is

pub few : (c : Counts) → g.counts_format.is c ≡ true → Few c
few n h =
    let ps = counted 1 64 n.processes in
    let ms = counted 0 64 n.monitors in
    let cs = counted 0 256 n.conditions in
    let ds = counted 0 64 n.devices in
    let es = counted 0 64 n.events in
    let rs = counted 0 512 n.routines in
    let is = (u32_within 0 65535).is n.code in
    let a = and_parts ps (ms && (cs && (ds && (es && (rs && is))))) h in
    let b = and_parts ms (cs && (ds && (es && (rs && is)))) a.1 in
    let c = and_parts cs (ds && (es && (rs && is))) b.1 in
    let d = and_parts ds (es && (rs && is)) c.1 in
    let e = and_parts es (rs && is) d.1 in
    let r = and_parts rs is e.1 in
    record {
      processes = u16_most 1 64 n.processes a.0;
      monitors = u16_most 0 64 n.monitors b.0;
      conditions = u16_most 0 256 n.conditions c.0;
      devices = u16_most 0 64 n.devices d.0;
      events = u16_most 0 64 n.events e.0;
      routines = u16_most 0 512 n.routines r.0;
      code = u32_most 0 65535 n.code r.1;
    }

-- ---- parts

module _ (p : f.Parts) where
  abbrev pub before_events : List (List ℕ)
  before_events = f.with_devices (p.program ∷ []) p.devices

  abbrev pub before_monitors : List (List ℕ)
  before_monitors = before_events ++ p.events

  abbrev pub before_conditions : List (List ℕ)
  before_conditions = f.with_monitors before_monitors p.monitors

pub record Fits (version : Version) (p : f.Parts) : Type 0 where
  pub over : (f.over_format version).is p.over ≡ true
  pub counts : g.counts_format.is (f.counts_of p) ≡ true
  pub program : (g.name_format []).is p.program ≡ true
  pub devices : (f.devices_format (f.counts_of p) (p.program ∷ [])).is p.devices ≡ true
  pub events : (f.events_format (f.counts_of p) (before_events p)).is p.events ≡ true
  pub monitors : (f.monitors_format (f.counts_of p) (before_monitors p)).is p.monitors ≡ true
  pub conditions : (f.conditions_format (f.counts_of p) (before_conditions p)).is p.conditions ≡ true
  pub routines : (f.routines_format (f.counts_of p)).is p.routines ≡ true
  pub processes : (f.processes_format version (f.counts_of p) (before_conditions p)).is p.processes ≡ true
  pub code : (f.code_format (f.all_used (f.used_by p.processes) 0 (length p.events)) (length p.code)).is p.code ≡ true

module _ (version : Version) (p : f.Parts) where
  abbrev counts_are : Bool
  counts_are = g.counts_format.is (f.counts_of p)

  abbrev program_is : Bool
  program_is = (g.name_format []).is p.program

  abbrev devices_are : Bool
  devices_are = (f.devices_format (f.counts_of p) (p.program ∷ [])).is p.devices

  abbrev events_are : Bool
  events_are = (f.events_format (f.counts_of p) (before_events p)).is p.events

  abbrev monitors_are : Bool
  monitors_are = (f.monitors_format (f.counts_of p) (before_monitors p)).is p.monitors

  abbrev conditions_are : Bool
  conditions_are = (f.conditions_format (f.counts_of p) (before_conditions p)).is p.conditions

  abbrev routines_are : Bool
  routines_are = (f.routines_format (f.counts_of p)).is p.routines

  abbrev processes_are : Bool
  processes_are = (f.processes_format version (f.counts_of p) (before_conditions p)).is p.processes

  abbrev code_is : Bool
  code_is = (f.code_format (f.all_used (f.used_by p.processes) 0 (length p.events)) (length p.code)).is p.code

  abbrev work_is : Bool
  work_is = routines_are && (processes_are && code_is)

  abbrev guarded_are : Bool
  guarded_are = monitors_are && (conditions_are && work_is)

  abbrev named_are : Bool
  named_are = devices_are && (events_are && guarded_are)

  abbrev over_is : Bool
  over_is = (f.over_format version).is p.over

  parts_fit : (f.parts_format version).is p ≡ true → Fits version p
  parts_fit h =
      let a = and_parts over_is (counts_are && (program_is && named_are)) h in
      let b = and_parts counts_are (program_is && named_are) a.1 in
      let c = and_parts program_is named_are b.1 in
      let d = and_parts devices_are (events_are && guarded_are) c.1 in
      let e = and_parts events_are guarded_are d.1 in
      let m = and_parts monitors_are (conditions_are && work_is) e.1 in
      let k = and_parts conditions_are work_is m.1 in
      let r = and_parts routines_are (processes_are && code_is) k.1 in
      let w = and_parts processes_are code_is r.1 in
      record {
        over = a.0;
        counts = b.0;
        program = c.0;
        devices = d.0;
        events = e.0;
        monitors = m.0;
        conditions = k.0;
        routines = r.0;
        processes = w.0;
        code = w.1;
      }

  fit_parts : Fits version p → (f.parts_format version).is p ≡ true
  fit_parts k =
      together over_is (counts_are && (program_is && named_are)) k.over (together counts_are (program_is && named_are) k.counts (together program_is named_are k.program
      (together devices_are (events_are && guarded_are) k.devices (together events_are guarded_are k.events (together monitors_are (conditions_are && work_is) k.monitors
      (together conditions_are work_is k.conditions (together routines_are (processes_are && code_is) k.routines (together processes_are code_is k.processes k.code))))))))

pub fits : (version : Version) (p : f.Parts) → f.image_format.is (version, p) ≡ true → Fits version p
fits First p h = parts_fit First p h
fits Second p h = parts_fit Second p h

pub fit : (version : Version) (p : f.Parts) → Fits version p → f.image_format.is (version, p) ≡ true
fit First p k = fit_parts First p k
fit Second p k = fit_parts Second p k
