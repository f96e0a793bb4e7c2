-- The layout of an image tells what reading by the format of images tells: the whole.
use Rattle.std.proofs.Common.{◌≡◌, ◌++◌, ℕ, List, [], ◌∷◌, map, Ok, Err, refl, ◌∙◌}
use Rattle.std.specs.Prelude.{◌||◌, ◌==◌, codes, nat_eq}
use Rattle.std.specs.Int.{w16, from_be_bytes}
use Rattle.std.specs.Cmp.Lexicographic.{pointwise}
use Rattle.machine_semantics.specs.Image.{Monitor}
use Rattle.image.specs.declared.names.DeviceName.{DeviceName}
use Rattle.image.specs.Bytes.{Version, First, Second}
use Rattle.image_reader.specs.declared.counts.Counts.{Counts}
use Rattle.image_format.specs.Format.{Format, Read, ◌>>=◌, checked, both, u16, unless}
use Rattle.image_format.specs.TreeFormat.{u16_within, u32_within}
use Rattle.image_reader.specs.Grammar as g
use Rattle.image_reader.specs.File as f
use Rattle.image_reader_law.specs.Fields.{letters, version, ranged, number}
use Rattle.image_reader_law.specs.Layout as l
use Rattle.image_reader_law.specs.Layout.{Layout, field, many}
use Rattle.image_reader_law.proofs.Walks.{walk}
use Rattle.image_reader_law.proofs.Reading.{follow, Reads, Skips, leaf, skip, both_reads, via_reads, many_reads}
use Rattle.image_reader_law.proofs.Formats.{two, four, skip_two, a_name, a_device, a_monitor, a_condition}
use Rattle.image_reader_law.proofs.FieldProcesses.{Ends, reads_end, skips_end, view_end, grows, work}

-- ---- monitors and conditions

module _ (v : Version) (counts : Counts) where
  guarded : (taken : List (List ℕ)) → Ends (f.guarded_format v counts taken) (l.guarded v counts taken)
  guarded taken =
      reads_end (f.monitors_format counts taken) (λ monitors. both (f.conditions_format counts (f.with_monitors taken monitors)) (λ conditions. f.work_format v counts (f.with_monitors taken monitors)))
      (λ xs. map (λ (m : List ℕ × Monitor). m.0) xs) (λ k. many (λ earlier next. l.monitor (taken ++ earlier) next) [] counts.monitors k)
      (λ monitors. many (λ earlier next. l.condition (taken ++ monitors) counts.monitors earlier next) [] counts.conditions (λ conditions. l.work v counts (taken ++ monitors)))
      (many_reads (λ earlier. g.named_monitor_format (taken ++ map (λ (m : List ℕ × Monitor). m.0) earlier)) (λ m. m.0) (λ xs. map (λ (m : List ℕ × Monitor). m.0) xs) (λ earlier next. l.monitor (taken ++ earlier) next)
      (grows (λ m. m.0)) (λ earlier. a_monitor (taken ++ map (λ (m : List ℕ × Monitor). m.0) earlier)) counts.monitors refl)
      (λ monitors. reads_end (f.conditions_format counts (f.with_monitors taken monitors)) (λ conditions. f.work_format v counts (f.with_monitors taken monitors)) (λ xs. xs)
      (λ k. many (λ earlier next. l.condition (f.with_monitors taken monitors) counts.monitors earlier next) [] counts.conditions k) (λ conditions. l.work v counts (f.with_monitors taken monitors))
      (many_reads (λ earlier. g.condition_format (f.with_monitors taken monitors) counts.monitors earlier) (λ c. c) (λ xs. xs) (λ earlier next. l.condition (f.with_monitors taken monitors) counts.monitors earlier next)
      (λ xs x. refl) (λ earlier. a_condition (f.with_monitors taken monitors) counts.monitors earlier) counts.conditions refl)
      (λ conditions. work v counts (f.with_monitors taken monitors)))

  -- ---- devices and events

  with_events : (before : List (List ℕ)) → Ends (both (f.events_format counts before) (λ events. f.guarded_format v counts (before ++ events))) (many (λ earlier next. l.name (before ++ earlier) next) [] counts.events (λ events. l.guarded v counts (before ++ events)))
  with_events before =
      reads_end (f.events_format counts before) (λ events. f.guarded_format v counts (before ++ events)) (λ xs. xs) (λ k. many (λ earlier next. l.name (before ++ earlier) next) [] counts.events k) (λ events. l.guarded v counts (before ++ events))
      (many_reads (λ earlier. g.name_format (before ++ earlier)) (λ x. x) (λ xs. xs) (λ earlier next. l.name (before ++ earlier) next) (λ xs x. refl) (λ earlier. a_name (before ++ earlier)) counts.events refl)
      (λ events. guarded (before ++ events))

  abbrev behind_devices : List (List ℕ) → List (List ℕ) → Layout
  behind_devices program devices = many (λ earlier next. l.name ((program ++ devices) ++ earlier) next) [] counts.events (λ events. l.guarded v counts ((program ++ devices) ++ events))

  named : (program : List ℕ) → Ends (f.named_format v counts program) (many (λ earlier next. l.device ((program ∷ []) ++ earlier) next) [] counts.devices (λ devices. behind_devices (program ∷ []) devices))
  named program =
      reads_end (f.devices_format counts (program ∷ [])) (λ devices. both (f.events_format counts (f.with_devices (program ∷ []) devices)) (λ events. f.guarded_format v counts (f.with_devices (program ∷ []) devices ++ events)))
      (λ xs. map (λ (d : DeviceName). d.name) xs) (λ k. many (λ earlier next. l.device ((program ∷ []) ++ earlier) next) [] counts.devices k) (behind_devices (program ∷ []))
      (many_reads (λ earlier. g.device_format ((program ∷ []) ++ map (λ (d : DeviceName). d.name) earlier)) (λ d. d.name) (λ xs. map (λ (d : DeviceName). d.name) xs) (λ earlier next. l.device ((program ∷ []) ++ earlier) next)
      (grows (λ d. d.name)) (λ earlier. a_device ((program ∷ []) ++ map (λ (d : DeviceName). d.name) earlier)) counts.devices refl)
      (λ devices. with_events (f.with_devices (program ∷ []) devices))

-- ---- counts

and_more : {A : Type 0} (low high : ℕ) (form : Format A) (lf : (A → Layout) → Layout) → Reads form (λ x. x) lf → Reads {B = ℕ × A} (both (u16_within low high) (λ n. form)) (λ z. (z.0, z.1)) (λ k. field (ranged 2 low high) (λ v. lf (λ a. k (number 2 v, a))))
and_more low high form lf reads = both_reads (u16_within low high) (λ n. form) (λ x. x) (λ x. x) (λ k. field (ranged 2 low high) (λ v. k (number 2 v))) (λ n k. lf k) (two low high) (λ n. reads)

abbrev from_code : Format ℕ
from_code = u32_within 0 65535

abbrev layout_from_code : (ℕ → Layout) → Layout
layout_from_code k = field (ranged 4 0 65535) (λ v. k (number 4 v))

abbrev from_routines : Format (ℕ × ℕ)
from_routines = both (u16_within 0 512) (λ n. from_code)

abbrev layout_from_routines : (ℕ × ℕ → Layout) → Layout
layout_from_routines k = field (ranged 2 0 512) (λ v. layout_from_code (λ a. k (number 2 v, a)))

abbrev from_events : Format (ℕ × (ℕ × ℕ))
from_events = both (u16_within 0 64) (λ n. from_routines)

abbrev layout_from_events : (ℕ × (ℕ × ℕ) → Layout) → Layout
layout_from_events k = field (ranged 2 0 64) (λ v. layout_from_routines (λ a. k (number 2 v, a)))

abbrev from_devices : Format (ℕ × (ℕ × (ℕ × ℕ)))
from_devices = both (u16_within 0 64) (λ n. from_events)

abbrev layout_from_devices : (ℕ × (ℕ × (ℕ × ℕ)) → Layout) → Layout
layout_from_devices k = field (ranged 2 0 64) (λ v. layout_from_events (λ a. k (number 2 v, a)))

abbrev from_conditions : Format (ℕ × (ℕ × (ℕ × (ℕ × ℕ))))
from_conditions = both (u16_within 0 256) (λ n. from_devices)

abbrev layout_from_conditions : (ℕ × (ℕ × (ℕ × (ℕ × ℕ))) → Layout) → Layout
layout_from_conditions k = field (ranged 2 0 256) (λ v. layout_from_devices (λ a. k (number 2 v, a)))

abbrev from_monitors : Format (ℕ × (ℕ × (ℕ × (ℕ × (ℕ × ℕ)))))
from_monitors = both (u16_within 0 64) (λ n. from_conditions)

abbrev layout_from_monitors : (ℕ × (ℕ × (ℕ × (ℕ × (ℕ × ℕ)))) → Layout) → Layout
layout_from_monitors k = field (ranged 2 0 64) (λ v. layout_from_conditions (λ a. k (number 2 v, a)))

abbrev from_processes : Format (ℕ × (ℕ × (ℕ × (ℕ × (ℕ × (ℕ × ℕ))))))
from_processes = both (u16_within 1 64) (λ n. from_monitors)

abbrev layout_from_processes : (ℕ × (ℕ × (ℕ × (ℕ × (ℕ × (ℕ × ℕ))))) → Layout) → Layout
layout_from_processes k = field (ranged 2 1 64) (λ v. layout_from_monitors (λ a. k (number 2 v, a)))

reads_from_routines : Reads {B = ℕ × ℕ} from_routines (λ z. (z.0, z.1)) layout_from_routines
reads_from_routines = and_more 0 512 from_code layout_from_code (four 0 65535)

reads_from_events : Reads {B = ℕ × (ℕ × ℕ)} from_events (λ z. (z.0, z.1)) layout_from_events
reads_from_events = and_more 0 64 from_routines layout_from_routines reads_from_routines

reads_from_devices : Reads {B = ℕ × (ℕ × (ℕ × ℕ))} from_devices (λ z. (z.0, z.1)) layout_from_devices
reads_from_devices = and_more 0 64 from_events layout_from_events reads_from_events

reads_from_conditions : Reads {B = ℕ × (ℕ × (ℕ × (ℕ × ℕ)))} from_conditions (λ z. (z.0, z.1)) layout_from_conditions
reads_from_conditions = and_more 0 256 from_devices layout_from_devices reads_from_devices

reads_from_monitors : Reads {B = ℕ × (ℕ × (ℕ × (ℕ × (ℕ × ℕ))))} from_monitors (λ z. (z.0, z.1)) layout_from_monitors
reads_from_monitors = and_more 0 64 from_conditions layout_from_conditions reads_from_conditions

reads_from_processes : Reads {B = ℕ × (ℕ × (ℕ × (ℕ × (ℕ × (ℕ × ℕ)))))} from_processes (λ z. (z.0, z.1)) layout_from_processes
reads_from_processes = and_more 1 64 from_monitors layout_from_monitors reads_from_monitors

counts : Reads g.counts_format (λ c. c) l.counts_then
counts k bytes =
    via_reads from_processes (λ x. record { processes = x.0; monitors = x.1.0; conditions = x.1.1.0; devices = x.1.1.1.0; events = x.1.1.1.1.0; routines = x.1.1.1.1.1.0; code = x.1.1.1.1.1.1 })
    (λ c. (c.processes, (c.monitors, (c.conditions, (c.devices, (c.events, (c.routines, c.code))))))) (λ z. (z.0, z.1))
    (λ (c : Counts). (c.processes, (c.monitors, (c.conditions, (c.devices, (c.events, (c.routines, c.code)))))))
    layout_from_processes (λ x. refl) reads_from_processes (λ z. k (record { processes = z.0; monitors = z.1.0; conditions = z.1.1.0; devices = z.1.1.1.0; events = z.1.1.1.1.0; routines = z.1.1.1.1.1.0; code = z.1.1.1.1.1.1 })) bytes

-- ---- the whole

overhead : (v : Version) → Skips (f.over_format v) (l.overhead v)
overhead First k bytes = refl
overhead Second k bytes = skip_two 0 1000 k bytes

parts : (v : Version) → Ends (f.parts_format v) (l.parts v)
parts v bytes =
    skips_end (f.over_format v) (λ over. both g.counts_format (λ counts. both (g.name_format []) (λ program. f.named_format v counts program))) (l.overhead v)
    (l.counts_then (λ counts. l.name [] (λ program. many (λ earlier next. l.device ((program ∷ []) ++ earlier) next) [] counts.devices (λ devices. behind_devices v counts (program ∷ []) devices))))
    (overhead v)
    (λ over. reads_end g.counts_format (λ counts. both (g.name_format []) (λ program. f.named_format v counts program)) (λ c. c) l.counts_then
    (λ counts. l.name [] (λ program. many (λ earlier next. l.device ((program ∷ []) ++ earlier) next) [] counts.devices (λ devices. behind_devices v counts (program ∷ []) devices))) counts
    (λ counts. reads_end (g.name_format []) (λ program. f.named_format v counts program) (λ x. x) (l.name [])
    (λ program. many (λ earlier next. l.device ((program ∷ []) ++ earlier) next) [] counts.devices (λ devices. behind_devices v counts (program ∷ []) devices)) (a_name []) (λ program. named v counts program))) bytes
    ∙ view_end _ ((both (f.over_format v) (λ over. both g.counts_format (λ counts. both (g.name_format []) (λ program. f.named_format v counts program)))).read bytes)

magic : Skips f.magic_format (λ k. field letters (λ v. k))
magic = skip letters (λ bytes. bytes) (λ bytes. unless (pointwise nat_eq bytes (codes "RTEU")) 1) f.magic_format (λ bytes. refl) (λ v. refl)

a_version : Reads f.version_format (λ v. v) (λ k. field version (λ w. k (f.version_of (number 2 w))))
a_version k bytes =
    leaf version (from_be_bytes w16) (λ n. unless (n == 1 || n == 2) 1) (checked u16 (λ n. unless (n == 1 || n == 2) 1)) (λ bytes. refl) (λ v. refl) (λ n. k (f.version_of n)) bytes
    ∙ viewed ((checked u16 (λ n. unless (n == 1 || n == 2) 1)).read bytes)
  where
    viewed : (r : Read ℕ) → follow r (λ n rest. walk (k (f.version_of n)) rest) ≡ follow (r >>= λ x. Ok (f.version_of x.0, x.1)) (λ v rest. walk (k v) rest)
    viewed (Ok x) = refl
    viewed (Err e) = refl

pub image_as : Ends f.image_format l.image
image_as bytes =
    skips_end f.magic_format (λ magic. both f.version_format f.parts_format) (λ k. field letters (λ v. k)) (field version (λ v. l.parts (f.version_of (number 2 v)))) magic
    (λ x. reads_end f.version_format f.parts_format (λ v. v) (λ k. field version (λ w. k (f.version_of (number 2 w)))) l.parts a_version parts) bytes
    ∙ view_end _ ((both f.magic_format (λ magic. both f.version_format f.parts_format)).read bytes)
