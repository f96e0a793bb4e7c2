-- The bytes of a file are those of the image that it holds.
use Rattle.std.proofs.Common.{◌≡◌, ◌||◌, ◌==◌, ◌++◌, ◌+◌, ℕ, zero, suc, Bool, true, false, List, [], ◌∷◌, length, Option, Some, None, refl, sym, ap, ◌∙◌, append_assoc}
use Rattle.std.specs.Prelude.{nat_lt, nat_eq, map, flat_map, codes, if◌then◌else◌}
use Rattle.std.specs.Cmp.Lexicographic.{pointwise}
use Rattle.std.proofs.lemmas.Bool.{eqb-true, and_parts}
use Rattle.std.proofs.lemmas.List.{length-map}
use Rattle.machine_isa.specs.declared.instr.Instr.{Instr}
use Rattle.machine_isa.specs.Bytes.{instr_bytes}
use Rattle.machine_semantics.specs.Image.{Monitor, Routine, Process}
use Rattle.machine_semantics.specs.Trees.{Segs}
use Rattle.image_format.specs.Numbers as written
use Rattle.image_format.specs.TreeBytes.{tree_bytes}
use Rattle.image.specs.Bytes.{Version, First, Second, bytes_of, version_bytes, counts_bytes, deadline_bytes, device_bytes, event_bytes, monitor_bytes, monitors_bytes, condition_bytes, routine_bytes, process_bytes, processes_bytes, handler_bytes}
use Rattle.image.specs.Named.{NamedImage}
use Rattle.image.specs.declared.names.ConditionName.{ConditionName}
use Rattle.image.specs.declared.names.DeviceName.{DeviceName}
use Rattle.image_reader.specs.declared.counts.Counts.{Counts}
use Rattle.image_format.specs.Format.{Format, u16, bytes_as_are, is_fine, checked, both, each_write}
use Rattle.image_format.specs.TreeFormat.{in_image, tree_format}
use Rattle.image_reader.specs.Grammar as g
use Rattle.image_reader.specs.File as f
use Rattle.image_format.specs.FormatLaw.{IsSound}
use Rattle.image_reader.proofs.Words.{same_words}
use Rattle.image_format.proofs.Sound.{checked_sound, both_sound, via_sound, given_sound, each_sound}
use Rattle.image_format.proofs.SoundFields.{u16_sound, bytes_sound}
use Rattle.image_reader_law.proofs.ImageSoundFields.{pair_sound, u16_within_sound, each_long, name_sound, device_sound, named_monitor_sound, condition_sound, counts_sound, routine_sound, named_process_sound}
use Rattle.image_reader_law.proofs.ImageSoundInstructions.{instr_sound, instr_is_written}
use Rattle.image_reader_law.proofs.ImageFaultsFields.{fine_is}
use Rattle.image_reader_law.proofs.ImageFaultsWhole.{code_long, Work, Guarded, Content, after_counts, content, parts_with, content_of, magic_rule, version_rule, after_magic}

-- ---- the lists of a file

code_sound : (is_used : Bool) (count : ℕ) → IsSound (f.code_format is_used count)
code_sound true count = each_sound (λ earlier. g.instr_format) (λ earlier. instr_sound) [] count
code_sound false count = record { back = λ bytes z are h. cc; again = λ x rest h. cc; cut = λ x k h low. cc }

module _ (version : Version) (counts : Counts) where
  abbrev with_code : List (List ℕ × Process) → Format (List Instr)
  with_code processes = f.code_format (f.all_used (f.used_by processes) 0 counts.events) counts.code

  abbrev with_processes : List (List ℕ) → Format (List (List ℕ × Process) × List Instr)
  with_processes taken = both (f.processes_format version counts taken) with_code

  abbrev after_monitors : List (List ℕ) → List (List ℕ × Monitor) → Format (List ConditionName × Work)
  after_monitors taken monitors = both (f.conditions_format counts (f.with_monitors taken monitors)) (λ conditions. f.work_format version counts (f.with_monitors taken monitors))

  abbrev after_events : List (List ℕ) → List DeviceName → List (List ℕ) → Format Guarded
  after_events taken devices events = f.guarded_format version counts (f.with_devices taken devices ++ events)

  abbrev after_devices : List (List ℕ) → List DeviceName → Format (List (List ℕ) × Guarded)
  after_devices taken devices = both (f.events_format counts (f.with_devices taken devices)) (after_events taken devices)

  work_sound : (taken : List (List ℕ)) → IsSound (f.work_format version counts taken)
  work_sound taken =
      pair_sound (f.routines_format counts) (with_processes taken) (each_sound (λ earlier. g.routine_format counts) (λ earlier. routine_sound counts) [] counts.routines)
      (both_sound (f.processes_format version counts taken) with_code
      (each_sound (λ earlier. g.named_process_format version counts (taken ++ map (λ p. p.0) earlier) (f.used_by earlier)) (λ earlier. named_process_sound version counts (f.used_by earlier) (taken ++ map (λ p. p.0) earlier)) [] counts.processes)
      (λ ps. code_sound (f.all_used (f.used_by ps) 0 counts.events) counts.code))

  guarded_sound : (taken : List (List ℕ)) → IsSound (f.guarded_format version counts taken)
  guarded_sound taken =
      both_sound (f.monitors_format counts taken) (after_monitors taken)
      (each_sound (λ earlier. g.named_monitor_format (taken ++ map (λ m. m.0) earlier)) (λ earlier. named_monitor_sound (taken ++ map (λ m. m.0) earlier)) [] counts.monitors)
      (λ ms. pair_sound (f.conditions_format counts (f.with_monitors taken ms)) (f.work_format version counts (f.with_monitors taken ms))
      (each_sound (g.condition_format (f.with_monitors taken ms) counts.monitors) (condition_sound (f.with_monitors taken ms) counts.monitors) [] counts.conditions) (work_sound (f.with_monitors taken ms)))

  named_sound : (program : List ℕ) → IsSound (f.named_format version counts program)
  named_sound program =
      both_sound (f.devices_format counts (program ∷ [])) (after_devices (program ∷ []))
      (each_sound (λ earlier. g.device_format ((program ∷ []) ++ map (λ d. d.name) earlier)) (λ earlier. device_sound ((program ∷ []) ++ map (λ d. d.name) earlier)) [] counts.devices)
      (λ ds. both_sound (f.events_format counts (f.with_devices (program ∷ []) ds)) (after_events (program ∷ []) ds)
      (each_sound (λ earlier. g.name_format (f.with_devices (program ∷ []) ds ++ earlier)) (λ earlier. name_sound (f.with_devices (program ∷ []) ds ++ earlier)) [] counts.events)
      (λ es. guarded_sound (f.with_devices (program ∷ []) ds ++ es)))

over_sound : (version : Version) → IsSound (f.over_format version)
over_sound First = given_sound nat_eq 0 (λ y h. eqb-true 0 y h) refl
over_sound Second = u16_within_sound 0 1000

content_sound : (version : Version) → IsSound (content version)
content_sound version =
    pair_sound (f.over_format version) (both g.counts_format (after_counts version)) (over_sound version) (both_sound g.counts_format (after_counts version) counts_sound
    (λ counts. both_sound (g.name_format []) (λ program. f.named_format version counts program) (name_sound []) (λ program. named_sound version counts program)))

-- the counts are those of the lists, and the code is in its range
record IsCounted (version : Version) (x : Content) : Type 0 where
  same : f.counts_of (parts_with x) ≡ x.1.0
  code : (f.code_format (f.all_used (f.used_by (parts_with x).processes) 0 x.1.0.events) x.1.0.code).is (parts_with x).code ≡ true

counted : (version : Version) (x : Content) → (content version).is x ≡ true → IsCounted version x
counted version x h =
    let counts = x.1.0 in
    let program = x.1.1.0 in
    let named = x.1.1.1 in
    let guarded = named.1.1 in
    let taken = f.with_devices (program ∷ []) named.0 ++ named.1.0 in
    let inner = f.with_monitors taken guarded.0 in
    let work = guarded.1.1 in
    let a = and_parts ((f.over_format version).is x.0) ((both g.counts_format (after_counts version)).is x.1) h in
    let b = and_parts (g.counts_format.is counts) ((after_counts version counts).is x.1.1) a.1 in
    let c = and_parts ((g.name_format []).is program) ((f.named_format version counts program).is named) b.1 in
    let d = and_parts ((f.devices_format counts (program ∷ [])).is named.0) ((after_devices version counts (program ∷ []) named.0).is named.1) c.1 in
    let e = and_parts ((f.events_format counts (f.with_devices (program ∷ []) named.0)).is named.1.0) ((f.guarded_format version counts taken).is guarded) d.1 in
    let m = and_parts ((f.monitors_format counts taken).is guarded.0) ((after_monitors version counts taken guarded.0).is guarded.1) e.1 in
    let k = and_parts ((f.conditions_format counts inner).is guarded.1.0) ((f.work_format version counts inner).is work) m.1 in
    let r = and_parts ((f.routines_format counts).is work.0) ((with_processes version counts inner).is work.1) k.1 in
    let p = and_parts ((f.processes_format version counts inner).is work.1.0) ((with_code version counts work.1.0).is work.1.1) r.1 in
    let devices = each_long (λ earlier. g.device_format ((program ∷ []) ++ map (λ d. d.name) earlier)) [] counts.devices named.0 d.0 in
    let events = each_long (λ earlier. g.name_format (f.with_devices (program ∷ []) named.0 ++ earlier)) [] counts.events named.1.0 e.0 in
    let monitors = each_long (λ earlier. g.named_monitor_format (taken ++ map (λ m. m.0) earlier)) [] counts.monitors guarded.0 m.0 in
    let conditions = each_long (g.condition_format inner counts.monitors) [] counts.conditions guarded.1.0 k.0 in
    let routines = each_long (λ earlier. g.routine_format counts) [] counts.routines work.0 r.0 in
    let processes = each_long (λ earlier. g.named_process_format version counts (inner ++ map (λ p. p.0) earlier) (f.used_by earlier)) [] counts.processes work.1.0 p.0 in
    let code = code_long (f.all_used (f.used_by work.1.0) 0 counts.events) counts.code work.1.1 p.1 in
    record { same = rw (devices, events, monitors, conditions, routines, processes, code) refl; code = p.1 }

parts_sound : (version : Version) → IsSound (f.parts_format version)
parts_sound version =
    via_sound parts_with content_of (content version) (λ x h. ap (λ (counts : Counts). (x.0, (counts, x.1.1))) (counted version x h).same) (λ y h. refl) (content_sound version)

-- ---- the file

version_sound : IsSound f.version_format
version_sound = via_sound f.version_of f.number_of (checked u16 version_rule) there again (checked_sound u16 version_rule u16_sound) where
  by : (n : ℕ) (a b : Bool) → n == 1 ≡ a → n == 2 ≡ b → (a || b) ≡ true → f.number_of (if a then First else Second) ≡ n
  by n true b one two h = sym (eqb-true n 1 one)
  by n false true one two h = sym (eqb-true n 2 two)
  by n false false one two h = absurd cc

  there : (n : ℕ) → (checked u16 version_rule).is n ≡ true → f.number_of (f.version_of n) ≡ n
  there n h = by n (n == 1) (n == 2) refl refl (fine_is (n == 1 || n == 2) 1 (and_parts (nat_lt n 65536) (is_fine (version_rule n)) h).1)

  again : (v : Version) → (checked u16 version_rule).is (f.number_of v) ≡ true → f.version_of (f.number_of v) ≡ v
  again First h = refl
  again Second h = refl

pub image_sound : IsSound f.image_format
image_sound =
    via_sound (λ (x : List ℕ × (Version × f.Parts)). x.1) (λ x. (codes "RTEU", x)) (both f.magic_format (λ magic. after_magic))
    (λ x h. ap (λ (magic : List ℕ). (magic, x.1)) (sym (same_words x.0 (codes "RTEU") (fine_is (pointwise nat_eq x.0 (codes "RTEU")) 1 (and_parts ((bytes_as_are 4).is x.0) (is_fine (magic_rule x.0)) (and_parts (f.magic_format.is x.0) (after_magic.is x.1) h).0).1))))
    (λ y h. refl)
    (pair_sound f.magic_format after_magic (checked_sound (bytes_as_are 4) magic_rule (bytes_sound 4)) (both_sound f.version_format f.parts_format version_sound parts_sound))

-- ---- what is written

each_is_written : {A : Type 0} (f : List A → Format A) (bytes : A → List ℕ) → ((earlier : List A) (x : A) → (f earlier).write x ≡ bytes x) → (earlier xs : List A) → each_write f earlier xs ≡ flat_map bytes xs
each_is_written f bytes same earlier [] = refl
each_is_written f bytes same earlier (x ∷ xs) = rw (same earlier x, each_is_written f bytes same (earlier ++ x ∷ []) xs) refl

monitors_are_written : (taken : List (List ℕ)) (earlier ms : List (List ℕ × Monitor)) → each_write (λ earlier. g.named_monitor_format (taken ++ map (λ m. m.0) earlier)) earlier ms ≡ monitors_bytes (map (λ m. m.0) ms) (map (λ m. m.1) ms)
monitors_are_written taken earlier [] = refl
monitors_are_written taken earlier (m ∷ ms) = ap (λ (more : List ℕ). monitor_bytes m.0 m.1 ++ more) (monitors_are_written taken (earlier ++ m ∷ []) ms)

tree_is_written : (monitors depth : ℕ) (tree : Segs) → (tree_format (in_image monitors) depth).write tree ≡ tree_bytes tree
unfolding tree_format
tree_is_written monitors zero tree = refl
tree_is_written monitors (suc depth) tree = refl

routine_is_written : (counts : Counts) (r : Routine) → (g.routine_format counts).write r ≡ routine_bytes r
routine_is_written counts r = rw (tree_is_written counts.monitors 130 r.tree) (simp append_assoc)

deadline_is_written : (version : Version) (p : Process) → (g.deadline_format version p.frame).write p.deadline ≡ deadline_bytes version p
deadline_is_written First p = refl
deadline_is_written Second p = refl

numbers_are_written : (numbers : List ℕ) → each_write (λ earlier. checked u16 (g.wrong_number earlier)) [] numbers ≡ flat_map written.u16 numbers
numbers_are_written numbers = each_is_written (λ earlier. checked u16 (g.wrong_number earlier)) written.u16 (λ earlier n. refl) [] numbers

handler_is_written : (monitors : ℕ) (numbers : List ℕ) (tree : Option Segs) → (g.handler_tree_format monitors (length numbers)).write tree ≡ handler_bytes numbers tree
handler_is_written monitors [] None = refl
handler_is_written monitors [] (Some tree) = refl
handler_is_written monitors (n ∷ ns) None = refl
handler_is_written monitors (n ∷ ns) (Some tree) = tree_is_written monitors 130 tree

process_is_written : (version : Version) (counts : Counts) (taken : List (List ℕ)) (used : List ℕ) (x : List ℕ × Process) → (g.named_process_format version counts taken used).write x ≡ process_bytes version x.0 x.1
process_is_written version counts taken used x =
    rw (deadline_is_written version x.1, numbers_are_written x.1.numbers, tree_is_written counts.monitors 130 x.1.body, handler_is_written counts.monitors x.1.numbers x.1.handler_tree) refl

processes_are_written : (version : Version) (counts : Counts) (taken : List (List ℕ)) (earlier ps : List (List ℕ × Process))
    → each_write (λ earlier. g.named_process_format version counts (taken ++ map (λ p. p.0) earlier) (f.used_by earlier)) earlier ps ≡ processes_bytes version (map (λ p. p.0) ps) (map (λ p. p.1) ps)
processes_are_written version counts taken earlier [] = refl
processes_are_written version counts taken earlier (p ∷ ps) =
    ap (λ (front : List ℕ). front ++ each_write (λ earlier. g.named_process_format version counts (taken ++ map (λ p. p.0) earlier) (f.used_by earlier)) (earlier ++ p ∷ []) ps)
    (process_is_written version counts (taken ++ map (λ p. p.0) earlier) (f.used_by earlier) p)
    ∙ ap (λ (more : List ℕ). process_bytes version p.0 p.1 ++ more) (processes_are_written version counts taken (earlier ++ p ∷ []) ps)

events_are_written : (at : ℕ) (events : List (List ℕ)) (processes : List Process) → flat_map written.name_bytes events ≡ flat_map event_bytes (f.framed at events processes)
events_are_written at [] processes = refl
events_are_written at (e ∷ es) processes = ap (λ (more : List ℕ). written.name_bytes e ++ more) (events_are_written (at + 1) es processes)

pub framed_long : (at : ℕ) (events : List (List ℕ)) (processes : List Process) → length (f.framed at events processes) ≡ length events
framed_long at [] processes = refl
framed_long at (e ∷ es) processes = ap (λ k. suc k) (framed_long (at + 1) es processes)

code_is_written : (is_used : Bool) (count : ℕ) (code : List Instr) → (f.code_format is_used count).is code ≡ true → (f.code_format is_used count).write code ≡ flat_map instr_bytes code
code_is_written true count code h = each_is_written (λ earlier. g.instr_format) instr_bytes (λ earlier. instr_is_written) [] code
code_is_written false count code h = cc

-- the pieces of a file, one after the other
abbrev pieces : (version counts program devices events monitors conditions routines processes code : List ℕ) → List ℕ
pieces v c n ds es ms cs rs ps code = v ++ (c ++ (n ++ (ds ++ (es ++ (ms ++ (cs ++ (rs ++ (ps ++ code))))))))

same_pieces : {v v' c c' ds ds' es es' ms ms' cs cs' rs rs' ps ps' code code' : List ℕ} (n : List ℕ) → v ≡ v' → c ≡ c' → ds ≡ ds' → es ≡ es' → ms ≡ ms' → cs ≡ cs' → rs ≡ rs' → ps ≡ ps' → code ≡ code'
    → pieces v c n ds es ms cs rs ps code ≡ pieces v' c' n ds' es' ms' cs' rs' ps' code'
same_pieces n a b d e f g h i j = rw (a, b, d, e, f, g, h, i, j) refl

grouped : (v c n ds es ms cs rs ps code : List ℕ) → pieces v c n ds es ms cs rs ps code ≡ (v ++ (c ++ n)) ++ ((ds ++ (es ++ (ms ++ cs))) ++ (rs ++ (ps ++ code)))
grouped v c n ds es ms cs rs ps code = simp append_assoc

version_is_written : (version : Version) (over : ℕ) → written.u16 (f.number_of version) ++ (f.over_format version).write over ≡ version_bytes version over
version_is_written First over = refl
version_is_written Second over = refl

module _ (version : Version) (ps : f.Parts) where
  abbrev named : NamedImage
  named = f.image_with ps

  abbrev counts : Counts
  counts = f.counts_of ps

  abbrev before_events : List (List ℕ)
  before_events = f.with_devices (ps.program ∷ []) ps.devices

  abbrev before_monitors : List (List ℕ)
  before_monitors = before_events ++ ps.events

  abbrev before_conditions : List (List ℕ)
  before_conditions = f.with_monitors before_monitors ps.monitors

  counts_are_written : g.counts_format.write counts ≡ counts_bytes named.names named.image
  counts_are_written =
      rw (length-map ps.processes (λ (x : List ℕ × Process). x.1), length-map ps.monitors (λ (x : List ℕ × Monitor). x.1), framed_long 0 ps.events (map (λ x. x.1) ps.processes)) refl

  pub image_is_written : (f.code_format (f.all_used (f.used_by ps.processes) 0 (length ps.events)) (length ps.code)).is ps.code ≡ true → f.image_format.write (version, ps) ≡ bytes_of version named
  unfolding bytes_of
  image_is_written h =
      ap (λ (more : List ℕ). codes "RTEU" ++ more)
      (same_pieces (written.name_bytes ps.program) (version_is_written version ps.over) counts_are_written
      (each_is_written (λ earlier. g.device_format ((ps.program ∷ []) ++ map (λ d. d.name) earlier)) device_bytes (λ earlier d. refl) [] ps.devices)
      (each_is_written (λ earlier. g.name_format (before_events ++ earlier)) written.name_bytes (λ earlier e. refl) [] ps.events ∙ events_are_written 0 ps.events (map (λ x. x.1) ps.processes))
      (monitors_are_written before_monitors [] ps.monitors)
      (each_is_written (g.condition_format before_conditions counts.monitors) condition_bytes (λ earlier c. refl) [] ps.conditions)
      (each_is_written (λ earlier. g.routine_format counts) routine_bytes (λ earlier r. routine_is_written counts r) [] ps.routines)
      (processes_are_written version counts before_conditions [] ps.processes)
      (code_is_written (f.all_used (f.used_by ps.processes) 0 (length ps.events)) (length ps.code) ps.code h)
      ∙ grouped (version_bytes version ps.over) (counts_bytes named.names named.image) (written.name_bytes ps.program) (flat_map device_bytes ps.devices) (flat_map event_bytes named.names.events)
      (monitors_bytes named.names.monitors named.image.monitors) (flat_map condition_bytes ps.conditions) (flat_map routine_bytes ps.routines) (processes_bytes version named.names.processes named.image.processes)
      (flat_map instr_bytes ps.code))

pub code_is : (version : Version) (ps : f.Parts) → f.image_format.is (version, ps) ≡ true → (f.code_format (f.all_used (f.used_by ps.processes) 0 (length ps.events)) (length ps.code)).is ps.code ≡ true
code_is version ps h = (counted version (content_of ps) (and_parts (f.version_format.is version) ((f.parts_format version).is ps) (and_parts (f.magic_format.is (codes "RTEU")) (after_magic.is (version, ps)) h).1).1).code
