-- I3 stands behind the bytes of an image, or of one without code that lacks a process.
use Rattle.std.proofs.Common.{◌≡◌, ◌⊎◌, inl, inr, ◌≤◌, ◌<◌, ◌-◌, ◌+◌, ◌++◌, ℕ, Bool, true, false, List, [], ◌∷◌, length, take, drop, Ok, Err, refl, sym, ap, ◌∙◌, subst, arith, append_assoc, length-append, length-drop}
use Rattle.std.specs.Prelude.{codes, map}
use Rattle.std.proofs.lemmas.Bool.{eqb-false}
use Rattle.std.proofs.lemmas.List.{take-append-drop, length-take-le}
use Rattle.std.proofs.Math.Seq.{take-append_seam}
use Rattle.machine_isa.specs.declared.instr.Instr.{Instr}
use Rattle.image.specs.Bytes.{Version, First, Second, bytes_of}
use Rattle.image_reader.specs.declared.counts.Counts.{Counts}
use Rattle.image_format.specs.declared.fault.ByteFault.{ByteFault}
use Rattle.image_format.specs.Format.{Format, fault, both}
use Rattle.image_reader.specs.Grammar as g
use Rattle.image_reader.specs.File as f
use Rattle.image_reader_law.proofs.ImageSoundFields.{each_long}
use Rattle.image_reader_law.proofs.ImageSoundWhole.{image_is_written, code_is}
use Rattle.image_reader_law.specs.Faults as s
use Rattle.image_reader_law.specs.Faults.{Sort, Thing, Form, IsMade, Begins, IsFileFault, natural, device, monitor, condition, routine, process, pair, list}
use Rattle.image_reader_law.specs.ImageFaults as l
use Rattle.image_reader_law.specs.ImageFaults.{FieldsInRange, IsImage, LacksAProcess}
use Rattle.image_reader_law.proofs.Failed.{stops, goes_on, second_of}
use Rattle.image_reader_law.proofs.Heard.{read_begins}
use Rattle.image_reader_law.proofs.Sound.{sound}
use Rattle.image_reader_law.proofs.Grammar.{a_name, some_counts}
use Rattle.image_reader_law.proofs.Chain.{pieces}
use Rattle.image_reader_law.proofs.ImageFaultsFiles.{at_place}
use Rattle.image_reader_law.proofs.ByNumber.{Kind, at_end, letters, versions, inner, trailing, More, FileKind, is_long, is_kind, is_behind, file_kind, of_file, number_of, left_of}
use Rattle.image_reader_law.proofs.ImageFaultsWhole as w
use Rattle.image_reader_law.proofs.ImageFaultsWhole.{content, parts_with, image_made}

-- ---- the bytes of an image

pub written_is : (version : Version) (p : f.Parts) → f.image_format.is (version, p) ≡ true → f.image_format.write (version, p) ≡ bytes_of version (f.image_with p)
written_is version p h = image_is_written version p (code_is version p h)

-- some bytes and more of them, by where the first end
first_of : (bytes front : List ℕ) (rest : List ℕ) (offset : ℕ) → bytes ≡ front ++ rest → offset ≡ length bytes - length rest → (offset ≡ length front) × (take offset bytes ≡ front)
first_of bytes front rest offset all place =
    let long : length bytes ≡ length front + length rest = ap (λ (xs : List ℕ). length xs) all ∙ length-append front rest in
    let at : offset ≡ length front = omega (arith, place, long) in
    (at, ap (λ n. take n bytes) at ∙ ap (λ (xs : List ℕ). take (length front) xs) all ∙ take-append_seam front rest)

pub record Ends (bytes : List ℕ) (offset : ℕ) : Type 0 where
  pub b : ℕ
  pub more : List ℕ
  pub is : drop offset bytes ≡ b ∷ more

ends : (bytes : List ℕ) (offset : ℕ) → offset < length bytes → Ends bytes offset
ends bytes offset low = by (drop offset bytes) refl where
  by : (rest : List ℕ) → drop offset bytes ≡ rest → Ends bytes offset
  by [] is = absurd (omega (arith, low, length-drop offset bytes, ap (λ (xs : List ℕ). length xs) is))
  by (b ∷ more) is = record { b = b; more = more; is = is }

-- ---- the bytes of one that lacks a process

counts_are : (version : Version) (counts : Counts) (p : f.Parts) → FieldsInRange version counts p → p.code ≡ [] → counts.code ≡ 0 → f.counts_of p ≡ counts
counts_are version counts p r no_code count =
    let before = f.with_devices (p.program ∷ []) p.devices in
    let taken = before ++ p.events in
    let inner = f.with_monitors taken p.monitors in
    let devices = each_long (λ earlier. g.device_format ((p.program ∷ []) ++ map (λ d. d.name) earlier)) [] counts.devices p.devices r.devices in
    let events = each_long (λ earlier. g.name_format (before ++ earlier)) [] counts.events p.events r.events in
    let monitors = each_long (λ earlier. g.named_monitor_format (taken ++ map (λ m. m.0) earlier)) [] counts.monitors p.monitors r.monitors in
    let conditions = each_long (g.condition_format inner counts.monitors) [] counts.conditions p.conditions r.conditions in
    let routines = each_long (λ earlier. g.routine_format counts) [] counts.routines p.routines r.routines in
    let processes = each_long (λ earlier. g.named_process_format version counts (inner ++ map (λ p. p.0) earlier) (f.used_by earlier)) [] counts.processes p.processes r.processes in
    let code : length p.code ≡ counts.code = ap (λ (xs : List Instr). length xs) no_code ∙ sym count in
    rw (devices, events, monitors, conditions, routines, processes, code) refl

no_code_bytes : (is_used : Bool) (count : ℕ) (code : List Instr) → is_used ≡ false → (f.code_format is_used count).write code ≡ []
no_code_bytes true count code h = cc
no_code_bytes false count code h = refl

grouped : (m v o c n d e q k r p z rest : List ℕ) → z ≡ [] → (m ++ (v ++ (o ++ (c ++ (n ++ (d ++ (e ++ (q ++ (k ++ (r ++ (p ++ z))))))))))) ++ rest ≡ m ++ (v ++ (o ++ (c ++ (n ++ (d ++ (e ++ (q ++ (k ++ (r ++ (p ++ rest))))))))))
grouped m v o c n d e q k r p z rest none = rw none (simp append_assoc)

whole_is : (version : Version) (p : f.Parts) (rest : List ℕ) → f.all_used (f.used_by p.processes) 0 (length p.events) ≡ false → f.image_format.write (version, p) ++ rest ≡ codes "RTEU" ++ (f.version_format.write version ++ pieces version (f.counts_of p) p rest)
whole_is version p rest unused =
    let counts = f.counts_of p in
    let before = f.with_devices (p.program ∷ []) p.devices in
    let taken = before ++ p.events in
    let inner = f.with_monitors taken p.monitors in
    grouped (codes "RTEU") (f.version_format.write version) ((f.over_format version).write p.over) (g.counts_format.write counts) ((g.name_format []).write p.program) ((f.devices_format counts (p.program ∷ [])).write p.devices)
    ((f.events_format counts before).write p.events) ((f.monitors_format counts taken).write p.monitors) ((f.conditions_format counts inner).write p.conditions) ((f.routines_format counts).write p.routines)
    ((f.processes_format version counts inner).write p.processes) ((f.code_format (f.all_used (f.used_by p.processes) 0 (length p.events)) (length p.code)).write p.code) rest
    (no_code_bytes (f.all_used (f.used_by p.processes) 0 (length p.events)) (length p.code) p.code unused)

-- ---- reading them, with more behind

passes : (a : Sort) {B : Type 0} (f : Form a) (g : Thing a → Format B) → IsMade a f → (x : Thing a) → f.is x ≡ true → (rest : List ℕ) (e : ByteFault) → (g x).read rest ≡ Err e → (both f g).read (f.write x ++ rest) ≡ Err e
passes a f g made x in_range rest e h = goes_on (f.read (f.write x ++ rest)) (second_of g) (x, rest) e ((sound a f made).again x rest in_range) (stops ((g x).read rest) (λ y. Ok ((x, y.0), y.1)) e h)

code_told : (is_used : Bool) (count : ℕ) (b : ℕ) (more : List ℕ) → is_used ≡ false → count ≡ 0 → (f.code_format is_used count).read (b ∷ more) ≡ Err (fault 3 (length (b ∷ more)))
code_told is_used count b more unused none = rw (unused, none) refl

content_read : (version : Version) (p : f.Parts) (b : ℕ) (more : List ℕ) → FieldsInRange version (f.counts_of p) p → p.code ≡ [] → f.all_used (f.used_by p.processes) 0 (length p.events) ≡ false → (content version).read (pieces version (f.counts_of p) p (b ∷ more)) ≡ Err (fault 3 (length (b ∷ more)))
content_read version p b more r no_code unused =
    let counts = f.counts_of p in
    let before = f.with_devices (p.program ∷ []) p.devices in
    let taken = before ++ p.events in
    let inner = f.with_monitors taken p.monitors in
    let e = fault 3 (length (b ∷ more)) in
    let at_code = b ∷ more in
    let at_processes = (f.processes_format version counts inner).write p.processes ++ at_code in
    let at_routines = (f.routines_format counts).write p.routines ++ at_processes in
    let at_conditions = (f.conditions_format counts inner).write p.conditions ++ at_routines in
    let at_monitors = (f.monitors_format counts taken).write p.monitors ++ at_conditions in
    let at_events = (f.events_format counts before).write p.events ++ at_monitors in
    let at_devices = (f.devices_format counts (p.program ∷ [])).write p.devices ++ at_events in
    let at_program = (g.name_format []).write p.program ++ at_devices in
    let at_counts = g.counts_format.write counts ++ at_program in
    passes natural (f.over_format version) (λ over. both g.counts_format (w.after_counts version)) (w.an_over version).made p.over r.over at_counts e
    (passes s.counts g.counts_format (w.after_counts version) some_counts.made counts r.so_many at_program e
    (passes (list natural) (g.name_format []) (λ program. f.named_format version counts program) (a_name []).made p.program r.program at_devices e
    (passes (list device) (f.devices_format counts (p.program ∷ [])) (w.after_devices version counts (p.program ∷ [])) (w.all_devices counts (p.program ∷ [])).made p.devices r.devices at_events e
    (passes (list (list natural)) (f.events_format counts before) (w.after_events version counts (p.program ∷ []) p.devices) (w.all_events counts before).made p.events r.events at_monitors e
    (passes (list (pair (list natural) monitor)) (f.monitors_format counts taken) (w.after_monitors version counts taken) (w.all_monitors counts taken).made p.monitors r.monitors at_conditions e
    (passes (list condition) (f.conditions_format counts inner) (λ conditions. f.work_format version counts inner) (w.all_conditions counts inner).made p.conditions r.conditions at_routines e
    (passes (list routine) (f.routines_format counts) (λ routines. w.with_processes version counts inner) (w.all_routines counts).made p.routines r.routines at_processes e
    (passes (list (pair (list natural) process)) (f.processes_format version counts inner) (w.with_code version counts) (w.all_processes version counts inner).made p.processes r.processes at_code e
    (code_told (f.all_used (f.used_by p.processes) 0 (length p.events)) (length p.code) b more unused (ap (λ (xs : List Instr). length xs) no_code))))))))))

version_in_range : (v : Version) → f.version_format.is v ≡ true
version_in_range First = refl
version_in_range Second = refl

image_read : (version : Version) (p : f.Parts) (b : ℕ) (more : List ℕ) → FieldsInRange version (f.counts_of p) p → p.code ≡ [] → f.all_used (f.used_by p.processes) 0 (length p.events) ≡ false
    → f.image_format.read (codes "RTEU" ++ (f.version_format.write version ++ pieces version (f.counts_of p) p (b ∷ more))) ≡ Err (fault 3 (length (b ∷ more)))
image_read version p b more r no_code unused =
    let e = fault 3 (length (b ∷ more)) in
    let rest = pieces version (f.counts_of p) p (b ∷ more) in
    stops ((both f.magic_format (λ magic. w.after_magic)).read (codes "RTEU" ++ (f.version_format.write version ++ rest))) (λ x. Ok (x.0.1, x.1)) e
    (passes (list natural) f.magic_format (λ magic. w.after_magic) w.magic_made (codes "RTEU") refl (f.version_format.write version ++ rest) e
    (passes s.version f.version_format f.parts_format w.version_made version (version_in_range version) rest e
    (stops ((content version).read rest) (λ x. Ok (parts_with x.0, x.1)) e (content_read version p b more r no_code unused))))

-- ---- I3

abbrev Both : List ℕ → ℕ → Type 0
Both bytes offset = (length bytes ≤ 8388608) × (offset < length bytes) × (IsImage (take offset bytes) ⊎ LacksAProcess (take offset bytes))

image_before : (bytes : List ℕ) (offset : ℕ) (x : Version × f.Parts) (b : ℕ) (more : List ℕ) → length bytes ≤ f.longest → Begins (pair s.version s.parts) f.image_format bytes x (b ∷ more) → offset ≡ length bytes - length (b ∷ more) → Both bytes offset
image_before bytes offset x b more few begins place =
    let first = first_of bytes (f.image_format.write x) (b ∷ more) offset begins.are place in
    let long : length bytes ≡ length (f.image_format.write x) + length (b ∷ more) = ap (λ (xs : List ℕ). length xs) begins.are ∙ length-append (f.image_format.write x) (b ∷ more) in
    (few, omega (arith, long, first.0), inl (record { version = x.0; parts = x.1; in_range = begins.in_range; are = first.1 ∙ written_is x.0 x.1 begins.in_range }))

lacks_before : (bytes : List ℕ) (offset left : ℕ) (version : Version) (rest : List ℕ) → length bytes ≤ f.longest → bytes ≡ codes "RTEU" ++ (f.version_format.write version ++ rest) → More version rest (fault 3 left) → offset ≡ length bytes - left → Both bytes offset
lacks_before bytes offset left version rest few all m place =
    let u = m.unused in
    let p = u.parts in
    let same = counts_are version u.counts p u.in_range u.no_code m.count in
    let unused : f.all_used (f.used_by p.processes) 0 (length p.events) ≡ false = subst (λ (c : Counts). f.all_used (f.used_by p.processes) 0 c.events ≡ false) (sym same) u.unused in
    let pieces_are : rest ≡ pieces version (f.counts_of p) p (m.b ∷ m.more) = u.are ∙ ap (λ (xs : List ℕ). pieces version u.counts p xs) m.rest ∙ ap (λ (c : Counts). pieces version c p (m.b ∷ m.more)) (sym same) in
    let are : bytes ≡ f.image_format.write (version, p) ++ (m.b ∷ m.more) = all ∙ ap (λ (xs : List ℕ). codes "RTEU" ++ (f.version_format.write version ++ xs)) pieces_are ∙ sym (whole_is version p (m.b ∷ m.more) unused) in
    let first = first_of bytes (f.image_format.write (version, p)) (m.b ∷ m.more) offset are (place ∙ ap (λ n. length bytes - n) (sym (left_of m.fault_is))) in
    let long : length bytes ≡ length (f.image_format.write (version, p)) + length (m.b ∷ m.more) = ap (λ (xs : List ℕ). length xs) are ∙ length-append (f.image_format.write (version, p)) (m.b ∷ m.more) in
    (few, omega (arith, long, first.0), inr (record { version = version; parts = p; in_range = subst (λ (c : Counts). FieldsInRange version c p) (sym same) u.in_range; no_code = u.no_code; unused = unused; are = first.1 }))

behind_image : (bytes : List ℕ) (version : Version) (p : f.Parts) (b : ℕ) (more : List ℕ) → length bytes ≤ f.longest → Begins (pair s.version s.parts) f.image_format bytes (version, p) (b ∷ more) → IsFileFault bytes 3 (length (f.image_format.write (version, p)))
behind_image bytes version p b more few begins = s.is_behind few begins

pub three : l.MoreBytesAreI3
three bytes offset are = ((λ h. by (file_kind bytes 3 offset are h)), (λ h. back h.0 (length-take-le offset bytes (omega (arith, h.1))) (ends bytes offset h.1) h.2)) where
  of : length bytes ≤ f.longest → (left : ℕ) → offset ≡ length bytes - left → Kind bytes (fault 3 left) → Both bytes offset
  of few left place (at_end number none) = cc
  of few left place (letters other) = absurd (eqb-false 1 3 refl (number_of other.fault_is))
  of few left place (versions rest all other) = absurd (eqb-false 1 3 refl (number_of other.fault_is))
  of few left place (inner low high) = absurd (omega (arith, low))
  of few left place (trailing version rest all in_range m) = lacks_before bytes offset left version rest few all m place

  by : FileKind bytes 3 offset → Both bytes offset
  by (is_long long number place) = cc
  by (is_kind few left place k) = of few left place k
  by (is_behind few x b bs is number place) = image_before bytes offset x b bs few (read_begins (pair s.version s.parts) f.image_format image_made bytes are (x, b ∷ bs) is) place

  back : length bytes ≤ f.longest → length (take offset bytes) ≡ offset → Ends bytes offset → IsImage (take offset bytes) ⊎ LacksAProcess (take offset bytes) → IsFileFault bytes 3 offset
  back few long end (inl image) =
      let front : take offset bytes ≡ f.image_format.write (image.version, image.parts) = image.are ∙ sym (written_is image.version image.parts image.in_range) in
      let all : bytes ≡ f.image_format.write (image.version, image.parts) ++ (end.b ∷ end.more) = sym (take-append-drop offset bytes) ∙ ap (λ (xs : List ℕ). xs ++ drop offset bytes) front ∙ ap (λ (xs : List ℕ). f.image_format.write (image.version, image.parts) ++ xs) end.is in
      at_place bytes 3 offset 3 (length (f.image_format.write (image.version, image.parts))) refl (sym (ap (λ (xs : List ℕ). length xs) front) ∙ long)
      (behind_image bytes image.version image.parts end.b end.more few (record { is_made = image_made; are = all; in_range = image.in_range }))
  back few long end (inr lacks) =
      let p = lacks.parts in
      let rest = end.b ∷ end.more in
      let front = f.image_format.write (lacks.version, lacks.parts) in
      let all : bytes ≡ front ++ rest = sym (take-append-drop offset bytes) ∙ ap (λ (xs : List ℕ). xs ++ drop offset bytes) lacks.are ∙ ap (λ (xs : List ℕ). front ++ xs) end.is in
      let size : length front ≡ offset = sym (ap (λ (xs : List ℕ). length xs) lacks.are) ∙ long in
      let total : length bytes ≡ length front + length rest = ap (λ (xs : List ℕ). length xs) all ∙ length-append front rest in
      of_file bytes 3 (length rest) offset are few
      (ap f.image_format.read (all ∙ whole_is lacks.version p rest lacks.unused) ∙ image_read lacks.version p end.b end.more lacks.in_range lacks.no_code lacks.unused)
      (omega (arith, total, size))
