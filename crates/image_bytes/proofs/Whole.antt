-- The parts of an image in its bytes, one after the other.
use Rattle.std.proofs.Common.{◌≡◌, ◌<◌, ◌+◌, ◌++◌, ◌^◌, ℕ, List, All, length, drop, map, refl, sym, ap, ◌∙◌, subst, append_assoc, length-append, arith}
use Rattle.std.specs.List.{flat_map}
use Rattle.std.proofs.lemmas.Option.{slice_get-get_or}
use Rattle.image_format.specs.Format.{Format}
use Rattle.image_format.specs.Numbers.{name_bytes}
use Rattle.image.specs.declared.names.ConditionName.{ConditionName}
use Rattle.image.specs.declared.raw.RawImage.{RawImage}
use Rattle.image.specs.declared.raw.RawMonitor.{RawMonitor}
use Rattle.image.specs.declared.raw.RawProcess.{RawProcess}
use Rattle.image.specs.declared.raw.RawRoutine.{RawRoutine}
use Rattle.image.specs.Bytes.{Second, bytes_of, condition_bytes, device_bytes, event_bytes, monitors_bytes, processes_bytes, routine_bytes}
use Rattle.image.specs.Raw.{image_of, monitor_of, named_of, process_of, routine_of}
use Rattle.image_bytes.specs.Places.{AreAt}
use Rattle.image_bytes.specs.Placing.{AreAmong, HasEnd, opening_bytes}
use Rattle.image_bytes.proofs.ImagePlacesPlaced.{past}
use Rattle.machine_isa.specs.Bytes.{instr_bytes}
use Rattle.valid_image.specs.Valid.{HasHandler, HasLimits}

-- this is left of the bytes from a place on
pub record Reached (bytes : List ℕ) (at : ℕ) (left : List ℕ) : Type 0 where
  pub next : drop at bytes ≡ left
  pub size : at + length left ≡ length bytes

-- ---- what is left from the code, the processes, the routines, the conditions and the monitors on

abbrev pub code_on : RawImage → List ℕ
code_on raw = flat_map instr_bytes raw.code

abbrev pub processes_on : RawImage → List ℕ
processes_on raw = processes_bytes Second raw.names.processes (map process_of raw.processes) ++ code_on raw

abbrev pub routines_on : RawImage → List ℕ
routines_on raw = flat_map routine_bytes (map routine_of raw.routines) ++ processes_on raw

abbrev pub conditions_on : RawImage → List ℕ
conditions_on raw = flat_map condition_bytes raw.names.conditions ++ routines_on raw

abbrev pub monitors_on : RawImage → List ℕ
monitors_on raw = monitors_bytes raw.names.monitors (map monitor_of raw.monitors) ++ conditions_on raw

-- ---- steps

regrouped : (n d e m c rest : List ℕ) → n ++ ((d ++ (e ++ (m ++ c))) ++ rest) ≡ (n ++ (d ++ e)) ++ (m ++ (c ++ rest))
regrouped n d e m c rest = simp append_assoc refl

pub begun : (raw : RawImage) (bytes : List ℕ) → bytes ≡ bytes_of Second (named_of raw) → Reached bytes 24 (opening_bytes raw ++ monitors_on raw)
unfolding bytes_of
begun raw bytes is =
    let group = regrouped (name_bytes raw.program) (flat_map device_bytes raw.names.devices) (flat_map event_bytes raw.names.events) (monitors_bytes raw.names.monitors (map monitor_of raw.monitors))
    (flat_map condition_bytes raw.names.conditions) (routines_on raw) in
    record { next = ap (drop 24) is ∙ group; size = omega (arith, ap length group, ap length is) }

-- past one part, whose things are those of the image
passed : {L : Type 0} (written : L → List ℕ) (bytes rest : List ℕ) (at after : ℕ) (xs ys : L) → xs ≡ ys → Reached bytes at (written ys ++ rest) → after ≡ at + length (written xs)
    → Reached bytes after rest
passed written bytes rest at after xs ys same here is =
    let moved : after ≡ at + length (written ys) = is ∙ ap (λ zs. at + length (written zs)) same in
    record { next = ap (λ n. drop n bytes) moved ∙ past at bytes (written ys) rest here.next; size = omega (arith, here.size, moved, length-append (written ys) rest) }

-- a part ends within the bytes
pub has_end : {L : Type 0} (written : L → List ℕ) (bytes rest : List ℕ) (at : ℕ) (xs ys : L) → xs ≡ ys → Reached bytes at (written ys ++ rest) → length bytes < 2 ^ 64 → HasEnd at (written xs)
has_end written bytes rest at xs ys same here long =
    let whole : at + length (written ys) < 2 ^ 64 = omega (arith, here.size, long, length-append (written ys) rest) in
    subst (λ zs. HasEnd at (written zs)) (sym same) whole

-- the things of a part are read at their places
pub things_of : {A L : Type 0} (f : Format A) (written : L → List ℕ) (things : L → List A) (bytes rest : List ℕ) (at : ℕ) (places : List ℕ) (xs ys : L) → xs ≡ ys
    → Reached bytes at (written ys ++ rest) → AreAmong f at (written xs) places (things xs) → AreAt f bytes places (things ys)
things_of f written things bytes rest at places xs ys same here among = subst (λ zs. AreAmong f at (written zs) places (things zs)) same among bytes rest here.next

-- ---- past each part

-- monitors with their names, and processes with theirs
abbrev pub Guarded : Type 0
Guarded = List (List ℕ) × List RawMonitor

abbrev pub Released : Type 0
Released = List (List ℕ) × List RawProcess

abbrev pub guarded_in : RawImage → Guarded
guarded_in raw = (raw.names.monitors, raw.monitors)

abbrev pub released_in : RawImage → Released
released_in raw = (raw.names.processes, raw.processes)

abbrev pub monitors_written : Guarded → List ℕ
monitors_written x = monitors_bytes x.0 (map monitor_of x.1)

abbrev pub routines_written : List RawRoutine → List ℕ
routines_written rs = flat_map routine_bytes (map routine_of rs)

abbrev pub processes_written : Released → List ℕ
processes_written x = processes_bytes Second x.0 (map process_of x.1)

-- two lists that are one by one the same
pub both_same : {A B : Type 0} {a b : A} {x y : B} → a ≡ b → x ≡ y → ◌≡◌ {A = A × B} (a, x) (b, y)
both_same {A} {B} {a} {b} {x} {y} first second = subst (λ z. ◌≡◌ {A = A × B} (a, x) (b, z)) second (subst (λ z. ◌≡◌ {A = A × B} (a, x) (z, x)) first refl)

pub past_opening : (raw : RawImage) (bytes : List ℕ) (after : ℕ) → bytes ≡ bytes_of Second (named_of raw) → after ≡ 24 + length (opening_bytes raw) → Reached bytes after (monitors_on raw)
past_opening raw bytes after is after_is = passed opening_bytes bytes (monitors_on raw) 24 after raw raw refl (begun raw bytes is) after_is

pub past_monitors : (raw : RawImage) (bytes : List ℕ) (at after : ℕ) (x : Guarded) → x ≡ guarded_in raw → Reached bytes at (monitors_on raw) → after ≡ at + length (monitors_written x)
    → Reached bytes after (conditions_on raw)
past_monitors raw bytes at after x same = passed monitors_written bytes (conditions_on raw) at after x (guarded_in raw) same

pub past_conditions : (raw : RawImage) (bytes : List ℕ) (at after : ℕ) (conditions : List ConditionName) → conditions ≡ raw.names.conditions → Reached bytes at (conditions_on raw)
    → after ≡ at + length (flat_map condition_bytes conditions) → Reached bytes after (routines_on raw)
past_conditions raw bytes at after conditions same = passed (flat_map condition_bytes) bytes (routines_on raw) at after conditions raw.names.conditions same

pub past_routines : (raw : RawImage) (bytes : List ℕ) (at after : ℕ) (rs : List RawRoutine) → rs ≡ raw.routines → Reached bytes at (routines_on raw) → after ≡ at + length (routines_written rs)
    → Reached bytes after (processes_on raw)
past_routines raw bytes at after rs same = passed routines_written bytes (processes_on raw) at after rs raw.routines same

pub past_processes : (raw : RawImage) (bytes : List ℕ) (at after : ℕ) (x : Released) → x ≡ released_in raw → Reached bytes at (processes_on raw) → after ≡ at + length (processes_written x)
    → Reached bytes after (code_on raw)
past_processes raw bytes at after x same = passed processes_written bytes (code_on raw) at after x (released_in raw) same

-- ---- handlers

pub all_handled : (raw : RawImage) (ps : List RawProcess) → HasLimits (image_of raw) → ps ≡ raw.processes → All (λ p. HasHandler p p.handler_tree) (map process_of ps)
all_handled raw ps limits same =
    subst (λ qs. All (λ p. HasHandler p p.handler_tree) (map process_of qs)) (sym same)
    (λ k d within. (limits.processes k _ (slice_get-get_or (map process_of raw.processes) k d within)).handler)
