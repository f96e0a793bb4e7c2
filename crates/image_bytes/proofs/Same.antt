-- What is read at the places of an image is the image.
use Rattle.std.proofs.Common.{◌≡◌, ◌+◌, ℕ, suc, Bool, List, [], ◌∷◌, length, map, refl, sym, ap, ◌∙◌, subst}
use Rattle.image_format.specs.Format.{Format}
use Rattle.image.specs.Bytes.{Second, bytes_of}
use Rattle.image.specs.InRange.{IsInRange}
use Rattle.image.specs.Named.{NamedImage}
use Rattle.image.specs.Raw.{named_of}
use Rattle.image.specs.declared.raw.RawImage.{RawImage}
use Rattle.image_bytes.specs.Fields.{process_fields, routine_fields}
use Rattle.image_bytes.specs.Standing.{read_or}
use Rattle.image_bytes.specs.Places.{AreAt, AreInstrs, AreOf, instrs_at, things_at}
use Rattle.image_bytes.specs.declared.places.PartOffsets.{PartOffsets}
use Rattle.image_reader.specs.Grammar.{monitor_format, or_end}
use Rattle.machine_semantics.specs.Image.{Monitor, Process, Routine}
use Rattle.machine_isa.specs.declared.instr.Instr.{Instr}
use Rattle.machine_isa.specs.Numbered.{named_by}
use Rattle.machine_isa.proofs.Back.{named_by-instr_bytes}
use Rattle.image_bytes.specs.Kept.{AreKept, image_at, no_process, no_routine}

pub same_things : {A : Type 0} (none : A) (f : Format A) (bytes places : List ℕ) (xs : List A) → AreAt f bytes places xs → things_at none f bytes places ≡ xs
same_things none f bytes [] [] are = refl
same_things none f bytes (at ∷ places) (x ∷ xs) are =
    ap (λ y. y ∷ things_at none f bytes places) (ap (read_or none) are.0.1) ∙ ap (λ ys. x ∷ ys) (same_things none f bytes places xs are.1)
same_things none f bytes [] (x ∷ xs) are = absurd are
same_things none f bytes (at ∷ places) [] are = absurd are

pub same_code : (bytes : List ℕ) (at : ℕ) (code : List Instr) → AreInstrs bytes at code → instrs_at bytes at (length code) ≡ code
same_code bytes at [] are = refl
same_code bytes at (i ∷ is) are =
    ap (λ j. j ∷ instrs_at bytes (at + 13) (length is)) (ap (λ (xs : List ℕ). or_end (named_by xs)) are.0 ∙ ap or_end (named_by-instr_bytes i are.1)) ∙ ap (λ js. i ∷ js) (same_code bytes (at + 13) is are.2)

-- an image of which the parts begin at places is read at them
pub same_image : (bytes : List ℕ) (places : PartOffsets) (named : NamedImage) → named.image.conditions ≡ map (λ c. c.mon) named.names.conditions → named.image.devices ≡ map (λ d. d.out) named.names.devices
    → AreOf bytes places named → image_at bytes named.image.over named.program named.names places ≡ named
same_image bytes places named conditions devices are =
    ap (λ monitors. with_monitors monitors) (same_things _ monitor_format bytes places.monitors named.image.monitors are.monitors)
    ∙ ap (λ routines. with_routines routines) (same_things _ routine_fields bytes places.routines named.image.routines are.routines)
    ∙ ap (λ processes. with_processes processes) (same_things _ process_fields bytes places.processes named.image.processes are.processes)
    ∙ ap (λ code. with_code code) (ap (λ n. instrs_at bytes places.code n) are.instructions ∙ same_code bytes places.code named.image.code are.code)
    ∙ ap (λ conditions. with_conditions conditions) (sym conditions) ∙ ap (λ devices. with_devices devices) (sym devices) where
      with_devices : List Bool → NamedImage
      with_devices devices = record {
        program = named.program;
        names = named.names;
        image = record {
          over = named.image.over;
          monitors = named.image.monitors;
          conditions = named.image.conditions;
          devices = devices;
          routines = named.image.routines;
          processes = named.image.processes;
          code = named.image.code;
        };
      }

      with_conditions : List ℕ → NamedImage
      with_conditions conditions = record {
        program = named.program;
        names = named.names;
        image = record {
          over = named.image.over;
          monitors = named.image.monitors;
          conditions = conditions;
          devices = map (λ d. d.out) named.names.devices;
          routines = named.image.routines;
          processes = named.image.processes;
          code = named.image.code;
        };
      }

      with_code : List Instr → NamedImage
      with_code code = record {
        program = named.program;
        names = named.names;
        image = record {
          over = named.image.over;
          monitors = named.image.monitors;
          conditions = map (λ c. c.mon) named.names.conditions;
          devices = map (λ d. d.out) named.names.devices;
          routines = named.image.routines;
          processes = named.image.processes;
          code = code;
        };
      }

      with_processes : List Process → NamedImage
      with_processes processes = record {
        program = named.program;
        names = named.names;
        image = record {
          over = named.image.over;
          monitors = named.image.monitors;
          conditions = map (λ c. c.mon) named.names.conditions;
          devices = map (λ d. d.out) named.names.devices;
          routines = named.image.routines;
          processes = processes;
          code = instrs_at bytes places.code places.instructions;
        };
      }

      with_routines : List Routine → NamedImage
      with_routines routines = record {
        program = named.program;
        names = named.names;
        image = record {
          over = named.image.over;
          monitors = named.image.monitors;
          conditions = map (λ c. c.mon) named.names.conditions;
          devices = map (λ d. d.out) named.names.devices;
          routines = routines;
          processes = things_at no_process process_fields bytes places.processes;
          code = instrs_at bytes places.code places.instructions;
        };
      }

      with_monitors : List Monitor → NamedImage
      with_monitors monitors = record {
        program = named.program;
        names = named.names;
        image = record {
          over = named.image.over;
          monitors = monitors;
          conditions = map (λ c. c.mon) named.names.conditions;
          devices = map (λ d. d.out) named.names.devices;
          routines = things_at no_routine routine_fields bytes places.routines;
          processes = things_at no_process process_fields bytes places.processes;
          code = instrs_at bytes places.code places.instructions;
        };
      }

-- what is kept of an image is kept of what is read at its places
pub record Stands (bytes : List ℕ) (places : PartOffsets) (named : NamedImage) : Type 0 where
  pub same : image_at bytes named.image.over named.program named.names places ≡ named
  pub kept : AreKept bytes places (image_at bytes named.image.over named.program named.names places)

pub stands : (bytes : List ℕ) (places : PartOffsets) (raw : RawImage) → IsInRange (named_of raw) → bytes ≡ bytes_of Second (named_of raw) → AreOf bytes places (named_of raw) → Stands bytes places (named_of raw)
stands bytes places raw written are begin =
    let same = same_image bytes places (named_of raw) refl refl begin in
    record { same = same; kept = subst (AreKept bytes places) (sym same) (record { written = written; bytes_are = are; begin = begin }) }

-- there are as many things as places
pub as_many : {A : Type 0} (none : A) (f : Format A) (bytes places : List ℕ) → length (things_at none f bytes places) ≡ length places
as_many none f bytes [] = refl
as_many none f bytes (at ∷ places) = ap (λ k. suc k) (as_many none f bytes places)
