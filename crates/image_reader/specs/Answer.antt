-- What the answer of the call says of the bytes.
use Rattle.std.specs.Prelude.{◌≡◌, ◌-◌, ℕ, List, [], length, map, Result, Ok, Err}
use Rattle.std.specs.List.{zip}
use Rattle.image.specs.declared.raw.RawImage.{RawImage}
use Rattle.image.specs.Bytes.{Version}
use Rattle.image.specs.Raw.{monitor_of, named_of, process_of, routine_of}
use Rattle.image_reader.specs.declared.fault.ImageFault.{ImageFault}
use Rattle.image_reader.specs.declared.fault.ImageFault.TheVariants as faults
use Rattle.image_format.specs.Format.{fault}
use Rattle.image_reader.specs.File.{Parts, image_with, read_file}

-- the parts of an image, as the code holds them
abbrev pub parts_of : RawImage → Parts
parts_of raw = record {
  over = raw.overhead;
  program = raw.program;
  devices = raw.names.devices;
  events = map (λ e. e.name) raw.names.events;
  monitors = zip raw.names.monitors (map monitor_of raw.monitors);
  conditions = raw.names.conditions;
  routines = map routine_of raw.routines;
  processes = zip raw.names.processes (map process_of raw.processes);
  code = raw.code;
}

-- the file holds this image, in one of the versions
pub record Holds (bytes : List ℕ) (raw : RawImage) : Type 0 where
  pub version : Version
  pub is_read : read_file bytes ≡ Ok ((version, parts_of raw), [])
  pub image : named_of raw ≡ image_with (parts_of raw)

-- the first fault has the number and stands at the offset
pub record HasFault (bytes : List ℕ) (number offset : ℕ) : Type 0 where
  pub left : ℕ
  pub is_read : read_file bytes ≡ Err (fault number left)
  pub place : offset ≡ length bytes - left

abbrev pub Tells : List ℕ → Result RawImage ImageFault → Type 0
Tells bytes (Ok raw) = Holds bytes raw
Tells bytes (Err (faults.Bad number offset)) = HasFault bytes number offset
Tells bytes (Err (faults.Memory _)) = Unit {0}
