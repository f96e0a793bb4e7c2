-- An image as its bytes, its names, and the places where its parts begin.
use Rattle.std.specs.Prelude.{◌≡◌, ℕ, List, [], None, false, map}
use Rattle.image.specs.Bytes.{Second, bytes_of}
use Rattle.image.specs.InRange.{IsInRange}
use Rattle.image.specs.Named.{NamedImage}
use Rattle.image.specs.declared.names.ImageNames.{ImageNames}
use Rattle.image_bytes.specs.Fields.{process_fields, routine_fields}
use Rattle.image_bytes.specs.Places.{AreOf, instrs_at, things_at}
use Rattle.image_bytes.specs.declared.places.PartOffsets.{PartOffsets}
use Rattle.image_reader.specs.Grammar.{monitor_format}
use Rattle.machine_semantics.specs.Image.{Monitor, Process, Routine}
use Rattle.machine_semantics.specs.Trees.{Nil}

-- what stands where nothing is read
abbrev pub no_monitor : Monitor
no_monitor = record { base = 0; words = 0; ceiling = 0 }

abbrev pub no_routine : Routine
no_routine = record { kind = 0; owner = 0; params = 0; locals = 0; gives = false; start = 0; run = 0; susp = 0; waits = 0; stay = 0; tree = Nil }

abbrev pub no_process : Process
no_process = record {
  kind = 0;
  frame = 0;
  deadline = 0;
  first = 0;
  event = 0;
  rank = 0;
  run = 0;
  susp = 0;
  waits = 0;
  block = 0;
  bound = 0;
  words = 0;
  stack = 0;
  locals = 0;
  start = 0;
  handler = 0;
  numbers = [];
  body = Nil;
  handler_tree = None;
}

-- the image whose monitors, routines, processes and code are read at their places
abbrev pub image_at : (bytes : List ℕ) → (over : ℕ) → (program : List ℕ) → ImageNames → PartOffsets → NamedImage
image_at bytes over program names places = record {
  program = program;
  names = names;
  image = record {
    over = over;
    monitors = things_at no_monitor monitor_format bytes places.monitors;
    conditions = map (λ c. c.mon) names.conditions;
    devices = map (λ d. d.out) names.devices;
    routines = things_at no_routine routine_fields bytes places.routines;
    processes = things_at no_process process_fields bytes places.processes;
    code = instrs_at bytes places.code places.instructions;
  };
}

-- the bytes are those of the image, in version 2, whose counts fit their fields, and its parts begin
-- at the places
pub record AreKept (bytes : List ℕ) (places : PartOffsets) (named : NamedImage) : Type 0 where
  pub written : IsInRange named
  pub bytes_are : bytes ≡ bytes_of Second named
  pub begin : AreOf bytes places named
