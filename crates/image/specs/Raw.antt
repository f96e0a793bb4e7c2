-- What an image as it stands in a file means: the image that the machine runs, and its names.
use Rattle.std.specs.Prelude.{map}
use Rattle.image.specs.declared.raw.RawMonitor.{RawMonitor}
use Rattle.image.specs.declared.raw.RawRoutine.{RawRoutine}
use Rattle.image.specs.declared.raw.RawProcess.{RawProcess}
use Rattle.image.specs.declared.raw.RawImage.{RawImage}
use Rattle.image.specs.Named.{NamedImage}
use Rattle.machine_semantics.specs.Image.{Image, Monitor, Routine, Process}

-- a monitor, as the machine knows it
abbrev pub monitor_of : RawMonitor → Monitor
monitor_of m = record { base = m.base; words = m.words; ceiling = m.ceiling }

-- a routine, likewise
abbrev pub routine_of : RawRoutine → Routine
routine_of r = record {
  kind = r.kind;
  owner = r.owner;
  params = r.params;
  locals = r.locals;
  gives = r.result;
  start = r.start;
  run = r.run;
  susp = r.susp;
  waits = r.waits;
  stay = r.stay;
  tree = r.tree;
}

-- a process, likewise
abbrev pub process_of : RawProcess → Process
process_of p = record {
  kind = p.kind;
  frame = p.frame;
  deadline = p.deadline;
  first = p.first;
  event = p.event;
  rank = p.rank;
  run = p.run;
  susp = p.susp;
  waits = p.waits;
  block = p.block;
  bound = p.bound;
  words = p.words;
  stack = p.stack;
  locals = p.locals;
  start = p.start;
  handler = p.handler;
  numbers = p.numbers;
  body = p.body;
  handler_tree = p.handler_tree;
}

-- what the machine runs
abbrev pub image_of : RawImage → Image
image_of raw = record {
  over = raw.overhead;
  monitors = map monitor_of raw.monitors;
  conditions = map (λ c. c.mon) raw.names.conditions;
  devices = map (λ d. d.out) raw.names.devices;
  routines = map routine_of raw.routines;
  processes = map process_of raw.processes;
  code = raw.code;
}

-- the image with its names
abbrev pub named_of : RawImage → NamedImage
named_of raw = record { program = raw.program; names = raw.names; image = image_of raw }
