-- Two small images and a tree, and their bytes.
use Rattle.std.specs.Prelude.{ℕ, pos, true, List, [], ◌∷◌, None, map}
use Rattle.machine_isa.specs.declared.instr.Instr.{Instr}
use Rattle.machine_isa.specs.declared.instr.Instr.TheVariants as i
use Rattle.machine_semantics.specs.Image.{Process}
use Rattle.machine_semantics.specs.Trees.{Segs, Line, Fork, Rep, Call, Stay, Wait, Exit, Nil, Cons}
use Rattle.image.specs.declared.names.DeviceName.{DeviceName}
use Rattle.image.specs.Named.{NamedImage}

-- a periodic process alone, which puts to its devices
abbrev pub alone : ℕ → ℕ → ℕ → Segs → Process
alone frame cost stack body = record {
  kind = 0;
  frame = frame;
  deadline = frame;
  first = 0;
  event = 0;
  rank = 1;
  run = cost;
  susp = 0;
  waits = 0;
  block = 0;
  bound = cost;
  words = 0;
  stack = stack;
  locals = 0;
  start = 0;
  handler = 0;
  numbers = [];
  body = body;
  handler_tree = None;
}

-- a program a of one process p, with these devices
abbrev pub program_a : List DeviceName → Process → List Instr → NamedImage
program_a devices process code = record {
  program = 97 ∷ [];
  names = record { processes = (112 ∷ []) ∷ []; monitors = []; conditions = []; devices = devices; events = [] };
  image = record {
    over = 0;
    monitors = [];
    conditions = [];
    devices = map (λ d. d.out) devices;
    routines = [];
    processes = process ∷ [];
    code = code;
  };
}

-- it does nothing, with a frame of 10 ticks
abbrev pub empty_program : NamedImage
empty_program = program_a [] (alone 10 4 0 Nil) (i.End ∷ [])

-- its 98 bytes in the first version
abbrev pub empty_program_first_bytes : List ℕ
empty_program_first_bytes =
    82 ∷ 84 ∷ 69 ∷ 85 ∷ 0 ∷ 1 ∷ 0 ∷ 1 ∷ 0 ∷ 0 ∷ 0 ∷ 0 ∷ 0 ∷ 0 ∷ 0 ∷ 0 ∷ 0 ∷ 0 ∷ 0 ∷ 0 ∷ 0 ∷ 1 ∷ 1 ∷ 97
    ∷ 1 ∷ 112 ∷ 0 ∷ 0 ∷ 0 ∷ 0 ∷ 10 ∷ 0 ∷ 0 ∷ 0 ∷ 0 ∷ 0 ∷ 0 ∷ 0 ∷ 1
    ∷ 0 ∷ 0 ∷ 0 ∷ 4 ∷ 0 ∷ 0 ∷ 0 ∷ 0 ∷ 0 ∷ 0 ∷ 0 ∷ 0 ∷ 0 ∷ 0 ∷ 0 ∷ 0 ∷ 0 ∷ 0 ∷ 0 ∷ 4
    ∷ 0 ∷ 0 ∷ 0 ∷ 0 ∷ 0 ∷ 0 ∷ 0 ∷ 0 ∷ 0 ∷ 0 ∷ 0 ∷ 0 ∷ 0 ∷ 0 ∷ 0 ∷ 0 ∷ 0 ∷ 0 ∷ 0 ∷ 0 ∷ 0 ∷ 0 ∷ 0 ∷ 0 ∷ 0 ∷ 0
    ∷ 48 ∷ 0 ∷ 0 ∷ 0 ∷ 0 ∷ 0 ∷ 0 ∷ 0 ∷ 0 ∷ 0 ∷ 0 ∷ 0 ∷ 0 ∷ []

-- its 104 bytes in the second version
abbrev pub empty_program_bytes : List ℕ
empty_program_bytes =
    82 ∷ 84 ∷ 69 ∷ 85 ∷ 0 ∷ 2 ∷ 0 ∷ 0 ∷ 0 ∷ 1 ∷ 0 ∷ 0 ∷ 0 ∷ 0 ∷ 0 ∷ 0 ∷ 0 ∷ 0 ∷ 0 ∷ 0 ∷ 0 ∷ 0 ∷ 0 ∷ 1 ∷ 1 ∷ 97
    ∷ 1 ∷ 112 ∷ 0 ∷ 0 ∷ 0 ∷ 0 ∷ 10 ∷ 0 ∷ 0 ∷ 0 ∷ 10 ∷ 0 ∷ 0 ∷ 0 ∷ 0 ∷ 0 ∷ 0 ∷ 0 ∷ 1
    ∷ 0 ∷ 0 ∷ 0 ∷ 4 ∷ 0 ∷ 0 ∷ 0 ∷ 0 ∷ 0 ∷ 0 ∷ 0 ∷ 0 ∷ 0 ∷ 0 ∷ 0 ∷ 0 ∷ 0 ∷ 0 ∷ 0 ∷ 4
    ∷ 0 ∷ 0 ∷ 0 ∷ 0 ∷ 0 ∷ 0 ∷ 0 ∷ 0 ∷ 0 ∷ 0 ∷ 0 ∷ 0 ∷ 0 ∷ 0 ∷ 0 ∷ 0 ∷ 0 ∷ 0 ∷ 0 ∷ 0 ∷ 0 ∷ 0 ∷ 0 ∷ 0 ∷ 0 ∷ 0
    ∷ 48 ∷ 0 ∷ 0 ∷ 0 ∷ 0 ∷ 0 ∷ 0 ∷ 0 ∷ 0 ∷ 0 ∷ 0 ∷ 0 ∷ 0 ∷ []

-- it puts 7 to an out device valve, with a frame of 15 ticks
abbrev pub valve_program : NamedImage
valve_program =
    program_a (record { name = 118 ∷ 97 ∷ 108 ∷ 118 ∷ 101 ∷ []; out = true } ∷ []) (alone 15 15 1 (Cons (Line 2) Nil)) (i.Push (pos 7) ∷ i.Out (pos 0) ∷ i.End ∷ [])

-- a tree with a segment of each kind
abbrev pub every_kind : Segs
every_kind = Cons (Fork (Cons (Line 258) Nil) Nil) (Cons (Rep 3 (Cons Exit Nil)) (Cons (Call 2) (Cons (Stay 1 (Cons Wait Nil)) Nil)))

-- its bytes: each segment by its tag
abbrev pub every_kind_bytes : List ℕ
every_kind_bytes =
    0 ∷ 0 ∷ 0 ∷ 4
    ∷ 2 ∷ 0 ∷ 0 ∷ 0 ∷ 1 ∷ 1 ∷ 0 ∷ 0 ∷ 1 ∷ 2 ∷ 0 ∷ 0 ∷ 0 ∷ 0
    ∷ 3 ∷ 0 ∷ 0 ∷ 0 ∷ 3 ∷ 0 ∷ 0 ∷ 0 ∷ 1 ∷ 7
    ∷ 4 ∷ 0 ∷ 2
    ∷ 5 ∷ 0 ∷ 1 ∷ 0 ∷ 0 ∷ 0 ∷ 1 ∷ 6 ∷ []
