-- What the machine runs: an image, with numbers in place of its names, and a script. Things of a
-- kind are counted from 0 in the order of the text, times are ticks, areas are words of 32 bits,
-- addresses are places in the code.
use Rattle.std.specs.Prelude.{◌+◌, ℕ, Bool, true, false, ℤ, List, Option, Some, None}
use Rattle.machine_isa.specs.declared.instr.Instr.{Instr}
use Rattle.machine_semantics.specs.Trees.{Segs, size}

-- a monitor: its words stand from base on, so many, in the one area of all monitors; its ceiling is
-- the least rank of a process that reaches a call of one of its entries, 65535 where none does
pub record Monitor : Type 0 where
  pub base : ℕ
  pub words : ℕ
  pub ceiling : ℕ

-- a routine
pub record Routine : Type 0 where
  -- whose it is: 0 the program's, 1 a process's, 2 a monitor's, so an entry; owner is the number of
  -- that process or monitor
  pub kind : ℕ
  pub owner : ℕ
  -- how many of its locals are arguments, and the words of all its locals
  pub params : ℕ
  pub locals : ℕ
  -- whether it gives a value back
  pub gives : Bool
  -- the address of its first instruction
  pub start : ℕ
  -- what it costs at most up to its return, which is counted in: ticks of execution, ticks of
  -- suspension, waits, and for an entry the ticks from entering the monitor to leaving it
  pub run : ℕ
  pub susp : ℕ
  pub waits : ℕ
  pub stay : ℕ
  -- its code, but for the return that ends it
  pub tree : Segs

-- a process
pub record Process : Type 0 where
  -- 0 for a periodic process, released at first, first + frame, first + 2 frames and so on; 1 for
  -- one that its event releases
  pub kind : ℕ
  pub frame : ℕ
  -- an activation has to end within so many ticks, at most the frame
  pub deadline : ℕ
  pub first : ℕ
  pub event : ℕ
  -- 1 is the highest
  pub rank : ℕ
  -- what an activation costs at most, as for a routine; the longest stay of a lower process that
  -- can hold it up; and the ticks within which an activation ends
  pub run : ℕ
  pub susp : ℕ
  pub waits : ℕ
  pub block : ℕ
  pub bound : ℕ
  -- the words that it keeps between activations, those of its stack, and the locals of its own
  -- frame
  pub words : ℕ
  pub stack : ℕ
  pub locals : ℕ
  -- the addresses of its body and of its handler, and the exception numbers that the handler takes
  pub start : ℕ
  pub handler : ℕ
  pub numbers : List ℕ
  -- its code, but for the END of each part
  pub body : Segs
  pub handler_tree : Option Segs

-- an image
pub record Image : Type 0 where
  -- the ticks of one dispatch; a process burns two, one in and one out, at its release and whenever
  -- it comes back from a wait
  pub over : ℕ
  pub monitors : List Monitor
  -- the monitor of each condition
  pub conditions : List ℕ
  -- whether each device is one for output
  pub devices : List Bool
  pub routines : List Routine
  pub processes : List Process
  pub code : List Instr

-- a line of a script: from this tick on a get of the device answers the value; or the event occurs
-- at the tick
pub data Line : Type 0 where
  Sets : (tick device : ℕ) (value : ℤ) → Line
  Occurs : (tick event : ℕ) → Line

-- a script: its lines in order, and how many ticks the run has
pub record Script : Type 0 where
  pub lines : List Line
  pub end_tick : ℕ

-- how many instructions a handler has before its END; 0 where there is none
abbrev pub size_some : Option Segs → ℕ
size_some None = 0
size_some (Some tree) = size tree

-- the address of the END of the part that a process is in: of its handler, or of its body
abbrev pub end_of : Process → Bool → ℕ
end_of p false = p.start + size p.body
end_of p true = p.handler + size_some p.handler_tree
