-- What words ask for.
use Rattle.std.specs.Prelude.{ℕ, List}
use Rattle.command_words.specs.declared.stop.Breakpoint.{Breakpoint}

-- a command with the names of its files, with an overhead in ticks where it has one, and with the
-- first tick and the one behind the last where it has these
pub data Call : Type 0 where
  go : (program image script : List ℕ) (over : ℕ) → Call
  check : (program : List ℕ) (over : ℕ) → Call
  compile : (program image : List ℕ) (over : ℕ) → Call
  json : (program : List ℕ) (over : ℕ) → Call
  slack : (program : List ℕ) (over : ℕ) → Call
  print : (program : List ℕ) → Call
  run : (image script : List ℕ) → Call
  migrate : (image target : List ℕ) → Call
  asm : (text image : List ℕ) → Call
  dis : (image text : List ℕ) → Call
  watch : (image script : List ℕ) (stop : Breakpoint) → Call
  replay : (program script log : List ℕ) → Call
  edf : (program script : List ℕ) → Call
  why : (program : List ℕ) (over : ℕ) → Call
  fit : (program : List ℕ) (over : ℕ) → Call
  chart : (image script : List ℕ) (first end : ℕ) → Call
  table : (tasks program : List ℕ) → Call

-- a load that is to be made: its key, how many processes it has, and the files of its program and
-- its script
pub record Load : Type 0 where
  pub key : ℕ
  pub count : ℕ
  pub program : List ℕ
  pub script : List ℕ

-- the overhead, 0 where a call has none
abbrev pub over_of : Call → ℕ
over_of (go program image script over) = over
over_of (check program over) = over
over_of (compile program image over) = over
over_of (json program over) = over
over_of (slack program over) = over
over_of (why program over) = over
over_of (fit program over) = over
over_of call = 0
