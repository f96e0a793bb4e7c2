-- Small images whose code is given, and what it is that the code meets the premise of the laws.
use Rattle.std.specs.Prelude.{◌≡◌, ℕ, zero, suc, true, false, List, [], ◌∷◌, Some, None}
use Rattle.machine_isa.specs.declared.instr.Instr.{Instr}
use Rattle.machine_isa.specs.declared.instr.Instr.TheVariants as i
use Rattle.machine_semantics.specs.Trees.{Line, Fork, Rep, Call, Exit, Nil, Cons}
use Rattle.machine_semantics.specs.Image.{Image, Routine, Process, Script}
use Rattle.machine_semantics.specs.Tick.{tick}
use Rattle.machine_semantics.specs.Run.{state_at}
use Rattle.machine_safety.specs.SmallImages.{waiter_and_signaller}
use Rattle.machine_semantics.specs.Part.{Part}
use Rattle.machine_semantics.specs.Walk.{Where, WalkCost}
use Rattle.machine_semantics.specs.Safe.{Parts, ImageFits}

-- no tick of any run of the image is stuck
abbrev pub IsNeverStuck : Image → Type 0
IsNeverStuck image = (script : Script) (t : ℕ) → (tick image script t (state_at image script t)).stuck ≡ false

-- so many ticks, ticks of waiting and waits; it is left at the end at the latest
abbrev pub cost : ℕ → ℕ → ℕ → WalkCost
cost r s w = record { run = r; susp = s; waits = w; leave = r }

-- a part without locals or words of its own, whose END is at height 0
abbrev pub own_part : (depth limit stay : ℕ) → Part
own_part depth limit stay = record { locals = 0; owned = 0; monitor = None; depth = depth; last = i.End; results = 0; level = 2; limit = limit; stays = λ m. stay }

-- ---- branches, a loop with an exit, and nested calls

-- a function of one argument that calls nothing
abbrev pub inner_routine : Routine
inner_routine = record { kind = 0; owner = 0; params = 1; locals = 1; gives = true; start = 0; run = 9; susp = 0; waits = 0; stay = 0; tree = Cons (Line 3) Nil }

-- a procedure that calls it, and keeps what it gives in its local
abbrev pub outer_routine : Routine
outer_routine = record { kind = 0; owner = 0; params = 0; locals = 1; gives = false; start = 4; run = 22; susp = 0; waits = 0; stay = 0; tree = Cons (Line 1) (Cons (Call 0) (Cons (Line 1) Nil)) }

-- a loop of three turns: each may leave the loop, and then either calls the procedure or puts 1
abbrev pub looping_process : Process
looping_process = record {
  kind = 0;
  frame = 200;
  deadline = 200;
  first = 0;
  event = 0;
  rank = 1;
  run = 177;
  susp = 0;
  waits = 0;
  block = 0;
  bound = 177;
  words = 0;
  stack = 9;
  locals = 0;
  start = 8;
  handler = 0;
  numbers = [];
  body = Cons (Rep 3 (Cons (Line 1) (Cons Exit (Cons (Line 1) (Cons (Fork (Cons (Call 1) Nil) (Cons (Line 2) Nil)) Nil))))) Nil;
  handler_tree = None;
}

-- device 0 is read, device 1 is written
abbrev pub looping : List Instr → Image
looping code = record {
  over = 0;
  monitors = [];
  conditions = [];
  devices = false ∷ true ∷ [];
  routines = inner_routine ∷ outer_routine ∷ [];
  processes = looping_process ∷ [];
  code = code;
}

-- the function ends with its value on top, and needs two words of stack
abbrev pub inner_part : Part
inner_part = record { locals = 1; owned = 0; monitor = None; depth = 2; last = i.ReturnValue; results = 1; level = 0; limit = 0; stays = λ m. 0 }

-- the procedure needs the function's local and stack, and two words for the call
abbrev pub outer_part : Part
outer_part = record { locals = 1; owned = 0; monitor = None; depth = 5; last = i.Return; results = 0; level = 0; limit = 0; stays = λ m. 0 }

-- by routine its part
abbrev pub looping_part : ℕ → Part
looping_part zero = inner_part
looping_part (suc r) = outer_part

-- by routine what it costs at most, with its return
abbrev pub looping_cost : ℕ → WalkCost
looping_cost zero = cost 9 0 0
looping_cost (suc r) = cost 22 0 0

-- three turns of 57 ticks and the start of the loop; no handler
abbrev pub looping_parts : ℕ → Parts
looping_parts k = record { body = own_part 9 0 0; handler = own_part 9 0 0; body_cost = cost 173 0 0; handler_cost = cost 0 0 0 }

-- the code is of its trees
abbrev pub LoopingFits : List Instr → Type 0
LoopingFits code = ImageFits (record { image = looping code; parts = looping_part; costs = looping_cost; part = own_part 9 0 0 }) looping_parts

-- ---- a monitor, a wait, a signal and a handler

-- how long the one entry that waits, and the other, stays in the monitor
abbrev pub entry_stay : ℕ → ℕ
entry_stay zero = 13
entry_stay (suc r) = 8

-- both routines are entries of the one monitor
abbrev pub entry_part : ℕ → Part
entry_part r = record { locals = 0; owned = 0; monitor = Some 0; depth = 0; last = i.Return; results = 0; level = 1; limit = 1; stays = λ m. entry_stay r }

-- by entry what it costs at most, with its return
abbrev pub entry_cost : ℕ → WalkCost
entry_cost zero = cost 22 30 1
entry_cost (suc r) = cost 17 0 0

-- process 0 waits, process 1 signals; with any overhead
abbrev pub meeting : ℕ → List Instr → Image
meeting over code = record (waiter_and_signaller over 31) { code = code }

-- the image with its entries
abbrev pub meeting_place : ℕ → List Instr → Where
meeting_place over code = record { image = meeting over code; parts = entry_part; costs = entry_cost; part = own_part 2 1 13 }

-- process 0 calls the entry that waits and has a handler, process 1 calls the entry that signals
abbrev pub meeting_parts : ℕ → Parts
meeting_parts zero = record { body = own_part 2 1 13; handler = own_part 2 1 13; body_cost = cost 28 30 1; handler_cost = cost 11 0 0 }
meeting_parts (suc k) = record { body = own_part 2 1 8; handler = own_part 2 1 8; body_cost = cost 23 0 0; handler_cost = cost 0 0 0 }

-- the code is of its trees
abbrev pub MeetingFits : List Instr → Type 0
MeetingFits code = (over : ℕ) → ImageFits (meeting_place over code) meeting_parts

-- with any overhead no tick of any run is stuck
abbrev pub MeetingIsSafe : List Instr → Type 0
MeetingIsSafe code = (over : ℕ) → IsNeverStuck (meeting over code)
