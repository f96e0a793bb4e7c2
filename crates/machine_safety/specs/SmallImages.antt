-- Small images, and what they do.
use Rattle.std.specs.Prelude.{ℕ, Bool, true, false, pos, List, [], ◌∷◌, Some, None}
use Rattle.base.specs.declared.event.Event.{Event}
use Rattle.base.specs.declared.event.Act.{Act}
use Rattle.base.specs.declared.event.Act.TheVariants as act
use Rattle.machine_isa.specs.declared.instr.Instr.{Instr}
use Rattle.machine_isa.specs.declared.instr.Instr.TheVariants as i
use Rattle.machine_semantics.specs.Trees.{Segs, Line, Call, Stay, Wait, Nil, Cons}
use Rattle.machine_semantics.specs.Image.{Image, Process, Script, Sets, Occurs}

-- the script that sets nothing and ends at a tick
abbrev pub until : ℕ → Script
until end_tick = record { lines = []; end_tick = end_tick }

-- an act of process k at tick t
abbrev pub at : ℕ → ℕ → Act → Event
at t k a = record { tick = t; proc = k; act = a }

-- ---- one process and no monitor

-- a periodic process of rank 1 without a handler, whose bound is its cost
abbrev pub alone : (frame run words stack : ℕ) → Segs → Process
alone frame run words stack body = record {
  kind = 0;
  frame = frame;
  deadline = frame;
  first = 0;
  event = 0;
  rank = 1;
  run = run;
  susp = 0;
  waits = 0;
  block = 0;
  bound = run;
  words = words;
  stack = stack;
  locals = 0;
  start = 0;
  handler = 0;
  numbers = [];
  body = body;
  handler_tree = None;
}

-- an image of one process, without monitors and routines
abbrev pub image_of : Process → List Bool → List Instr → Image
image_of p devices code = record {
  over = 0;
  monitors = [];
  conditions = [];
  devices = devices;
  routines = [];
  processes = p ∷ [];
  code = code;
}

-- the process has no statement: it ends
abbrev pub idler : Image
idler = image_of (alone 10 4 0 0 Nil) [] (i.End ∷ [])

-- END takes four ticks
abbrev pub idled : List Event
idled = at 0 0 act.Release ∷ at 3 0 act.End ∷ []

-- the process puts 7 to a device
abbrev pub putter : Process → Image
putter p = image_of p (true ∷ []) (i.Push (pos 7) ∷ i.Out (pos 0) ∷ i.End ∷ [])

-- PUSH takes one tick, OUT ten
abbrev pub put_once : List Event
put_once = at 0 0 act.Release ∷ at 10 0 (act.Put 0 (pos 7)) ∷ at 14 0 act.End ∷ []

-- event 0 occurs at the ticks 0 and 15
abbrev pub twice : Script
twice = record { lines = Occurs 0 0 ∷ Occurs 15 0 ∷ []; end_tick = 30 }

-- the process is released by the event
abbrev pub put_twice : List Event
put_twice =
    at 0 0 act.Release ∷ at 10 0 (act.Put 0 (pos 7)) ∷ at 14 0 act.End ∷ at 15 0 act.Release ∷ at 25 0 (act.Put 0 (pos 7)) ∷ at 29 0 act.End ∷ []

-- the process gets from device 0 into its variable, and puts this to device 1
abbrev pub copier : Image
copier = image_of (alone 40 28 1 1 (Cons (Line 4) Nil)) (false ∷ true ∷ []) (i.In (pos 0) ∷ i.StoreOwn (pos 0) ∷ i.LoadOwn (pos 0) ∷ i.Out (pos 1) ∷ i.End ∷ [])

-- the device is set to 5, then to 6 while the get is under way
abbrev pub set_twice : Script
set_twice = record { lines = Sets 0 0 (pos 5) ∷ Sets 8 0 (pos 6) ∷ []; end_tick = 40 }

-- the get acts in its tenth tick
abbrev pub copied : List Event
copied = at 0 0 act.Release ∷ at 9 0 (act.Get 0 (pos 6)) ∷ at 23 0 (act.Put 1 (pos 6)) ∷ at 27 0 act.End ∷ []

-- the process stores 10 where only 0 to 9 may stand, and its handler puts 1
abbrev pub out_of_range : Image
out_of_range =
    image_of (record (alone 30 21 1 1 (Cons (Line 3) Nil)) { handler = 4; numbers = 3 ∷ []; handler_tree = Some (Cons (Line 2) Nil) }) (true ∷ [])
    (i.Push (pos 10) ∷ i.Range (pos 0) (pos 9) ∷ i.StoreOwn (pos 0) ∷ i.End ∷ i.Push (pos 1) ∷ i.Out (pos 0) ∷ i.End ∷ [])

-- the handler is next after the raise
abbrev pub handled : List Event
handled = at 0 0 act.Release ∷ at 3 0 (act.Raise 3) ∷ at 14 0 (act.Put 0 (pos 1)) ∷ at 18 0 act.End ∷ []

-- ---- several processes and a monitor

-- process 0 calls an entry that waits up to 30 ticks, process 1, released first at a tick, one that
-- signals
abbrev pub waiter_and_signaller : ℕ → ℕ → Image
waiter_and_signaller over first = record {
  over = over;
  monitors = record { base = 0; words = 0; ceiling = 1 } ∷ [];
  conditions = 0 ∷ [];
  devices = true ∷ [];
  routines =
      record { kind = 2; owner = 0; params = 0; locals = 0; gives = false; start = 0; run = 22; susp = 30; waits = 1; stay = 13; tree = Cons (Stay 0 (Cons Wait Nil)) Nil }
      ∷ record { kind = 2; owner = 0; params = 0; locals = 0; gives = false; start = 5; run = 17; susp = 0; waits = 0; stay = 8; tree = Cons (Stay 0 (Cons (Line 1) Nil)) Nil }
      ∷ [];
  processes =
      record {
        kind = 0;
        frame = 200;
        deadline = 200;
        first = 0;
        event = 0;
        rank = 1;
        run = 43;
        susp = 30;
        waits = 1;
        block = 8;
        bound = 89;
        words = 0;
        stack = 2;
        locals = 0;
        start = 9;
        handler = 11;
        numbers = 10 ∷ [];
        body = Cons (Call 0) Nil;
        handler_tree = Some (Cons (Line 2) Nil);
      }
      ∷ record {
        kind = 0;
        frame = 300;
        deadline = 300;
        first = first;
        event = 0;
        rank = 2;
        run = 27;
        susp = 0;
        waits = 0;
        block = 0;
        bound = 300;
        words = 0;
        stack = 2;
        locals = 0;
        start = 14;
        handler = 0;
        numbers = [];
        body = Cons (Call 1) Nil;
        handler_tree = None;
      }
      ∷ [];
  code =
      i.Enter (pos 0) ∷ i.Wait (pos 0) (pos 30) (pos 10) ∷ i.Reenter (pos 0) ∷ i.Leave (pos 0) ∷ i.Return
      ∷ i.Enter (pos 0) ∷ i.Signal (pos 0) ∷ i.Leave (pos 0) ∷ i.Return
      ∷ i.Call (pos 0) ∷ i.End ∷ i.Push (pos 1) ∷ i.Out (pos 0) ∷ i.End
      ∷ i.Call (pos 1) ∷ i.End ∷ [];
}

-- with three ticks to dispatch a process and three to leave it
abbrev pub signalled : List Event
signalled =
    at 0 0 act.Release ∷ at 16 0 (act.Enter 0) ∷ at 22 0 (act.Wait 0) ∷ at 31 1 act.Release ∷ at 47 1 (act.Enter 0) ∷ at 52 1 (act.Signal 0 (Some 0)) ∷ at 55 1 (act.Leave 0)
    ∷ at 65 0 (act.Enter 0) ∷ at 68 0 (act.Leave 0) ∷ at 76 0 act.End ∷ at 84 1 act.End ∷ []

-- a tick too late: the wait times out, and its number goes to the handler
abbrev pub timed_out : List Event
timed_out =
    at 0 0 act.Release ∷ at 10 0 (act.Enter 0) ∷ at 16 0 (act.Wait 0) ∷ at 32 1 act.Release ∷ at 42 1 (act.Enter 0) ∷ at 47 0 (act.TimeOut 0 10) ∷ at 47 1 (act.Signal 0 None)
    ∷ at 50 1 (act.Leave 0) ∷ at 61 0 (act.Put 0 (pos 1)) ∷ at 65 0 act.End ∷ at 73 1 act.End ∷ []

-- process 0 raises inside the monitor that process 1 then enters
abbrev pub raiser : Image
raiser = record {
  over = 0;
  monitors = record { base = 0; words = 0; ceiling = 1 } ∷ [];
  conditions = [];
  devices = [];
  routines =
      record { kind = 2; owner = 0; params = 0; locals = 0; gives = false; start = 0; run = 16; susp = 0; waits = 0; stay = 7; tree = Cons (Stay 0 (Cons (Line 1) Nil)) Nil }
      ∷ record { kind = 2; owner = 0; params = 0; locals = 0; gives = false; start = 4; run = 12; susp = 0; waits = 0; stay = 3; tree = Cons (Stay 0 Nil) Nil }
      ∷ [];
  processes =
      record {
        kind = 0;
        frame = 100;
        deadline = 100;
        first = 0;
        event = 0;
        rank = 1;
        run = 26;
        susp = 0;
        waits = 0;
        block = 3;
        bound = 29;
        words = 0;
        stack = 2;
        locals = 0;
        start = 7;
        handler = 0;
        numbers = [];
        body = Cons (Call 0) Nil;
        handler_tree = None;
      }
      ∷ record {
        kind = 0;
        frame = 200;
        deadline = 200;
        first = 0;
        event = 0;
        rank = 2;
        run = 22;
        susp = 0;
        waits = 0;
        block = 0;
        bound = 48;
        words = 0;
        stack = 2;
        locals = 0;
        start = 9;
        handler = 0;
        numbers = [];
        body = Cons (Call 1) Nil;
        handler_tree = None;
      }
      ∷ [];
  code =
      i.Enter (pos 0) ∷ i.Raise (pos 12) ∷ i.Leave (pos 0) ∷ i.Return
      ∷ i.Enter (pos 0) ∷ i.Leave (pos 0) ∷ i.Return
      ∷ i.Call (pos 0) ∷ i.End ∷ i.Call (pos 1) ∷ i.End ∷ [];
}

-- process 1 finds the monitor left
abbrev pub raised_inside : List Event
raised_inside =
    at 0 0 act.Release ∷ at 0 1 act.Release ∷ at 10 0 (act.Enter 0) ∷ at 14 0 (act.Raise 12) ∷ at 18 0 act.End ∷ at 29 1 (act.Enter 0) ∷ at 32 1 (act.Leave 0) ∷ at 40 1 act.End ∷ []

-- process 0 raises inside the monitor, and its handler is still to put when process 1, of a higher
-- rank, enters the monitor
abbrev pub raiser_with_handler : Image
raiser_with_handler = record raiser {
  devices = true ∷ [];
  processes =
      record {
        kind = 0;
        frame = 200;
        deadline = 200;
        first = 0;
        event = 0;
        rank = 2;
        run = 37;
        susp = 0;
        waits = 0;
        block = 0;
        bound = 59;
        words = 0;
        stack = 2;
        locals = 0;
        start = 7;
        handler = 9;
        numbers = 12 ∷ [];
        body = Cons (Call 0) Nil;
        handler_tree = Some (Cons (Line 2) Nil);
      }
      ∷ record {
        kind = 0;
        frame = 100;
        deadline = 100;
        first = 20;
        event = 0;
        rank = 1;
        run = 22;
        susp = 0;
        waits = 0;
        block = 7;
        bound = 29;
        words = 0;
        stack = 2;
        locals = 0;
        start = 12;
        handler = 0;
        numbers = [];
        body = Cons (Call 1) Nil;
        handler_tree = None;
      }
      ∷ [];
  code =
      i.Enter (pos 0) ∷ i.Raise (pos 12) ∷ i.Leave (pos 0) ∷ i.Return
      ∷ i.Enter (pos 0) ∷ i.Leave (pos 0) ∷ i.Return
      ∷ i.Call (pos 0) ∷ i.End ∷ i.Push (pos 1) ∷ i.Out (pos 0) ∷ i.End
      ∷ i.Call (pos 1) ∷ i.End ∷ [];
}

-- three processes; the first two add to a monitor's word, the third, of the highest rank, puts to a
-- device
abbrev pub adders : Image
adders = record {
  over = 0;
  monitors = record { base = 0; words = 1; ceiling = 2 } ∷ [];
  conditions = [];
  devices = true ∷ [];
  routines = record { kind = 2; owner = 0; params = 0; locals = 0; gives = false; start = 0; run = 21; susp = 0; waits = 0; stay = 12; tree = Cons (Stay 0 (Cons (Line 4) Nil)) Nil } ∷ [];
  processes =
      record {
        kind = 0;
        frame = 200;
        deadline = 200;
        first = 0;
        event = 0;
        rank = 3;
        run = 31;
        susp = 0;
        waits = 0;
        block = 0;
        bound = 77;
        words = 0;
        stack = 4;
        locals = 0;
        start = 7;
        handler = 0;
        numbers = [];
        body = Cons (Call 0) Nil;
        handler_tree = None;
      }
      ∷ record {
        kind = 0;
        frame = 100;
        deadline = 100;
        first = 12;
        event = 0;
        rank = 2;
        run = 31;
        susp = 0;
        waits = 0;
        block = 12;
        bound = 58;
        words = 0;
        stack = 4;
        locals = 0;
        start = 9;
        handler = 0;
        numbers = [];
        body = Cons (Call 0) Nil;
        handler_tree = None;
      }
      ∷ record {
        kind = 0;
        frame = 90;
        deadline = 90;
        first = 14;
        event = 0;
        rank = 1;
        run = 15;
        susp = 0;
        waits = 0;
        block = 0;
        bound = 15;
        words = 0;
        stack = 1;
        locals = 0;
        start = 11;
        handler = 0;
        numbers = [];
        body = Cons (Line 2) Nil;
        handler_tree = None;
      }
      ∷ [];
  code =
      i.Enter (pos 0) ∷ i.LoadMon (pos 0) ∷ i.Push (pos 1) ∷ i.Add ∷ i.StoreMon (pos 0) ∷ i.Leave (pos 0) ∷ i.Return
      ∷ i.Call (pos 0) ∷ i.End ∷ i.Call (pos 0) ∷ i.End ∷ i.Push (pos 1) ∷ i.Out (pos 0) ∷ i.End ∷ [];
}

-- the third runs before the first, which is inside the monitor at the second's rank
abbrev pub added : List Event
added =
    at 0 0 act.Release ∷ at 10 0 (act.Enter 0) ∷ at 12 1 act.Release ∷ at 14 2 act.Release ∷ at 24 2 (act.Put 0 (pos 1)) ∷ at 28 2 act.End ∷ at 37 0 (act.Leave 0)
    ∷ at 48 1 (act.Enter 0) ∷ at 60 1 (act.Leave 0) ∷ at 68 1 act.End ∷ at 76 0 act.End ∷ []

-- the same with a ceiling that is no high enough rank for the second process: it runs while the
-- first is inside
abbrev pub low_ceiling : Image
low_ceiling = record adders { monitors = record { base = 0; words = 1; ceiling = 3 } ∷ [] }
