-- A valid image with a monitor, a wait, a signal and a handler, and images that differ from it in
-- one place.
use Rattle.std.specs.Prelude.{negsuc, ◌++◌, ◌≡◌, ℕ, zero, suc, pos, List, [], ◌∷◌, Some, None}
use Rattle.machine_isa.specs.declared.instr.Instr.{Instr}
use Rattle.machine_isa.specs.declared.instr.Instr.TheVariants as i
use Rattle.machine_semantics.specs.Trees.{Line, Call, Nil, Cons}
use Rattle.machine_semantics.specs.Image.{Image, Monitor, Process}
use Rattle.machine_safety.specs.SmallImages.{alone, putter, idler, waiter_and_signaller}
use Rattle.machine_safety.specs.Example.{looping}
use Rattle.valid_image.specs.Valid.{fault_of, IsValid, HasLimits}

-- process 0 calls an entry that waits and has a handler, process 1 calls an entry that signals
abbrev pub meeting : Image
meeting = waiter_and_signaller 0 31

-- with another element at an index
abbrev pub put : {A : Type 0} → ℕ → (A → A) → List A → List A
put k f [] = []
put zero f (x ∷ xs) = f x ∷ xs
put (suc k) f (x ∷ xs) = x ∷ put k f xs

abbrev pub with_process : ℕ → (Process → Process) → Image
with_process k f = record meeting { processes = put k f meeting.processes }

abbrev pub with_monitor : (Monitor → Monitor) → Image
with_monitor f = record meeting { monitors = put 0 f meeting.monitors }

abbrev pub with_code : ℕ → Instr → Image
with_code a instr = record meeting { code = put a (λ x. instr) meeting.code }

-- the fault that is shown
abbrev pub Fails : Image → (number a b : ℕ) → Type 0
Fails image n a b = fault_of image ≡ Some (record { number = n; a = a; b = b })

-- the image is valid, and a change in one place makes the part fail that it should
pub record ExamplesAre : Type 0 where
  pub valid : IsValid meeting
  pub limits : HasLimits meeting
  pub none : fault_of meeting ≡ None
  -- a limit of a wait that is no such; a condition that is not there; a negative number of an
  -- exception
  pub limit : Fails (with_code 1 (i.Wait (pos 0) (pos 0) (pos 10))) 6 1 0
  pub condition : Fails (with_code 6 (i.Signal (pos 1))) 6 6 1
  -- code that is not of its tree; a height below 0; code that nothing covers
  pub jump : Fails (with_code 10 (i.Jump (pos 11))) 1 9 0
  pub height : Fails (with_code 11 i.Neg) 1 9 0
  pub start : Fails (with_process 1 (λ p. record p { start = 13 })) 1 13 0
  -- a handler that does not stand where it should
  pub handler : Fails (with_process 0 (λ p. record p { handler = 12 })) 7 0 0
  -- a cost one short; overhead that is not counted in
  pub cost : Fails (with_process 0 (λ p. record p { run = 42 })) 2 42 43
  pub overhead : Fails (record meeting { over = 3 }) 2 43 55
  -- a stack one short
  pub stack : Fails (with_process 0 (λ p. record p { stack = 1 })) 3 1 2
  pub base : Fails (with_monitor (λ m. record m { base = 5 })) 3 5 0
  -- a rank, a ceiling and a block
  pub rank : Fails (with_process 1 (λ p. record p { deadline = 100 })) 4 1 2
  pub ceiling : Fails (with_monitor (λ m. record m { ceiling = 2 })) 4 2 1
  pub block : Fails (with_process 0 (λ p. record p { block = 7 })) 4 7 8
  -- a bound one below the least, and one above the deadline
  pub bound : Fails (with_process 0 (λ p. record p { bound = 88 })) 5 88 89
  pub deadline : Fails (with_process 0 (λ p. record p { deadline = 88 })) 5 89 88

-- ---- overhead, a monitor that nobody enters, and a handler that waits

-- three ticks for a dispatch, which the declared costs cover
abbrev pub dispatched : Image
dispatched = record meeting {
  over = 3;
  processes = put 0 (λ p. record p { run = 55; bound = 101 }) (put 1 (λ p. record p { run = 33 }) meeting.processes);
}

-- besides a monitor of three words
abbrev pub with_unused : (ceiling : ℕ) → Image
with_unused c = record meeting { monitors = record { base = 0; words = 0; ceiling = 1 } ∷ record { base = 0; words = 3; ceiling = c } ∷ [] }

-- the handler calls the entry that waits
abbrev pub waiting_handler : Image
waiting_handler = record meeting {
  processes = put 0 (λ p. record p { handler_tree = Some (Cons (Call 0) (Cons (Line 1) Nil)) }) meeting.processes;
  code = put 11 (λ x. i.Call (pos 0)) (put 12 (λ x. i.Raise (pos 10)) meeting.code);
}

-- ---- deadlines below frames

-- the process that stands last ranks first, since its deadline is the shorter; the other has as
-- long as its bound
abbrev pub prompt : Image
prompt = record meeting {
  processes =
      put 0 (λ p. record p { deadline = 100; rank = 2; bound = 100; block = 0 })
      (put 1 (λ p. record p { deadline = 40; rank = 1; bound = 40; block = 13 }) meeting.processes);
}

-- ---- branches, a loop with an exit, and nested calls

abbrev pub looping_code : List Instr
looping_code =
    i.LoadLocal (pos 0) ∷ i.Push (pos 1) ∷ i.Add ∷ i.ReturnValue
    ∷ i.Push (pos 2) ∷ i.Call (pos 0) ∷ i.StoreLocal (pos 0) ∷ i.Return
    ∷ i.Repeats (pos 3) ∷ i.In (pos 0) ∷ i.Exit (pos 18) ∷ i.In (pos 0) ∷ i.JumpZero (pos 15) ∷ i.Call (pos 1) ∷ i.Jump (pos 17) ∷ i.Push (pos 1) ∷ i.Out (pos 1) ∷ i.Repeat (pos 9) ∷ i.End ∷ []

abbrev pub with_instr : ℕ → Instr → Image
with_instr a instr = looping (put a (λ x. instr) looping_code)

pub record MoreExamplesAre : Type 0 where
  pub dispatched_is : IsValid dispatched
  pub prompt_is : IsValid prompt
  pub unused_is : IsValid (with_unused 65535)
  pub unused : Fails (with_unused 1) 4 1 65535
  pub waits : Fails waiting_handler 7 0 0
  pub words : Fails (with_process 1 (λ p. record p { words = 1048577 })) 3 1048576 1048577
  pub loops_are : IsValid (looping looping_code)
  -- a negative word, a device that goes the other way, no turns, a routine that calls itself, an
  -- entry's instruction outside
  pub word : Fails (with_instr 0 (i.LoadLocal (negsuc 0))) 6 0 4294967295
  pub device : Fails (with_instr 9 (i.In (pos 1))) 6 9 1
  pub turns : Fails (with_instr 8 (i.Repeats (pos 0))) 6 8 0
  pub itself : Fails (with_instr 5 (i.Call (pos 1))) 6 5 1
  pub outside : Fails (with_instr 2 (i.Enter (pos 0))) 6 2 0
  -- a range without numbers, numbers that are none of the user's
  pub range : Fails (with_instr 1 (i.Range (pos 5) (pos 4))) 6 1 5
  pub raise : Fails (with_instr 1 (i.Raise (pos 5))) 6 1 5
  pub number : Fails (with_code 1 (i.Wait (pos 0) (pos 30) (pos 1000))) 6 1 1000
  -- an array: its word, its length, and what they come to
  pub array_word : Fails (with_instr 0 (i.LoadLocalAt (pos 1) (pos 0) (pos 0))) 6 0 1
  pub array_length : Fails (with_instr 0 (i.LoadLocalAt (pos 0) (pos 0) (pos 65537))) 6 0 65537
  pub array_end : Fails (with_instr 0 (i.LoadLocalAt (pos 0) (pos 7) (pos 2))) 6 0 0
  -- an exit that goes elsewhere, a jump one short, a value too many at the end, an instruction that
  -- nothing covers
  pub exit : Fails (with_instr 10 (i.Exit (pos 17))) 1 8 0
  pub jump : Fails (with_instr 12 (i.JumpZero (pos 14))) 1 8 0
  pub height : Fails (with_instr 2 i.Neg) 1 0 0
  pub covered : Fails (looping (i.Push (pos 0) ∷ [] ++ looping_code)) 1 0 0
  pub rest : Fails (looping (looping_code ++ (i.End ∷ []))) 1 19 0

-- ---- the smallest programs: a process that does nothing, and one that puts a number

abbrev pub empty : (Process → Process) → List Instr → Image
empty f code = record idler { processes = put 0 f idler.processes; code = code }

abbrev pub valve : (over : ℕ) → (Process → Process) → Image
valve over f = record (putter (f (alone 15 15 0 1 (Cons (Line 2) Nil)))) { over = over }

pub record SmallestAre : Type 0 where
  pub empty_is : IsValid (empty (λ p. p) (i.End ∷ []))
  pub rank : Fails (empty (λ p. record p { rank = 2 }) (i.End ∷ [])) 4 2 1
  pub run : Fails (empty (λ p. record p { run = 3 }) (i.End ∷ [])) 2 3 4
  pub early : Fails (empty (λ p. record p { bound = 3 }) (i.End ∷ [])) 5 3 4
  pub late : Fails (empty (λ p. record p { bound = 11 }) (i.End ∷ [])) 5 11 10
  pub no_end : Fails (empty (λ p. p) (i.Push (pos 0) ∷ [])) 1 0 0
  pub no_local : Fails (empty (λ p. p) (i.LoadLocal (pos 0) ∷ [])) 6 0 0
  pub valve_is : IsValid (valve 0 (λ p. p))
  pub cost : Fails (valve 0 (λ p. record p { run = 14 })) 2 14 15
  pub bound : Fails (valve 0 (λ p. record p { bound = 14 })) 5 14 15
  pub overhead : Fails (valve 2 (λ p. record p { run = 17 })) 2 17 19
