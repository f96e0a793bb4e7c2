-- Images that meet the premise.
use Rattle.std.specs.Prelude.{◌≤◌, ℕ, true, List, [], ◌∷◌, None}
use Rattle.machine_isa.specs.declared.instr.Instr.{Instr}
use Rattle.machine_semantics.specs.Trees.{Line, Nil, Cons}
use Rattle.machine_semantics.specs.Image.{Image, Process, Script, Occurs}
use Rattle.machine_semantics.specs.Walk.{Where}
use Rattle.machine_semantics.specs.Safe.{Parts, ImageFits}
use Rattle.machine_safety.specs.Example.{cost, own_part, meeting, meeting_place, meeting_parts}
use Rattle.sched_timing.specs.Timed.{ImageIsTimed, RespectsFrames, IsInTime}

-- ---- a monitor, a wait, a signal and a handler, without overhead

abbrev pub MeetingIsTimed : List Instr → Type 0
MeetingIsTimed code = ImageIsTimed (meeting_place 0 code) meeting_parts

-- each of its runs is in time
abbrev pub MeetingIsInTime : List Instr → Type 0
MeetingIsInTime code = (script : Script) → IsInTime (meeting 0 code) script

-- ---- a process that an event releases, with three ticks for a dispatch and a deadline that may be
-- below its frame

-- it puts 1: 11 ticks, 4 for END and 6 for the dispatch in and out
abbrev pub answering_process : (deadline : ℕ) → Process
answering_process deadline = record {
  kind = 1;
  frame = 30;
  deadline = deadline;
  first = 0;
  event = 0;
  rank = 1;
  run = 21;
  susp = 0;
  waits = 0;
  block = 0;
  bound = 21;
  words = 0;
  stack = 1;
  locals = 0;
  start = 0;
  handler = 0;
  numbers = [];
  body = Cons (Line 2) Nil;
  handler_tree = None;
}

abbrev pub answering : (deadline : ℕ) → List Instr → Image
answering deadline code = record {
  over = 3;
  monitors = [];
  conditions = [];
  devices = true ∷ [];
  routines = [];
  processes = answering_process deadline ∷ [];
  code = code;
}

abbrev pub answering_place : (deadline : ℕ) → List Instr → Where
answering_place deadline code = record { image = answering deadline code; parts = λ r. own_part 1 0 0; costs = λ r. cost 0 0 0; part = own_part 1 0 0 }

abbrev pub answering_parts : ℕ → Parts
answering_parts k = record { body = own_part 1 0 0; handler = own_part 1 0 0; body_cost = cost 11 0 0; handler_cost = cost 0 0 0 }

-- its event occurs again as soon as it may
abbrev pub twice : Script
twice = record { lines = Occurs 5 0 ∷ Occurs 35 0 ∷ []; end_tick = 100 }

-- the code is of its tree, the declared numbers cover it, and the script respects the frame
pub record AnswersWithin (deadline : ℕ) (code : List Instr) : Type 0 where
  pub fits : ImageFits (answering_place deadline code) answering_parts
  pub timed : ImageIsTimed (answering_place deadline code) answering_parts
  pub respects : RespectsFrames (answering deadline code) twice

-- so it is with each deadline from its bound up to its frame
abbrev pub AnsweringIsTimed : List Instr → Type 0
AnsweringIsTimed code = (deadline : ℕ) → 21 ≤ deadline → deadline ≤ 30 → AnswersWithin deadline code

-- and that run is in time
abbrev pub AnsweringIsInTime : List Instr → Type 0
AnsweringIsInTime code = (deadline : ℕ) → 21 ≤ deadline → deadline ≤ 30 → IsInTime (answering deadline code) twice
