-- The image with a monitor, a wait, a signal and a handler meets the premise.
use Rattle.std.proofs.Common.{◌≡◌, ◌≤◌, ◌<◌, ◌+◌, ◌-◌, ◌⊎◌, ℕ, zero, suc, List, [], ◌∷◌, Some, None, arith, refl, subst, true, false, Bool}
use Rattle.std.specs.Prelude.{slice_get}
use Rattle.machine_isa.specs.declared.instr.Instr.{Instr}
use Rattle.base.specs.Capped.{cap}
use Rattle.sched_response.specs.Demand.{IsTask, Solves, demand_at}
use Rattle.sched_theorem.proofs.Meeting.{solves}
use Rattle.machine_semantics.specs.Trees.{Line, Call, Nil, Cons}
use Rattle.machine_semantics.specs.Image.{Process, Occurs}
use Rattle.machine_semantics.specs.Safe.{part_of}
use Rattle.machine_semantics.specs.Work.{worst_of}
use Rattle.machine_safety.specs.Example.{meeting, meeting_place, meeting_parts, MeetingFits}
use Rattle.valid_image.specs.Tasks.{task_of, tasks_of}
use Rattle.sched_timing.specs.Timed.{IsCovered}
use Rattle.sched_timing.specs.TimedExample.{MeetingIsTimed, MeetingIsInTime}
use Rattle.sched_timing.proofs.Whole.{every_run_is_in_time}

abbrev pub first : Process
first = record {
  kind = 0;
  frame = 200;
  deadline = 200;
  first = 0;
  event = 0;
  rank = 1;
  run = 43;
  susp = 30;
  waits = 1;
  block = 8;
  bound = 89;
  words = 0;
  stack = 2;
  locals = 0;
  start = 9;
  handler = 11;
  numbers = 10 ∷ [];
  body = Cons (Call 0) Nil;
  handler_tree = Some (Cons (Line 2) Nil);
}

abbrev pub second : Process
second = record {
  kind = 0;
  frame = 300;
  deadline = 300;
  first = 31;
  event = 0;
  rank = 2;
  run = 27;
  susp = 0;
  waits = 0;
  block = 0;
  bound = 300;
  words = 0;
  stack = 2;
  locals = 0;
  start = 14;
  handler = 0;
  numbers = [];
  body = Cons (Call 1) Nil;
  handler_tree = None;
}

-- a fact of each of the two processes
pub each : (code : List Instr) (P : ℕ → Process → Type 0) → P 0 first → P 1 second → (k : ℕ) (p : Process) → slice_get (meeting 0 code).processes k ≡ Some p → P k p
each code P one two zero p at = let is : first ≡ p = cc in subst (λ (x : Process). P 0 x) is one
each code P one two (suc zero) p at = let is : second ≡ p = cc in subst (λ (x : Process). P 1 x) is two
each code P one two (suc (suc k)) p at = absurd cc

solves_first : (code : List Instr) → Solves (tasks_of (meeting 0 code)) 0 89
unfolding demand_at
solves_first code = solves (tasks_of (meeting 0 code)) 0 89 refl

solves_second : (code : List Instr) → Solves (tasks_of (meeting 0 code)) 1 300
unfolding demand_at
solves_second code = solves (tasks_of (meeting 0 code)) 1 300 refl

pub meeting_is_timed : (code : List Instr) → MeetingIsTimed code
meeting_is_timed code = record {
  some = omega arith;
  few = omega arith;
  limits = each code (λ k p. IsTask (task_of (Some p)))
      (record { frame_low = omega arith; frame_high = omega arith; deadline_low = omega arith; deadline_high = omega arith; run = omega arith; susp = omega arith; waits = omega arith; block = omega arith })
      (record { frame_low = omega arith; frame_high = omega arith; deadline_low = omega arith; deadline_high = omega arith; run = omega arith; susp = omega arith; waits = omega arith; block = omega arith });
  ranked = each code (λ k p. (1 ≤ p.rank) × (p.rank ≤ 2)) (omega arith, omega arith) (omega arith, omega arith);
  one_each = λ j k p q at_j at_k. each code (λ i x. (l : ℕ) (y : Process) → slice_get (meeting 0 code).processes l ≡ Some y → x.rank ≡ y.rank → i ≡ l)
      (each code (λ l y. 1 ≡ y.rank → 0 ≡ l) (λ same. refl) (λ same. absurd (omega (arith, same))))
      (each code (λ l y. 2 ≡ y.rank → 1 ≡ l) (λ same. absurd (omega (arith, same))) (λ same. refl)) j p at_j k q at_k;
  covered = each code (λ k p. IsCovered 0 (worst_of (meeting_parts k)) p)
      (record { run = omega arith; susp = omega arith; waits = omega arith })
      (record { run = omega arith; susp = omega arith; waits = omega arith });
  blocks = λ j k m p q monitor h at_j at_k there. each code (λ i x. (l : ℕ) (y : Process) → slice_get (meeting 0 code).processes l ≡ Some y → x.rank < y.rank → monitor.ceiling ≤ x.rank → cap ((part_of (meeting_parts l) h).stays m) ≤ x.block)
      (each code (λ l y. 1 < y.rank → monitor.ceiling ≤ 1 → cap ((part_of (meeting_parts l) h).stays m) ≤ 8) (λ lower reaches. absurd (omega (arith, lower))) (λ lower reaches. short h m))
      (each code (λ l y. 2 < y.rank → monitor.ceiling ≤ 2 → cap ((part_of (meeting_parts l) h).stays m) ≤ 0) (λ lower reaches. absurd (omega (arith, lower))) (λ lower reaches. absurd (omega (arith, lower)))) j p at_j k q at_k;
  solved = each code (λ k p. Solves (tasks_of (meeting 0 code)) (p.rank - 1) p.bound) (solves_first code) (solves_second code);
} where
  short : (h : Bool) (m : ℕ) → cap ((part_of (meeting_parts 1) h).stays m) ≤ 8
  short true m = omega arith
  short false m = omega arith

-- both processes are periodic, so every script respects the frames
pub meeting_is_in_time : (code : List Instr) → MeetingFits code → MeetingIsInTime code
meeting_is_in_time code fits script =
    every_run_is_in_time (meeting_place 0 code) meeting_parts script (fits 0) (meeting_is_timed code)
    (each code (λ k p. p.kind ≡ 1 → (i j t u : ℕ) → (i ≡ j → ⊥) → slice_get script.lines i ≡ Some (Occurs t p.event) → slice_get script.lines j ≡ Some (Occurs u p.event) → (t + p.frame ≤ u) ⊎ (u + p.frame ≤ t))
    (λ kind. absurd (omega (arith, kind))) (λ kind. absurd (omega (arith, kind))))
