-- The examples, by computation.
use Rattle.std.proofs.Common.{◌≡◌, ℕ, zero, suc, [], ◌∷◌, Some, None, arith, refl, subst}
use Rattle.std.specs.Prelude.{slice_get}
use Rattle.machine_isa.specs.declared.instr.Instr.TheVariants as i
use Rattle.sched_response.specs.Demand as demand
use Rattle.machine_semantics.specs.Image.{Image, Routine, Process}
use Rattle.valid_image.specs.Valid.{Shape, Costs, Sizes, Ranks, Bounds, Operands, Handlers, fault_of_part, IsValid, HasOwner, IsInLimits, HasLimits}
use Rattle.machine_safety.specs.Example.{looping}
use Rattle.machine_safety.specs.ValidImages.{meeting, dispatched, prompt, with_unused, looping_code, empty, valve, ExamplesAre, MoreExamplesAre, SmallestAre}

-- a fact of each process, and of each routine
each_process : (P : ℕ → Process → Type 0) (p q : Process) → slice_get meeting.processes 0 ≡ Some p → slice_get meeting.processes 1 ≡ Some q → P 0 p → P 1 q
    → (k : ℕ) (x : Process) → slice_get meeting.processes k ≡ Some x → P k x
each_process P p q is_p is_q one two zero x at = let is : p ≡ x = cc in subst (λ (y : Process). P 0 y) is one
each_process P p q is_p is_q one two (suc zero) x at = let is : q ≡ x = cc in subst (λ (y : Process). P 1 y) is two
each_process P p q is_p is_q one two (suc (suc k)) x at = absurd cc

each_routine : (P : Routine → Type 0) (p q : Routine) → slice_get meeting.routines 0 ≡ Some p → slice_get meeting.routines 1 ≡ Some q → P p → P q
    → (k : ℕ) (x : Routine) → slice_get meeting.routines k ≡ Some x → P x
each_routine P p q is_p is_q one two zero x at = let is : p ≡ x = cc in subst P is one
each_routine P p q is_p is_q one two (suc zero) x at = let is : q ≡ x = cc in subst P is two
each_routine P p q is_p is_q one two (suc (suc k)) x at = absurd cc

is_valid : IsValid meeting
unfolding demand.demand_at
is_valid Shape = refl
is_valid Costs = refl
is_valid Sizes = refl
is_valid Ranks = refl
is_valid Bounds = refl
is_valid Operands = refl
is_valid Handlers = refl

has_limits : HasLimits meeting
has_limits = record {
  some = omega arith;
  few = omega arith;
  processes = each_process (λ k p. IsInLimits p) _ _ refl refl
      (record { frame_low = omega arith; frame_high = omega arith; deadline_low = omega arith; deadline_high = omega arith; bound = omega arith; run = omega arith; susp = omega arith; waits = omega arith; block = omega arith; stack = omega arith; handler = λ none. absurd cc })
      (record { frame_low = omega arith; frame_high = omega arith; deadline_low = omega arith; deadline_high = omega arith; bound = omega arith; run = omega arith; susp = omega arith; waits = omega arith; block = omega arith; stack = omega arith; handler = refl });
  owners = λ r x at. each_routine (λ y. HasOwner meeting y) _ _ refl refl (λ kind. (_, refl)) (λ kind. (_, refl)) r x at;
}

pub examples_are : ExamplesAre
unfolding demand.demand_at
examples_are = record {
  valid = is_valid;
  limits = has_limits;
  none = refl;
  limit = refl;
  condition = refl;
  jump = refl;
  height = refl;
  start = refl;
  handler = refl;
  cost = refl;
  overhead = refl;
  stack = refl;
  base = refl;
  rank = refl;
  ceiling = refl;
  block = refl;
  bound = refl;
  deadline = refl;
}

every_part : (image : Image) → fault_of_part image Shape ≡ None → fault_of_part image Costs ≡ None → fault_of_part image Sizes ≡ None → fault_of_part image Ranks ≡ None → fault_of_part image Bounds ≡ None
    → fault_of_part image Operands ≡ None → fault_of_part image Handlers ≡ None → IsValid image
every_part image a b c d e f g Shape = a
every_part image a b c d e f g Costs = b
every_part image a b c d e f g Sizes = c
every_part image a b c d e f g Ranks = d
every_part image a b c d e f g Bounds = e
every_part image a b c d e f g Operands = f
every_part image a b c d e f g Handlers = g

pub more_examples_are : MoreExamplesAre
unfolding demand.demand_at
more_examples_are = record {
  dispatched_is = every_part dispatched refl refl refl refl refl refl refl;
  prompt_is = every_part prompt refl refl refl refl refl refl refl;
  unused_is = every_part (with_unused 65535) refl refl refl refl refl refl refl;
  loops_are = every_part (looping looping_code) refl refl refl refl refl refl refl;
  waits = refl;
  words = refl;
  word = refl;
  device = refl;
  turns = refl;
  itself = refl;
  outside = refl;
  range = refl;
  raise = refl;
  number = refl;
  array_word = refl;
  array_length = refl;
  array_end = refl;
  exit = refl;
  jump = refl;
  height = refl;
  covered = refl;
  rest = refl;
  unused = refl;
}

pub smallest_are : SmallestAre
unfolding demand.demand_at
smallest_are = record {
  empty_is = every_part (empty (λ p. p) (i.End ∷ [])) refl refl refl refl refl refl refl;
  valve_is = every_part (valve 0 (λ p. p)) refl refl refl refl refl refl refl;
  rank = refl;
  run = refl;
  early = refl;
  late = refl;
  no_end = refl;
  no_local = refl;
  cost = refl;
  bound = refl;
  overhead = refl;
}
