-- The innermost frame is taken apart and put back.
use Rattle.std.proofs.Common.{◌≡◌, ◌≤◌, ◌+◌, ◌-◌, ◌∙◌, ℕ, length, arith, refl, rules, sym, subst, ap}
use Rattle.machine_semantics.specs.Effect.{Own}
use Rattle.vm_instructions.specs.Frames.{Frames}
use Rattle.vm_instructions.specs.Stack.{own_in}
use Rattle.vm_instructions.specs.Silent.{IsSafe, own_of}
use Rattle.vm_instructions.specs.Within.{HasDoneWithin}
use Rattle.vm_instructions.proofs.AtHand.{fits_at_hand, frames_back, laid_back, own_at_hand, own_back, room_at_hand, stack_long}
use Rattle.vm_instructions.proofs.Roomy.{left_less, left_within, length-stacked, room_still}
use Rattle.vm_instructions.proofs.innermost.step_innermost.Goals as goal

pub overflow_sub-at : goal.overflow_sub-at
overflow_sub-at g c = c.frames.invariant.operands_begin

pub slice_bounds-step_alone-count : goal.slice_bounds-step_alone-count
slice_bounds-step_alone-count g c = omega (arith, ap length c.deref_mut.ensures.value, c.frames.invariant.operands_begin, c.frames.invariant.operands_room)

pub slice_bounds-step_alone-start : goal.slice_bounds-step_alone-start
slice_bounds-step_alone-start g c = omega (arith, ap length c.deref_mut.ensures.value, c.frames.invariant.operands_begin, c.frames.invariant.operands_room)

pub slice_bounds-step_alone-end : goal.slice_bounds-step_alone-end
slice_bounds-step_alone-end g c = omega arith

pub slice_bounds-step_alone-count-2 : goal.slice_bounds-step_alone-count-2
slice_bounds-step_alone-count-2 g c = c.frames.invariant.locals_begin

pub slice_bounds-step_alone-start-2 : goal.slice_bounds-step_alone-start-2
slice_bounds-step_alone-start-2 g c = c.frames.invariant.locals_begin

pub slice_bounds-step_alone-end-2 : goal.slice_bounds-step_alone-end-2
slice_bounds-step_alone-end-2 g c = omega (arith, ap length c.deref_mut-2.ensures.value, c.frames.invariant.locals_room)

pub step_alone-came-requires : goal.step_alone-came-requires
step_alone-came-requires g c =
    let own = own_at_hand c.frames.inside c.args.job.now g.frame.job c.deref_mut.result.now c.deref_mut-2.result.now c.frames.invariant c.frames.view_is c.requires.0.job_is c.deref_mut.ensures.value c.deref_mut-2.ensures.value c.args.owned.now c.args.shared.now in
    let fits = fits_at_hand c.frames.inside c.args.job.now g.frame.job c.deref_mut.result.now c.deref_mut-2.result.now c.frames.invariant c.frames.view_is c.requires.0.job_is c.deref_mut.ensures.value c.deref_mut-2.ensures.value g.frame.room c.requires.0.room_is in (
      subst (λ (o : Own). IsSafe g.frame.image c.args.instr.now o g.frame.room) (sym own) (subst (λ (n : ℕ). IsSafe g.frame.image c.args.instr.now (own_of c.args.job.now c.args.owned.now c.args.shared.now) n) (sym c.requires.0.room_is) c.requires.1),
      fits,
    )

pub overflow_add-frames : goal.overflow_add-frames
overflow_add-frames g c =
    let s = c.frames.inside in
    let less = left_less c.step_alone-came.result c.step_alone-came.new.at.top in
    let long = stack_long s c.args.job.now g.frame.job c.deref_mut.result.now c.deref_mut-2.result.now c.frames.invariant c.frames.view_is c.requires.0.job_is c.deref_mut.ensures.value c.deref_mut-2.ensures.value in
    let le : s.floor + c.left_after.result ≤ length s.operands.items =
    omega (arith, less, long, c.left_after.ensures, c.step_alone-came.ensures.row, c.step_alone-came.ensures.top, c.frames.invariant.operands_begin, c.frames.invariant.operands_room) in
    search rules

pub invariant_of-frames : goal.invariant_of-frames
invariant_of-frames g c =
    let s = c.frames.inside in
    let laid = c.frames.invariant in
    let came = c.step_alone-came in
    let row = c.deref_mut.result.now in
    let words = c.deref_mut-2.result.now in
    let own = own_at_hand s c.args.job.now g.frame.job row words laid c.frames.view_is c.requires.0.job_is c.deref_mut.ensures.value c.deref_mut-2.ensures.value c.args.owned.now c.args.shared.now in
    let fits = fits_at_hand s c.args.job.now g.frame.job row words laid c.frames.view_is c.requires.0.job_is c.deref_mut.ensures.value c.deref_mut-2.ensures.value g.frame.room c.requires.0.room_is in
    let room = room_at_hand s c.args.job.now g.frame.job row words laid c.frames.view_is c.requires.0.job_is c.deref_mut.ensures.value c.deref_mut-2.ensures.value g.frame.room c.requires.0.room_is in
    let safe = subst (λ (n : ℕ). IsSafe g.frame.image c.args.instr.now (own_of c.args.job.now c.args.owned.now c.args.shared.now) n) (sym c.requires.0.room_is) c.requires.1 in
    let old : Own = own_of c.args.job.now c.args.owned.now c.args.shared.now in
    let done = subst (λ (o : Own). HasDoneWithin g.frame.image c.args.instr.now o came.result (own_in g.frame.job came.new.at came.new.stack came.new.locals came.new.owned came.new.shared)) own came.ensures.done in
    let many : length old.job.operands ≡ s.top - s.floor = ap (λ (o : Own). length o.job.operands) (sym own) ∙ length-stacked (s.top - s.floor) _ fits.0 in
    let still = room_still g.frame.image c.args.instr.now old came.result g.frame.room (s.top - s.floor) g.frame.job came.new.at came.new.stack came.new.locals came.new.owned came.new.shared safe done many (omega (arith, room, came.ensures.locals)) came.ensures.top in
    let left : c.left_after.result ≤ length came.new.stack = omega (arith, left_less came.result came.new.at.top, c.left_after.ensures, came.ensures.top) in
    laid_back s c.args.job.now g.frame.job row words laid c.frames.view_is c.requires.0.job_is c.deref_mut.ensures.value c.deref_mut-2.ensures.value came.new.stack came.new.locals c.left_after.result came.ensures.row came.ensures.locals left g.frame.room c.requires.0.room_is
    (omega (arith, still, c.left_after.ensures))

pub returns-clause-done : goal.returns-clause-done
returns-clause-done g c =
    let s = c.frames.inside in
    let laid = c.frames.invariant in
    let came = c.step_alone-came in
    let row = c.deref_mut.result.now in
    let words = c.deref_mut-2.result.now in
    let own = own_at_hand s c.args.job.now g.frame.job row words laid c.frames.view_is c.requires.0.job_is c.deref_mut.ensures.value c.deref_mut-2.ensures.value c.args.owned.now c.args.shared.now in
    let left : c.left_after.result ≤ length came.new.stack = omega (arith, left_less came.result came.new.at.top, c.left_after.ensures, came.ensures.top) in
    let put = own_back s c.args.job.now g.frame.job row words laid c.frames.view_is c.requires.0.job_is c.deref_mut.ensures.value c.deref_mut-2.ensures.value came.new.stack came.new.locals c.left_after.result came.ensures.row came.ensures.locals left came.new.at.place c.args.job.now.done came.new.owned came.new.shared in
    let old : Own = own_of c.args.job.now c.args.owned.now c.args.shared.now in
    let done = subst (λ (o : Own). HasDoneWithin g.frame.image c.args.instr.now o came.result (own_in g.frame.job came.new.at came.new.stack came.new.locals came.new.owned came.new.shared)) own came.ensures.done in
    let dropped = left_within g.frame.image c.args.instr.now old came.result g.frame.job came.new.at came.new.stack came.new.locals came.new.owned came.new.shared done in
    let counted = subst (λ (n : ℕ). HasDoneWithin g.frame.image c.args.instr.now old came.result (own_in g.frame.job (record { place = came.new.at.place; done = came.new.at.done; top = n }) came.new.stack came.new.locals came.new.owned came.new.shared)) (sym c.left_after.ensures) dropped in
    let timed = subst (λ (n : ℕ). HasDoneWithin g.frame.image c.args.instr.now old came.result (own_in g.frame.job (record { place = came.new.at.place; done = n; top = c.left_after.result }) came.new.stack came.new.locals came.new.owned came.new.shared)) came.ensures.done_ticks counted in
    subst (λ (o : Own). HasDoneWithin g.frame.image c.args.instr.now old came.result o) (sym put) timed

pub returns-clause-room : goal.returns-clause-room
returns-clause-room g c =
    let came = c.step_alone-came in
    let left : c.left_after.result ≤ length came.new.stack = omega (arith, left_less came.result came.new.at.top, c.left_after.ensures, came.ensures.top) in
    let back = frames_back c.frames.inside c.args.job.now g.frame.job c.deref_mut.result.now c.deref_mut-2.result.now c.frames.invariant c.frames.view_is c.requires.0.job_is c.deref_mut.ensures.value c.deref_mut-2.ensures.value came.new.stack came.new.locals c.left_after.result came.ensures.row came.ensures.locals left in
    ap (λ (f : Frames). f.room) back

pub returns-clause-inside : goal.returns-clause-inside
returns-clause-inside g c = refl

pub returns-clause-dispatch_ticks : goal.returns-clause-dispatch_ticks
returns-clause-dispatch_ticks g c = refl
