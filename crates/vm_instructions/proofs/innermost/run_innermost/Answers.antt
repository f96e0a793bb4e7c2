-- The innermost frame is taken apart and put back.
use Rattle.std.proofs.Common.{◌≤◌, ◌+◌, ℕ, length, arith, rules, sym, subst, ap}
use Rattle.machine_semantics.specs.Effect.{Own}
use Rattle.vm_stretch.specs.Silent.{IsSafeFor}
use Rattle.vm_instructions.specs.Frames.{Frames}
use Rattle.vm_instructions.specs.Stack.{own_in}
use Rattle.vm_instructions.specs.Silent.{own_of}
use Rattle.vm_instructions.specs.Within.{GoesWithin}
use Rattle.vm_instructions.proofs.AtHand.{fits_at_hand, frames_back, laid_back, own_at_hand, own_back, room_at_hand, stack_long}
use Rattle.vm_instructions.proofs.Roomy.{left_less, left_row}
use Rattle.vm_instructions.proofs.innermost.run_innermost.Goals as goal

pub overflow_sub-at : goal.overflow_sub-at
overflow_sub-at g c = c.frames.invariant.operands_begin

pub slice_bounds-row-count : goal.slice_bounds-row-count
slice_bounds-row-count g c = omega (arith, ap length c.deref_mut.ensures.value, c.frames.invariant.operands_begin, c.frames.invariant.operands_room)

pub slice_bounds-row-start : goal.slice_bounds-row-start
slice_bounds-row-start g c = omega (arith, ap length c.deref_mut.ensures.value, c.frames.invariant.operands_begin, c.frames.invariant.operands_room)

pub slice_bounds-row-end : goal.slice_bounds-row-end
slice_bounds-row-end g c = omega arith

pub slice_bounds-row-count-2 : goal.slice_bounds-row-count-2
slice_bounds-row-count-2 g c = c.frames.invariant.locals_begin

pub slice_bounds-row-start-2 : goal.slice_bounds-row-start-2
slice_bounds-row-start-2 g c = c.frames.invariant.locals_begin

pub slice_bounds-row-end-2 : goal.slice_bounds-row-end-2
slice_bounds-row-end-2 g c = omega (arith, ap length c.deref_mut-2.ensures.value, c.frames.invariant.locals_room)

pub row-came-requires : goal.row-came-requires
row-came-requires g c =
    let own = own_at_hand c.frames.inside c.args.job.now g.frame.job c.deref_mut.result.now c.deref_mut-2.result.now c.frames.invariant c.frames.view_is c.requires.0.job_is c.deref_mut.ensures.value c.deref_mut-2.ensures.value c.args.owned.now c.args.shared.now in
    let fits = fits_at_hand c.frames.inside c.args.job.now g.frame.job c.deref_mut.result.now c.deref_mut-2.result.now c.frames.invariant c.frames.view_is c.requires.0.job_is c.deref_mut.ensures.value c.deref_mut-2.ensures.value g.frame.room c.requires.0.room_is in
    let room = room_at_hand c.frames.inside c.args.job.now g.frame.job c.deref_mut.result.now c.deref_mut-2.result.now c.frames.invariant c.frames.view_is c.requires.0.job_is c.deref_mut.ensures.value c.deref_mut-2.ensures.value g.frame.room c.requires.0.room_is in
    let safe = subst (λ (n : ℕ). IsSafeFor g.frame.image n (own_of c.args.job.now c.args.owned.now c.args.shared.now) c.args.left.now) (sym c.requires.0.room_is) c.requires.1.1 in
    (c.requires.1.0, (subst (λ (o : Own). IsSafeFor g.frame.image g.frame.room o c.args.left.now) (sym own) safe, (fits, room)))

pub overflow_add-frames : goal.overflow_add-frames
overflow_add-frames g c =
    let s = c.frames.inside in
    let less = left_less c.row-came.result c.row-came.new.at.top in
    let long = stack_long s c.args.job.now g.frame.job c.deref_mut.result.now c.deref_mut-2.result.now c.frames.invariant c.frames.view_is c.requires.0.job_is c.deref_mut.ensures.value c.deref_mut-2.ensures.value in
    let le : s.floor + c.left_after.result ≤ length s.operands.items =
    omega (arith, less, long, c.left_after.ensures, c.row-came.ensures.row, c.row-came.ensures.top, c.frames.invariant.operands_begin, c.frames.invariant.operands_room) in
    search rules

pub invariant_of-frames : goal.invariant_of-frames
invariant_of-frames g c =
    let came = c.row-came in
    let left : c.left_after.result ≤ length came.new.stack = omega (arith, left_less came.result came.new.at.top, c.left_after.ensures, came.ensures.top) in
    laid_back c.frames.inside c.args.job.now g.frame.job c.deref_mut.result.now c.deref_mut-2.result.now c.frames.invariant c.frames.view_is c.requires.0.job_is c.deref_mut.ensures.value c.deref_mut-2.ensures.value came.new.stack came.new.locals c.left_after.result came.ensures.row came.ensures.locals left g.frame.room c.requires.0.room_is (omega (arith, came.ensures.room, c.left_after.ensures))

pub returns-clause-goes : goal.returns-clause-goes
returns-clause-goes g c =
    let came = c.row-came in
    let own = own_at_hand c.frames.inside c.args.job.now g.frame.job c.deref_mut.result.now c.deref_mut-2.result.now c.frames.invariant c.frames.view_is c.requires.0.job_is c.deref_mut.ensures.value c.deref_mut-2.ensures.value c.args.owned.now c.args.shared.now in
    let left : c.left_after.result ≤ length came.new.stack = omega (arith, left_less came.result came.new.at.top, c.left_after.ensures, came.ensures.top) in
    let put = own_back c.frames.inside c.args.job.now g.frame.job c.deref_mut.result.now c.deref_mut-2.result.now c.frames.invariant c.frames.view_is c.requires.0.job_is c.deref_mut.ensures.value c.deref_mut-2.ensures.value came.new.stack came.new.locals c.left_after.result came.ensures.row came.ensures.locals left came.new.at.place came.new.at.done came.new.owned came.new.shared in
    let old : Own = own_of c.args.job.now c.args.owned.now c.args.shared.now in
    let goes = subst (λ (o : Own). GoesWithin g.frame.image o c.args.left.now came.result came.new.left (own_in g.frame.job came.new.at came.new.stack came.new.locals came.new.owned came.new.shared)) own came.ensures.goes in
    let dropped = left_row g.frame.image old c.args.left.now came.result came.new.left g.frame.job came.new.at came.new.stack came.new.locals came.new.owned came.new.shared goes in
    let counted = subst (λ (n : ℕ). GoesWithin g.frame.image old c.args.left.now came.result came.new.left (own_in g.frame.job (record { place = came.new.at.place; done = came.new.at.done; top = n }) came.new.stack came.new.locals came.new.owned came.new.shared)) (sym c.left_after.ensures) dropped in
    subst (λ (o : Own). GoesWithin g.frame.image old c.args.left.now came.result came.new.left o) (sym put) counted

pub returns-clause-room : goal.returns-clause-room
returns-clause-room g c =
    let came = c.row-came in
    let left : c.left_after.result ≤ length came.new.stack = omega (arith, left_less came.result came.new.at.top, c.left_after.ensures, came.ensures.top) in
    let back = frames_back c.frames.inside c.args.job.now g.frame.job c.deref_mut.result.now c.deref_mut-2.result.now c.frames.invariant c.frames.view_is c.requires.0.job_is c.deref_mut.ensures.value c.deref_mut-2.ensures.value came.new.stack came.new.locals c.left_after.result came.ensures.row came.ensures.locals left in
    ap (λ (f : Frames). f.room) back
