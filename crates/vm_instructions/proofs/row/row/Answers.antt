-- Each turn is one instruction more.
use Rattle.std.proofs.Common.{◌≡◌, ◌-◌, ◌<◌, ◌+◌, refl, subst, ap, ◌∙◌, arith, length, List}
use Rattle.std.specs.Prelude.{slice_get}
use Rattle.machine_isa.specs.declared.instr.Instr.{Instr}
use Rattle.machine_isa.specs.Ticks.{ticks}
use Rattle.machine_semantics.specs.Effect.{Own, effect}
use Rattle.vm_instructions.specs.Stack.{own_in}
use Rattle.vm_stretch.specs.Silent.{next_own, nowhere}
use Rattle.vm_instructions.proofs.Roomy.{length-stacked, room_after, room_beyond}
use Rattle.vm_instructions.proofs.Leading.{address, begins, fetched, follows, goes_beyond}
use Rattle.vm_instructions.proofs.row.row.Goals as goal

pub loop-left-init : goal.loop-left-init
loop-left-init g c = record { within = omega arith; leads = begins _ _ _ (omega arith); top = c.requires.1.1.0.0; row = refl; locals = refl; room = c.requires.1.1.1 }

pub fetch-instr-requires : goal.fetch-instr-requires
fetch-instr-requires g c = subst (λ (xs : List Instr). c.loop-left.at.place < length xs) c.requires.0 (address _ _ _ _ _ (c.requires.1.0 _ _ c.loop-left.invariant.leads (omega (arith, c.loop-left-test.true, c.loop-left.invariant.within))))

pub left_of-need-requires : goal.left_of-need-requires
left_of-need-requires g c = (fetched g.frame.image g.frame.room c.args.left.now (c.args.left.now - c.loop-left.left) (own_in g.frame.job c.loop-left.at c.loop-left.stack c.loop-left.locals c.loop-left.owned c.loop-left.shared) c.fetch-instr.result.now (c.requires.1.0 _ _ c.loop-left.invariant.leads (omega (arith, c.loop-left-test.true, c.loop-left.invariant.within))) (ap (λ (xs : List Instr). slice_get xs c.loop-left.at.place) c.requires.0 ∙ c.fetch-instr.ensures)).at.early

pub loop-left-preserved : goal.loop-left-preserved
loop-left-preserved g c =
    let o : Own = own_in g.frame.job c.loop-left.at c.loop-left.stack c.loop-left.locals c.loop-left.owned c.loop-left.shared in
    let first : Own = own_in g.frame.job c.args.at.now c.args.stack.now c.args.locals.now c.args.owned.now c.args.shared.now in
    let next : Own = own_in g.frame.job c.step_next.new.at c.step_next.new.stack c.step_next.new.locals c.step_next.new.owned c.step_next.new.shared in
    let f = (fetched g.frame.image g.frame.room c.args.left.now (c.args.left.now - c.loop-left.left) o c.fetch-instr.result.now (c.requires.1.0 _ _ c.loop-left.invariant.leads (omega (arith, c.loop-left-test.true, c.loop-left.invariant.within))) (ap (λ (xs : List Instr). slice_get xs c.loop-left.at.place) c.requires.0 ∙ c.fetch-instr.ensures)) in
    record {
      within = omega (arith, c.loop-left.invariant.within);
      leads = follows g.frame.image first o next (c.args.left.now - c.loop-left.left) _ c.fetch-instr.result.now c.loop-left.invariant.leads f.at c.in-Done.ensures.done.1 refl refl
          (omega (arith, c.loop-left.invariant.within, f.at.early, c.left_of-need.ensures, c.if-need-left.false));
      top = c.in-Done.ensures.top;
      row = c.in-Done.ensures.row ∙ c.loop-left.invariant.row;
      locals = c.in-Done.ensures.locals ∙ c.loop-left.invariant.locals;
      room = room_after g.frame.room (effect g.frame.image nowhere c.fetch-instr.result.now (next_own o)) g.frame.job c.step_next.new.at c.step_next.new.stack c.step_next.new.locals c.step_next.new.owned c.step_next.new.shared (f.safe (omega (arith, c.loop-left.invariant.within, f.at.early, c.left_of-need.ensures, c.if-need-left.false)) c.in-Done.ensures.done.0) (c.in-Done.ensures.done.1 nowhere) c.in-Done.ensures.top;
    }

pub returns-in_default : goal.returns-in_default
returns-in_default g c =
    let o : Own = own_in g.frame.job c.loop-left.at c.loop-left.stack c.loop-left.locals c.loop-left.owned c.loop-left.shared in
    let first : Own = own_in g.frame.job c.args.at.now c.args.stack.now c.args.locals.now c.args.owned.now c.args.shared.now in
    let next : Own = own_in g.frame.job c.step_next.new.at c.step_next.new.stack c.step_next.new.locals c.step_next.new.owned c.step_next.new.shared in
    let f = (fetched g.frame.image g.frame.room c.args.left.now (c.args.left.now - c.loop-left.left) o c.fetch-instr.result.now (c.requires.1.0 _ _ c.loop-left.invariant.leads (omega (arith, c.loop-left-test.true, c.loop-left.invariant.within))) (ap (λ (xs : List Instr). slice_get xs c.loop-left.at.place) c.requires.0 ∙ c.fetch-instr.ensures)) in
    let passed : c.args.left.now - c.loop-left.left + (ticks c.fetch-instr.result.now - c.loop-left.at.done) ≡ c.args.left.now - (c.loop-left.left - c.left_of-need.result) =
    omega (arith, c.loop-left.invariant.within, f.at.early, c.left_of-need.ensures, c.if-need-left.false) in
    record {
      goes = goes_beyond g.frame.image first c.args.left.now (c.loop-left.left - c.left_of-need.result) c.step_next.result o c.fetch-instr.result.now next c.in_default.not-Done (omega (arith, c.loop-left.invariant.within))
          (record { n = c.args.left.now - c.loop-left.left; leads = c.loop-left.invariant.leads; at = f.at; time = passed }) c.step_next.ensures.done;
      top = c.step_next.ensures.top;
      row = c.step_next.ensures.row ∙ c.loop-left.invariant.row;
      locals = c.step_next.ensures.locals ∙ c.loop-left.invariant.locals;
      room = room_beyond g.frame.image c.fetch-instr.result.now (next_own o) c.step_next.result g.frame.room c.loop-left.at.top g.frame.job c.step_next.new.at c.step_next.new.stack c.step_next.new.locals c.step_next.new.owned c.step_next.new.shared c.in_default.not-Done c.step_next.ensures.done (length-stacked c.loop-left.at.top c.loop-left.stack c.loop-left.invariant.top) (omega (arith, c.step_next.ensures.locals, c.loop-left.invariant.room)) c.step_next.ensures.top;
    }
