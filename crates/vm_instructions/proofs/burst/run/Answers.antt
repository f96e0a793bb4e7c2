-- Each turn is a row within a frame, and what goes beyond it.
use Rattle.std.proofs.Common.{◌-◌, ℕ, refl, sym, subst, ◌∙◌, arith}
use Rattle.machine_semantics.specs.Effect.{Own}
use Rattle.vm_stretch.specs.Silent.{IsSafeFor, next_own}
use Rattle.vm_instructions.specs.Silent.{own_of}
use Rattle.vm_instructions.specs.Within.{Beyond, GoesWithin, IsBeyond}
use Rattle.vm_instructions.specs.declared.within.Within.{Within}
use Rattle.vm_instructions.proofs.Leading.{Went, beyond, begins, ended_on, safe_on, spends_on, went, went_less, went_on}
use Rattle.vm_instructions.proofs.burst.run.Goals as goal

pub loop-job-init : goal.loop-job-init
loop-job-init g c = record { within = omega arith; room = refl; leads = begins _ _ _ (omega arith) }

pub run_innermost-came-requires : goal.run_innermost-came-requires
run_innermost-came-requires g c =
    let safe = safe_on g.image c.args.job.now.frames.room (own_of c.args.job.now c.args.owned.now c.args.shared.now) (own_of c.loop-job.job c.loop-job.owned c.loop-job.shared) (c.args.budget - c.loop-job.left) c.args.budget c.loop-job.left (omega (arith, c.loop-job.invariant.within)) c.loop-job.invariant.leads c.requires.1 in
    (record { job_is = refl; room_is = refl }, (c.requires.0.code_is, subst (λ (n : ℕ). IsSafeFor g.image n (own_of c.loop-job.job c.loop-job.owned c.loop-job.shared) c.loop-job.left) (sym c.loop-job.invariant.room) safe))

pub returns-in-Done-clause-runs : goal.returns-in-Done-clause-runs
returns-in-Done-clause-runs g c =
    let first : Own = own_of c.args.job.now c.args.owned.now c.args.shared.now in
    let from : Own = own_of c.loop-job.job c.loop-job.owned c.loop-job.shared in
    let came = c.run_innermost-came in
    let to : Own = own_of came.new.job came.new.owned came.new.shared in
    spends_on g.image first from to (c.args.budget - c.loop-job.left) c.loop-job.left c.args.budget (omega (arith, c.loop-job.invariant.within)) c.loop-job.invariant.leads
    (subst (λ (x : Within). GoesWithin g.image from c.loop-job.left x came.new.left to) c.in-Done.is came.ensures.goes)

pub returns-in-Done-clause-room : goal.returns-in-Done-clause-room
returns-in-Done-clause-room g c = c.run_innermost-came.ensures.room ∙ c.loop-job.invariant.room

pub go_beyond-requires : goal.go_beyond-requires
go_beyond-requires g c =
    let first : Own = own_of c.args.job.now c.args.owned.now c.args.shared.now in
    let from : Own = own_of c.loop-job.job c.loop-job.owned c.loop-job.shared in
    let came = c.run_innermost-came in
    let to : Own = own_of came.new.job came.new.owned came.new.shared in
    let w : Went g.image from c.loop-job.left came.result came.new.left to = went g.image from c.loop-job.left came.result came.new.left to c.in_default.not-Done came.ensures.goes in
    let safe : IsSafeFor g.image c.args.job.now.frames.room from c.loop-job.left = safe_on g.image c.args.job.now.frames.room first from (c.args.budget - c.loop-job.left) c.args.budget c.loop-job.left (omega (arith, c.loop-job.invariant.within)) c.loop-job.invariant.leads c.requires.1 in
    let b : Beyond = record { image = g.image; code = c.args.code.now; instr = w.instr; old = next_own w.last } in
    let is : IsBeyond b c.args.routines.now came.new.job came.new.owned came.new.shared came.result =
    beyond g.image c.args.code.now c.args.routines.now c.args.job.now.frames.room from c.loop-job.left came.result came.new.left came.new.job came.new.owned came.new.shared c.requires.0 safe (came.ensures.room ∙ c.loop-job.invariant.room) w in
    record { came = (b, is) }

pub loop-job-smaller : goal.loop-job-smaller
loop-job-smaller g c =
    let first : Own = own_of c.args.job.now c.args.owned.now c.args.shared.now in
    let from : Own = own_of c.loop-job.job c.loop-job.owned c.loop-job.shared in
    let came = c.run_innermost-came in
    let to : Own = own_of came.new.job came.new.owned came.new.shared in
    let w : Went g.image from c.loop-job.left came.result came.new.left to = went g.image from c.loop-job.left came.result came.new.left to c.in_default.not-Done came.ensures.goes in
    went_less g.image from c.loop-job.left came.result came.new.left to w

pub loop-job-preserved : goal.loop-job-preserved
loop-job-preserved g c =
    let first : Own = own_of c.args.job.now c.args.owned.now c.args.shared.now in
    let from : Own = own_of c.loop-job.job c.loop-job.owned c.loop-job.shared in
    let came = c.run_innermost-came in
    let to : Own = own_of came.new.job came.new.owned came.new.shared in
    let w : Went g.image from c.loop-job.left came.result came.new.left to = went g.image from c.loop-job.left came.result came.new.left to c.in_default.not-Done came.ensures.goes in
    let safe : IsSafeFor g.image c.args.job.now.frames.room from c.loop-job.left = safe_on g.image c.args.job.now.frames.room first from (c.args.budget - c.loop-job.left) c.args.budget c.loop-job.left (omega (arith, c.loop-job.invariant.within)) c.loop-job.invariant.leads c.requires.1 in
    let b : Beyond = record { image = g.image; code = c.args.code.now; instr = w.instr; old = next_own w.last } in
    let is : IsBeyond b c.args.routines.now came.new.job came.new.owned came.new.shared came.result =
    beyond g.image c.args.code.now c.args.routines.now c.args.job.now.frames.room from c.loop-job.left came.result came.new.left came.new.job came.new.owned came.new.shared c.requires.0 safe (came.ensures.room ∙ c.loop-job.invariant.room) w in
    let next : Own = own_of c.go_beyond.new.job came.new.owned came.new.shared in
    record {
      within = omega (arith, w.less, c.loop-job.invariant.within);
      room = c.go_beyond.ensures.room ∙ came.ensures.room ∙ c.loop-job.invariant.room;
      leads = went_on g.image first from (c.args.budget - c.loop-job.left) c.loop-job.left came.result came.new.left (c.args.budget - came.new.left) to next w c.in_default.not-Done c.loop-job.invariant.leads (omega (arith, c.loop-job.invariant.within, w.less)) (c.in-Done-go_beyond.ensures.done b is) c.go_beyond.ensures.inside c.go_beyond.ensures.dispatch_ticks;
    }

pub returns-in-Raises : goal.returns-in-Raises
returns-in-Raises g c =
    let first : Own = own_of c.args.job.now c.args.owned.now c.args.shared.now in
    let from : Own = own_of c.loop-job.job c.loop-job.owned c.loop-job.shared in
    let came = c.run_innermost-came in
    let to : Own = own_of came.new.job came.new.owned came.new.shared in
    let w : Went g.image from c.loop-job.left came.result came.new.left to = went g.image from c.loop-job.left came.result came.new.left to c.in_default.not-Done came.ensures.goes in
    let safe : IsSafeFor g.image c.args.job.now.frames.room from c.loop-job.left = safe_on g.image c.args.job.now.frames.room first from (c.args.budget - c.loop-job.left) c.args.budget c.loop-job.left (omega (arith, c.loop-job.invariant.within)) c.loop-job.invariant.leads c.requires.1 in
    let b : Beyond = record { image = g.image; code = c.args.code.now; instr = w.instr; old = next_own w.last } in
    let is : IsBeyond b c.args.routines.now came.new.job came.new.owned came.new.shared came.result =
    beyond g.image c.args.code.now c.args.routines.now c.args.job.now.frames.room from c.loop-job.left came.result came.new.left came.new.job came.new.owned came.new.shared c.requires.0 safe (came.ensures.room ∙ c.loop-job.invariant.room) w in
    let done = c.in-Raises.ensures.done b is in
    record {
      runs = (w.last, w.instr, omega (arith, w.less, c.loop-job.invariant.within), ended_on g.image first from w.last w.instr (c.args.budget - c.loop-job.left) (c.loop-job.left - came.new.left) (c.args.budget - came.new.left) (omega (arith, c.loop-job.invariant.within, w.less)) c.loop-job.invariant.leads w.ended, done.0, done.1);
      room = c.go_beyond.ensures.room ∙ came.ensures.room ∙ c.loop-job.invariant.room;
    }

pub returns-in-Seen : goal.returns-in-Seen
returns-in-Seen g c =
    let first : Own = own_of c.args.job.now c.args.owned.now c.args.shared.now in
    let from : Own = own_of c.loop-job.job c.loop-job.owned c.loop-job.shared in
    let came = c.run_innermost-came in
    let to : Own = own_of came.new.job came.new.owned came.new.shared in
    let w : Went g.image from c.loop-job.left came.result came.new.left to = went g.image from c.loop-job.left came.result came.new.left to c.in_default.not-Done came.ensures.goes in
    let safe : IsSafeFor g.image c.args.job.now.frames.room from c.loop-job.left = safe_on g.image c.args.job.now.frames.room first from (c.args.budget - c.loop-job.left) c.args.budget c.loop-job.left (omega (arith, c.loop-job.invariant.within)) c.loop-job.invariant.leads c.requires.1 in
    let b : Beyond = record { image = g.image; code = c.args.code.now; instr = w.instr; old = next_own w.last } in
    let is : IsBeyond b c.args.routines.now came.new.job came.new.owned came.new.shared came.result =
    beyond g.image c.args.code.now c.args.routines.now c.args.job.now.frames.room from c.loop-job.left came.result came.new.left came.new.job came.new.owned came.new.shared c.requires.0 safe (came.ensures.room ∙ c.loop-job.invariant.room) w in
    let done = c.in-Seen.ensures.done b is in
    record {
      runs = (w.last, w.instr, omega (arith, w.less, c.loop-job.invariant.within), ended_on g.image first from w.last w.instr (c.args.budget - c.loop-job.left) (c.loop-job.left - came.new.left) (c.args.budget - came.new.left) (omega (arith, c.loop-job.invariant.within, w.less)) c.loop-job.invariant.leads w.ended, done.1, done.0);
      room = c.go_beyond.ensures.room ∙ came.ensures.room ∙ c.loop-job.invariant.room;
    }
