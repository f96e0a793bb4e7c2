-- The instruction that was not touched is done.
use Rattle.std.proofs.Common.{◌≡◌, w32, rules, refl, subst}
use Rattle.std.specs.Prelude.{FitsSigned}
use Rattle.std.proofs.lemmas.Int.{to_z-of_z}
use Rattle.machine_isa.specs.declared.instr.Instr.TheVariants as i
use Rattle.vm_instructions.specs.declared.within.Within.{Within}
use Rattle.vm_instructions.specs.Silent.{own_of}
use Rattle.vm_instructions.specs.Within.{HasDoneWithin}
use Rattle.vm_instructions.proofs.Arms.{placed_done, still_safe, then_done}
use Rattle.vm_instructions.proofs.Safe as safe
use Rattle.vm_instructions.proofs.step.go_beyond.Goals as goal

pub routine_at-requires : goal.routine_at-requires
routine_at-requires c =
    let f : FitsSigned w32 c.in-Calls.number = search rules in
    let came : ((own_of c.args.job.now c.args.owned.now c.args.shared.now) ≡ c.requires.came.0.old) × (c.requires.came.0.instr ≡ i.Call c.in-Calls.number) = subst (λ (x : Within). HasDoneWithin c.requires.came.0.image c.requires.came.0.instr c.requires.came.0.old x (own_of c.args.job.now c.args.owned.now c.args.shared.now)) c.in-Calls.is c.requires.came.1.so_far in
    let calls = (safe.calls_of c.requires.came.0.image c.requires.came.0.code c.args.routines.now (i.Call c.in-Calls.number) c.in-Calls.number c.args.job.now c.args.owned.now c.args.shared.now c.requires.came.1.of refl (still_safe c.requires.came.0.image c.requires.came.0.instr (i.Call c.in-Calls.number) c.requires.came.0.old (own_of c.args.job.now c.args.owned.now c.args.shared.now) c.args.job.now.frames.room came.0 came.1 c.requires.came.1.safe)) in
    simp to_z-of_z (safe.has_routine c.requires.came.0.image c.args.routines.now c.in-Calls.number c.args.job.now calls)

pub call-requires-clause-room : goal.call-requires-clause-room
call-requires-clause-room c =
    let f : FitsSigned w32 c.in-Calls.number = search rules in
    let came : ((own_of c.args.job.now c.args.owned.now c.args.shared.now) ≡ c.requires.came.0.old) × (c.requires.came.0.instr ≡ i.Call c.in-Calls.number) = subst (λ (x : Within). HasDoneWithin c.requires.came.0.image c.requires.came.0.instr c.requires.came.0.old x (own_of c.args.job.now c.args.owned.now c.args.shared.now)) c.in-Calls.is c.requires.came.1.so_far in
    let calls = (safe.calls_of c.requires.came.0.image c.requires.came.0.code c.args.routines.now (i.Call c.in-Calls.number) c.in-Calls.number c.args.job.now c.args.owned.now c.args.shared.now c.requires.came.1.of refl (still_safe c.requires.came.0.image c.requires.came.0.instr (i.Call c.in-Calls.number) c.requires.came.0.old (own_of c.args.job.now c.args.owned.now c.args.shared.now) c.args.job.now.frames.room came.0 came.1 c.requires.came.1.safe)) in
    let at = simp to_z-of_z at c.routine_at.ensures in
    (safe.found c.requires.came.0.image c.args.routines.now c.in-Calls.number c.args.job.now c.routine_at.result calls at).room

pub call-requires-clause-order : goal.call-requires-clause-order
call-requires-clause-order c =
    let f : FitsSigned w32 c.in-Calls.number = search rules in
    let came : ((own_of c.args.job.now c.args.owned.now c.args.shared.now) ≡ c.requires.came.0.old) × (c.requires.came.0.instr ≡ i.Call c.in-Calls.number) = subst (λ (x : Within). HasDoneWithin c.requires.came.0.image c.requires.came.0.instr c.requires.came.0.old x (own_of c.args.job.now c.args.owned.now c.args.shared.now)) c.in-Calls.is c.requires.came.1.so_far in
    let calls = (safe.calls_of c.requires.came.0.image c.requires.came.0.code c.args.routines.now (i.Call c.in-Calls.number) c.in-Calls.number c.args.job.now c.args.owned.now c.args.shared.now c.requires.came.1.of refl (still_safe c.requires.came.0.image c.requires.came.0.instr (i.Call c.in-Calls.number) c.requires.came.0.old (own_of c.args.job.now c.args.owned.now c.args.shared.now) c.args.job.now.frames.room came.0 came.1 c.requires.came.1.safe)) in
    let at = simp to_z-of_z at c.routine_at.ensures in
    (safe.found c.requires.came.0.image c.args.routines.now c.in-Calls.number c.args.job.now c.routine_at.result calls at).order

pub call-requires-clause-taken : goal.call-requires-clause-taken
call-requires-clause-taken c =
    let f : FitsSigned w32 c.in-Calls.number = search rules in
    let came : ((own_of c.args.job.now c.args.owned.now c.args.shared.now) ≡ c.requires.came.0.old) × (c.requires.came.0.instr ≡ i.Call c.in-Calls.number) = subst (λ (x : Within). HasDoneWithin c.requires.came.0.image c.requires.came.0.instr c.requires.came.0.old x (own_of c.args.job.now c.args.owned.now c.args.shared.now)) c.in-Calls.is c.requires.came.1.so_far in
    let calls = (safe.calls_of c.requires.came.0.image c.requires.came.0.code c.args.routines.now (i.Call c.in-Calls.number) c.in-Calls.number c.args.job.now c.args.owned.now c.args.shared.now c.requires.came.1.of refl (still_safe c.requires.came.0.image c.requires.came.0.instr (i.Call c.in-Calls.number) c.requires.came.0.old (own_of c.args.job.now c.args.owned.now c.args.shared.now) c.args.job.now.frames.room came.0 came.1 c.requires.came.1.safe)) in
    let at = simp to_z-of_z at c.routine_at.ensures in
    (safe.found c.requires.came.0.image c.args.routines.now c.in-Calls.number c.args.job.now c.routine_at.result calls at).taken

pub returns-in-Calls-clause-done : goal.returns-in-Calls-clause-done
returns-in-Calls-clause-done c b is =
    let f : FitsSigned w32 c.in-Calls.number = search rules in
    let came : ((own_of c.args.job.now c.args.owned.now c.args.shared.now) ≡ b.old) × (b.instr ≡ i.Call c.in-Calls.number) = subst (λ (x : Within). HasDoneWithin b.image b.instr b.old x (own_of c.args.job.now c.args.owned.now c.args.shared.now)) c.in-Calls.is is.so_far in
    let calls = (safe.calls_of b.image b.code c.args.routines.now (i.Call c.in-Calls.number) c.in-Calls.number c.args.job.now c.args.owned.now c.args.shared.now is.of refl (still_safe b.image b.instr (i.Call c.in-Calls.number) b.old (own_of c.args.job.now c.args.owned.now c.args.shared.now) c.args.job.now.frames.room came.0 came.1 is.safe)) in
    let does = simp to_z-of_z at c.call.ensures.does in
    let at = simp to_z-of_z at c.routine_at.ensures in
    let found = safe.found b.image c.args.routines.now c.in-Calls.number c.args.job.now c.routine_at.result calls at in
    then_done b.image b.instr (i.Call c.in-Calls.number) b.old (own_of c.args.job.now c.args.owned.now c.args.shared.now) _ c.call.result came.0 came.1
    (placed_done b.image (i.Call c.in-Calls.number) c.args.job.now c.call.new.place c.args.owned.now c.args.shared.now c.call.new.frames c.call.result (λ s. does b.image s (own_of c.args.job.now c.args.owned.now c.args.shared.now) found.known) c.call.ensures.keeps)

pub ret-requires : goal.ret-requires
ret-requires c =
    let came : ((own_of c.args.job.now c.args.owned.now c.args.shared.now) ≡ c.requires.came.0.old) × (c.requires.came.0.instr ≡ i.Return) = subst (λ (x : Within). HasDoneWithin c.requires.came.0.image c.requires.came.0.instr c.requires.came.0.old x (own_of c.args.job.now c.args.owned.now c.args.shared.now)) c.in-Returns.is c.requires.came.1.so_far in
    safe.ret_called c.requires.came.0.image (own_of c.args.job.now c.args.owned.now c.args.shared.now) c.args.job.now.frames.room (still_safe c.requires.came.0.image c.requires.came.0.instr i.Return c.requires.came.0.old (own_of c.args.job.now c.args.owned.now c.args.shared.now) c.args.job.now.frames.room came.0 came.1 c.requires.came.1.safe)

pub returns-in-Returns-clause-done : goal.returns-in-Returns-clause-done
returns-in-Returns-clause-done c b is =
    let came : ((own_of c.args.job.now c.args.owned.now c.args.shared.now) ≡ b.old) × (b.instr ≡ i.Return) = subst (λ (x : Within). HasDoneWithin b.image b.instr b.old x (own_of c.args.job.now c.args.owned.now c.args.shared.now)) c.in-Returns.is is.so_far in
    then_done b.image b.instr i.Return b.old (own_of c.args.job.now c.args.owned.now c.args.shared.now) _ c.ret.result came.0 came.1
    (placed_done b.image i.Return c.args.job.now c.ret.new.place c.args.owned.now c.args.shared.now c.ret.new.frames c.ret.result (λ s. c.ret.ensures.does b.image s (own_of c.args.job.now c.args.owned.now c.args.shared.now)) c.ret.ensures.keeps)

pub ret_value-requires-clause-first : goal.ret_value-requires-clause-first
ret_value-requires-clause-first c =
    let came : ((own_of c.args.job.now c.args.owned.now c.args.shared.now) ≡ c.requires.came.0.old) × (c.requires.came.0.instr ≡ i.ReturnValue) = subst (λ (x : Within). HasDoneWithin c.requires.came.0.image c.requires.came.0.instr c.requires.came.0.old x (own_of c.args.job.now c.args.owned.now c.args.shared.now)) c.in-ReturnsValue.is c.requires.came.1.so_far in
    (safe.ret_value_found c.requires.came.0.image (own_of c.args.job.now c.args.owned.now c.args.shared.now) c.args.job.now.frames.room (still_safe c.requires.came.0.image c.requires.came.0.instr i.ReturnValue c.requires.came.0.old (own_of c.args.job.now c.args.owned.now c.args.shared.now) c.args.job.now.frames.room came.0 came.1 c.requires.came.1.safe)).0

pub ret_value-requires-clause-called : goal.ret_value-requires-clause-called
ret_value-requires-clause-called c =
    let came : ((own_of c.args.job.now c.args.owned.now c.args.shared.now) ≡ c.requires.came.0.old) × (c.requires.came.0.instr ≡ i.ReturnValue) = subst (λ (x : Within). HasDoneWithin c.requires.came.0.image c.requires.came.0.instr c.requires.came.0.old x (own_of c.args.job.now c.args.owned.now c.args.shared.now)) c.in-ReturnsValue.is c.requires.came.1.so_far in
    (safe.ret_value_found c.requires.came.0.image (own_of c.args.job.now c.args.owned.now c.args.shared.now) c.args.job.now.frames.room (still_safe c.requires.came.0.image c.requires.came.0.instr i.ReturnValue c.requires.came.0.old (own_of c.args.job.now c.args.owned.now c.args.shared.now) c.args.job.now.frames.room came.0 came.1 c.requires.came.1.safe)).1

pub returns-in-ReturnsValue-clause-done : goal.returns-in-ReturnsValue-clause-done
returns-in-ReturnsValue-clause-done c b is =
    let came : ((own_of c.args.job.now c.args.owned.now c.args.shared.now) ≡ b.old) × (b.instr ≡ i.ReturnValue) = subst (λ (x : Within). HasDoneWithin b.image b.instr b.old x (own_of c.args.job.now c.args.owned.now c.args.shared.now)) c.in-ReturnsValue.is is.so_far in
    then_done b.image b.instr i.ReturnValue b.old (own_of c.args.job.now c.args.owned.now c.args.shared.now) _ c.ret_value.result came.0 came.1
    (placed_done b.image i.ReturnValue c.args.job.now c.ret_value.new.place c.args.owned.now c.args.shared.now c.ret_value.new.frames c.ret_value.result (λ s. c.ret_value.ensures.does b.image s (own_of c.args.job.now c.args.owned.now c.args.shared.now)) c.ret_value.ensures.keeps)

pub returns-in-Done-clause-done : goal.returns-in-Done-clause-done
returns-in-Done-clause-done c b is =
    let done = subst (λ (x : Within). HasDoneWithin b.image b.instr b.old x (own_of c.args.job.now c.args.owned.now c.args.shared.now)) c.in-Done.is is.so_far in
    done.1
