use Rattle.std.proofs.Common.{[], ℕ, Bool, false, List, Err, ap, sym, ◌∙◌}
use Rattle.std.specs.Prelude.{not}
use Rattle.std.proofs.lemmas.Result.{err_from_is_err_and}
use Rattle.machine_isa.specs.declared.instr.Instr.{Instr}
use Rattle.text_fields.specs.declared.fault.FieldError.{FieldError}
use Rattle.text_fields.specs.declared.fault.FieldError.TheVariants as errors
use Rattle.text_fields.specs.Front.{Fails, Front, Read, front}
use Rattle.asm_lines.specs.Instrs.{instr_read}
use Rattle.assembler.specs.Sections.{code_read, is_end, rows_read}
use Rattle.assembler.specs.Refusal.{Refuses}
use Rattle.assembler.proofs.RowLoop.{ends, fails, full, goes_on, overfull}
use Rattle.assembler.proofs.code.code_at.Goals as goal

refused : (e : FieldError) (s : Front) → Refuses e s → Fails e (code_read false s)
unfolding code_read
refused (errors.Memory _) s h = tt
refused (errors.Fault f) s h = ap (λ x. Err x) (sym h)

pub returns-then-not-is_complete : goal.returns-then-not-is_complete
returns-then-not-is_complete c = rw c.if-not-is_complete.true (refused c.no_line.result (front c.args.at) c.no_line.ensures)

pub returns-then-is_end : goal.returns-then-is_end
unfolding code_read
returns-then-is_end c =
    let is_next : List ℕ → Bool = λ bytes. not (is_end bytes) in
    let one : List Instr → Front → Read Instr = λ earlier. instr_read in
    rw c.if-not-is_complete.false (ends is_next one one c.loop.code 65535 c.loop.counter (front c.loop.place) (rows_read is_next one one [] 65535 (front c.args.at)) c.loop-test.true
    (ap not (sym c.is_end.ensures ∙ c.if-is_end.true)) c.loop.invariant)

pub returns-in_err-instr : goal.returns-in_err-instr
unfolding code_read
returns-in_err-instr c =
    let is_next : List ℕ → Bool = λ bytes. not (is_end bytes) in
    let one : List Instr → Front → Read Instr = λ earlier. instr_read in
    let p = err_from_is_err_and c.from_residual.result c.from_residual.ensures.1 in
    rw (p.1, p.2, c.if-not-is_complete.false) (fails is_next one one c.in_err-instr.field-0.0 c.loop.code 65535 c.loop.counter (front c.loop.place) (rows_read is_next one one [] 65535 (front c.args.at)) c.loop-test.true
    (ap not (sym c.is_end.ensures ∙ c.if-is_end.false)) c.in_err-instr.ensures c.loop.invariant)

pub loop-preserved : goal.loop-preserved
loop-preserved c =
    let is_next : List ℕ → Bool = λ bytes. not (is_end bytes) in
    let one : List Instr → Front → Read Instr = λ earlier. instr_read in
    rw c.in_ok-push.ensures.ok (goes_on is_next one one c.loop.code 65535 c.loop.counter (front c.loop.place) c.in_ok-instr.instr (front c.in_ok-instr.after) (rows_read is_next one one [] 65535 (front c.args.at)) c.loop-test.true
    (ap not (sym c.is_end.ensures ∙ c.if-is_end.false)) c.in_ok-instr.ensures c.loop.invariant)

pub returns-in_err-place : goal.returns-in_err-place
unfolding code_read
returns-in_err-place c =
    let is_next : List ℕ → Bool = λ bytes. not (is_end bytes) in
    let one : List Instr → Front → Read Instr = λ earlier. instr_read in
    let p = err_from_is_err_and c.from_residual-in_err-place.result c.from_residual-in_err-place.ensures.1 in
    rw (p.1, p.2, c.if-not-is_complete.false) (overfull is_next one one c.in_err-place.field-0.0 c.loop.code 65535 c.loop.counter (front c.loop.place) (rows_read is_next one one [] 65535 (front c.args.at)) c.loop-test.false
    c.in_err-place.ensures c.loop.invariant)

pub returns : goal.returns
unfolding code_read
returns c =
    let is_next : List ℕ → Bool = λ bytes. not (is_end bytes) in
    let one : List Instr → Front → Read Instr = λ earlier. instr_read in
    rw c.if-not-is_complete.false (full is_next one one c.loop.code 65535 c.loop.counter (front c.loop.place) (front c.in_ok-place.place) (rows_read is_next one one [] 65535 (front c.args.at)) c.loop-test.false
    c.in_ok-place.ensures c.loop.invariant)
