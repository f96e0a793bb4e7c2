use Rattle.std.proofs.Common.{◌∙◌, codes, sym}
use Rattle.std.proofs.lemmas.Result.{err_from_is_err_and}
use Rattle.text_fields.specs.Front.{begins, front}
use Rattle.asm_lines.specs.Routines.{routine_line_read}
use Rattle.assembler.proofs.NoMore.{fault_here, none_here, one_here}
use Rattle.assembler.proofs.work.no_routine.Goals as goal

pub returns-then-not-begins_with : goal.returns-then-not-begins_with
returns-then-not-begins_with c = none_here (begins (codes "routine ")) (routine_line_read c.args.owners c.args.monitors) (front c.args.at) (sym c.begins_with.ensures ∙ c.if-not-begins_with.true)

pub returns-in_err-routine_line : goal.returns-in_err-routine_line
returns-in_err-routine_line c =
    let p = err_from_is_err_and c.from_residual.result c.from_residual.ensures.1 in
    rw (p.1, p.2) (fault_here (begins (codes "routine ")) (routine_line_read c.args.owners c.args.monitors) (front c.args.at) c.in_err-routine_line.field-0.0 (sym c.begins_with.ensures ∙ c.if-not-begins_with.false) c.in_err-routine_line.ensures)

pub returns : goal.returns
returns c = one_here (begins (codes "routine ")) (routine_line_read c.args.owners c.args.monitors) (front c.args.at) _ (sym c.begins_with.ensures ∙ c.if-not-begins_with.false) c.in_ok-routine_line.ensures
