use Rattle.std.proofs.Common.{inr, subst, arith}
use Rattle.text_fields.specs.Front.{Fails}
use Rattle.assembler.specs.Sections.{text_read}
use Rattle.assembler.proofs.text.asm.Goals as goal

pub returns-in-Err-Fault : goal.returns-in-Err-Fault
returns-in-Err-Fault c = inr (record {
  short = omega (arith, c.if-text-gt-LONGEST.false);
  left = c.in-Err-Fault.fault.left;
  is_read = subst (λ e. Fails e (text_read c.args.text.now)) c.in-Err-Fault.field-0-is c.in-Err-Fault.ensures.read;
  place = c.line_of.ensures;
})
