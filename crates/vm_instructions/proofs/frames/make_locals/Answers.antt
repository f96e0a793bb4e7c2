-- The values, and then the zeros.
use Rattle.std.proofs.Common.{arith}
use Rattle.vm_instructions.proofs.Rows.{locals_made, front_kept}
use Rattle.vm_instructions.proofs.frames.make_locals.Goals as goal

pub returns-clause-made : goal.returns-clause-made
returns-clause-made c = locals_made c.args.to c.args.params c.args.count c.args.locals.now.items c.copy.new.locals.items c.clear.new.words.items _ c.requires.order (omega arith) c.clear.ensures.before c.copy.ensures.copied c.clear.ensures.cleared

pub returns-clause-before : goal.returns-clause-before
returns-clause-before c = front_kept c.args.to c.args.params c.args.locals.now.items c.copy.new.locals.items c.clear.new.words.items c.clear.ensures.before c.copy.ensures.before
