use Rattle.std.proofs.Common.{◌∙◌, arith, sym}
use Rattle.compile_image.proofs.Counted.{params-count}
use Rattle.compile_image.proofs.routines.params.Goals as goal

pub overflow_cast-result : goal.overflow_cast-result
overflow_cast-result c = omega (arith, c.requires, c.len.ensures, params-count c.args.routine.now)

pub returns : goal.returns
returns c = c.len.ensures ∙ sym (params-count c.args.routine.now)
