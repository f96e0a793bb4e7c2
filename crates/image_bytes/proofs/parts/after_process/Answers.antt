use Rattle.std.proofs.Common.{ap, arith, length}
use Rattle.image.specs.Raw.{process_of}
use Rattle.image_bytes.proofs.Lengths.{numbered_length}
use Rattle.image_bytes.proofs.parts.after_process.Goals as goal

pub overflow_mul-body : goal.overflow_mul-body
overflow_mul-body c = omega (arith, numbered_length (process_of c.args.process.now), c.requires, c.len.ensures)

pub overflow_add-body-2 : goal.overflow_add-body-2
overflow_add-body-2 c = omega (arith, numbered_length (process_of c.args.process.now), c.requires, c.len.ensures)

pub overflow_add-result : goal.overflow_add-result
overflow_add-result c = omega (arith, numbered_length (process_of c.args.process.now), c.requires, c.len.ensures, ap length c.bytes.ensures)

pub overflow_add-result-2 : goal.overflow_add-result-2
overflow_add-result-2 c = omega (arith, numbered_length (process_of c.args.process.now), c.requires, c.len.ensures, ap length c.bytes.ensures, c.handler_len.ensures)

pub returns : goal.returns
returns c = omega (arith, numbered_length (process_of c.args.process.now), c.len.ensures, ap length c.bytes.ensures, c.handler_len.ensures)
