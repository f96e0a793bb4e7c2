use Rattle.std.proofs.Common.{◌++◌, codes}
use Rattle.image.proofs.Chain.{after}
use Rattle.asm_format.specs.TreeText.{field}
use Rattle.asm_format.proofs.process.put_periodic.Goals as goal

pub returns : goal.returns
returns c =
    let frame = field (codes " periodic frame ") c.args.process.now.frame in
    let deadline = field (codes " deadline ") c.args.process.now.deadline in
    let first = field (codes " first ") c.args.process.now.first in
    after frame (deadline ++ first) c.args.text.now c.put_field.new.text c.put_field-3.new.text c.in_ok-put_field.ensures
    (after deadline first c.put_field.new.text c.put_field-2.new.text c.put_field-3.new.text c.in_ok-put_field-2.ensures c.in_ok-put_field-3.ensures)
