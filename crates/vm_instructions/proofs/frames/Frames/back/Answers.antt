-- Two words of the stack are free after it.
use Rattle.std.proofs.Common.{◌++◌, ◌∙◌, ap, Option}
use Rattle.std.specs.Option.{option_to_list}
use Rattle.vm_instructions.specs.declared.frames.Mark.{Mark}
use Rattle.vm_instructions.proofs.Rows.{back_room}
use Rattle.vm_instructions.proofs.frames.Frames.back.Goals as goal

pub returns-clause-free : goal.returns-clause-free
returns-clause-free c = back_room c.self.inside c.pop.new.self.items c.unwrap-mark.result c.self.invariant (c.pop.ensures.items ∙ ap (λ (o : Option Mark). c.pop.new.self.items ++ option_to_list o) c.unwrap-mark.ensures)
