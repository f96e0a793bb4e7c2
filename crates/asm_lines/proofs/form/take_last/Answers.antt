use Rattle.std.proofs.Common.{arith}
use Rattle.asm_lines.proofs.Lasts.{last_taken}
use Rattle.asm_lines.proofs.form.take_last.Goals as goal

pub returns : goal.returns
returns c = last_taken c.args.arms.now.items c.pop.new.self.items c.pop.result c.pop.ensures.items (λ none. grind (arith, none))
