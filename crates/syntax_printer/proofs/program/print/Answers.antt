use Rattle.std.proofs.Common.{arith}
use Rattle.std.proofs.lemmas.Grind.{common_steps}
use Rattle.syntax_tree.specs.Placed.{placed}
use Rattle.syntax_printer.specs.Canonical.{program_lines}
use Rattle.syntax_printer.proofs.Bare.{canonical_bare}
use Rattle.syntax_printer.proofs.Texts.{new_text}
use Rattle.syntax_printer.proofs.program.print.Goals as goal

pub returns : goal.returns
returns c =
    let a = new_text (program_lines (placed c.args.prog.now)) in
    let b = canonical_bare (placed c.args.prog.now) in
    grind (arith, common_steps)
