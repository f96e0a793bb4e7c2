use Rattle.std.proofs.Common.{subst}
use Rattle.syntax_tree.specs.Placed.{placed}
use Rattle.syntax_tree.specs.declared.decl.Program.{Program as Tree}
use Rattle.static_rule.specs.First.{IsFirst}
use Rattle.code_cost.specs.Rules.{SizeFails}
use Rattle.command_due.specs.Source.{of_size}
use Rattle.compile.specs.Build.{KeepsSizes}
use Rattle.compile.proofs.read_text.read_written.Goals as goal

pub returns-in-Ok-refuse_too_large : goal.returns-in-Ok-refuse_too_large
returns-in-Ok-refuse_too_large c = record {
  program = c.in-Ok.ensures.found;
  fits = subst (λ (p : Tree). KeepsSizes (placed p)) c.prog.ensures.tree c.in-Ok-refuse_too_large.ensures.fits;
}

pub returns-in-Err-TooLarge : goal.returns-in-Err-TooLarge
returns-in-Err-TooLarge c =
    of_size (placed c.in-Ok.program) c.in-Ok.ensures.found
    (subst (λ (p : Tree). IsFirst (SizeFails (placed p)) (record { number = c.in-Err-TooLarge.number; place = c.in-Err-TooLarge.place })) c.prog.ensures.tree
    (rw c.in-Err-TooLarge.field-0-is at c.in-Err-TooLarge.ensures.fault))
