use Rattle.std.proofs.Common.{subst}
use Rattle.std.specs.Prelude.{IfErr, IfOk}
use Rattle.syntax_tree.specs.Placed.{placed}
use Rattle.syntax_tree.specs.declared.decl.Program.{Program as Tree}
use Rattle.image.specs.Raw.{named_of}
use Rattle.edf_command.specs.Steps.{IsEdfShape, IsSizeFault}
use Rattle.edf_command.proofs.shaping.shape.Goals as goal

pub returns-clause-image : goal.returns-clause-image
returns-clause-image g c = subst (λ (p : Tree). IfOk c.with_deadlines.result (λ image. IsEdfShape (placed p) (named_of image))) c.prog.ensures.tree c.with_deadlines.ensures.image

pub returns-clause-fault : goal.returns-clause-fault
returns-clause-fault g c = subst (λ (p : Tree). IfErr c.with_deadlines.result (IsSizeFault (placed p))) c.prog.ensures.tree c.with_deadlines.ensures.fault
