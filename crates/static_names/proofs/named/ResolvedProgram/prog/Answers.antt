use Rattle.std.proofs.Common.{subst}
use Rattle.syntax_tree.specs.Placed.{placed}
use Rattle.syntax_tree.specs.declared.decl.Program.{Program}
use Rattle.static_names.specs.Resolved.{IsRead, IsNamed}
use Rattle.static_names.proofs.named.ResolvedProgram.prog.Goals as goal

pub returns-clause-read : goal.returns-clause-read
returns-clause-read c = let P : Program → Type 0 = λ t. IsRead (placed t) in subst P c.self.view_is c.self.invariant.read

pub returns-clause-named : goal.returns-clause-named
returns-clause-named c = let P : Program → Type 0 = λ t. IsNamed (placed t) in subst P c.self.view_is c.self.invariant.named
