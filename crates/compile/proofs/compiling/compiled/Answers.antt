use Rattle.std.proofs.Common.{ℕ, List, subst}
use Rattle.syntax_tree.specs.Placed.{placed}
use Rattle.front_end.specs.Program.{IsProgramOf}
use Rattle.compile.proofs.Compiled.{not_built}
use Rattle.compile.proofs.compiling.compiled.Goals as goal

pub returns-in_err-built : goal.returns-in_err-built
returns-in_err-built g c =
    let tree = placed c.in_ok-program.program in
    not_built c.from_residual-in_err-built.result g.bytes tree c.args.over c.in_err-built.field-0.0 c.from_residual-in_err-built.ensures.1
    (subst (λ (text : List ℕ). IsProgramOf text tree) c.requires.0 c.in_ok-program.ensures.found) c.in_err-built.ensures
