use Rattle.std.proofs.Common.{ℕ, sym, subst}
use Rattle.syntax_tree.specs.Placed.{placed, plain}
use Rattle.syntax_tree.specs.declared.decl.Program.{Program as Tree}
use Rattle.static_semantics.specs.Static.{IsChecked}
use Rattle.compile.specs.Steps.{IsRanked}
use Rattle.analysis_command.specs.Told.{IsWhyOf}
use Rattle.analysis_command.proofs.why.why_text.Goals as goal

pub why_of_image-requires-clause-checked : goal.why_of_image-requires-clause-checked
why_of_image-requires-clause-checked g c = subst (λ (t : Tree). IsChecked (placed t)) (sym c.prog.ensures.tree) c.prog.ensures.checked

pub why_of_image-requires-clause-image : goal.why_of_image-requires-clause-image
why_of_image-requires-clause-image g c =
    subst (λ (t : Tree). IsRanked (placed t) c.in_ok-image.image.overhead c.in_ok-image.image) (sym c.prog.ensures.tree)
    (subst (λ (n : ℕ). IsRanked (placed c.args.program.now) n c.in_ok-image.image) (sym c.in_ok-image.ensures.shaped.overhead) c.in_ok-image.ensures)

pub returns : goal.returns
returns g c =
    subst (λ (t : Tree). IsWhyOf (plain (placed t)) c.args.over c.in_ok-why.why) c.prog.ensures.tree
    (subst (λ (n : ℕ). IsWhyOf (plain (placed c.prog.result.now)) n c.in_ok-why.why) c.in_ok-image.ensures.shaped.overhead c.in_ok-why.ensures)
