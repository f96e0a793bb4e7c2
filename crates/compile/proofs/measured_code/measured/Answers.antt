use Rattle.std.proofs.Common.{◌≡◌, ◌∙◌, ap, sym, subst}
use Rattle.syntax_tree.specs.Placed.{placed, plain}
use Rattle.syntax_tree.specs.declared.decl.Program.{Program as Tree}
use Rattle.code_cost.specs.declared.program.Measures.{Measures}
use Rattle.code_cost.specs.Parts.{measures_of}
use Rattle.code_cost.specs.Sizes.{AreDefined}
use Rattle.compile.proofs.Measuring.{are_defined}
use Rattle.compile.proofs.measured_code.measured.Goals as goal

pub refuse_large-requires-clause-numbers : goal.refuse_large-requires-clause-numbers
refuse_large-requires-clause-numbers c = (c.checked_programs_are_ready.ensures (placed c.args.program.now) c.requires.checked).numbered.there

pub refuse_large-requires-clause-defined : goal.refuse_large-requires-clause-defined
refuse_large-requires-clause-defined c =
    let g = placed c.args.program.now in
    let is : c.in_ok-measures.measures ≡ measures_of (plain g) =
    c.in_ok-measures.ensures ∙ ap (λ (p : Tree). measures_of (plain (placed p))) c.requires.texts in
    subst (λ (m : Measures). AreDefined (plain g) m) (sym is)
    (are_defined c.checked_programs_are_ready.ensures c.loops_of_checked_programs_fit.ensures c.measures_are_defined.ensures g c.requires.checked)

pub returns-clause-defined : goal.returns-clause-defined
returns-clause-defined c =
    let g = placed c.args.program.now in
    let is : c.in_ok-measures.measures ≡ measures_of (plain g) =
    c.in_ok-measures.ensures ∙ ap (λ (p : Tree). measures_of (plain (placed p))) c.requires.texts in
    subst (λ (m : Measures). AreDefined (plain g) m) (sym is)
    (are_defined c.checked_programs_are_ready.ensures c.loops_of_checked_programs_fit.ensures c.measures_are_defined.ensures g c.requires.checked)
