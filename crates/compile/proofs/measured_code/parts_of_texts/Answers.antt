use Rattle.std.proofs.Common.{◌∙◌, ap}
use Rattle.syntax_tree.specs.Placed.{placed, plain}
use Rattle.syntax_tree.specs.declared.decl.Program.{Program as Tree}
use Rattle.codegen_spec.specs.Parts.{program_made}
use Rattle.compile.proofs.measured_code.parts_of_texts.Goals as goal

pub returns-clause-parts : goal.returns-clause-parts
returns-clause-parts c = record {
  fits = c.in_ok-measures.ensures.fits;
  code = c.in_ok-code.ensures ∙ ap (λ (p : Tree). program_made (plain (placed p))) c.requires.texts;
  defined = c.in_ok-measures.ensures.defined;
}
