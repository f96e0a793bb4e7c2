use Rattle.codegen_law.proofs.Example.{fits}
use Rattle.examples_law.proofs.code_of_text_example.an_example_fits.Goals as goal

pub returns : goal.returns
returns c = fits
