use Rattle.std.proofs.Common.{arith, sym, ap, ◌∙◌}
use Rattle.syntax_tree.specs.Placed.{plain}
use Rattle.code_cost_spec.specs.Levels.{code_length}
use Rattle.load_text_law.proofs.Lengths.{length_is}
use Rattle.load_text_law.proofs.Plain.{plain-bare}
use Rattle.load_text_law.proofs.load_size_law.load_size.Goals as goal

pub returns-clause-length : goal.returns-clause-length
returns-clause-length c key count = length_is key count

pub returns-clause-same : goal.returns-clause-same
returns-clause-same c key count g same = sym (plain-bare g) ∙ ap plain same

pub returns-clause-short : goal.returns-clause-short
returns-clause-short c key count few g same place long =
    let program = sym (plain-bare g) ∙ ap plain same in
    omega (arith, long.over, ap code_length program, length_is key count)
