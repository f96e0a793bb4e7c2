use Rattle.std.proofs.Common.{sym, subst}
use Rattle.syntax_tree.specs.Placed.{placed, plain}
use Rattle.codegen_spec.specs.declared.code.Code.{Code}
use Rattle.compile_image.specs.Fields.{FitsFields}
use Rattle.compile.proofs.shape.assembled.Goals as goal

pub assemble-requires-clause-fits : goal.assemble-requires-clause-fits
assemble-requires-clause-fits c =
    let g = placed c.args.program.now in
    subst (λ (k : Code). FitsFields (plain g) k) (sym c.requires.parts.code)
    (c.checked_programs_fit_fields.ensures g c.requires.checked c.requires.parts.fits)
