use Rattle.std.proofs.Common.{sym, subst}
use Rattle.syntax_tree.specs.Placed.{placed}
use Rattle.syntax_tree.specs.declared.decl.Program.{Program as Tree}
use Rattle.front_end.specs.Program.{IsProgramOf}
use Rattle.compile.specs.Steps.{IsRanked, IsSizeFault}
use Rattle.analysis_command.proofs.Due.{no_size_fault}
use Rattle.analysis_command.proofs.image_of_program.ranked_image.Goals as goal

pub ranked-requires : goal.ranked-requires
ranked-requires g c = (c.requires.0, subst (λ (t : Tree). IsProgramOf g.text (placed t)) (sym c.prog.ensures.tree) c.requires.1.program)

pub returns-in-Ok : goal.returns-in-Ok
returns-in-Ok g c = subst (λ (t : Tree). IsRanked (placed t) c.args.over c.in-Ok.image) c.prog.ensures.tree c.in-Ok.ensures.image

pub unreachable-requires : goal.unreachable-requires
unreachable-requires g c =
    no_size_fault (placed c.args.program.now) c.in-Err-TooLarge.field-0 c.in-Err-TooLarge.field-0-0 c.in-Err-TooLarge.field-0-1 c.in-Err-TooLarge.field-0-is
    (subst (λ (t : Tree). IsSizeFault (placed t) c.in-Err-TooLarge.field-0) c.prog.ensures.tree c.in-Err-TooLarge.ensures.fault) c.requires.1.fits
