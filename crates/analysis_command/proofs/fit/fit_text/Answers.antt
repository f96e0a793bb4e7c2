use Rattle.syntax_tree.specs.Placed.{placed}
use Rattle.analysis_command.proofs.Fits as fits
use Rattle.analysis_command.proofs.fit.fit_text.Goals as goal

pub fit_of_image-requires-clause-ready : goal.fit_of_image-requires-clause-ready
fit_of_image-requires-clause-ready g c =
    fits.can_fit c.tasks_are_of_the_text.ensures (placed c.args.program.now) c.in_ok-image.image c.requires.1.program.checked c.in_ok-image.ensures

pub returns : goal.returns
returns g c =
    fits.fit_is c.tasks_are_of_the_text.ensures c.ranks_are_of_the_text.ensures c.tasks_are_one.ensures c.overheads_are_added.ensures.tasks c.overheads_that_fit_are_of_the_text.ensures
    (placed c.args.program.now) c.args.over c.in_ok-image.image c.requires.1.program.checked c.in_ok-image.ensures c.in_ok-fits.fits c.in_ok-fits.ensures
