use Rattle.image_loaded.proofs.Loaded.{of_residual}
use Rattle.command_images.specs.Telling.{LoadsText}
use Rattle.command_images.proofs.ImageFileTold.{loads_no_text, loads_text}
use Rattle.command_images.proofs.telling.load_text.Goals as goal

pub returns-in_err-verify : goal.returns-in_err-verify
returns-in_err-verify c =
    of_residual (LoadsText c.args.text.now) c.from_residual-in_err-verify.result _ c.from_residual-in_err-verify.ensures.1
    (loads_no_text c.args.text.now c.in_ok-raw.raw c.in_err-verify.field-0.0 c.in_ok-raw.ensures c.in_err-verify.ensures)

pub returns : goal.returns
returns c = loads_text c.args.text.now c.in_ok-raw.raw c.in_ok-verify.field-0 c.in_ok-raw.ensures c.in_ok-verify.ensures
