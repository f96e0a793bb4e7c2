use Rattle.std.proofs.Common.{sym, ◌∙◌}
use Rattle.image.specs.Bytes.{Second, bytes_of}
use Rattle.image.specs.Raw.{image_of, named_of}
use Rattle.image_loaded.proofs.Faultless.{faultless}
use Rattle.image_loaded.proofs.Loaded.{are_of_valid}
use Rattle.image_loaded.proofs.valid_images.verified.Goals as goal

pub valid-requires-clause-file : goal.valid-requires-clause-file
valid-requires-clause-file c =
    let valid = faultless (image_of c.args.raw) (sym c.in_ok-part_fault.ensures ∙ c.in-None.is) in
    are_of_valid (bytes_of Second (named_of c.args.raw)) c.args.raw (c.requires.again valid) valid
