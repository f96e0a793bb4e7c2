use Rattle.image.specs.Bytes.{Second, bytes_of}
use Rattle.image.specs.Raw.{named_of}
use Rattle.image_loaded.proofs.Loaded.{ranges_of, written_of}
use Rattle.image_loaded.proofs.valid_images.Image.of_valid.Goals as goal

pub valid-requires-clause-ranges : goal.valid-requires-clause-ranges
valid-requires-clause-ranges c =
    ranges_of (bytes_of Second (named_of c.args.raw)) c.args.raw c.requires.file c.images_read_are_in_their_ranges.ensures.limits c.images_read_are_in_their_ranges.ensures.monitors

pub valid-requires-clause-written : goal.valid-requires-clause-written
valid-requires-clause-written c = written_of (bytes_of Second (named_of c.args.raw)) c.args.raw c.requires.file c.images_read_can_be_written.ensures
