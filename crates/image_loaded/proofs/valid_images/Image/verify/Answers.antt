use Rattle.image.specs.Bytes.{Second, bytes_of}
use Rattle.image.specs.Raw.{named_of}
use Rattle.image_loaded.proofs.Loaded.{are_of, ranges_of, written_of}
use Rattle.image_loaded.proofs.valid_images.Image.verify.Goals as goal

pub verified-requires-clause-ranges : goal.verified-requires-clause-ranges
verified-requires-clause-ranges c =
    let bytes = bytes_of Second (named_of c.args.raw) in
    ranges_of bytes c.args.raw (are_of bytes c.args.raw c.requires) c.images_read_are_in_their_ranges.ensures.limits c.images_read_are_in_their_ranges.ensures.monitors

pub verified-requires-clause-written : goal.verified-requires-clause-written
verified-requires-clause-written c = c.images_read_can_be_written.ensures (bytes_of Second (named_of c.args.raw)) c.args.raw c.requires
