-- The laws joined.
use Rattle.image.specs.Raw.{image_of}
use Rattle.valid_image_law.specs.ValidLaw.{EveryValidImageIsSafeAndInTime}
use Rattle.image_reader_law.specs.ValidLimits.{ImagesReadHaveLimits}
use Rattle.image_loaded.specs.ValidRead.{EveryValidImageReadIsSafeAndInTime}

pub joined : ImagesReadHaveLimits → EveryValidImageIsSafeAndInTime
    → EveryValidImageReadIsSafeAndInTime
joined limits safe bytes raw holds valid = safe (image_of raw) (limits bytes raw holds) valid
