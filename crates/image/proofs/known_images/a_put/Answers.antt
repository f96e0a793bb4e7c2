use Rattle.std.proofs.Common.{refl}
use Rattle.image.specs.Bytes.{bytes_of}
use Rattle.image.proofs.known_images.a_put.Goals as goal

pub returns : goal.returns
unfolding bytes_of
returns c = record { first = refl; second = refl }
