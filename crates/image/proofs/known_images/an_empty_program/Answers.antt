use Rattle.std.proofs.Common.{refl}
use Rattle.image.specs.Bytes.{bytes_of}
use Rattle.image.proofs.known_images.an_empty_program.Goals as goal

pub returns : goal.returns
unfolding bytes_of
returns c = record { first = refl; second = refl; first_length = refl; second_length = refl }
