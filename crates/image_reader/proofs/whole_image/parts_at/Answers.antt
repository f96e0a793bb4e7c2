use Rattle.std.proofs.Common.{refl}
use Rattle.image_reader.proofs.whole_image.parts_at.Goals as goal

pub returns-clause-read : goal.returns-clause-read
returns-clause-read c =
    let named_read = rw c.new.ensures at c.in-Ok-name_at.ensures.read in
    rw (c.in-Ok.ensures, c.in-Ok-counts_at.ensures, named_read, c.in-Ok-named_at.ensures.read, c.in-Ok-assemble.ensures.parts) refl
