use Rattle.std.proofs.Common.{◌≡◌, true, List, length, subst}
use Rattle.std.proofs.lemmas.Bool.{lt-ltb}
use Rattle.image.specs.Raw.{process_of}
use Rattle.image_bytes.specs.Fields.{are_short}
use Rattle.image_bytes.proofs.PartsLemmas.{process_is_read}
use Rattle.image_bytes.proofs.processes.process_is_read.Goals as goal

pub returns : goal.returns
returns c =
    let same : c.as_slice.result.now ≡ c.args.process.now.numbers = cc in
    process_is_read (process_of c.args.process.now) c.requires.handler (lt-ltb (length c.args.process.now.numbers) 65536 c.requires.few) c.release_fits.ensures c.time_fits.ensures c.room_fits.ensures
    (subst (λ (ns : List _). are_short ns ≡ true) same c.numbers_fit.ensures) c.can_be_read.ensures c.handler_tree_fits.ensures
