use Rattle.std.proofs.Common.{◌<◌, ◌≡◌, Some, length, ap, sym, ◌∙◌, arith}
use Rattle.std.specs.Prelude.{slice_get}
use Rattle.std.proofs.lemmas.Bool.{ltb-true}
use Rattle.std.proofs.lemmas.Bool.Decides.{nat_tests}
use Rattle.std.proofs.lemmas.Option.{slice_get-get_or}
use Rattle.std.proofs.Math.Facts.{Fits-lt-pow}
use Rattle.image_loaded.proofs.Versions.{all_below, second_is}
use Rattle.image_loaded.proofs.reading.are_second.Goals as goal

pub returns-in-Some : goal.returns-in-Some
returns-in-Some c two =
    let version = c.in-Some.version.now in
    let low : 5 < length c.args.bytes.now = ltb-true 5 (length c.args.bytes.now) (sym c.in-Some.ensures.lookup.0) in
    let is : version ≡ 2 = grind (arith, nat_tests, two) in
    let at : slice_get c.args.bytes.now 5 ≡ Some 2 = slice_get-get_or c.args.bytes.now 5 version low ∙ ap (λ n. Some n) (sym c.in-Some.ensures.lookup.1 ∙ is) in
    second_is c.images_read_are_written.ensures c.args.bytes.now c.args.raw.now (all_below c.args.bytes.now (λ i. Fits-lt-pow (c.type_inv.bytes i))) c.requires at
