use Rattle.std.proofs.Common.{◌≡◌, List, length, ap, arith, sym, subst}
use Rattle.image.specs.Bytes.{Second, bytes_of}
use Rattle.image.specs.Raw.{named_of}
use Rattle.image_bytes.specs.Places.{AreOf}
use Rattle.image_bytes.proofs.Same.{stands}
use Rattle.image_bytes.proofs.image_bytes_image.ImageBytes.keeping.Goals as goal

pub places_of-requires-clause-room : goal.places_of-requires-clause-room
places_of-requires-clause-room c =
    let long : length c.args.bytes.items ≡ length (bytes_of Second (named_of c.args.raw)) = ap (λ (bytes : List _). length bytes) c.requires.bytes in
    omega (arith, long, c.args.bytes.small)

pub invariant_of-result : goal.invariant_of-result
invariant_of-result c =
    let begin = subst (λ (bytes : List _). AreOf bytes c.in_ok-places.places (named_of c.args.raw)) (sym c.requires.bytes) c.in_ok-places.ensures in
    (stands c.args.bytes.items c.in_ok-places.places c.args.raw c.requires.written c.requires.bytes begin).kept

pub returns : goal.returns
returns c =
    let begin = subst (λ (bytes : List _). AreOf bytes c.in_ok-places.places (named_of c.args.raw)) (sym c.requires.bytes) c.in_ok-places.ensures in
    (stands c.args.bytes.items c.in_ok-places.places c.args.raw c.requires.written c.requires.bytes begin).same
