use Rattle.std.proofs.Common.{◌≡◌, refl, ap}
use Rattle.image_format.specs.Format.{fault}
use Rattle.image_bytes.specs.Standing.{routine_in}
use Rattle.image_bytes.specs.Fields.{routine_fields}
use Rattle.image_bytes.specs.Places.{things_at}
use Rattle.image_bytes.specs.Kept.{no_routine}
use Rattle.image_bytes.proofs.ImageBytesPlaced.{is_place, is_the_thing, is_read_there, is_within, there}
use Rattle.image_bytes.proofs.image_bytes_image.ImageBytes.routine.Goals as goal

pub bytes_from-requires-clause-there : goal.bytes_from-requires-clause-there
bytes_from-requires-clause-there c =
    let bytes : c.self.inside.bytes.items ≡ c.as_slice-bytes.result.now = cc in
    let places : c.self.inside.places.routines ≡ c.as_slice-places.result.now = cc in
    let whole : things_at no_routine routine_fields c.self.inside.bytes.items c.self.inside.places.routines ≡ c.args.self.now.image.routines = ap (λ n. n.image.routines) c.self.view_is in
    let are = there routine_fields bytes places whole c.self.invariant.begin.routines in
    is_place routine_fields c.as_slice-bytes.result.now c.as_slice-places.result.now c.args.self.now.image.routines c.args.number are c.requires

pub bytes_from-requires-clause-within : goal.bytes_from-requires-clause-within
bytes_from-requires-clause-within c =
    let bytes : c.self.inside.bytes.items ≡ c.as_slice-bytes.result.now = cc in
    let places : c.self.inside.places.routines ≡ c.as_slice-places.result.now = cc in
    let whole : things_at no_routine routine_fields c.self.inside.bytes.items c.self.inside.places.routines ≡ c.args.self.now.image.routines = ap (λ n. n.image.routines) c.self.view_is in
    let are = there routine_fields bytes places whole c.self.invariant.begin.routines in
    is_within routine_fields c.as_slice-bytes.result.now c.as_slice-places.result.now c.args.self.now.image.routines c.args.number are c.requires (fault 2 0) refl

pub routine_at-requires : goal.routine_at-requires
routine_at-requires c =
    let bytes : c.self.inside.bytes.items ≡ c.as_slice-bytes.result.now = cc in
    let places : c.self.inside.places.routines ≡ c.as_slice-places.result.now = cc in
    let whole : things_at no_routine routine_fields c.self.inside.bytes.items c.self.inside.places.routines ≡ c.args.self.now.image.routines = ap (λ n. n.image.routines) c.self.view_is in
    let are = there routine_fields bytes places whole c.self.invariant.begin.routines in
    is_read_there routine_fields c.as_slice-bytes.result.now c.as_slice-places.result.now c.args.self.now.image.routines c.args.number are c.requires c.bytes_from.result.now c.bytes_from.ensures

pub returns : goal.returns
returns c =
    let bytes : c.self.inside.bytes.items ≡ c.as_slice-bytes.result.now = cc in
    let places : c.self.inside.places.routines ≡ c.as_slice-places.result.now = cc in
    let whole : things_at no_routine routine_fields c.self.inside.bytes.items c.self.inside.places.routines ≡ c.args.self.now.image.routines = ap (λ n. n.image.routines) c.self.view_is in
    let are = there routine_fields bytes places whole c.self.invariant.begin.routines in
    is_the_thing routine_fields c.as_slice-bytes.result.now c.as_slice-places.result.now c.args.self.now.image.routines c.args.number are c.requires c.bytes_from.result.now (routine_in c.routine_at.result) c.routine_at.ensures.0 c.bytes_from.ensures c.routine_at.ensures.1
