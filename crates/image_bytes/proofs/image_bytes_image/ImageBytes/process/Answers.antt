use Rattle.std.proofs.Common.{◌≡◌, refl, ap}
use Rattle.image_format.specs.Format.{fault}
use Rattle.image_bytes.specs.Standing.{process_in}
use Rattle.image_bytes.specs.Fields.{process_fields}
use Rattle.image_bytes.specs.Places.{things_at}
use Rattle.image_bytes.specs.Kept.{no_process}
use Rattle.image_bytes.proofs.ImageBytesPlaced.{is_place, is_the_thing, is_read_there, is_within, there}
use Rattle.image_bytes.proofs.image_bytes_image.ImageBytes.process.Goals as goal

pub bytes_from-requires-clause-there : goal.bytes_from-requires-clause-there
bytes_from-requires-clause-there c =
    let bytes : c.self.inside.bytes.items ≡ c.as_slice-bytes.result.now = cc in
    let places : c.self.inside.places.processes ≡ c.as_slice-places.result.now = cc in
    let whole : things_at no_process process_fields c.self.inside.bytes.items c.self.inside.places.processes ≡ c.args.self.now.image.processes = ap (λ n. n.image.processes) c.self.view_is in
    let are = there process_fields bytes places whole c.self.invariant.begin.processes in
    is_place process_fields c.as_slice-bytes.result.now c.as_slice-places.result.now c.args.self.now.image.processes c.args.number are c.requires

pub bytes_from-requires-clause-within : goal.bytes_from-requires-clause-within
bytes_from-requires-clause-within c =
    let bytes : c.self.inside.bytes.items ≡ c.as_slice-bytes.result.now = cc in
    let places : c.self.inside.places.processes ≡ c.as_slice-places.result.now = cc in
    let whole : things_at no_process process_fields c.self.inside.bytes.items c.self.inside.places.processes ≡ c.args.self.now.image.processes = ap (λ n. n.image.processes) c.self.view_is in
    let are = there process_fields bytes places whole c.self.invariant.begin.processes in
    is_within process_fields c.as_slice-bytes.result.now c.as_slice-places.result.now c.args.self.now.image.processes c.args.number are c.requires (fault 2 0) refl

pub process_at-requires : goal.process_at-requires
process_at-requires c =
    let bytes : c.self.inside.bytes.items ≡ c.as_slice-bytes.result.now = cc in
    let places : c.self.inside.places.processes ≡ c.as_slice-places.result.now = cc in
    let whole : things_at no_process process_fields c.self.inside.bytes.items c.self.inside.places.processes ≡ c.args.self.now.image.processes = ap (λ n. n.image.processes) c.self.view_is in
    let are = there process_fields bytes places whole c.self.invariant.begin.processes in
    is_read_there process_fields c.as_slice-bytes.result.now c.as_slice-places.result.now c.args.self.now.image.processes c.args.number are c.requires c.bytes_from.result.now c.bytes_from.ensures

pub returns : goal.returns
returns c =
    let bytes : c.self.inside.bytes.items ≡ c.as_slice-bytes.result.now = cc in
    let places : c.self.inside.places.processes ≡ c.as_slice-places.result.now = cc in
    let whole : things_at no_process process_fields c.self.inside.bytes.items c.self.inside.places.processes ≡ c.args.self.now.image.processes = ap (λ n. n.image.processes) c.self.view_is in
    let are = there process_fields bytes places whole c.self.invariant.begin.processes in
    is_the_thing process_fields c.as_slice-bytes.result.now c.as_slice-places.result.now c.args.self.now.image.processes c.args.number are c.requires c.bytes_from.result.now (process_in c.process_at.result) c.process_at.ensures.0 c.bytes_from.ensures c.process_at.ensures.1
