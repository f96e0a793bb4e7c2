use Rattle.std.proofs.Common.{◌≡◌, refl, ap}
use Rattle.image_format.specs.Format.{fault}
use Rattle.image.specs.Raw.{monitor_of}
use Rattle.image_reader.specs.Grammar.{monitor_format}
use Rattle.image_bytes.specs.Places.{things_at}
use Rattle.image_bytes.specs.Kept.{no_monitor}
use Rattle.image_bytes.proofs.ImageBytesPlaced.{is_place, is_the_thing, is_within, no_fault, there}
use Rattle.image_bytes.proofs.image_bytes_image.ImageBytes.monitor.Goals as goal

pub bytes_from-requires-clause-there : goal.bytes_from-requires-clause-there
bytes_from-requires-clause-there c =
    let bytes : c.self.inside.bytes.items ≡ c.as_slice-bytes.result.now = cc in
    let places : c.self.inside.places.monitors ≡ c.as_slice-places.result.now = cc in
    let whole : things_at no_monitor monitor_format c.self.inside.bytes.items c.self.inside.places.monitors ≡ c.args.self.now.image.monitors = ap (λ n. n.image.monitors) c.self.view_is in
    let are = there monitor_format bytes places whole c.self.invariant.begin.monitors in
    is_place monitor_format c.as_slice-bytes.result.now c.as_slice-places.result.now c.args.self.now.image.monitors c.args.number are c.requires

pub bytes_from-requires-clause-within : goal.bytes_from-requires-clause-within
bytes_from-requires-clause-within c =
    let bytes : c.self.inside.bytes.items ≡ c.as_slice-bytes.result.now = cc in
    let places : c.self.inside.places.monitors ≡ c.as_slice-places.result.now = cc in
    let whole : things_at no_monitor monitor_format c.self.inside.bytes.items c.self.inside.places.monitors ≡ c.args.self.now.image.monitors = ap (λ n. n.image.monitors) c.self.view_is in
    let are = there monitor_format bytes places whole c.self.invariant.begin.monitors in
    is_within monitor_format c.as_slice-bytes.result.now c.as_slice-places.result.now c.args.self.now.image.monitors c.args.number are c.requires (fault 2 0) refl

pub unreachable-requires : goal.unreachable-requires
unreachable-requires c =
    let bytes : c.self.inside.bytes.items ≡ c.as_slice-bytes.result.now = cc in
    let places : c.self.inside.places.monitors ≡ c.as_slice-places.result.now = cc in
    let whole : things_at no_monitor monitor_format c.self.inside.bytes.items c.self.inside.places.monitors ≡ c.args.self.now.image.monitors = ap (λ n. n.image.monitors) c.self.view_is in
    let are = there monitor_format bytes places whole c.self.invariant.begin.monitors in
    no_fault monitor_format c.as_slice-bytes.result.now c.as_slice-places.result.now c.args.self.now.image.monitors c.args.number are c.requires c.bytes_from.result.now c.in-Err.field-0 c.bytes_from.ensures c.in-Err.ensures

pub returns : goal.returns
returns c =
    let bytes : c.self.inside.bytes.items ≡ c.as_slice-bytes.result.now = cc in
    let places : c.self.inside.places.monitors ≡ c.as_slice-places.result.now = cc in
    let whole : things_at no_monitor monitor_format c.self.inside.bytes.items c.self.inside.places.monitors ≡ c.args.self.now.image.monitors = ap (λ n. n.image.monitors) c.self.view_is in
    let are = there monitor_format bytes places whole c.self.invariant.begin.monitors in
    is_the_thing monitor_format c.as_slice-bytes.result.now c.as_slice-places.result.now c.args.self.now.image.monitors c.args.number are c.requires c.bytes_from.result.now (monitor_of c.in-Ok.monitor) c.in-Ok.field-0-1.now c.bytes_from.ensures c.in-Ok.ensures
