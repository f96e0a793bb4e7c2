use Rattle.std.proofs.Common.{◌++◌, codes}
use Rattle.image.specs.Bytes.{Second, counts_bytes, version_bytes}
use Rattle.image_format.specs.Numbers.{name_bytes}
use Rattle.image.specs.Raw.{image_of}
use Rattle.image.proofs.Chain.{after}
use Rattle.image.proofs.image.put_head.Goals as goal

pub returns : goal.returns
returns c =
    let name = name_bytes c.args.image.now.program in
    let counts = counts_bytes c.args.image.now.names (image_of c.args.image.now) in
    let version = version_bytes Second c.args.image.now.overhead in
    let end = c.put_name.new.out.items in
    after (codes "RTEU") (version ++ (counts ++ name)) c.args.out.now.items c.extend_from_slice.new.self.items end c.in_ok-extend_from_slice.ensures.items
    (after version (counts ++ name) c.extend_from_slice.new.self.items c.put_version.new.out.items end c.in_ok-put_version.ensures
    (after counts name c.put_version.new.out.items c.put_counts.new.out.items end c.in_ok-put_counts.ensures c.in_ok-put_name.ensures))
