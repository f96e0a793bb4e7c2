use Rattle.std.proofs.Common.{◌≡◌, ◌+◌, ◌*◌, Some, None, sym, ap, ◌∙◌}
use Rattle.image_bytes.specs.Places.{instrs_at}
use Rattle.image_bytes.proofs.Addresses.{ends_within, same_standing, standing}
use Rattle.image_bytes.proofs.image_bytes_image.ImageBytes.instr.Goals as goal

pub instr_bytes_at-requires : goal.instr_bytes_at-requires
instr_bytes_at-requires c =
    let bytes : c.self.inside.bytes.items ≡ c.as_slice-bytes.result.now = cc in
    let whole : instrs_at c.self.inside.bytes.items c.self.inside.places.code c.self.inside.places.instructions ≡ c.args.self.now.image.code = ap (λ n. n.image.code) c.self.view_is in
    let s = standing c.as_slice-bytes.result.now c.self.inside.places.code c.args.self.now.image.code c.args.at (same_standing c.self.inside.places.code bytes whole c.self.invariant.begin.code) c.requires in
    ends_within c.as_slice-bytes.result.now (c.self.inside.places.code + 13 * c.args.at) s.instr s.bytes_are

pub unreachable-requires : goal.unreachable-requires
unreachable-requires c =
    let bytes : c.self.inside.bytes.items ≡ c.as_slice-bytes.result.now = cc in
    let whole : instrs_at c.self.inside.bytes.items c.self.inside.places.code c.self.inside.places.instructions ≡ c.args.self.now.image.code = ap (λ n. n.image.code) c.self.view_is in
    let s = standing c.as_slice-bytes.result.now c.self.inside.places.code c.args.self.now.image.code c.args.at (same_standing c.self.inside.places.code bytes whole c.self.invariant.begin.code) c.requires in
    let found : None ≡ Some s.instr = sym c.in-None.is ∙ c.read_instr.ensures.only s.instr s.words (c.instr_bytes_at.ensures ∙ s.bytes_are) in
    cc

pub returns : goal.returns
returns c =
    let bytes : c.self.inside.bytes.items ≡ c.as_slice-bytes.result.now = cc in
    let whole : instrs_at c.self.inside.bytes.items c.self.inside.places.code c.self.inside.places.instructions ≡ c.args.self.now.image.code = ap (λ n. n.image.code) c.self.view_is in
    let s = standing c.as_slice-bytes.result.now c.self.inside.places.code c.args.self.now.image.code c.args.at (same_standing c.self.inside.places.code bytes whole c.self.invariant.begin.code) c.requires in
    s.there ∙ sym (c.read_instr.ensures.only s.instr s.words (c.instr_bytes_at.ensures ∙ s.bytes_are)) ∙ c.in-Some.is
