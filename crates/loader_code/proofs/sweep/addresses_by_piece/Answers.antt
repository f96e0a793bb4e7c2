use Rattle.std.proofs.Common.{arith, ◌≡◌, ◌<◌, ◌+◌, ◌∙◌, sym, ap, ℕ, length, get_or, None, []}
use Rattle.image.specs.Raw.{image_of}
use Rattle.loader_code.proofs.Sweeping.{owner_found, owner_on, owner_low, swept}
use Rattle.loader_code.proofs.sweep.addresses_by_piece.Goals as goal

pub give-requires : goal.give-requires
give-requires c =
    let image = image_of c.args.image.now in
    owner_low image c.loop-address.address (length c.loop-address.all.items) c.next_owner-owner.result (sym c.loop-address.invariant.one_each)
    (owner_found image c.as_slice.result.now c.in_ok-marks.marks.items c.as_slice-in-loop-address.result.now c.len-length.result c.loop-address.address c.loop-address.owner c.next_owner-owner.result
    (c.as_slice.ensures.value ∙ c.in_ok-starts.ensures) c.in_ok-marks.ensures c.as_slice-in-loop-address.ensures.value (omega arith) c.loop-address.invariant.owner c.next_owner-owner.ensures)

pub loop-address-preserved : goal.loop-address-preserved
loop-address-preserved c =
    let image = image_of c.args.image.now in
    let is = owner_found image c.as_slice.result.now c.in_ok-marks.marks.items c.as_slice-in-loop-address.result.now c.len-length.result c.loop-address.address c.loop-address.owner c.next_owner-owner.result
    (c.as_slice.ensures.value ∙ c.in_ok-starts.ensures) c.in_ok-marks.ensures c.as_slice-in-loop-address.ensures.value (omega arith) c.loop-address.invariant.owner c.next_owner-owner.ensures in
    record {
      one_each = c.in_ok-give.ensures.one_each ∙ c.loop-address.invariant.one_each;
      owner = owner_on image c.loop-address.address c.next_owner-owner.result is;
      each = λ k low.
          let there : k < length c.loop-address.all.items = omega (arith, low, c.in_ok-give.ensures.one_each) in
          swept image k c.loop-address.address c.next_owner-owner.result (get_or c.loop-address.all.items k []) (get_or c.give.new.all.items k []) (omega arith) is (c.loop-address.invariant.each k there) (c.in_ok-give.ensures.each k there);
    }
