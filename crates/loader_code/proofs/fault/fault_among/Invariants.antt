use Rattle.std.proofs.Common.{◌≡◌, drop}
use Rattle.image.specs.Raw.{image_of}
use Rattle.loader_code.specs.Seen.{whose_of, fault_at, first_at}
use Rattle.loader_code.proofs.fault.fault_among.Given as goal

abbrev pub invariant-loop-address : goal.invariant-loop-address
invariant-loop-address l = first_at (fault_at (image_of l.image) (whose_of l.whose)) (drop l.address-index l.addresses) ≡ first_at (fault_at (image_of l.image) (whose_of l.whose)) l.addresses
