use Rattle.std.proofs.Common.{◌≡◌, ◌<◌, ◌-◌, ◌++◌, ℕ, length, get_or, []}
use Rattle.image.specs.Raw.{image_of}
use Rattle.valid_image.specs.Pieces.{pieces}
use Rattle.loader_code.specs.Owned.{owned, owned_from}
use Rattle.loader_code.proofs.Sweeping.{owner_before}
use Rattle.loader_code.proofs.sweep.addresses_by_piece.Given as goal

abbrev pub invariant-loop-address : goal.invariant-loop-address
invariant-loop-address l = record {
  one_each : length l.all.items ≡ length (pieces (image_of l.image));
  owner : l.owner ≡ owner_before (image_of l.image) l.address;
  each : (k : ℕ) → k < length l.all.items → get_or l.all.items k [] ++ owned_from (image_of l.image) k (length l.image.code - l.address) l.address ≡ owned (image_of l.image) k;
}
