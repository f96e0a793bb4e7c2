use Rattle.std.proofs.Common.{◌≡◌, ◌<◌, ℕ, length, get_or, []}
use Rattle.image.specs.Raw.{image_of}
use Rattle.valid_image.specs.Pieces.{called}
use Rattle.loader_code.proofs.calls.calls_by_piece.Given as goal

abbrev pub invariant-loop-piece : goal.invariant-loop-piece
invariant-loop-piece l = record {
  one_each : length l.all.items ≡ l.piece;
  each : (k : ℕ) → k < l.piece → get_or l.all.items k [] ≡ called (image_of l.image) k;
}
