use Rattle.std.proofs.Common.{arith, ◌≡◌, ◌∙◌, []}
use Rattle.std.proofs.lemmas.Grind.{common_steps}
use Rattle.std.proofs.lemmas.List.{get_or_read}
use Rattle.base.proofs.Lists.{one_more}
use Rattle.image.specs.Raw.{image_of}
use Rattle.valid_image.specs.Pieces.{called}
use Rattle.loader_code.proofs.Sweeping.{piece_calls}
use Rattle.loader_code.proofs.calls.calls_by_piece.Goals as goal

pub loop-piece-preserved : goal.loop-piece-preserved
loop-piece-preserved c = record {
  one_each = grind (arith, common_steps);
  each = one_more (λ k x. x ≡ called (image_of c.args.image.now) k) c.loop-piece.all.items c.push.new.self.items c.in_ok-calls_at.field-0 [] c.loop-piece.piece c.loop-piece.invariant.one_each
      c.in_ok-push.ensures.items c.loop-piece.invariant.each
      (piece_calls (image_of c.args.image.now) c.loop-piece.piece c.as_slice.result.now c.as_slice-in-loop-piece.result.now c.in_ok-calls_at.field-0 c.as_slice.ensures
      (c.as_slice-in-loop-piece.ensures ∙ (get_or_read c.args.addresses.now c.loop-piece.piece _ (omega arith) c.index-addresses-piece.is [] ∙ c.requires.each c.loop-piece.piece (omega arith))) c.in_ok-calls_at.ensures);
}
