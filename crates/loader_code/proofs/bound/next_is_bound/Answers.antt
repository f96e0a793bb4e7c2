use Rattle.std.proofs.Common.{◌∙◌}
use Rattle.image.specs.Raw.{image_of}
use Rattle.loader_code.proofs.Faults.{bound_itself, bound_calls, calls_there}
use Rattle.loader_code.proofs.bound.next_is_bound.Goals as goal

pub of_piece-requires : goal.of_piece-requires
of_piece-requires c = calls_there c.args.image.now c.args.calls.now c.args.number c.requires.calls c.requires.there

pub returns-then-as_slice-number-ne0 : goal.returns-then-as_slice-number-ne0
returns-then-as_slice-number-ne0 c =
    bound_itself c.args.image.now c.as_slice.result.now c.args.number c.index-as_slice-number.result c.args.bounds.now c.as_slice.ensures c.requires.there c.requires.rows (λ z. c.if-as_slice-number-ne0.true z)

pub returns : goal.returns
returns c =
    bound_calls c.args.image.now c.as_slice.result.now c.args.number c.index-as_slice-number.result c.args.bounds.now c.of_piece.result.now c.some_is_bound.result c.as_slice.ensures c.requires.there c.requires.rows c.if-as_slice-number-ne0.false
    (c.of_piece.ensures ∙ c.requires.calls.each c.args.number (calls_there c.args.image.now c.args.calls.now c.args.number c.requires.calls c.requires.there)) c.some_is_bound.ensures
