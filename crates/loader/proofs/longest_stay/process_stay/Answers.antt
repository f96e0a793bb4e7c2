use Rattle.std.proofs.Common.{◌+◌, ◌∙◌, ap, length, get_or, []}
use Rattle.image.specs.Raw.{image_of}
use Rattle.valid_image.specs.Pieces.{called}
use Rattle.loader.proofs.Deadlines.{process_calls_there, stay_by_rows}
use Rattle.loader.proofs.longest_stay.process_stay.Goals as goal

pub returns : goal.returns
returns c =
    let there = process_calls_there c.args.image.now c.args.calls.now c.args.number c.requires.calls c.requires.there in
    stay_by_rows c.args.image.now c.args.monitor c.args.number c.args.row.now c.of_piece.result.now c.longest.result c.requires.rows (c.of_piece.ensures ∙ (ap (λ n. get_or c.args.calls.now (n + c.args.number) []) c.len.ensures ∙ c.requires.calls.each (length c.args.image.now.routines + c.args.number) there)) c.longest.ensures
