use Rattle.std.proofs.Common.{◌∙◌, ap, get_or}
use Rattle.loader.proofs.Deadlines.{stay_next}
use Rattle.loader.proofs.longest_stay.next_stay.Goals as goal
use Rattle.loader_code.proofs.Faults.{calls_there}

pub of_piece-requires : goal.of_piece-requires
of_piece-requires c = calls_there c.args.image.now c.args.calls.now c.args.number c.requires.calls c.requires.there

pub returns : goal.returns
returns c =
    let there = calls_there c.args.image.now c.args.calls.now c.args.number c.requires.calls c.requires.there in
    stay_next c.args.image.now c.args.monitor c.args.number c.index-as_slice-number.result c.args.row.now c.of_piece.result.now c.own_stay-own.result c.longest.result c.longer.result c.requires.there (c.index-as_slice-number.is ∙ ap (λ xs. get_or xs c.args.number c.index-as_slice-number.result) c.as_slice.ensures) c.requires.rows
    (c.of_piece.ensures ∙ c.requires.calls.each c.args.number there) c.own_stay-own.ensures c.longest.ensures c.longer.ensures
