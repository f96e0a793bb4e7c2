use Rattle.std.proofs.Common.{◌∙◌}
use Rattle.image.specs.Raw.{image_of}
use Rattle.loader_code.specs.Told.{told}
use Rattle.loader_code.specs.Seen.{whose_of}
use Rattle.loader_code.proofs.Faults.{piece_fault}
use Rattle.loader_code.proofs.fault.fault_in_piece.Goals as goal

pub returns : goal.returns
returns c = piece_fault (image_of c.args.image.now) c.args.piece (whose_of c.args.whose) c.of_piece.result.now (told c.fault_among.result)
    (c.of_piece.ensures ∙ c.requires.addresses.each c.args.piece c.requires.piece) c.fault_among.ensures
