use Rattle.std.proofs.Common.{◌≡◌, ap, sym, ◌∙◌}
use Rattle.std.proofs.lemmas.Result.{IfOk-weaker}
use Rattle.image.specs.Raw.{image_of}
use Rattle.valid_image.specs.Fault.{or_else}
use Rattle.faulty_part.specs.Parts.{part_fault}
use Rattle.validity_parts.proofs.Needs.{in_order}
use Rattle.validity_parts.specs.Found.{after_operands}
use Rattle.validity_parts.proofs.whole.first_part.Goals as goal

pub returns-in-None : goal.returns-in-None
returns-in-None c =
    let image = image_of c.args.raw.now in
    IfOk-weaker c.fault_behind_operands.result (λ found. found ≡ after_operands image) (λ found. found ≡ part_fault image) (λ found is. is ∙ ap (λ o. or_else o (after_operands image)) (sym c.in-None.is ∙ c.in_ok-fault.ensures) ∙ in_order image) c.fault_behind_operands.ensures
