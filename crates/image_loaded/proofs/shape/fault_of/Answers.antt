use Rattle.std.proofs.Common.{sym, ◌∙◌}
use Rattle.image.specs.Raw.{image_of}
use Rattle.image_loaded.proofs.Faultless.{faultless, none_before}
use Rattle.image_loaded.proofs.shape.fault_of.Goals as goal

pub unreachable-requires : goal.unreachable-requires
unreachable-requires c =
    let m = image_of c.args.raw in
    c.requires.before (none_before m (faultless m (sym c.in-Ok-None.ensures ∙ c.in-Ok-None.field-0-is)))
