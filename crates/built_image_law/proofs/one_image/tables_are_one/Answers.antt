use Rattle.built_image_law.proofs.BuiltOnceTables.{tables_are_one}
use Rattle.built_image_law.proofs.one_image.tables_are_one.Goals as goal

pub returns : goal.returns
returns c = tables_are_one c.shapes_agree.ensures
