use Rattle.built_image_law.proofs.BuiltTables.{tables_are_named}
use Rattle.built_image_law.proofs.named_rows.tables_are_named.Goals as goal

pub returns : goal.returns
returns c = tables_are_named
