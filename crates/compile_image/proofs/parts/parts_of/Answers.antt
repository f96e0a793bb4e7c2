use Rattle.compile_image.proofs.parts.parts_of.Goals as goal

pub parts_by_tables-requires : goal.parts_by_tables-requires
parts_by_tables-requires c = record { tables = c.in-Ok.ensures; over = c.requires.over; fits = c.requires.fits }
