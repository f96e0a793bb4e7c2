use Rattle.compile_image.proofs.names.image_names.Goals as goal

pub names_of_parts-requires : goal.names_of_parts-requires
names_of_parts-requires c = record { directory = c.in-Ok.ensures; few = c.requires.few }
