-- The laws joined.
use Rattle.codegen_law.proofs.SoundLemmas.{well_formed_programs_are_sound}
use Rattle.codegen_law.proofs.Program.{made_has_its_length, made_is_code}
use Rattle.codegen_law.proofs.Whole.{well_formed_fits}
use Rattle.built_image_law.specs.Generated.{GeneratedIsCode, GeneratedHasItsLength}

pub generated_is_code : GeneratedIsCode
generated_is_code g m small holds = made_is_code g m (well_formed_programs_are_sound g small.form small.names) (well_formed_fits g small.form small.frames small.code) holds

pub generated_has_its_length : GeneratedHasItsLength
generated_has_its_length g form names = made_has_its_length g (well_formed_programs_are_sound g form names)
