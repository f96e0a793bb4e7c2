-- The example is well formed, and so it is sound.
use Rattle.std.specs.Prelude.{◌≡◌, length}
use Rattle.std.proofs.Common.{refl}
use Rattle.source_semantics_law.specs.Example.{signalled_wait}
use Rattle.code_spec.specs.Numbering.{visit, numbered}
use Rattle.examples_law.proofs.RuledExample.{example_meets}
use Rattle.examples_law.specs.SoundExample.{ExampleIsSound}
use Rattle.codegen_law.proofs.SoundLemmas.{routines_have_numbers, well_formed_programs_are_sound}

two : length (numbered signalled_wait) ≡ 2
unfolding numbered visit
two = refl

pub example_is_sound : ExampleIsSound
example_is_sound =
    let m = example_meets 0 in
    (well_formed_programs_are_sound signalled_wait m.0 m.1, routines_have_numbers signalled_wait m.0 m.1, two)
