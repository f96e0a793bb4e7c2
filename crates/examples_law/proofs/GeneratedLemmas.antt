-- The laws joined.
use Rattle.examples_law.proofs.RuledExample.{example_meets}
use Rattle.examples_law.proofs.MadeWholeMeeting.{example_holds}
use Rattle.examples_law.proofs.MadeFitsMeeting.{example_fits}
use Rattle.examples_law.specs.Generated.{ExampleIsGenerated}

pub example_is_generated : ExampleIsGenerated
example_is_generated = (record { form = example_fits.form; names = (example_meets 0).1; frames = example_fits.frames; code = example_fits.code }, example_holds.holds)
