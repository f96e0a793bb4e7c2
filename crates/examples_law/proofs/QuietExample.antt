-- What the example's entries reach.
use Rattle.std.proofs.Common.{refl}
use Rattle.code_spec.specs.Numbering.{visit, numbered}
use Rattle.built_image_law.specs.Quiet.{quiet_within, reaches_no_wait}
use Rattle.examples_law.specs.QuietExample.{ExampleReaches}

pub example_reaches : ExampleReaches
unfolding numbered visit reaches_no_wait quiet_within
example_reaches = refl
