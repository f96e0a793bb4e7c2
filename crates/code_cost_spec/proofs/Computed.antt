-- The example, computed.
use Rattle.std.proofs.Common.{refl}
use Rattle.code_spec.specs.Numbering.{numbered, visit, number_of}
use Rattle.code_cost_spec.specs.Levels.{calls_at}
use Rattle.code_cost_spec.specs.Example.{ExampleIs}

pub example_is : ExampleIs
unfolding numbered visit number_of calls_at
example_is = record { routines = refl; stays = refl; bodies = refl; stacks = refl; length = refl }
