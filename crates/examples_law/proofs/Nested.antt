-- Callees come first.
use Rattle.std.proofs.Common.{refl}
use Rattle.code_spec.specs.Numbering.{numbered, visit}
use Rattle.examples_law.specs.Nested.{CalleesFirst}

pub callees_first : CalleesFirst
unfolding numbered visit
callees_first = refl
