-- The example meets the premises.
use Rattle.std.proofs.Common.{◌≡◌, ◌≤◌, refl, arith}
use Rattle.source_semantics_law.specs.Example.{signalled_wait}
use Rattle.code_spec.specs.Layout.{routine_words}
use Rattle.code_spec.specs.Numbering.{numbered, visit, number_of}
use Rattle.code_cost_spec.specs.Levels.{code_length}
use Rattle.examples_law.proofs.Small.{signalled_wait_fits}
use Rattle.code_measures.proofs.Meeting.{both}
use Rattle.codegen_law.specs.Fitting.{FramesFit, ExampleFits}

frames : FramesFit signalled_wait
unfolding numbered visit number_of
frames = both (numbered signalled_wait) (λ r t. routine_words signalled_wait t.routine ≤ 2147483647) _ _ refl refl (λ k. refl) (omega arith) (omega arith)

short : code_length signalled_wait ≤ 65535
unfolding numbered visit number_of
short = let e : code_length signalled_wait ≡ 16 = refl in omega arith

pub example_fits : ExampleFits
example_fits = record { form = signalled_wait_fits; frames = frames; code = short }
