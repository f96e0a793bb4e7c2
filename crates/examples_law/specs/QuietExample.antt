-- The definition on a program with an entry that waits and one that signals.
use Rattle.std.specs.Prelude.{◌≡◌, true, false, [], ◌∷◌, map}
use Rattle.source_semantics_law.specs.Example.{signalled_wait}
use Rattle.code_spec.specs.Numbering.{numbered}
use Rattle.built_image_law.specs.Quiet.{reaches_no_wait}

-- The law: the first reaches a wait, the second none.
abbrev pub ExampleReaches : Type 0
ExampleReaches = map (reaches_no_wait signalled_wait) (numbered signalled_wait) ≡ false ∷ true ∷ []
