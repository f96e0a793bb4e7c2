-- The laws on a program with a monitor, a wait, a signal and a handler.
use Rattle.std.specs.Prelude.{◌≡◌, length}
use Rattle.source_semantics_law.specs.Example.{signalled_wait}
use Rattle.code_spec.specs.Numbering.{numbered}
use Rattle.codegen_law.specs.Numbered.{AreNumbered}
use Rattle.code_measures.specs.Declared.{IsSound}

-- The law: it is sound, its routines are numbered, and these are its two entries.
abbrev pub ExampleIsSound : Type 0
ExampleIsSound = IsSound signalled_wait × AreNumbered signalled_wait × (length (numbered signalled_wait) ≡ 2)
