-- The ranks and ceilings of an image are those of the meaning of its program.
use Rattle.std.specs.Prelude.{◌≡◌, ℕ, unwrap_or}
use Rattle.syntax_tree.specs.Plain.{Program}
use Rattle.source_semantics.specs.Ranks.{rank, ceiling}
use Rattle.machine_semantics.specs.Image.{Image}
use Rattle.valid_image.specs.Times.{rank_of, ceiling_of}
use Rattle.code_spec.specs.Compiled.{IsCodeOf}
use Rattle.static_semantics.specs.WellFormed.{IsWellFormed}
use Rattle.codegen_law.specs.Ruled.{NamesApart}

-- The law: the rank that validity asks of a process is that of the meaning.
abbrev pub RanksAreOfTheMeaning : Type 0
RanksAreOfTheMeaning = (g : Program) (m : Image) → IsCodeOf g m → (k : ℕ) → rank_of m k ≡ rank g k

-- The law: the ceiling that it asks of a monitor is that of the meaning, with 65535 for none.
abbrev pub CeilingsAreOfTheMeaning : Type 0
CeilingsAreOfTheMeaning = (g : Program) (m : Image) → IsWellFormed g → NamesApart g → IsCodeOf g m → (j : ℕ) → ceiling_of m j ≡ unwrap_or (ceiling g j) 65535
