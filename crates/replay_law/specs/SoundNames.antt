-- Programs whose names tell events without doubt.
use Rattle.std.specs.Prelude.{ℕ, List}
use Rattle.syntax_tree.specs.Placed.{Prog, plain}
use Rattle.syntax_tree.specs.declared.place.Place.{Place}
use Rattle.front_end.specs.Program.{IsProgramOf}
use Rattle.built_image.specs.Named.{names_of}
use Rattle.event_log.specs.LogReading.{AreUnambiguous}

-- The law: so are the names of the parts of the program of a text.
abbrev pub NamesOfProgramsAreSound : Type 0
NamesOfProgramsAreSound = (text : List ℕ) (g : Prog Place) → IsProgramOf text g → AreUnambiguous (names_of (plain g))
