-- Programs that files hold.
use Rattle.std.specs.Prelude.{◌≡◌, ◌≤◌, ◌^◌, ℕ, List, length}
use Rattle.syntax_tree.specs.declared.place.Place.{Place}
use Rattle.syntax_tree.specs.Placed.{Prog, placed, plain}
use Rattle.image.specs.declared.names.ImageNames.{ImageNames}
use Rattle.built_image.specs.Named.{names_of}
use Rattle.event_log.specs.Logs.{AreFew}
use Rattle.command_due.specs.Source.{IsWritten}
use Rattle.replay.specs.declared.sources.Source.{Source}

-- the names of the parts of the program, few enough for a log and for a script
pub record AreNamesFor (g : Prog Place) (names : ImageNames) : Type 0 where
  pub same : names ≡ names_of (plain g)
  pub few : AreFew names
  pub events : length names.events ≤ 2 ^ 16

-- the text is that of the program, which keeps to all rules and is not too large, and these are its
-- names
pub record IsSourceOf (text : List ℕ) (source : Source) : Type 0 where
  pub written : IsWritten text (placed source.program)
  pub names : AreNamesFor (placed source.program) source.names

-- of the text that it was read from
abbrev pub IsSource : Source → Type 0
IsSource source = IsSourceOf source.text.now source
