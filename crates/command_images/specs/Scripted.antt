-- What is due of a script's text, where an image that was stored is to be run over it: its log.
use Rattle.std.specs.Prelude.{ℕ, List, [], None}
use Rattle.image.specs.Named.{NamedImage}
use Rattle.script.specs.declared.script.Script.{Script}
use Rattle.command_due.specs.CommandsDue.{Outcome}
use Rattle.command_answers.specs.Scripted.{ran, IsRunOver}

abbrev pub image_run : NamedImage → Script → Outcome
image_run n script = ran [] None n script.lines script.end

abbrev pub IsImageRunDue : NamedImage → (text : List ℕ) → Outcome → Type 0
IsImageRunDue n = IsRunOver [] None n
