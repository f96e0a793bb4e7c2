-- The canonical text of a program.
use Rattle.std.specs.Prelude.{◌≡◌, ◌≤◌, ℕ, List, length}
use Rattle.syntax.specs.Tokens.{longest_text}
use Rattle.syntax_tree.specs.declared.place.Place.{Place}
use Rattle.syntax_tree.specs.Placed.{Prog}
use Rattle.syntax_tree.specs.Bare.{bare}
use Rattle.syntax_printer.specs.Canonical.{canonical}
use Rattle.command_due.specs.Source.{IsWritten, IsWrittenAgain}

-- The law: where it is no longer than a text may be, it is that of a program with the same tree,
-- apart from places.
abbrev pub PrintedTreesAreWritten : Type 0
PrintedTreesAreWritten = (text : List ℕ) (g : Prog Place) → IsWritten text g → length (canonical (bare g)) ≤ longest_text → IsWrittenAgain g
