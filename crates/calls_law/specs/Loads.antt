-- What is due of `go` on what `make` has stored.
use Rattle.std.specs.Prelude.{◌≡◌, ◌≢◌, ◌+◌, ◌*◌, ◌/◌, ℕ, true, List, Some, length}
use Rattle.outside.specs.Outside.{Outside, Appends}
use Rattle.command_words.specs.Calls.{Load}
use Rattle.load.specs.Program.{program_text}
use Rattle.load.specs.Script.{script_text}
use Rattle.load.specs.Summary.{mark_of, summary}
use Rattle.command_due.specs.CommandsDue.{IsGoDue}
use Rattle.command.specs.Due.{IsSummary, lines_in}
use Rattle.command.specs.Made.{Made}
use Rattle.calls_law.specs.Due.{Goes, IsOnly, gone}

-- what is due of `go` on the two texts is status 0; the line tells the number of instructions, and
-- of the log that `go` puts its lines, its bytes and its mark
pub record GoesAsTold (count : ℕ) (program script line : List ℕ) : Type 0 where
  pub report : List ℕ
  pub log : List ℕ
  pub image : List ℕ
  pub goes : Goes 0 program script report log image
  pub only : IsOnly (IsGoDue 0 (Some program) (Some script)) (gone report log image)
  pub told : line ≡ summary count (11 + 24 * count + count / 2) (lines_in log) (length log) (mark_of log)

-- The law: so it is of the texts of a load, and of the line that tells of it.
abbrev pub LoadsGoAsTold : Type 0
LoadsGoAsTold = (key count : ℕ) (line : List ℕ) → IsSummary key count line → GoesAsTold count (program_text key count) (script_text key count) line

-- a line was put, and the files hold a program and a script of which it tells
pub record GoesAsPut (load : Load) (before now : Outside) : Type 0 where
  pub program : List ℕ
  pub script : List ℕ
  pub program_held : now.files.held load.program ≡ Some program
  pub script_held : now.files.held load.script ≡ Some script
  pub line : List ℕ
  pub put : Appends before.out.taken now.out.taken line
  pub goes : GoesAsTold load.count program script line

-- The law: so it is after a call of `make` that answers 0, whose two files have two names.
abbrev pub MakeThenGoIsAsTold : Type 0
MakeThenGoIsAsTold =
    (load : Load) (before now : Outside) → Made true load before now 0 → load.program ≢ load.script → GoesAsPut load before now
