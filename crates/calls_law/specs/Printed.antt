-- What is due of calls on the text that `print` has put.
use Rattle.std.specs.Prelude.{◌≡◌, ◌≤◌, ◌↔◌, ℕ, List, Option, Some, length}
use Rattle.syntax.specs.Tokens.{longest_text}
use Rattle.syntax_tree.specs.declared.place.Place.{Place}
use Rattle.syntax_tree.specs.Placed.{Prog}
use Rattle.syntax_tree.specs.Bare.{bare}
use Rattle.command_due.specs.Source.{IsWritten, Style}
use Rattle.command_due.specs.CommandsDue.{IsCompileDue, IsGoDue, IsPrintDue, IsReportDue, Outcome, told}
use Rattle.calls_law.specs.Due.{IsOnly}

-- `print` of the text puts another, which is no longer than a text may be
pub record Prints (text other : List ℕ) : Type 0 where
  pub prints : IsPrintDue text (told 0 other)
  pub short : length other ≤ longest_text

-- both are program texts, and their trees are the same apart from places
pub record HaveOneProgram (text other : List ℕ) : Type 0 where
  pub one : Prog Place
  pub two : Prog Place
  pub of_one : IsWritten text one
  pub of_two : IsWritten other two
  pub same : bare one ≡ bare two

-- The law: the text that is put is that of the same program.
abbrev pub PrintedTextsHaveTheProgram : Type 0
PrintedTextsHaveTheProgram = (text other : List ℕ) → Prints text other → HaveOneProgram text other

-- The law: what is due of `check` and of `json` of the one is due of the other, with any overhead.
abbrev pub PrintThenReportIsTheSame : Type 0
PrintThenReportIsTheSame =
    (show : Style) (over : ℕ) (text other : List ℕ) (outcome : Outcome) → Prints text other
    → (IsReportDue show over text outcome ↔ IsReportDue show over other outcome)

-- The law: so is what is due of `compile`: the same report and image.
abbrev pub PrintThenCompileIsTheSame : Type 0
PrintThenCompileIsTheSame =
    (over : ℕ) (text other : List ℕ) (outcome : Outcome) → Prints text other → (IsCompileDue over text outcome ↔ IsCompileDue over other outcome)

-- The law: and of `go`, over any script: the same report, log and image.
abbrev pub PrintThenGoIsTheSame : Type 0
PrintThenGoIsTheSame =
    (over : ℕ) (text other : List ℕ) (script : Option (List ℕ)) (outcome : Outcome) → Prints text other
    → (IsGoDue over (Some text) script outcome ↔ IsGoDue over (Some other) script outcome)

-- The law: and `print` puts it again, and nothing else.
abbrev pub PrintThenPrintKeeps : Type 0
PrintThenPrintKeeps = (text other : List ℕ) → Prints text other → IsOnly (IsPrintDue other) (told 0 other)
