-- What a program text comes to.
use Rattle.std.specs.Prelude.{◌≡◌, ◌++◌, ℕ, List, codes, decimal, map, Some}
use Rattle.syntax_tree.specs.declared.place.Place.{Place}
use Rattle.syntax_tree.specs.Placed.{Prog, plain}
use Rattle.syntax_tree.specs.Plain as plain_of
use Rattle.syntax_tree.specs.Bare.{bare}
use Rattle.syntax_printer.specs.Canonical.{canonical}
use Rattle.static_rule.specs.First.{IsFirst}
use Rattle.image.specs.declared.names.ImageNames.{ImageNames}
use Rattle.image.specs.Named.{NamedImage}
use Rattle.front_end.specs.Program.{IsProgramOf, IsProgramFault}
use Rattle.code_cost.specs.Rules.{SizeFails}
use Rattle.sched_table.specs.declared.table.Table.{Table}
use Rattle.built_image.specs.Built.{IsBuilt, IsLate}
use Rattle.built_image.specs.Named.{names_of}
use Rattle.built_image.specs.Shown.{IsTableOf, table_of}

-- the text is that of the program, which keeps to all rules and is not too large
pub record IsWritten (text : List ℕ) (g : Prog Place) : Type 0 where
  pub program : IsProgramOf text g
  pub fits : (number : ℕ) (place : Place) → ¬ SizeFails g number place

-- the canonical text of a program is that of a program with the same tree, apart from places
pub record IsWrittenAgain (g : Prog Place) : Type 0 where
  pub tree : Prog Place
  pub written : IsWritten (canonical (bare g)) tree
  pub same : bare tree ≡ bare g

-- the fault of a text: of its spelling, grammar, names and rules, or else that its program is too
-- large
pub data IsTextFault (text : List ℕ) (number : ℕ) (place : Place) : Type 0 where
  of_program : IsProgramFault text number place → IsTextFault text number place
  of_size : (g : Prog Place) → IsProgramOf text g → IsFirst (SizeFails g) (record { number = number; place = place }) → IsTextFault text number place

-- the line of a fault
abbrev pub fault_line : ℕ → Place → List ℕ
fault_line number place = codes "E" ++ (decimal number ++ (codes " " ++ (decimal place.line ++ (codes ":" ++ (decimal place.col ++ codes "\n")))))

-- ---- reports

-- how a table is shown: as text, or as JSON
abbrev pub Style : Type 0
Style = ImageNames → List ℕ → Table → List ℕ

-- the report of an image, whose bounds are declared
abbrev pub report_of : Style → NamedImage → List ℕ
report_of show n = show n.names n.program (table_of n.image (map (λ p. Some p.bound) n.image.processes))

-- the report of a program that is not timely
abbrev pub late_report : Style → plain_of.Program → Table → List ℕ
late_report show g t = show (names_of g) g.name t

-- ---- programs in time

-- the text is that of a timely program, and this is its image
pub record IsTimelyText (over : ℕ) (text : List ℕ) (n : NamedImage) : Type 0 where
  pub tree : Prog Place
  pub written : IsWritten text tree
  pub built : IsBuilt (plain tree) over n

-- the text is that of a program of which the recurrence of some process has no solution within its
-- deadline, and this is its report
pub record IsLateText (show : Style) (over : ℕ) (text report : List ℕ) : Type 0 where
  pub tree : Prog Place
  pub written : IsWritten text tree
  pub late : IsLate (plain tree) over
  pub table : Table
  pub tabled : IsTableOf (plain tree) over table
  pub shown : report ≡ late_report show (plain tree) table
