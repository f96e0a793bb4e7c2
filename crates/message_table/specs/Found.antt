-- What is wrong with a line of a table, and where.
use Rattle.std.specs.Prelude.{ℕ, length}
use Rattle.message_table.specs.declared.fault.Fault.{Fault}
use Rattle.message_table.specs.declared.fault.Fault.TheVariants as fault
use Rattle.message_table.specs.declared.fault.FormFault.{FormFault}
use Rattle.message_table.specs.declared.fault.Found.{Found}
use Rattle.message_table.specs.declared.fault.NameFault.{NameFault}
use Rattle.message_table.specs.declared.fault.TicksFault.{TicksFault}
use Rattle.message_table.specs.Marks.{Mark}

abbrev pub found : (column width : ℕ) → Fault → Found
found column width wrong = record { column = column; width = width; fault = wrong }

-- at a word
abbrev pub found_at : Mark → Fault → Found
found_at mark wrong = found mark.column (length mark.word) wrong

-- of the form of a line
abbrev pub form : (column width : ℕ) → FormFault → Found
form column width wrong = found column width (fault.Form wrong)

-- what is wrong with a name, and with ticks
abbrev pub name_fault : NameFault → Fault
name_fault wrong = fault.Name wrong

abbrev pub ticks_fault : TicksFault → Fault
ticks_fault wrong = fault.Ticks wrong

-- nothing that is known
abbrev pub unknown : Found
unknown = found 1 0 fault.Unknown
