-- What contracts see of what is wrong.
use Rattle.std.specs.Prelude.{Option, option_map}
use Rattle.std.specs.Borrow.{Bor}
use Rattle.syntax_tree.specs.Plain.{Name}
use Rattle.message_conduct.specs.declared.stray.Deed as code_deed
use Rattle.message_conduct.specs.declared.stray.Deed.TheVariants as deed_is
use Rattle.message_conduct.specs.declared.stray.Stray as code_stray
use Rattle.message_conduct.specs.declared.stray.Stray.TheVariants as stray_is
use Rattle.message_conduct.specs.Faults.{Deed, calls_entry, calls_procedure, moves, changes, Fault, outside_entry, entry_inside, procedure_inside, by_function, as_statement, no_value, outside_loop, out_device, in_device}

abbrev pub deed : code_deed.Deed → Deed
deed deed_is.CallsEntry = calls_entry
deed deed_is.CallsProcedure = calls_procedure
deed deed_is.Moves = moves
deed (deed_is.Changes name) = changes name.now

abbrev pub monitor_name : Option (Bor Name) → Option Name
monitor_name monitor = option_map (λ name. name.now) monitor

abbrev pub fault : code_stray.Stray → Fault
fault (stray_is.OutsideEntry word) = outside_entry word
fault stray_is.EntryInside = entry_inside
fault stray_is.ProcedureInside = procedure_inside
fault (stray_is.ByFunction own done) = by_function own (deed done)
fault (stray_is.AsStatement monitor name) = as_statement (monitor_name monitor) name.now
fault (stray_is.NoValue monitor name) = no_value (monitor_name monitor) name.now
fault stray_is.OutsideLoop = outside_loop
fault (stray_is.OutDevice name) = out_device name.now
fault (stray_is.InDevice name) = in_device name.now

-- what is wrong, if something is
abbrev pub seen : Option code_stray.Stray → Option Fault
seen stray = option_map fault stray
