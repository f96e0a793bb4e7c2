-- What the plan has of a routine.
use Rattle.machine_semantics.specs.Image.{Routine}
use Rattle.vm_instructions.specs.declared.calls.RoutineHeader.{RoutineHeader as Called}

-- what a call needs to know of a routine
abbrev pub called_of : Routine → Called
called_of r = record { params = r.params; locals = r.locals; start = r.start }
