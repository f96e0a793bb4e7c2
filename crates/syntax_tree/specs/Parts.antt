-- The declarations of each kind in a program, in the order of the text, and the equality of places.
use Rattle.std.specs.Prelude.{Bool, ◌&&◌, List, [], ◌∷◌, ◌++◌, nat_eq}
use Rattle.syntax_tree.specs.declared.place.Place.{Place}
use Rattle.syntax_tree.specs.Placed.{Routine, Monitor, Process, Decl, constant, device, event, routine, monitor, process}

abbrev pub same_place : Place → Place → Bool
same_place p q = nat_eq p.line q.line && nat_eq p.col q.col

abbrev pub processes : {P : Type 0} → List (Decl P) → List (Process P)
processes [] = []
processes (constant name p c ∷ ds) = processes ds
processes (device name p is_out ∷ ds) = processes ds
processes (event name p ∷ ds) = processes ds
processes (routine r ∷ ds) = processes ds
processes (monitor m ∷ ds) = processes ds
processes (process p ∷ ds) = p ∷ processes ds

abbrev pub monitors : {P : Type 0} → List (Decl P) → List (Monitor P)
monitors [] = []
monitors (constant name p c ∷ ds) = monitors ds
monitors (device name p is_out ∷ ds) = monitors ds
monitors (event name p ∷ ds) = monitors ds
monitors (routine r ∷ ds) = monitors ds
monitors (monitor m ∷ ds) = m ∷ monitors ds
monitors (process p ∷ ds) = monitors ds

-- the routines that are declared by themselves
abbrev pub program_routines : {P : Type 0} → List (Decl P) → List (Routine P)
program_routines [] = []
program_routines (constant name p c ∷ ds) = program_routines ds
program_routines (device name p is_out ∷ ds) = program_routines ds
program_routines (event name p ∷ ds) = program_routines ds
program_routines (routine r ∷ ds) = r ∷ program_routines ds
program_routines (monitor m ∷ ds) = program_routines ds
program_routines (process p ∷ ds) = program_routines ds

-- all routines, those of processes and the entries of monitors among them
abbrev pub routines : {P : Type 0} → List (Decl P) → List (Routine P)
routines [] = []
routines (constant name p c ∷ ds) = routines ds
routines (device name p is_out ∷ ds) = routines ds
routines (event name p ∷ ds) = routines ds
routines (routine r ∷ ds) = r ∷ routines ds
routines (monitor m ∷ ds) = m.entries ++ routines ds
routines (process p ∷ ds) = p.routines ++ routines ds

-- the places of the names of the devices
abbrev pub devices : {P : Type 0} → List (Decl P) → List P
devices [] = []
devices (constant name p c ∷ ds) = devices ds
devices (device name p is_out ∷ ds) = p ∷ devices ds
devices (event name p ∷ ds) = devices ds
devices (routine r ∷ ds) = devices ds
devices (monitor m ∷ ds) = devices ds
devices (process p ∷ ds) = devices ds

-- the places of the names of the events
abbrev pub events : {P : Type 0} → List (Decl P) → List P
events [] = []
events (constant name p c ∷ ds) = events ds
events (device name p is_out ∷ ds) = events ds
events (event name p ∷ ds) = p ∷ events ds
events (routine r ∷ ds) = events ds
events (monitor m ∷ ds) = events ds
events (process p ∷ ds) = events ds
