-- What the code holds, as the definitions have it.
use Rattle.std.specs.Prelude.{map}
use Rattle.message_table.specs.Counts as counts
use Rattle.message_table.specs.Marks.{Mark, mark}
use Rattle.message_table.specs.Names as names
use Rattle.message_table.specs.declared.counts.Room.{Room}
use Rattle.message_table.specs.declared.mark.Marked.{Marked}
use Rattle.message_table.specs.declared.names.Names.{Names}

-- a word
abbrev pub mark_of : Marked → Mark
mark_of m = mark m.line m.column m.word.now m.role

-- the names so far
abbrev pub names_of : Names → names.Names
names_of n = record { tasks = map mark_of n.tasks.items; monitors = map mark_of n.monitors.items }

-- the room that is left
abbrev pub room_of : Room → counts.Room
room_of r = counts.room r.processes r.stays (map (λ monitor. monitor.now) r.monitors.items)
