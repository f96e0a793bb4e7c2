-- Parts that are read as they are written, whatever follows.
use Rattle.std.specs.Prelude.{◌≡◌, ◌++◌, ℕ, true, List, Ok, Option, Some, None}
use Rattle.image_format.specs.Format.{Format}
use Rattle.image_format.specs.Numbers.{u16, u32}
use Rattle.image_format.specs.TreeBytes.{tree_bytes}
use Rattle.image.specs.Bytes.{Second, handler_bytes, numbers_bytes, release_bytes, room_bytes, routine_bytes, time_bytes}
use Rattle.image_bytes.specs.Fields.{process_fields, routine_fields, tree_fields}
use Rattle.image_reader.specs.Grammar.{monitor_format}
use Rattle.machine_semantics.specs.Image.{Monitor, Process, Routine}
use Rattle.machine_semantics.specs.Trees.{Segs}

-- a process after its name
abbrev pub numbered_bytes : Process → List ℕ
numbered_bytes p = release_bytes Second p ++ (time_bytes p ++ (room_bytes p ++ (numbers_bytes p.numbers ++ (tree_bytes p.body ++ handler_bytes p.numbers p.handler_tree))))

-- a monitor after its name
abbrev pub guarded_bytes : Monitor → List ℕ
guarded_bytes m = u32 m.base ++ (u32 m.words ++ u16 m.ceiling)

-- the bytes are read as the thing, whatever follows
abbrev pub IsReadFrom : {A : Type 0} → Format A → List ℕ → A → Type 0
IsReadFrom f bytes x = (rest : List ℕ) → f.read (bytes ++ rest) ≡ Ok (x, rest)

abbrev pub RoutineIsRead : Routine → Type 0
RoutineIsRead r = IsReadFrom routine_fields (routine_bytes r) r

abbrev pub ProcessIsRead : Process → Type 0
ProcessIsRead p = IsReadFrom process_fields (numbered_bytes p) p

abbrev pub MonitorIsRead : Monitor → Type 0
MonitorIsRead m = IsReadFrom monitor_format (guarded_bytes m) m

-- the tree of a handler, where there is one, has numbers that fit their fields
abbrev pub FitsWhereThere : Option Segs → Type 0
FitsWhereThere None = Unit {0}
FitsWhereThere (Some tree) = tree_fields.is tree ≡ true
