-- What is said of what is wrong.
use Rattle.std.specs.Prelude.{ℕ, List, [], ◌++◌, codes, find, Option, Some, None, option_map, unwrap_or}
use Rattle.message_text.specs.Words.{quoted}
use Rattle.syntax_tree.specs.Plain.{Name}
use Rattle.syntax_tree.specs.Placed.{Routine}
use Rattle.syntax_tree.specs.Parts.{same_place}
use Rattle.syntax_tree.specs.declared.place.Place.{Place}
use Rattle.message_conduct.specs.declared.stray.Word.{Word}
use Rattle.message_conduct.specs.declared.stray.Word.TheVariants as word_is
use Rattle.message_conduct.specs.Faults.{Deed, calls_entry, calls_procedure, moves, changes, Fault, outside_entry, entry_inside, procedure_inside, by_function, as_statement, no_value, outside_loop, out_device, in_device}

-- the name of the routine whose name stands at the place
abbrev pub name_at : Place → List (Routine Place) → Option Name
name_at place rs = option_map (λ r. r.name) (find (λ r. same_place r.place place) rs)

abbrev pub spelled : Word → List ℕ
spelled word_is.Wait = codes "wait"
spelled word_is.Signal = codes "signal"
spelled word_is.Broadcast = codes "broadcast"
spelled word_is.Empty = codes "empty"

-- a routine as it is called, an entry behind its monitor
abbrev pub called : (monitor : Option Name) → (name : Name) → List ℕ
called None name = name
called (Some monitor) name = monitor ++ (codes "." ++ name)

-- a name among some words
abbrev pub among : (before name behind : List ℕ) → List ℕ
among before name behind = before ++ (quoted name ++ behind)

-- what is said of a function that does it
abbrev pub denied : Deed → List ℕ
denied calls_entry = codes "calls no entry"
denied calls_procedure = codes "calls no procedure"
denied moves = codes "has neither `get` nor `put`"
denied (changes name) = among (codes "changes no ") name []

-- what is said of what is wrong in a program of these routines
abbrev pub sentence : List (Routine Place) → Fault → List ℕ
sentence rs (outside_entry word) = among [] (spelled word) (codes " stands outside an entry")
sentence rs entry_inside = codes "inside an entry no entry is called"
sentence rs procedure_inside = codes "inside an entry no procedure is called"
sentence rs (by_function own deed) = among (codes "the function ") (unwrap_or (name_at own rs) []) (codes ", being no entry, " ++ denied deed)
sentence rs (as_statement monitor name) = among (codes "the function ") (called monitor name) (codes " stands as a statement")
sentence rs (no_value monitor name) = among [] (called monitor name) (codes " is a procedure and gives no value")
sentence rs outside_loop = codes "`exit` stands outside a loop"
sentence rs (out_device name) = among (codes "`get` takes from an `in` device; ") name (codes " is an `out` device")
sentence rs (in_device name) = among (codes "`put` gives to an `out` device; ") name (codes " is an `in` device")
