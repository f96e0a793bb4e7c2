-- The texts of the parts of the program of a table.
use Rattle.std.specs.Prelude.{◌+◌, ℕ, Bool, List, [], ◌∷◌, ◌++◌, Option, Some, None, length, map, filter, codes, decimal, nat_eq, if◌then◌else◌}
use Rattle.std.specs.List.{list_any, prefix_len, range_with_len}
use Rattle.std.specs.Borrow.{Bor}
use Rattle.syntax_tree.specs.Plain.{Name}
use Rattle.syntax_tree.specs.Placed.{Stmt, Decl, Monitor}
use Rattle.syntax_printer.specs.Canonical.{stmts_lines, entry_lines, decl_lines, lines_of, text_of}
use Rattle.table_format.specs.declared.table.TaskStay.{TaskStay}
use Rattle.table_format.specs.declared.table.TaskLine.{TaskLine}
use Rattle.table_format.specs.Rules.{same_name, distinct}
use Rattle.table_format.specs.Spending.{Nowhere, in_turn}
use Rattle.table_format.specs.Program.{stay_name, stay_entry, tail_of}

-- what stands behind each reference
abbrev pub seen : {A : Type 0} → List (Bor A) → List A
seen xs = map (λ x. x.now) xs

unfoldable pub statements_text : List (Stmt Nowhere) → List ℕ
statements_text xs = text_of (stmts_lines (in_turn xs))

unfoldable pub declarations_text : List (Decl Nowhere) → List ℕ
declarations_text decls = text_of (lines_of decl_lines decls)

-- the names that the table does not give, each with its tail
abbrev pub made_with : (tail : Name) → List TaskStay → List Name
made_with tail stays = (codes "x" ++ tail) ∷ (codes "i" ++ tail) ∷ (codes "j" ++ tail) ∷ map (λ s. stay_name s.ticks ++ tail) stays

-- whether a name is one of those made with this tail
abbrev pub are_met : (names : List Name) → List TaskStay → (tail : Name) → Bool
are_met names stays tail = list_any (λ name. list_any (λ made. same_name name made) (made_with tail stays)) names

-- the first tail without one of these names in its way
abbrev pub first_free : (names : List Name) → List TaskStay → Name
first_free names stays = tail_of (prefix_len (λ number. are_met names stays (tail_of number)) (range_with_len 0 (length names + 1)))

-- the tail of this number, where none of these names is in its way
abbrev pub tried : (names : List Name) → List TaskStay → (number : ℕ) → Option Name
tried names stays number = if are_met names stays (tail_of number) then None else Some (tail_of number)

-- the monitors of these stays, each once
abbrev pub monitors_of : List TaskStay → List Name
monitors_of stays = distinct same_name (map (λ s. s.monitor) stays)

-- a name behind others, unless it is one of them
abbrev pub with_name : List Name → Name → List Name
with_name names name = if list_any (λ other. same_name other name) names then names else names ++ name ∷ []

-- the different stays in a monitor
abbrev pub ticks_in : (name : Name) → List TaskStay → List ℕ
ticks_in name stays = distinct nat_eq (map (λ s. s.ticks) (filter (λ s. same_name name s.monitor) stays))

-- ticks behind others, unless they are among them
abbrev pub with_ticks : List ℕ → ℕ → List ℕ
with_ticks all ticks = if list_any (λ other. nat_eq other ticks) all then all else all ++ ticks ∷ []

-- the ticks of a stay behind others, where it is in the monitor of this name
abbrev pub with_stay : (name : Name) → List ℕ → TaskStay → List ℕ
with_stay name all s = if same_name name s.monitor then with_ticks all s.ticks else all

-- ---- texts

unfoldable pub entries_text : (tail : Name) → List ℕ → List ℕ
entries_text tail all = text_of (lines_of entry_lines (map (stay_entry tail) all))

-- the monitor of this name where these are the stays
abbrev pub monitor_with : (tail : Name) → List TaskStay → (name : Name) → Monitor Nowhere
monitor_with tail stays name = record {
  name = name;
  place = tt;
  members = [];
  entries = map (stay_entry tail) (ticks_in name stays);
  close = name;
  close_place = tt;
}

-- a number with these bytes before it, where there is one
abbrev pub option_text : (before : List ℕ) → Option ℕ → List ℕ
option_text before None = []
option_text before (Some n) = before ++ decimal n

-- what releases the process, in its line
abbrev pub activation_with : TaskLine → Option Name → List ℕ
activation_with p None =
    codes " : periodic frame " ++ (decimal p.frame ++ (option_text (codes " deadline ") p.deadline ++ option_text (codes " first activation atTime ") p.first))
activation_with p (Some e) =
    codes " : atEvent " ++ (e ++ (codes " frame " ++ (decimal p.frame ++ option_text (codes " deadline ") p.deadline)))

abbrev pub activation_text : TaskLine → List ℕ
activation_text p = activation_with p p.event
