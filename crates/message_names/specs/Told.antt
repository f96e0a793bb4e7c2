-- What a person is told of a name that is wrong: the sentence, and the notes, which show other
-- declarations. It is asked for the numbers of the rules for names alone, 20 to 23.
use Rattle.std.specs.Prelude.{ℕ, ◌++◌, ◌==◌, ◌&&◌, Bool, true, false, not, is_some, List, [], ◌∷◌, Option, Some, None, codes, length, option_map, if◌then◌else◌}
use Rattle.std.specs.List.{concat}
use Rattle.std.specs.Option.{option_map_or}
use Rattle.message_text.specs.Shown.{show}
use Rattle.message_text.specs.Words.{note, quoted}
use Rattle.syntax_tree.specs.Plain.{Name}
use Rattle.syntax_tree.specs.Placed.{Prog}
use Rattle.syntax_tree.specs.declared.place.Place.{Place}
use Rattle.message_names.specs.declared.role.What.{What}
use Rattle.message_names.specs.declared.role.What.TheVariants as what_is
use Rattle.message_names.specs.declared.role.Wanted.{Wanted}
use Rattle.message_names.specs.declared.role.Wanted.TheVariants as wanted_is
use Rattle.message_names.specs.declared.role.Role.{Role}
use Rattle.message_names.specs.declared.role.Role.TheVariants as role_is
use Rattle.message_names.specs.Mentions.{Mention, mentions}
use Rattle.message_names.specs.Reach.{declared, first_declared, is_entry, meaning, mention_at, monitor_before, name_at, nearest_of, offered, scope_begin}

abbrev pub what_words : What → List ℕ
what_words what_is.Program = codes "the program"
what_words what_is.Constant = codes "a constant"
what_words what_is.Device = codes "a device"
what_words what_is.Event = codes "an event"
what_words what_is.Monitor = codes "a monitor"
what_words what_is.Condition = codes "a condition"
what_words what_is.Procedure = codes "a procedure"
what_words what_is.Function = codes "a function"
what_words what_is.Entry = codes "an entry"
what_words what_is.Process = codes "a process"
what_words what_is.Variable = codes "a variable"
what_words what_is.Parameter = codes "a parameter"
what_words what_is.LoopVariable = codes "a loop variable"

abbrev pub wanted_words : Wanted → List ℕ
wanted_words wanted_is.Constant = codes "a constant"
wanted_words wanted_is.Value = codes "a variable or a constant"
wanted_words wanted_is.Target = codes "a variable or a parameter"
wanted_words wanted_is.Routine = codes "a procedure or a function"
wanted_words (wanted_is.Entry monitor) = codes "an entry"
wanted_words wanted_is.Device = codes "a device"
wanted_words wanted_is.Event = codes "an event"
wanted_words wanted_is.Monitor = codes "a monitor"
wanted_words wanted_is.Condition = codes "a condition"

-- what a name is that does this
abbrev pub role_words : Role → List ℕ
role_words role = option_map_or (λ r. what_words r.what) (declared role) (codes "declared nowhere")

-- what a name is that was looked for
abbrev pub words_of : Option Mention → List ℕ
words_of m = option_map_or (λ d. role_words d.role) m (codes "declared nowhere")

-- what is wanted where a name stands
abbrev pub wanted_at : Role → List ℕ
wanted_at (role_is.Uses wanted) = wanted_words wanted
wanted_at (role_is.Declares r) = codes "another name"
wanted_at (role_is.Closes opening) = codes "another name"

-- the name that a closing name has to repeat
abbrev pub closed : List Mention → Role → Option Mention
closed ms (role_is.Closes opening) = mention_at opening ms
closed ms (role_is.Uses wanted) = None
closed ms (role_is.Declares r) = None

abbrev pub name_of : Option Mention → Name
name_of m = option_map_or (λ d. d.name) m []

-- ---- the sentences

-- E20
abbrev pub undeclared_behind : List Mention → Name → (monitor : Option Place) → List ℕ
undeclared_behind ms name (Some monitor) = codes "the monitor " ++ (quoted (name_at monitor ms) ++ (codes " has no entry " ++ quoted name))
undeclared_behind ms name None = quoted name ++ codes " is declared nowhere in reach"

-- E21
abbrev pub taken : Name → List ℕ
taken name = quoted name ++ codes " is declared already"

-- E22
abbrev pub misused : Name → (what wanted : List ℕ) → List ℕ
misused name what wanted = quoted name ++ (codes " is " ++ (what ++ (codes "; wanted is " ++ wanted)))

-- E23
abbrev pub misclosed : Name → (wanted : Name) → List ℕ
misclosed name wanted = quoted name ++ (codes " closes nothing; wanted is " ++ quoted wanted)

abbrev pub sentence_of : (number : ℕ) → List Mention → Mention → List ℕ
sentence_of number ms m =
    if number == 20 then undeclared_behind ms m.name (monitor_before m.role)
    else (if number == 21 then taken m.name
    else (if number == 22 then misused m.name (words_of (meaning ms m)) (wanted_at m.role)
    else misclosed m.name (name_of (closed ms m.role))))

-- ---- the notes

-- a note of these parts, with the line of a name
abbrev pub pointed : (text : List ℕ) (parts : List (List ℕ)) → Mention → List ℕ
pointed text parts m = note (concat parts) ++ show text m.place.line m.place.col (length m.name)

-- where there is one
abbrev pub pointed_if : (text : List ℕ) (parts : List (List ℕ)) → Option Mention → List ℕ
pointed_if text parts None = []
pointed_if text parts (Some m) = pointed text parts m

-- an entry, of which the name alone was written
abbrev pub is_bare_entry : (written declaring : Role) → Bool
is_bare_entry written declaring = option_map_or (λ r. is_entry r.what) (declared declaring) false && not (is_some (monitor_before written))

-- what is said of a declaration of the name that is out of reach
abbrev pub elsewhere : List Mention → (written : Role) → (declaration : Mention) → List (List ℕ)
elsewhere ms written d =
    if is_bare_entry written d.role then codes "write `" ∷ name_at (scope_begin d.role) ms ∷ codes "." ∷ d.name ∷ codes "` for the entry:" ∷ []
    else role_words d.role ∷ codes " of that name is out of reach here:" ∷ []

abbrev pub nearest_note : (text : List ℕ) → Option Mention → List ℕ
nearest_note text None = note (codes "declare it, or correct the name")
nearest_note text (Some d) = pointed text (codes "the nearest name in reach is `" ∷ d.name ∷ codes "`:" ∷ []) d

-- E20, by the first declaration of the name
abbrev pub undeclared_notes : (text : List ℕ) → List Mention → Mention → Option Mention → List ℕ
undeclared_notes text ms m (Some d) = pointed text (elsewhere ms m.role d) d
undeclared_notes text ms m None = nearest_note text (nearest_of m.name (offered ms m))

-- E21, by the other declaration
abbrev pub taken_notes : (text : List ℕ) → Option Mention → List ℕ
taken_notes text other = pointed_if text (codes "the other one is " ∷ words_of other ∷ codes "; give one of them another name:" ∷ []) other

abbrev pub wants_constant : Role → Bool
wants_constant (role_is.Uses wanted_is.Constant) = true
wants_constant role = false

abbrev pub constant_note : Role → List ℕ
constant_note role = if wants_constant role then note (codes "this number is fixed in the text; `exit when` ends a loop earlier") else []

-- E22, by the declaration
abbrev pub misused_notes : (text : List ℕ) → Role → Option Mention → List ℕ
misused_notes text role declaration = pointed_if text (codes "it is declared here:" ∷ []) declaration ++ constant_note role

-- E23, by the name that is closed
abbrev pub misclosed_notes : (text : List ℕ) → Option Mention → List ℕ
misclosed_notes text opening = pointed_if text (codes "the name behind `end` is that of:" ∷ []) opening

abbrev pub notes_of : (text : List ℕ) (number : ℕ) → List Mention → Mention → List ℕ
notes_of text number ms m =
    if number == 20 then undeclared_notes text ms m (first_declared m.name ms)
    else (if number == 21 then taken_notes text (meaning ms m)
    else (if number == 22 then misused_notes text m.role (meaning ms m)
    else misclosed_notes text (closed ms m.role)))

-- ---- what is told of the name at a place, where a rule for names fails

-- the sentence; nothing where no name stands
unfoldable pub name_sentence : Prog Place → (number : ℕ) → Place → Option (List ℕ)
name_sentence g number place = option_map (sentence_of number (mentions g)) (mention_at place (mentions g))

unfoldable pub name_notes : (text : List ℕ) → Prog Place → (number : ℕ) → Place → List ℕ
name_notes text g number place = option_map_or (notes_of text number (mentions g)) (mention_at place (mentions g)) []
