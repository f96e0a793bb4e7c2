-- Names that are none, or that are taken.
use Rattle.std.specs.Prelude.{ℕ, Bool, true, false, ◌&&◌, not, List, [], ◌∷◌, ◌++◌, Option, Some, None, bytes_eq, find, length, nat_le, option_map, if◌then◌else◌}
use Rattle.std.specs.List.{list_any}
use Rattle.std.specs.Option.{option_or}
use Rattle.syntax.specs.Spellings.{is_identifier, keywords, longest_name}
use Rattle.message_table.specs.Found.{found_at, name_fault as of_name}
use Rattle.message_table.specs.Marks.{Mark}
use Rattle.message_table.specs.Parts.{is_stay, part_of}
use Rattle.message_table.specs.declared.fault.Found.{Found}
use Rattle.message_table.specs.declared.fault.NameFault.{NameFault}
use Rattle.message_table.specs.declared.fault.NameFault.TheVariants.{Keyword, TooLong, NoName, Taken}
use Rattle.message_table.specs.declared.part.Part.{Part}
use Rattle.message_table.specs.declared.part.Role.{Role}
use Rattle.message_table.specs.declared.part.Role.TheVariants as role

-- ---- names

-- whether a word of the language
abbrev pub is_keyword : List ℕ → Bool
is_keyword word = list_any (bytes_eq word) keywords

-- an identifier of at most 63 bytes that is no word of the language
abbrev pub is_name : List ℕ → Bool
is_name word = is_identifier word && not (is_keyword word) && nat_le (length word) longest_name

-- why a word is no name
abbrev pub name_fault : List ℕ → NameFault
name_fault word = if is_keyword word then Keyword else (if is_identifier word then TooLong else NoName)

-- whether a word stands in the place of a name
abbrev pub is_named : Role → Bool
is_named (role.Name of) = true
is_named (role.Key of) = false
is_named (role.Ticks of) = false
is_named (role.NoKey of) = false
is_named (role.NoTicks of) = false

-- whether it is none
abbrev pub is_misnamed : Mark → Bool
is_misnamed mark = is_named mark.role && not (is_name mark.word)

-- the first such word
abbrev pub name_found : List Mark → Option Found
name_found marks = option_map (λ mark. found_at mark (of_name (name_fault mark.word))) (find is_misnamed marks)

-- ---- names that are taken

-- the names so far: of the table, the processes and the events; and of the monitors
pub record Names : Type 0 where
  pub tasks : List Mark
  pub monitors : List Mark

abbrev pub no_names : Names
no_names = record { tasks = []; monitors = [] }

-- the first of these that is the same word
abbrev pub same : (word : List ℕ) → List Mark → Option Mark
same word marks = find (λ mark. bytes_eq mark.word word) marks

-- which name is this word already, so that the name in this part has to be another; a monitor may
-- be named again
abbrev pub holder : Names → (of : Part) (word : List ℕ) → Option Mark
holder names of word =
    if is_stay of then same word names.tasks else option_or (same word names.tasks) (same word names.monitors)

-- the names with one more
abbrev pub with_name : Names → Part → Mark → Names
with_name names of mark =
    if is_stay of then record { tasks = names.tasks; monitors = names.monitors ++ mark ∷ [] }
    else record { tasks = names.tasks ++ mark ∷ []; monitors = names.monitors }

-- a word that another name is already
abbrev pub taken : Mark → (by : Mark) → Found
taken mark by = found_at mark (of_name (Taken (part_of by.role) by.line))

-- the first name of which another one before it is the word already
abbrev pub taken_from : Names → List Mark → Option Found
taken_from names [] = None
taken_from names (mark ∷ marks) =
    if is_named mark.role then option_or (option_map (taken mark) (holder names (part_of mark.role) mark.word)) (taken_from (with_name names (part_of mark.role) mark) marks)
    else taken_from names marks

abbrev pub taken_found : List Mark → Option Found
taken_found marks = taken_from no_names marks
