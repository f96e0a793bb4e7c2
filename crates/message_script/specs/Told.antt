-- What is told of a line: where, what is wrong, and a remark.
use Rattle.std.specs.Prelude.{ℕ, ◌+◌, ◌++◌, Bool, List, [], ◌∷◌, length, Option, Some, None, codes, if◌then◌else◌}
use Rattle.std.specs.Option.{option_or}
use Rattle.message_text.specs.Words.{quoted}
use Rattle.message_script.specs.declared.telling.Told.{Told}
use Rattle.message_script.specs.declared.telling.Note.{Note}
use Rattle.message_script.specs.declared.telling.Note.TheVariants.{Forms, EndForm, SetForm, EventForm, OneBlank, EndTheLine, LineFeedAlone, NoComments, Order, Frame}
use Rattle.message_script.specs.Words.{Word}

-- the remarks
unfoldable pub remark : Note → List ℕ
remark Forms = codes "lines are `T set D V`, `T event E` and last `end H`"
remark EndForm = codes "the last line is `end H`"
remark SetForm = codes "the form is `T set D V`"
remark EventForm = codes "the form is `T event E`"
remark OneBlank = codes "one blank stands between words"
remark EndTheLine = codes "end the last line too"
remark LineFeedAlone = codes "lines end with a line feed alone"
remark NoComments = codes "a script has no comments"
remark Order = codes "ticks do not fall, and the end is above them all"
remark Frame = codes "an event keeps the frame of its process"

-- this, where it applies
abbrev pub when : {A : Type 0} → Bool → A → Option A
when applies it = if applies then Some it else None

-- the first row of a table that applies
abbrev pub first : {A : Type 0} → List (Option A) → Option A
first [] = None
first (row ∷ rows) = option_or row (first rows)

-- of one byte of the line
unfoldable pub at_byte : (column : ℕ) (sentence : List ℕ) (note : Option Note) → Told
at_byte column sentence note = record { column = column; width = 1; sentence = sentence; earlier = None; note = note }

-- right behind the line
unfoldable pub behind : (bytes sentence : List ℕ) (note : Option Note) → Told
behind bytes sentence note = record { column = length bytes + 1; width = 1; sentence = sentence; earlier = None; note = note }

-- of a word of the line
unfoldable pub at_word : (word : Word) (sentence : List ℕ) (note : Option Note) → Told
at_word word sentence note = record { column = word.column; width = length word.bytes; sentence = sentence; earlier = None; note = note }

-- of a word of the line, which stands before what is wrong with it
unfoldable pub of_word : (word : Word) (text : List ℕ) (note : Option Note) → Told
of_word word text note = at_word word (quoted word.bytes ++ text) note

-- the same, with an earlier line
unfoldable pub with_line : (earlier : ℕ) → Told → Told
with_line earlier told = record told { earlier = Some earlier }
