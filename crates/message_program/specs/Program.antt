-- The message for a text that is no program.
use Rattle.std.specs.Prelude.{◌≡◌, ◌≢◌, ℕ, ◌<◌, ◌≤◌, ◌++◌, ◌==◌, ◌||◌, ◌&&◌, Bool, List, [], ◌∷◌, codes, decimal, length, max, take, Option, Some, None, is_some, if◌then◌else◌}
use Rattle.std.specs.Option.{unwrap_or}
use Rattle.message_text.specs.Shown.{show}
use Rattle.message_text.specs.Words.{head, note, quoted}
use Rattle.message_program.specs.Hints.{byte_note, first_byte, is_visible}
use Rattle.message_program.specs.Rules.{rule, rule_sentence}
use Rattle.message_program.specs.Word.{bytes_at, word_at}
use Rattle.message_expected.specs.Expected.{IsExpectedSet, before, front}
use Rattle.message_unexpected.specs.Unexpected.{unexpected_notes}
use Rattle.message_expected.specs.declared.kinds.Kind.{Kind}
use Rattle.message_conduct.specs.Told.{IsCallTold}
use Rattle.message_conduct.specs.Conduct.{conduct_sentence}
use Rattle.message_names.specs.Told.{name_notes, name_sentence}
use Rattle.message_types.specs.Told.{type_sentence}
use Rattle.message_rules.specs.Findings as findings
use Rattle.front_end.specs.Source.{IsTreeOf}
use Rattle.static_names.specs.Resolved.{IsNamed}
use Rattle.syntax.specs.Tokens.{tokens}
use Rattle.syntax.specs.declared.token.Token.{Token}
use Rattle.syntax_tree.specs.Placed.{Prog}
use Rattle.syntax_tree.specs.declared.place.Place.{Place}

-- a byte, by itself where it is visible, else by its number
abbrev pub byte_name : (byte : ℕ) → List ℕ
byte_name byte = if is_visible byte then quoted (byte ∷ []) else codes "byte " ++ decimal byte

-- a byte that begins no word
abbrev pub begins_no_word : (byte : ℕ) → List ℕ
begins_no_word byte = byte_name byte ++ codes " begins no word"

-- a name that is too long
abbrev pub too_long : (word : List ℕ) → List ℕ
too_long word = codes "the name " ++ (quoted word ++ (codes " has " ++ (decimal (length word) ++ codes " bytes; 63 are the most")))

-- a word with which no program goes on
abbrev pub unexpected_word : (word : List ℕ) → List ℕ
unexpected_word word = codes "unexpected " ++ quoted word

-- the end of the text where there is no word
abbrev pub unexpected : (word : List ℕ) → List ℕ
unexpected word = if length word == 0 then codes "unexpected end of the text" else unexpected_word word

-- the word that a fault is told at: one byte of a byte that begins no word
abbrev pub word_of : (number : ℕ) (bytes : List ℕ) → List ℕ
word_of number bytes = if number == 1 then take 1 bytes else word_at bytes

-- what is wrong
abbrev pub sentence : (number : ℕ) (word : List ℕ) → List ℕ
sentence number word =
    if number == 1 then begins_no_word (first_byte word)
    else (if number == 3 then too_long word
    else (if number == 10 then unexpected word
    else rule_sentence (rule number) word))

-- what can be done
abbrev pub remark : (number : ℕ) (bytes : List ℕ) → List ℕ
remark number bytes =
    if number == 1 then byte_note bytes
    else (if number == 3 then codes "write a shorter name"
    else (rule number).note)

-- a note, where there is something to say
abbrev pub note_of : (remark : List ℕ) → List ℕ
note_of remark = if length remark == 0 then [] else note remark

-- the line of the place, with carets below the word
abbrev pub show_word : (text : List ℕ) (place : Place) (word : List ℕ) → List ℕ
show_word text place word = show text place.line place.col (max (length word) 1)

-- the first line of the message
abbrev pub first_line : (file : List ℕ) (number : ℕ) (place : Place) (sentence : List ℕ) → List ℕ
first_line file number place sentence = head file place.line place.col (codes "E" ++ decimal number) sentence

-- the message up to its notes: what is wrong, and the line
abbrev pub begun : (file text : List ℕ) (number : ℕ) (place : Place) (sentence : List ℕ) → List ℕ
begun file text number place sentence = first_line file number place sentence ++ show_word text place (word_of number (bytes_at text place))

-- the message for a fault of this number: what is wrong, the line, and what can be done
abbrev pub told : (file text : List ℕ) (number : ℕ) (place : Place) (sentence : List ℕ) → List ℕ
told file text number place sentence = begun file text number place sentence ++ note_of (remark number (bytes_at text place))

-- what is wrong, told by the word at the place alone
abbrev pub word_sentence : (text : List ℕ) (number : ℕ) (place : Place) → List ℕ
word_sentence text number place = sentence number (word_of number (bytes_at text place))

-- the message by the word at the place alone
abbrev pub word_message : (file text : List ℕ) (number : ℕ) (place : Place) → List ℕ
word_message file text number place = told file text number place (word_sentence text number place)

-- the message for a text that is too long
unfoldable pub long_message : (file : List ℕ) → List ℕ
long_message file = head file 1 1 (codes "E4") (codes "the text has more than 1048576 bytes")

-- ---- a fault of the grammar

-- the message with these notes
abbrev pub unexpected_message : (file text : List ℕ) (place : Place) (notes : List ℕ) → List ℕ
unexpected_message file text place notes = begun file text 10 place (word_sentence text 10 place) ++ notes

-- it has all notes by exactly the kinds that are expected behind the tokens before the place
pub record UnexpectedTold (file text : List ℕ) (place : Place) (toks : List Token) (message : List ℕ) : Type 0 where
  pub found : List Kind
  pub all : IsExpectedSet (front text (before toks place)) found
  pub is : message ≡ unexpected_message file text place (unexpected_notes text toks place found)

-- so it is of a text with tokens
abbrev pub IsUnexpectedTold : (file text : List ℕ) (place : Place) (message : List ℕ) → Type 0
IsUnexpectedTold file text place message = (toks : List Token) → tokens text toks → UnexpectedTold file text place toks message

-- ---- a fault of a name

-- the message with the sentence that names what is wrong, where there is one, and with these notes
abbrev pub name_message : (file text : List ℕ) (number : ℕ) (place : Place) (said : Option (List ℕ)) (notes : List ℕ) → List ℕ
name_message file text number place None notes = word_message file text number place
name_message file text number place (Some sentence) notes = begun file text number place sentence ++ notes

-- so it is of a tree
abbrev pub tree_name_message : (file text : List ℕ) (number : ℕ) (place : Place) → Prog Place → List ℕ
tree_name_message file text number place g = name_message file text number place (name_sentence g number place) (name_notes text g number place)

-- the rule is one for names
abbrev pub IsNameRule : (number : ℕ) → Type 0
IsNameRule number = (20 ≤ number) × (number ≤ 23)

-- ---- a fault of a rule

-- the sentence that there is, else one that is so
abbrev pub OrElse : Option (List ℕ) → (Option (List ℕ) → Type 0) → Option (List ℕ) → Type 0
OrElse None IsSo said = IsSo said
OrElse (Some sentence) IsSo said = said ≡ Some sentence

-- what is said of statements and calls: the first that there is of what does not agree, of what
-- stands where it may not, and of a call
abbrev pub IsSaidOfTexts : Prog Place → (number : ℕ) → Place → Option (List ℕ) → Type 0
IsSaidOfTexts g number place = OrElse (type_sentence g number place) (OrElse (conduct_sentence g number place) (IsCallTold g number place))

-- what is said, with the rule's numbers and names, where a static rule fails: of a number, where
-- there is something, else of statements and calls
abbrev pub IsSaid : Prog Place → (number : ℕ) → Place → Option (List ℕ) → Type 0
IsSaid g number place = OrElse (findings.rule_sentence g number place) (IsSaidOfTexts g number place)

-- the rules whose note is left out where the sentence has names
abbrev pub is_said_alone : (number : ℕ) → Bool
is_said_alone number = number == 34 || number == 38

-- what can be done
abbrev pub rule_remark : (number : ℕ) (said : Option (List ℕ)) (bytes : List ℕ) → List ℕ
rule_remark number said bytes = if is_said_alone number && is_some said then [] else remark number bytes

-- the message with the sentence that has the rule's numbers and names, where there is one
abbrev pub rule_message : (file text : List ℕ) (number : ℕ) (place : Place) (said : Option (List ℕ)) → List ℕ
rule_message file text number place said =
    begun file text number place (unwrap_or said (word_sentence text number place)) ++ note_of (rule_remark number said (bytes_at text place))

-- so it is of a tree
pub record IsRuleTold (file text : List ℕ) (number : ℕ) (place : Place) (g : Prog Place) (message : List ℕ) : Type 0 where
  pub said : Option (List ℕ)
  pub is_said : IsSaid g number place said
  pub is : message ≡ rule_message file text number place said

-- ---- the message

-- by the number of the rule: where it is the grammar, with the notes by the text's tokens; where it
-- is a rule for names or another static rule, with its sentence for the text's tree
pub data IsFaultTold (file text : List ℕ) (number : ℕ) (place : Place) (message : List ℕ) : Type 0 where
  of_word : number ≢ 10 → ¬ IsNameRule number → number < 30 → message ≡ word_message file text number place → IsFaultTold file text number place message
  of_grammar : number ≡ 10 → IsUnexpectedTold file text place message → IsFaultTold file text number place message
  of_name : IsNameRule number → ((g : Prog Place) → IsTreeOf text g → message ≡ tree_name_message file text number place g) → IsFaultTold file text number place message
  of_rule : 30 ≤ number → ((g : Prog Place) → IsTreeOf text g → IsNamed g → IsRuleTold file text number place g message) → IsFaultTold file text number place message

-- the message for a text that is no program, or that of a program that is too large: the number of
-- the rule that fails first, and where
pub record IsProgramMessage (file text : List ℕ) (number : ℕ) (place : Place) (message : List ℕ) : Type 0 where
  pub long : 1048576 < length text → message ≡ long_message file
  pub fits : length text ≤ 1048576 → IsFaultTold file text number place message
