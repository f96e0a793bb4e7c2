-- What can be done at a place, by the words there: the first row that applies counts.
use Rattle.std.specs.Prelude.{ℕ, Bool, true, false, not, ◌&&◌, ◌||◌, ◌++◌, List, [], ◌∷◌, None, Option, Some, codes, find}
use Rattle.syntax.specs.Tokens.{bytes_of}
use Rattle.syntax.specs.declared.token.Token.{Token}
use Rattle.syntax.specs.declared.token.keyword.TheConstants as k
use Rattle.syntax.specs.declared.token.sign.TheConstants as s
use Rattle.message_text.specs.Words.{quoted}
use Rattle.message_expected.specs.Groups.{members}
use Rattle.message_expected.specs.Kinds.{has, same}
use Rattle.message_expected.specs.declared.groups.Group.TheVariants.{Operator, Comparison}
use Rattle.message_expected.specs.declared.kinds.Kind.{Kind}
use Rattle.message_expected.specs.declared.kinds.Kind.TheVariants.{Name, Number, Keyword, Sign}
use Rattle.message_unexpected.specs.declared.rows.Facts.{Facts}
use Rattle.message_unexpected.specs.declared.rows.Row.{Row}
use Rattle.message_unexpected.specs.declared.rows.Row.TheVariants as row

-- the rows in their order
unfoldable pub rows : List Row
rows =
    row.OneEqual ∷ row.Assigned ∷ row.Increased ∷ row.Fraction ∷ row.Digits ∷ row.EntryCall ∷ row.CallAlone ∷ row.TwoComparisons ∷ row.OneConstant ∷ row.Begun
    ∷ row.NoParentheses ∷ row.Returned ∷ row.Declared ∷ row.ArrayType ∷ row.MonitorVariable ∷ row.Reserved ∷ row.ElseIf ∷ []

-- the kind is that of an operator other than a comparison
abbrev pub is_operator : Kind → Bool
is_operator kind = has (members Operator) kind

-- the kind is that of a comparison
abbrev pub is_comparison : Kind → Bool
is_comparison kind = has (members Comparison) kind

-- the kind is that of a keyword
abbrev pub is_keyword : Kind → Bool
is_keyword (Keyword at) = true
is_keyword kind = false

-- the row applies, by the word at the place, the one before it, and what is expected there
unfoldable pub applies : (found : List Kind) (facts : Facts) → Row → Bool
applies found facts row.OneEqual = same (Sign s.EQUAL) facts.word && (same (Sign s.EQUAL) facts.before && facts.is_touching)
applies found facts row.Assigned = same (Sign s.EQUAL) facts.word && has found (Sign s.ASSIGN)
applies found facts row.Increased = is_operator facts.word && has found (Sign s.ASSIGN)
applies found facts row.Fraction = same (Sign s.DOT) facts.word && same Number facts.before
applies found facts row.Digits = same Name facts.word && (same Number facts.before && facts.is_touching)
applies found facts row.EntryCall = same (Sign s.DOT) facts.word && same Name facts.before
applies found facts row.CallAlone =
    (is_operator facts.word || is_comparison facts.word) && (same (Sign s.RIGHT_PAREN) facts.before && (has found (Keyword k.PUT) && not (has found (Keyword k.AND))))
applies found facts row.TwoComparisons = is_comparison facts.word && has found (Keyword k.AND)
applies found facts row.OneConstant =
    is_operator facts.word && (has (Name ∷ Number ∷ []) facts.before && not (has found (Keyword k.AND) || has found Number))
applies found facts row.Begun = has (Sign s.ASSIGN ∷ Sign s.EQUAL ∷ []) facts.word && has found (Keyword k.VAR)
applies found facts row.NoParentheses = same (Sign s.LEFT_PAREN) facts.word && is_keyword facts.before
applies found facts row.Returned = same (Keyword k.RETURN) facts.word
applies found facts row.Declared =
    has (Keyword k.VAR ∷ Keyword k.INT ∷ Keyword k.BOOLEAN ∷ []) facts.word && (has found (Keyword k.PUT) || has found (Keyword k.VAR))
applies found facts row.ArrayType = same (Sign s.LEFT_BRACKET) facts.word && has (Keyword k.INT ∷ Keyword k.BOOLEAN ∷ []) facts.before
applies found facts row.MonitorVariable = has (Keyword k.VAR ∷ Keyword k.CONDITION ∷ []) facts.word && has found (Keyword k.ENTRY)
applies found facts row.Reserved =
    is_keyword facts.word && (has found Name && (not (has found Number) && ((facts.is_on_line && not (has found (Keyword k.PUT))) || facts.is_assigned)))
applies found facts row.ElseIf = facts.has_else_if

-- the bytes of a token, if there is one
abbrev pub word_of : (text : List ℕ) → Option Token → List ℕ
word_of text None = []
word_of text (Some t) = bytes_of text t

-- the word that a row begins with
abbrev pub first_word : (text : List ℕ) (word before : Option Token) → Row → List ℕ
first_word text word before row.NoParentheses = quoted (word_of text before)
first_word text word before row.Reserved = quoted (word_of text word)
first_word text word before other = []

-- what a row says, behind the word that it begins with
abbrev pub saying : Row → List ℕ
saying row.OneEqual = codes "one `=` compares"
saying row.Assigned = codes "`:=` assigns, `=` compares"
saying row.Increased = codes "write `x := x + 1`"
saying row.Fraction = codes "numbers are whole"
saying row.Digits = codes "numbers are decimal, and a name begins with a letter"
saying row.EntryCall = codes "an entry is called by a statement of its own, `m.p(..)` or `x := m.f(..)`"
saying row.CallAlone = codes "`x := m.f(..)` stands alone; go on with x in the next statement"
saying row.TwoComparisons = codes "one comparison joins two sums; write `a < b and b < c`"
saying row.OneConstant = codes "here stands one number or the name of one constant; no expression"
saying row.Begun = codes "a variable begins as 0 or false; assign it behind `begin`"
saying row.NoParentheses = codes " has no parentheses behind it"
saying row.Returned = codes "`return` stands once, right before the `end` of a function"
saying row.Declared = codes "a variable is declared before `begin`, as `var x : int`"
saying row.ArrayType = codes "write `array 0 .. 9 of int`"
saying row.MonitorVariable = codes "variables and conditions of a monitor stand before its first entry"
saying row.Reserved = codes " is a word of the language and cannot be a name"
saying row.ElseIf = codes "each `if` has its own `end if`, also one right behind `else`"

abbrev pub said : (text : List ℕ) (word before : Option Token) → Option Row → List ℕ
said text word before None = []
said text word before (Some row) = first_word text word before row ++ saying row

-- what the first row says that applies; nothing where none does
unfoldable pub row_remark : (text : List ℕ) (word before : Option Token) (found : List Kind) (facts : Facts) → List ℕ
row_remark text word before found facts = said text word before (find (applies found facts) rows)
