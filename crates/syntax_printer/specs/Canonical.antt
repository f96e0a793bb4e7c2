-- The canonical text of a program: its lines, each a list of words, and their text.
use Rattle.std.specs.Prelude.{ℕ, true, false, List, [], ◌∷◌, ◌++◌, Option, Some, None, codes, decimal, slice_get, unwrap_or}
use Rattle.syntax.specs.Spellings.{keywords, signs}
use Rattle.syntax_tree.specs.Placed.{Constant, literal_constant, named_constant, Scalar, int, boolean, subrange, Kind, scalar, array, Var, Param, Expr, literal, truth, variable, element, call, minus, negation, paren, row, Exprs, no_exprs, exprs, Operands, no_operands, operand, Ref, whole, part, Stmt, assign, assign_entry, assign_empty, perform, perform_entry, when, when_else, loop, exit_when, get, put, wait, signal, broadcast, except, assert, Stmts, no_stmts, stmts, Routine, Member, variable_member, condition_member, Monitor, Activation, periodic, at_event, Handler, Process, Decl, constant, device, event, routine, monitor, process, Prog}
use Rattle.syntax.specs.Words as w
use Rattle.syntax.specs.Words.{Word, named, number, keyword, sign}
use Rattle.syntax.specs.ExprGrammar.{op_word}
use Rattle.syntax.specs.Grammar.{kind_word, way_word}

abbrev pub Line : Type 0
Line = List Word

-- ---- the text of lines

-- a name's bytes, a literal's digits with no leading zeros, the spelling of a keyword or a sign
abbrev pub spelling : Word → List ℕ
spelling (named n) = n
spelling (number n) = decimal n
spelling (keyword at) = unwrap_or (slice_get keywords at) []
spelling (sign at) = unwrap_or (slice_get signs at) []

-- one space between two words, and LF at the end
abbrev pub line_text : Line → List ℕ
line_text [] = codes "\n"
line_text (word ∷ []) = spelling word ++ codes "\n"
line_text (word ∷ next ∷ more) = spelling word ++ (codes " " ++ line_text (next ∷ more))

-- line after line
abbrev pub text_of : List Line → List ℕ
text_of [] = []
text_of (line ∷ lines) = line_text line ++ text_of lines

-- ---- the words of parts of a line

-- each with a comma before it
abbrev pub more_listed : {A : Type 0} → (A → Line) → List A → Line
more_listed f [] = []
more_listed f (x ∷ xs) = w.COMMA ∷ (f x ++ more_listed f xs)

-- with commas between them
abbrev pub listed : {A : Type 0} → (A → Line) → List A → Line
listed f [] = []
listed f (x ∷ xs) = f x ++ more_listed f xs

abbrev pub constant_words : {P : Type 0} → Constant P → Line
constant_words (literal_constant p true n q) = w.MINUS ∷ number n ∷ []
constant_words (literal_constant p false n q) = number n ∷ []
constant_words (named_constant p true n q) = w.MINUS ∷ named n ∷ []
constant_words (named_constant p false n q) = named n ∷ []

abbrev pub scalar_words : {P : Type 0} → Scalar P → Line
scalar_words int = w.INT ∷ []
scalar_words boolean = w.BOOLEAN ∷ []
scalar_words (subrange low high) = constant_words low ++ w.RANGE ∷ constant_words high

abbrev pub kind_line : {P : Type 0} → Kind P → Line
kind_line (scalar s) = scalar_words s
kind_line (array low high s) = w.ARRAY ∷ (constant_words low ++ w.RANGE ∷ (constant_words high ++ w.OF ∷ scalar_words s))

abbrev mutual
  pub expr_words : {P : Type 0} → Expr P → Line
  expr_words (literal p n) = number n ∷ []
  expr_words (truth p true) = w.TRUE ∷ []
  expr_words (truth p false) = w.FALSE ∷ []
  expr_words (variable p n) = named n ∷ []
  expr_words (element p n i) = named n ∷ w.LEFT_BRACKET ∷ (expr_words i ++ w.RIGHT_BRACKET ∷ [])
  expr_words (call p n es) = named n ∷ w.LEFT_PAREN ∷ (args_words es ++ w.RIGHT_PAREN ∷ [])
  expr_words (minus p e) = w.MINUS ∷ expr_words e
  expr_words (negation p e) = w.NOT ∷ expr_words e
  expr_words (paren p e) = w.LEFT_PAREN ∷ (expr_words e ++ w.RIGHT_PAREN ∷ [])
  expr_words (row e rs) = expr_words e ++ operands_words rs

  -- each operator before its operand
  pub operands_words : {P : Type 0} → Operands P → Line
  operands_words no_operands = []
  operands_words (operand op e rs) = op_word op ∷ (expr_words e ++ operands_words rs)

  pub args_words : {P : Type 0} → Exprs P → Line
  args_words no_exprs = []
  args_words (exprs e es) = expr_words e ++ more_args_words es

  pub more_args_words : {P : Type 0} → Exprs P → Line
  more_args_words no_exprs = []
  more_args_words (exprs e es) = w.COMMA ∷ (expr_words e ++ more_args_words es)

-- an index in its brackets
abbrev pub in_brackets : {P : Type 0} → Expr P → Line
in_brackets e = w.LEFT_BRACKET ∷ (expr_words e ++ w.RIGHT_BRACKET ∷ [])

-- arguments in parentheses
abbrev pub in_parens : {P : Type 0} → Exprs P → Line
in_parens es = w.LEFT_PAREN ∷ (args_words es ++ w.RIGHT_PAREN ∷ [])

abbrev pub ref_words : {P : Type 0} → Ref P → Line
ref_words (whole p n) = named n ∷ []
ref_words (part p n i) = named n ∷ in_brackets i

-- ---- the lines of statements

abbrev pub if_line : {P : Type 0} → Expr P → Line
if_line e = w.IF ∷ (expr_words e ++ w.THEN ∷ [])

abbrev pub for_line : {P : Type 0} → List ℕ → (low high : Constant P) → Line
for_line n low high = w.FOR ∷ named n ∷ w.COLON ∷ (constant_words low ++ w.RANGE ∷ (constant_words high ++ w.DO ∷ []))

abbrev mutual
  pub stmt_lines : {P : Type 0} → Stmt P → List Line
  stmt_lines (assign r e) = (ref_words r ++ w.ASSIGN ∷ expr_words e) ∷ []
  stmt_lines (assign_entry r mon p entry q es) = (ref_words r ++ w.ASSIGN ∷ named mon ∷ w.DOT ∷ named entry ∷ in_parens es) ∷ []
  stmt_lines (assign_empty r cond p) = (ref_words r ++ w.ASSIGN ∷ w.EMPTY ∷ named cond ∷ []) ∷ []
  stmt_lines (perform p n es) = (named n ∷ in_parens es) ∷ []
  stmt_lines (perform_entry p mon entry q es) = (named mon ∷ w.DOT ∷ named entry ∷ in_parens es) ∷ []
  stmt_lines (when p e ss) = if_line e ∷ (stmts_lines ss ++ (w.END ∷ w.IF ∷ []) ∷ [])
  stmt_lines (when_else p e ss others) = if_line e ∷ (stmts_lines ss ++ (w.ELSE ∷ []) ∷ (stmts_lines others ++ (w.END ∷ w.IF ∷ []) ∷ []))
  stmt_lines (loop p n q low high ss) = for_line n low high ∷ (stmts_lines ss ++ (w.END ∷ w.FOR ∷ []) ∷ [])
  stmt_lines (exit_when p e) = (w.EXIT ∷ w.WHEN ∷ expr_words e) ∷ []
  stmt_lines (get p dev q r) = (w.GET ∷ named dev ∷ ref_words r) ∷ []
  stmt_lines (put p dev q e) = (w.PUT ∷ named dev ∷ expr_words e) ∷ []
  stmt_lines (wait p cond q limit code) = (w.WAIT ∷ named cond ∷ w.NO_LONGER_THAN ∷ (constant_words limit ++ w.COLON ∷ constant_words code)) ∷ []
  stmt_lines (signal p cond q) = (w.SIGNAL ∷ named cond ∷ []) ∷ []
  stmt_lines (broadcast p cond q) = (w.BROADCAST ∷ named cond ∷ []) ∷ []
  stmt_lines (except p code) = (w.EXCEPT ∷ constant_words code) ∷ []
  stmt_lines (assert p e) = (w.ASSERT ∷ expr_words e) ∷ []

  pub stmts_lines : {P : Type 0} → Stmts P → List Line
  stmts_lines no_stmts = []
  stmts_lines (stmts s ss) = stmt_lines s ++ stmts_lines ss

-- ---- the lines of declarations

-- the lines of each in turn
abbrev pub lines_of : {A : Type 0} → (A → List Line) → List A → List Line
lines_of f [] = []
lines_of f (x ∷ xs) = f x ++ lines_of f xs

abbrev pub end_line : List ℕ → Line
end_line n = w.END ∷ named n ∷ []

abbrev pub var_lines : {P : Type 0} → Var P → List Line
var_lines v = (w.VAR ∷ named v.name ∷ w.COLON ∷ kind_line v.kind) ∷ []

abbrev pub param_words : {P : Type 0} → Param P → Line
param_words v = named v.name ∷ w.COLON ∷ scalar_words v.kind

-- the type of a function's result
abbrev pub result_words : {P : Type 0} → Option (Scalar P) → Line
result_words None = []
result_words (Some s) = w.RETURNS ∷ scalar_words s

-- the result of a function
abbrev pub return_lines : {P : Type 0} → Option (Expr P) → List Line
return_lines None = []
return_lines (Some e) = (w.RETURN ∷ expr_words e) ∷ []

abbrev pub header : {P : Type 0} → Routine P → Line
header r = kind_word r.kind ∷ named r.name ∷ w.LEFT_PAREN ∷ (listed param_words r.params ++ w.RIGHT_PAREN ∷ result_words r.result)

-- what follows the header
abbrev pub rest_of_routine : {P : Type 0} → Routine P → List Line
rest_of_routine r = lines_of var_lines r.vars ++ (w.BEGIN ∷ []) ∷ (stmts_lines r.body ++ (return_lines r.value ++ end_line r.close ∷ []))

abbrev pub routine_lines : {P : Type 0} → Routine P → List Line
routine_lines r = header r ∷ rest_of_routine r

abbrev pub entry_lines : {P : Type 0} → Routine P → List Line
entry_lines r = (w.ENTRY ∷ header r) ∷ rest_of_routine r

abbrev pub member_lines : {P : Type 0} → Member P → List Line
member_lines (variable_member v) = var_lines v
member_lines (condition_member n p) = (w.CONDITION ∷ named n ∷ []) ∷ []

abbrev pub monitor_lines : {P : Type 0} → Monitor P → List Line
monitor_lines m = (w.MONITOR ∷ named m.name ∷ []) ∷ (lines_of member_lines m.members ++ (lines_of entry_lines m.entries ++ end_line m.close ∷ []))

-- the deadline, where it is said
abbrev pub deadline_words : {P : Type 0} → Option (Constant P) → Line
deadline_words None = []
deadline_words (Some c) = w.DEADLINE ∷ constant_words c

-- the first activation, where it is said
abbrev pub first_words : {P : Type 0} → Option (Constant P) → Line
first_words None = []
first_words (Some c) = w.FIRST ∷ w.ACTIVATION ∷ w.AT_TIME ∷ constant_words c

abbrev pub activation_words : {P : Type 0} → Activation P → Line
activation_words (periodic frame deadline first) =
    w.PERIODIC ∷ w.FRAME ∷ (constant_words frame ++ (deadline_words deadline ++ first_words first))
activation_words (at_event e p frame deadline) =
    w.AT_EVENT ∷ named e ∷ w.FRAME ∷ (constant_words frame ++ deadline_words deadline)

abbrev pub handler_words : {P : Type 0} → List (Constant P) → Line
handler_words numbers = w.HANDLER ∷ w.LEFT_PAREN ∷ (listed constant_words numbers ++ w.RIGHT_PAREN ∷ [])

abbrev pub handler_lines : {P : Type 0} → Option (Handler P) → List Line
handler_lines None = []
handler_lines (Some h) = handler_words h.numbers ∷ stmts_lines h.body

abbrev pub process_words : {P : Type 0} → Process P → Line
process_words p = w.PROCESS ∷ named p.name ∷ w.COLON ∷ activation_words p.activation

abbrev pub process_lines : {P : Type 0} → Process P → List Line
process_lines p =
    process_words p ∷ (lines_of var_lines p.vars ++ (lines_of routine_lines p.routines ++ (w.BEGIN ∷ []) ∷ (stmts_lines p.body
    ++ (handler_lines p.handler ++ end_line p.close ∷ []))))

abbrev pub decl_lines : {P : Type 0} → Decl P → List Line
decl_lines (constant n p c) = (w.CONST ∷ named n ∷ w.ASSIGN ∷ constant_words c) ∷ []
decl_lines (device n p is_out) = (w.DEVICE ∷ named n ∷ w.COLON ∷ way_word is_out ∷ []) ∷ []
decl_lines (event n p) = (w.EVENT ∷ named n ∷ []) ∷ []
decl_lines (routine r) = routine_lines r
decl_lines (monitor m) = monitor_lines m
decl_lines (process p) = process_lines p

abbrev pub program_lines : {P : Type 0} → Prog P → List Line
program_lines g = (w.PROGRAM ∷ named g.name ∷ []) ∷ (lines_of decl_lines g.decls ++ end_line g.close ∷ [])

-- the canonical text
abbrev pub canonical : {P : Type 0} → Prog P → List ℕ
canonical g = text_of (program_lines g)
