-- Reading statements.
use Rattle.std.specs.Prelude.{ℕ, zero, suc, ◌==◌, Bool, true, false, ◌||◌, if◌then◌else◌, List, [], ◌∷◌, Ok}
use Rattle.syntax.specs.declared.token.keyword.TheConstants as k
use Rattle.syntax_tree.specs.Plain.{Name}
use Rattle.syntax_tree.specs.Placed.{Expr, Ref, whole, part, Stmt, assign, assign_entry, assign_empty, perform, perform_entry, when, when_else, loop, exit_when, get, put, wait, signal, broadcast, except, assert, exprs_of, stmts_of}
use Rattle.syntax.specs.Words as w
use Rattle.syntax.specs.Words.{Word, named, number, keyword, sign, Tok}
use Rattle.syntax_reading.specs.ExprReading.{◌>>=◌, Parse, refuse, too_deep, is_at, is_name, is_entry, expect, name, many, constant, index, args, inner, expr}

-- behind a name
unfoldable pub reference_from : {P : Type 0} → ℕ → Name × P → Parse P (Ref P)
reference_from depth n ts = if is_at w.LEFT_BRACKET ts then (index (inner depth) ts >>= λ i. Ok (part n.1 n.0 i.0, i.1)) else Ok (whole n.1 n.0, ts)

unfoldable pub reference : {P : Type 0} → ℕ → Parse P (Ref P)
reference depth ts = name ts >>= λ n. reference_from depth n.0 n.1

-- the arguments of an entry
unfoldable pub entry_args : {P : Type 0} → ℕ → Parse P (List (Expr P))
entry_args depth ts = if is_at w.LEFT_PAREN ts then args (inner depth) ts else refuse ts

-- the entry that is called, behind its monitor
unfoldable pub entry : {P : Type 0} → ℕ → Parse P (Name × P × List (Expr P))
entry depth ts = expect w.DOT ts >>= λ c. name c.1 >>= λ n. entry_args depth n.1 >>= λ es. Ok ((n.0.0, n.0.1, es.0), es.1)

-- what is assigned
unfoldable pub assigned : {P : Type 0} → ℕ → Ref P → Parse P (Stmt P)
assigned depth r ts =
    if is_at w.EMPTY ts then (expect w.EMPTY ts >>= λ c. name c.1 >>= λ n. Ok (assign_empty r n.0.0 n.0.1, n.1))
    else if is_entry ts then (name ts >>= λ m. entry depth m.1 >>= λ e. Ok (assign_entry r m.0.0 m.0.1 e.0.0 e.0.1 (exprs_of e.0.2), e.1))
    else (expr depth ts >>= λ e. Ok (assign r e.0, e.1))

-- behind a name that begins a statement
unfoldable pub named_stmt : {P : Type 0} → ℕ → Name × P → Parse P (Stmt P)
named_stmt depth n ts =
    if is_at w.LEFT_PAREN ts then (args (inner depth) ts >>= λ es. Ok (perform n.1 n.0 (exprs_of es.0), es.1))
    else if is_at w.DOT ts then (entry depth ts >>= λ e. Ok (perform_entry n.1 n.0 e.0.0 e.0.1 (exprs_of e.0.2), e.1))
    else (reference_from depth n ts >>= λ r. expect w.ASSIGN r.1 >>= λ c. assigned depth r.0 c.1)

unfoldable pub exit_stmt : {P : Type 0} → ℕ → Parse P (Stmt P)
exit_stmt depth ts = expect w.EXIT ts >>= λ p. expect w.WHEN p.1 >>= λ c. expr depth c.1 >>= λ e. Ok (exit_when p.0 e.0, e.1)

unfoldable pub get_stmt : {P : Type 0} → ℕ → Parse P (Stmt P)
get_stmt depth ts = expect w.GET ts >>= λ p. name p.1 >>= λ n. reference depth n.1 >>= λ r. Ok (get p.0 n.0.0 n.0.1 r.0, r.1)

unfoldable pub put_stmt : {P : Type 0} → ℕ → Parse P (Stmt P)
put_stmt depth ts = expect w.PUT ts >>= λ p. name p.1 >>= λ n. expr depth n.1 >>= λ e. Ok (put p.0 n.0.0 n.0.1 e.0, e.1)

unfoldable pub assert_stmt : {P : Type 0} → ℕ → Parse P (Stmt P)
assert_stmt depth ts = expect w.ASSERT ts >>= λ p. expr depth p.1 >>= λ e. Ok (assert p.0 e.0, e.1)

unfoldable pub wait_stmt : {P : Type 0} → Parse P (Stmt P)
wait_stmt ts =
    expect w.WAIT ts >>= λ p. name p.1 >>= λ n. expect w.NO_LONGER_THAN n.1 >>= λ c. constant c.1 >>= λ limit.
    expect w.COLON limit.1 >>= λ c. constant c.1 >>= λ number. Ok (wait p.0 n.0.0 n.0.1 limit.0 number.0, number.1)

unfoldable pub signal_stmt : {P : Type 0} → Parse P (Stmt P)
signal_stmt ts = expect w.SIGNAL ts >>= λ p. name p.1 >>= λ n. Ok (signal p.0 n.0.0 n.0.1, n.1)

unfoldable pub broadcast_stmt : {P : Type 0} → Parse P (Stmt P)
broadcast_stmt ts = expect w.BROADCAST ts >>= λ p. name p.1 >>= λ n. Ok (broadcast p.0 n.0.0 n.0.1, n.1)

unfoldable pub except_stmt : {P : Type 0} → Parse P (Stmt P)
except_stmt ts = expect w.EXCEPT ts >>= λ p. constant p.1 >>= λ c. Ok (except p.0 c.0, c.1)

-- a statement with no expression
unfoldable pub plain_stmt : {P : Type 0} → Parse P (Stmt P)
plain_stmt ts =
    if is_at w.WAIT ts then wait_stmt ts
    else if is_at w.SIGNAL ts then signal_stmt ts
    else if is_at w.BROADCAST ts then broadcast_stmt ts
    else except_stmt ts

-- a statement with no statements inside, by its keyword
unfoldable pub simple_stmt : {P : Type 0} → ℕ → Parse P (Stmt P)
simple_stmt depth ts =
    if is_at w.EXIT ts then exit_stmt depth ts
    else if is_at w.GET ts then get_stmt depth ts
    else if is_at w.PUT ts then put_stmt depth ts
    else if is_at w.ASSERT ts then assert_stmt depth ts
    else plain_stmt ts

-- ---- statements with others inside

abbrev pub begins_by : Word → Bool
begins_by (named n) = true
begins_by (keyword at) =
    at == k.IF || at == k.FOR || at == k.EXIT || at == k.GET || at == k.PUT || at == k.ASSERT || at == k.WAIT || at == k.SIGNAL
    || at == k.BROADCAST || at == k.EXCEPT
begins_by _ = false

-- the first token begins a statement
abbrev pub begins : {P : Type 0} → List (Tok P) → Bool
begins [] = false
begins (t ∷ ts) = begins_by t.word

unfoldable pub stmts_by : {P : Type 0} → Parse P (Stmt P) → Parse P (List (Stmt P))
stmts_by p ts = many begins p ts

-- the closing of a form that begins with this word
unfoldable pub closing : {P : Type 0} → Word → Parse P P
closing word ts = expect w.END ts >>= λ e. expect word e.1

unfoldable pub else_by : {P : Type 0} → Parse P (Stmt P) → P → Expr P → List (Stmt P) → Parse P (Stmt P)
else_by s p e ss ts =
    if is_at w.ELSE ts then
    (expect w.ELSE ts >>= λ c. stmts_by s c.1 >>= λ others. closing w.IF others.1 >>= λ c. Ok (when_else p e (stmts_of ss) (stmts_of others.0), c.1))
    else (closing w.IF ts >>= λ c. Ok (when p e (stmts_of ss), c.1))

unfoldable pub choice : {P : Type 0} → ℕ → Parse P (Stmt P) → Parse P (Stmt P)
choice depth s ts =
    expect w.IF ts >>= λ p. expr depth p.1 >>= λ e. expect w.THEN e.1 >>= λ c. stmts_by s c.1 >>= λ ss. else_by s p.0 e.0 ss.0 ss.1

unfoldable pub loop_stmt : {P : Type 0} → Parse P (Stmt P) → Parse P (Stmt P)
loop_stmt s ts =
    expect w.FOR ts >>= λ p. name p.1 >>= λ n. expect w.COLON n.1 >>= λ c. constant c.1 >>= λ low. expect w.RANGE low.1 >>= λ c.
    constant c.1 >>= λ high. expect w.DO high.1 >>= λ c. stmts_by s c.1 >>= λ ss. closing w.FOR ss.1 >>= λ c.
    Ok (loop p.0 n.0.0 n.0.1 low.0 high.0 (stmts_of ss.0), c.1)

-- by the branch and the loop with their statements one level deeper
unfoldable pub stmt_by : {P : Type 0} → ℕ → (choose turn : Parse P (Stmt P)) → Parse P (Stmt P)
stmt_by depth choose turn ts =
    if is_name ts then (name ts >>= λ n. named_stmt depth n.0 n.1)
    else if is_at w.IF ts then choose ts
    else if is_at w.FOR ts then turn ts
    else simple_stmt depth ts

-- with this many levels of nesting left
unfoldable pub stmt : {P : Type 0} → ℕ → Parse P (Stmt P)
stmt zero ts = stmt_by zero too_deep too_deep ts
stmt (suc depth) ts = stmt_by (suc depth) (choice depth (stmt depth)) (loop_stmt (stmt depth)) ts

unfoldable pub stmts : {P : Type 0} → ℕ → Parse P (List (Stmt P))
stmts depth ts = stmts_by (stmt depth) ts
