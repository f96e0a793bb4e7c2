-- Reading declarations and programs.
use Rattle.std.specs.Prelude.{ℕ, Bool, true, false, ◌||◌, if◌then◌else◌, List, [], ◌∷◌, length, Result, Ok, Err, Option, Some, None}
use Rattle.syntax_tree.specs.Plain.{Name}
use Rattle.syntax_tree.specs.Placed.{Constant, Scalar, int, boolean, subrange, Kind, scalar, array, Var, Param, Expr, Stmt, stmts_of, RoutineKind, procedure, function, Routine, Member, variable_member, condition_member, Monitor, Activation, periodic, at_event, Handler, Process, Decl, device, event, routine, monitor, process, Prog}
use Rattle.syntax_tree.specs.Placed as tree
use Rattle.syntax.specs.Words as w
use Rattle.syntax.specs.Words.{Word, named, number, keyword, sign, Tok}
use Rattle.syntax_reading.specs.ExprReading.{Fault, syntax, ◌>>=◌, Parse, is_at, expect, name, many, listed, in_parens, constant, expr}
use Rattle.syntax_reading.specs.StmtReading.{stmts}

unfoldable pub range : {P : Type 0} → Parse P (Constant P × Constant P)
range ts = constant ts >>= λ low. expect w.RANGE low.1 >>= λ c. constant c.1 >>= λ high. Ok ((low.0, high.0), high.1)

unfoldable pub scalar_type : {P : Type 0} → Parse P (Scalar P)
scalar_type ts =
    if is_at w.INT ts then (expect w.INT ts >>= λ c. Ok (int, c.1))
    else if is_at w.BOOLEAN ts then (expect w.BOOLEAN ts >>= λ c. Ok (boolean, c.1))
    else (range ts >>= λ r. Ok (subrange r.0.0 r.0.1, r.1))

unfoldable pub kind : {P : Type 0} → Parse P (Kind P)
kind ts =
    if is_at w.ARRAY ts then
    (expect w.ARRAY ts >>= λ c. range c.1 >>= λ r. expect w.OF r.1 >>= λ c. scalar_type c.1 >>= λ s. Ok (array r.0.0 r.0.1 s.0, s.1))
    else (scalar_type ts >>= λ s. Ok (scalar s.0, s.1))

unfoldable pub var : {P : Type 0} → Parse P (Var P)
var ts =
    expect w.VAR ts >>= λ c. name c.1 >>= λ n. expect w.COLON n.1 >>= λ c. kind c.1 >>= λ k.
    Ok (record { name = n.0.0; place = n.0.1; kind = k.0 }, k.1)

unfoldable pub vars : {P : Type 0} → Parse P (List (Var P))
vars ts = many (is_at w.VAR) var ts

unfoldable pub param : {P : Type 0} → Parse P (Param P)
param ts = name ts >>= λ n. expect w.COLON n.1 >>= λ c. scalar_type c.1 >>= λ s. Ok (record { name = n.0.0; place = n.0.1; kind = s.0 }, s.1)

unfoldable pub params : {P : Type 0} → Parse P (List (Param P))
params ts = in_parens param ts

-- from here on with a number of levels of nesting

unfoldable pub block : {P : Type 0} → ℕ → Parse P (List (Stmt P))
block depth ts = expect w.BEGIN ts >>= λ c. stmts depth c.1

-- the closing name
unfoldable pub close : {P : Type 0} → Parse P (Name × P)
close ts = expect w.END ts >>= λ c. name c.1

-- ---- routines

unfoldable pub routine_kind : {P : Type 0} → Parse P RoutineKind
routine_kind ts =
    if is_at w.PROCEDURE ts then (expect w.PROCEDURE ts >>= λ c. Ok (procedure, c.1))
    else (expect w.FUNCTION ts >>= λ c. Ok (function, c.1))

unfoldable pub result : {P : Type 0} → RoutineKind → Parse P (Option (Scalar P))
result procedure ts = Ok (None, ts)
result function ts = expect w.RETURNS ts >>= λ c. scalar_type c.1 >>= λ s. Ok (Some s.0, s.1)

unfoldable pub value : {P : Type 0} → ℕ → RoutineKind → Parse P (Option (Expr P))
value depth procedure ts = Ok (None, ts)
value depth function ts = expect w.RETURN ts >>= λ c. expr depth c.1 >>= λ e. Ok (Some e.0, e.1)

unfoldable pub routine_decl : {P : Type 0} → ℕ → Parse P (Routine P)
routine_decl depth ts =
    routine_kind ts >>= λ k. name k.1 >>= λ n. params n.1 >>= λ ps. result k.0 ps.1 >>= λ s. vars s.1 >>= λ vs. block depth vs.1 >>= λ b.
    value depth k.0 b.1 >>= λ e. close e.1 >>= λ c.
    Ok (
      record {
        kind = k.0;
        name = n.0.0;
        place = n.0.1;
        params = ps.0;
        result = s.0;
        vars = vs.0;
        body = stmts_of b.0;
        value = e.0;
        close = c.0.0;
        close_place = c.0.1;
      },
      c.1,
    )

abbrev pub begins_routine : {P : Type 0} → List (Tok P) → Bool
begins_routine ts = is_at w.PROCEDURE ts || is_at w.FUNCTION ts

unfoldable pub routines : {P : Type 0} → ℕ → Parse P (List (Routine P))
routines depth ts = many begins_routine (routine_decl depth) ts

-- ---- monitors

abbrev pub begins_member : {P : Type 0} → List (Tok P) → Bool
begins_member ts = is_at w.VAR ts || is_at w.CONDITION ts

unfoldable pub member : {P : Type 0} → Parse P (Member P)
member ts =
    if is_at w.VAR ts then (var ts >>= λ v. Ok (variable_member v.0, v.1))
    else (expect w.CONDITION ts >>= λ c. name c.1 >>= λ n. Ok (condition_member n.0.0 n.0.1, n.1))

unfoldable pub members : {P : Type 0} → Parse P (List (Member P))
members ts = many begins_member member ts

unfoldable pub entry_decl : {P : Type 0} → ℕ → Parse P (Routine P)
entry_decl depth ts = expect w.ENTRY ts >>= λ c. routine_decl depth c.1

unfoldable pub entries : {P : Type 0} → ℕ → Parse P (List (Routine P))
entries depth ts = many (is_at w.ENTRY) (entry_decl depth) ts

unfoldable pub monitor_decl : {P : Type 0} → ℕ → Parse P (Monitor P)
monitor_decl depth ts =
    expect w.MONITOR ts >>= λ c. name c.1 >>= λ n. members n.1 >>= λ ms. entries depth ms.1 >>= λ es. close es.1 >>= λ c.
    Ok (record { name = n.0.0; place = n.0.1; members = ms.0; entries = es.0; close = c.0.0; close_place = c.0.1 }, c.1)

-- ---- processes

unfoldable pub deadline : {P : Type 0} → Parse P (Option (Constant P))
deadline ts =
    if is_at w.DEADLINE ts then (expect w.DEADLINE ts >>= λ c. constant c.1 >>= λ d. Ok (Some d.0, d.1)) else Ok (None, ts)

unfoldable pub first : {P : Type 0} → Parse P (Option (Constant P))
first ts =
    if is_at w.FIRST ts then
    (expect w.FIRST ts >>= λ c. expect w.ACTIVATION c.1 >>= λ c. expect w.AT_TIME c.1 >>= λ c. constant c.1 >>= λ f. Ok (Some f.0, f.1))
    else Ok (None, ts)

unfoldable pub activation : {P : Type 0} → Parse P (Activation P)
activation ts =
    if is_at w.PERIODIC ts then
    (expect w.PERIODIC ts >>= λ c. expect w.FRAME c.1 >>= λ c. constant c.1 >>= λ frame. deadline frame.1 >>= λ d. first d.1 >>= λ f.
    Ok (periodic frame.0 d.0 f.0, f.1))
    else
    (expect w.AT_EVENT ts >>= λ c. name c.1 >>= λ n. expect w.FRAME n.1 >>= λ c. constant c.1 >>= λ frame. deadline frame.1 >>= λ d.
    Ok (at_event n.0.0 n.0.1 frame.0 d.0, d.1))

unfoldable pub numbers : {P : Type 0} → Parse P (List (Constant P))
numbers ts = expect w.LEFT_PAREN ts >>= λ c. listed constant c.1 >>= λ ns. expect w.RIGHT_PAREN ns.1 >>= λ c. Ok (ns.0, c.1)

unfoldable pub handler : {P : Type 0} → ℕ → Parse P (Option (Handler P))
handler depth ts =
    if is_at w.HANDLER ts then
    (expect w.HANDLER ts >>= λ c. numbers c.1 >>= λ ns. stmts depth ns.1 >>= λ ss.
    Ok (Some (record { numbers = ns.0; body = stmts_of ss.0 }), ss.1))
    else Ok (None, ts)

unfoldable pub process_decl : {P : Type 0} → ℕ → Parse P (Process P)
process_decl depth ts =
    expect w.PROCESS ts >>= λ c. name c.1 >>= λ n. expect w.COLON n.1 >>= λ c. activation c.1 >>= λ a. vars a.1 >>= λ vs.
    routines depth vs.1 >>= λ rs. block depth rs.1 >>= λ b. handler depth b.1 >>= λ h. close h.1 >>= λ c.
    Ok (
      record {
        name = n.0.0;
        place = n.0.1;
        activation = a.0;
        vars = vs.0;
        routines = rs.0;
        body = stmts_of b.0;
        handler = h.0;
        close = c.0.0;
        close_place = c.0.1;
      },
      c.1,
    )

-- ---- declarations

unfoldable pub const_decl : {P : Type 0} → Parse P (Decl P)
const_decl ts = expect w.CONST ts >>= λ c. name c.1 >>= λ n. expect w.ASSIGN n.1 >>= λ c. constant c.1 >>= λ v. Ok (tree.constant n.0.0 n.0.1 v.0, v.1)

-- whether the device is an out device
unfoldable pub way : {P : Type 0} → Parse P Bool
way ts = if is_at w.OUT ts then (expect w.OUT ts >>= λ c. Ok (true, c.1)) else (expect w.IN ts >>= λ c. Ok (false, c.1))

unfoldable pub device_decl : {P : Type 0} → Parse P (Decl P)
device_decl ts = expect w.DEVICE ts >>= λ c. name c.1 >>= λ n. expect w.COLON n.1 >>= λ c. way c.1 >>= λ v. Ok (device n.0.0 n.0.1 v.0, v.1)

unfoldable pub event_decl : {P : Type 0} → Parse P (Decl P)
event_decl ts = expect w.EVENT ts >>= λ c. name c.1 >>= λ n. Ok (event n.0.0 n.0.1, n.1)

unfoldable pub decl : {P : Type 0} → ℕ → Parse P (Decl P)
decl depth ts =
    if is_at w.CONST ts then const_decl ts
    else if is_at w.DEVICE ts then device_decl ts
    else if is_at w.EVENT ts then event_decl ts
    else if is_at w.MONITOR ts then (monitor_decl depth ts >>= λ m. Ok (monitor m.0, m.1))
    else if is_at w.PROCESS ts then (process_decl depth ts >>= λ p. Ok (process p.0, p.1))
    else (routine_decl depth ts >>= λ r. Ok (routine r.0, r.1))

abbrev pub begins_decl : {P : Type 0} → List (Tok P) → Bool
begins_decl ts =
    is_at w.CONST ts || is_at w.DEVICE ts || is_at w.EVENT ts || is_at w.MONITOR ts || is_at w.PROCESS ts || begins_routine ts

unfoldable pub decls : {P : Type 0} → ℕ → Parse P (List (Decl P))
decls depth ts = many begins_decl (decl depth) ts

unfoldable pub prog : {P : Type 0} → ℕ → Parse P (Prog P)
prog depth ts =
    expect w.PROGRAM ts >>= λ c. name c.1 >>= λ n. decls depth n.1 >>= λ ds. close ds.1 >>= λ c.
    Ok (record { name = n.0.0; place = n.0.1; decls = ds.0; close = c.0.0; close_place = c.0.1 }, c.1)

abbrev pub if_last : {P A : Type 0} → A → List (Tok P) → Result A Fault
if_last x [] = Ok x
if_last x (t ∷ ts) = Err (syntax (length (t ∷ ts)))

-- the program that all the tokens are
unfoldable pub whole : {P : Type 0} → ℕ → List (Tok P) → Result (Prog P) Fault
whole depth ts = prog depth ts >>= λ g. if_last g.0 g.1
