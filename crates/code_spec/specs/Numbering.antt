-- The numbers of routines and entries: callees come first.
use Rattle.std.specs.Prelude.{ℕ, zero, suc, Bool, true, false, cond, ◌&&◌, ◌||◌, List, [], ◌∷◌, ◌++◌, Option, Some, None, nat_eq, bytes_eq, option_map, slice_get, map}
use Rattle.syntax_tree.specs.Plain.{Name, Expr, literal, truth, variable, element, call, minus, negation, paren, row, Exprs, no_exprs, exprs, Operands, no_operands, operand, Ref, whole, part, Stmt, assign, assign_entry, assign_empty, perform, perform_entry, when, when_else, loop, exit_when, get, put, wait, signal, broadcast, except, assert, Stmts, no_stmts, stmts, Answers, Routine, Monitor, Process, Declaration, constant, device, event, routine, monitor, process, Program}
use Rattle.source_semantics.specs.Names.{named, monitors, processes, routines, monitor_number, routine_count}
use Rattle.source_semantics.specs.Run.{or_else}
use Rattle.code_spec.specs.Layout.{Owner, by_program, by_process, by_monitor}

-- a routine or an entry, with whose it is
pub record Text : Type 0 where
  pub owner : Owner
  pub routine : Routine

abbrev pub same_owner : Owner → Owner → Bool
same_owner by_program by_program = true
same_owner (by_process k) (by_process j) = nat_eq k j
same_owner (by_monitor k) (by_monitor j) = nat_eq k j
same_owner _ _ = false

-- two routines are one where they have one owner and one name
abbrev pub same_text : Text → Text → Bool
same_text a b = same_owner a.owner b.owner && bytes_eq a.routine.name b.routine.name

-- ---- what names in calls mean

abbrev pub routine_of : Owner → List Routine → Name → Option Text
routine_of o rs f = option_map (λ r. record { owner = o; routine = r }) (named (λ r. r.name) f rs)

abbrev pub process_routines : Option Process → List Routine
process_routines None = []
process_routines (Some p) = p.routines

-- the routine that a call names: in a process's text one of the process, else one of the program
abbrev pub routine_in : Program → Owner → Name → Option Text
routine_in g by_program f = routine_of by_program (routines g) f
routine_in g (by_monitor m) f = routine_of by_program (routines g) f
routine_in g (by_process k) f = or_else (routine_of (by_process k) (process_routines (slice_get (processes g) k)) f) (routine_of by_program (routines g) f)

abbrev pub entry_of : ℕ → Option Monitor → Name → Option Text
entry_of m None e = None
entry_of m (Some k) e = routine_of (by_monitor m) k.entries e

-- the entry that a call names
abbrev pub entry_in : Program → Name → Name → Option Text
entry_in g m e = entry_of (monitor_number g m) (named (λ k. k.name) m (monitors g)) e

-- ---- what a text calls, in the order in which the names stand

pub data Called : Type 0 where
  calls_routine : Name → Called
  calls_entry : (mon entry : Name) → Called

abbrev mutual
  pub expr_calls : Expr → List Called
  expr_calls (literal n) = []
  expr_calls (truth b) = []
  expr_calls (variable x) = []
  expr_calls (element x e) = expr_calls e
  expr_calls (call f es) = calls_routine f ∷ exprs_calls es
  expr_calls (minus e) = expr_calls e
  expr_calls (negation e) = expr_calls e
  expr_calls (paren e) = expr_calls e
  expr_calls (row e r) = expr_calls e ++ row_calls r

  pub exprs_calls : Exprs → List Called
  exprs_calls no_exprs = []
  exprs_calls (exprs e es) = expr_calls e ++ exprs_calls es

  pub row_calls : Operands → List Called
  row_calls no_operands = []
  row_calls (operand op e r) = expr_calls e ++ row_calls r

abbrev pub ref_calls : Ref → List Called
ref_calls (whole x) = []
ref_calls (part x e) = expr_calls e

abbrev mutual
  pub stmt_calls : Stmt → List Called
  stmt_calls (assign r e) = ref_calls r ++ expr_calls e
  stmt_calls (assign_entry r m e es) = ref_calls r ++ calls_entry m e ∷ exprs_calls es
  stmt_calls (assign_empty r x) = ref_calls r
  stmt_calls (perform f es) = calls_routine f ∷ exprs_calls es
  stmt_calls (perform_entry m e es) = calls_entry m e ∷ exprs_calls es
  stmt_calls (when e a) = expr_calls e ++ stmts_calls a
  stmt_calls (when_else e a b) = expr_calls e ++ (stmts_calls a ++ stmts_calls b)
  stmt_calls (loop i low high ss) = stmts_calls ss
  stmt_calls (exit_when e) = expr_calls e
  stmt_calls (get d r) = ref_calls r
  stmt_calls (put d e) = expr_calls e
  stmt_calls (wait x limit number) = []
  stmt_calls (signal x) = []
  stmt_calls (broadcast x) = []
  stmt_calls (except n) = []
  stmt_calls (assert e) = expr_calls e

  pub stmts_calls : Stmts → List Called
  stmts_calls no_stmts = []
  stmts_calls (stmts s ss) = stmt_calls s ++ stmts_calls ss

abbrev pub answers_calls : Option Answers → List Called
answers_calls None = []
answers_calls (Some a) = expr_calls a.value

abbrev pub routine_calls : Routine → List Called
routine_calls r = stmts_calls r.body ++ answers_calls r.answers

abbrev pub called_text : Program → Owner → Called → Option Text
called_text g o (calls_routine f) = routine_in g o f
called_text g o (calls_entry m e) = entry_in g m e

-- ---- the order of the numbers

abbrev pub is_among : Text → List Text → Bool
is_among t [] = false
is_among t (u ∷ us) = same_text u t || is_among t us

-- visits what a call names, if it names one
abbrev pub visit_some : (List Text → Text → List Text) → List Text → Option Text → List Text
visit_some visit done None = done
visit_some visit done (Some t) = visit done t

-- visits what a list of calls names, one after another
abbrev pub visit_all : (List Text → Text → List Text) → (Called → Option Text) → List Text → List Called → List Text
visit_all visit means done [] = done
visit_all visit means done (c ∷ cs) = visit_all visit means (visit_some visit done (means c)) cs

-- Takes a routine in behind those that have their numbers, unless it has one: first what it calls.
-- The number says how deep calls go.
unfoldable pub visit : ℕ → Program → List Text → Text → List Text
visit zero g done t = done
visit (suc n) g done t = cond (is_among t done) done (visit_all (visit n g) (called_text g t.owner) done (routine_calls t.routine) ++ t ∷ [])

abbrev pub texts_of : Owner → List Routine → List Text
texts_of o rs = map (λ r. record { owner = o; routine = r }) rs

-- routines and entries in the order of the text; the processes and monitors from these numbers on
abbrev pub texts_from : ℕ → ℕ → List Declaration → List Text
texts_from k m [] = []
texts_from k m (routine r ∷ ds) = record { owner = by_program; routine = r } ∷ texts_from k m ds
texts_from k m (monitor d ∷ ds) = texts_of (by_monitor m) d.entries ++ texts_from k (suc m) ds
texts_from k m (process p ∷ ds) = texts_of (by_process k) p.routines ++ texts_from (suc k) m ds
texts_from k m (constant n c ∷ ds) = texts_from k m ds
texts_from k m (device n is_out ∷ ds) = texts_from k m ds
texts_from k m (event n ∷ ds) = texts_from k m ds

abbrev pub visit_texts : ℕ → Program → List Text → List Text → List Text
visit_texts n g done [] = done
visit_texts n g done (t ∷ ts) = visit_texts n g (visit n g done t) ts

-- all routines and entries by number; calls are nested at most as deep as there are routines
unfoldable pub numbered : Program → List Text
numbered g = visit_texts (routine_count g) g [] (texts_from 0 0 g.decls)

abbrev pub place_among : Text → List Text → ℕ
place_among t [] = 0
place_among t (u ∷ us) = cond (same_text u t) 0 (suc (place_among t us))

unfoldable pub number_of : Program → Text → ℕ
number_of g t = place_among t (numbered g)
