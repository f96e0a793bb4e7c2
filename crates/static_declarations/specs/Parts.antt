-- The statements of a program and the results of its functions, each with where it stands.
use Rattle.std.specs.Prelude.{Bool, true, false, List, [], ◌∷◌, Option, Some, None}
use Rattle.syntax_tree.specs.Placed.{Scalar, Expr, Ref, whole, part, Stmt, assign, assign_entry, assign_empty, perform, perform_entry, when, when_else, loop, exit_when, get, put, wait, signal, broadcast, except, assert, Stmts, no_stmts, stmts, RoutineKind, procedure, function, Routine, Handler, Decl, constant, device, event, routine, monitor, process, Prog}
use Rattle.syntax_tree.specs.declared.place.Place.{Place}
use Rattle.static_declarations.specs.declared.home.StmtContext.{StmtContext}
use Rattle.static_declarations.specs.declared.home.StmtContext.TheVariants as home_is
use Rattle.static_declarations.specs.declared.home.Where.{Where}

-- a statement, or the result of a function: its type and its expression, at the function's name
pub data Part : Type 0 where
  statement : Where → Stmt Place → Part
  answer : (name : Place) → Scalar Place → Expr Place → Part

-- the place of a statement is that of its first token
abbrev pub ref_place : Ref Place → Place
ref_place (whole p name) = p
ref_place (part p name i) = p

abbrev pub stmt_place : Stmt Place → Place
stmt_place (assign r e) = ref_place r
stmt_place (assign_entry r mon p entry q es) = ref_place r
stmt_place (assign_empty r cond p) = ref_place r
stmt_place (perform p name es) = p
stmt_place (perform_entry p mon entry q es) = p
stmt_place (when p e a) = p
stmt_place (when_else p e a b) = p
stmt_place (loop p name q low high a) = p
stmt_place (exit_when p e) = p
stmt_place (get p dev q r) = p
stmt_place (put p dev q e) = p
stmt_place (wait p cond q limit number) = p
stmt_place (signal p cond q) = p
stmt_place (broadcast p cond q) = p
stmt_place (except p number) = p
stmt_place (assert p e) = p

abbrev pub looped : Where → Where
looped here = record { home = here.home; in_loop = true }

-- Each definition gives the parts of its part of the tree, and then `more`.

abbrev mutual
  pub stmt_parts : Where → Stmt Place → List Part → List Part
  stmt_parts here (assign r e) more = statement here (assign r e) ∷ more
  stmt_parts here (assign_entry r mon p entry q es) more = statement here (assign_entry r mon p entry q es) ∷ more
  stmt_parts here (assign_empty r cond p) more = statement here (assign_empty r cond p) ∷ more
  stmt_parts here (perform p name es) more = statement here (perform p name es) ∷ more
  stmt_parts here (perform_entry p mon entry q es) more = statement here (perform_entry p mon entry q es) ∷ more
  stmt_parts here (when p e a) more = statement here (when p e a) ∷ stmts_parts here a more
  stmt_parts here (when_else p e a b) more = statement here (when_else p e a b) ∷ stmts_parts here a (stmts_parts here b more)
  stmt_parts here (loop p name q low high a) more = statement here (loop p name q low high a) ∷ stmts_parts (looped here) a more
  stmt_parts here (exit_when p e) more = statement here (exit_when p e) ∷ more
  stmt_parts here (get p dev q r) more = statement here (get p dev q r) ∷ more
  stmt_parts here (put p dev q e) more = statement here (put p dev q e) ∷ more
  stmt_parts here (wait p cond q limit number) more = statement here (wait p cond q limit number) ∷ more
  stmt_parts here (signal p cond q) more = statement here (signal p cond q) ∷ more
  stmt_parts here (broadcast p cond q) more = statement here (broadcast p cond q) ∷ more
  stmt_parts here (except p number) more = statement here (except p number) ∷ more
  stmt_parts here (assert p e) more = statement here (assert p e) ∷ more

  pub stmts_parts : Where → Stmts Place → List Part → List Part
  stmts_parts here no_stmts more = more
  stmts_parts here (stmts s ss) more = stmt_parts here s (stmts_parts here ss more)

-- a function that is no entry is known by the place of its name
abbrev pub home_of : (is_entry : Bool) → RoutineKind → Place → StmtContext
home_of true kind place = home_is.Entry
home_of false procedure place = home_is.Free
home_of false function place = home_is.Function place

abbrev pub outside_loops : StmtContext → Where
outside_loops home = record { home = home; in_loop = false }

abbrev pub answer_parts : Place → Option (Scalar Place) → Option (Expr Place) → List Part → List Part
answer_parts name (Some s) (Some e) more = answer name s e ∷ more
answer_parts name _ _ more = more

abbrev pub routine_parts : (is_entry : Bool) → Routine Place → List Part → List Part
routine_parts is_entry r more = stmts_parts (outside_loops (home_of is_entry r.kind r.place)) r.body (answer_parts r.place r.result r.value more)

abbrev pub routines_parts : (is_entry : Bool) → List (Routine Place) → List Part → List Part
routines_parts is_entry [] more = more
routines_parts is_entry (r ∷ rs) more = routine_parts is_entry r (routines_parts is_entry rs more)

abbrev pub handler_parts : Option (Handler Place) → List Part → List Part
handler_parts None more = more
handler_parts (Some h) more = stmts_parts (outside_loops home_is.Free) h.body more

abbrev pub decl_parts : Decl Place → List Part → List Part
decl_parts (constant name p c) more = more
decl_parts (device name p is_out) more = more
decl_parts (event name p) more = more
decl_parts (routine r) more = routine_parts false r more
decl_parts (monitor m) more = routines_parts true m.entries more
decl_parts (process p) more = routines_parts false p.routines (stmts_parts (outside_loops home_is.Free) p.body (handler_parts p.handler more))

abbrev pub decls_parts : List (Decl Place) → List Part → List Part
decls_parts [] more = more
decls_parts (d ∷ ds) more = decl_parts d (decls_parts ds more)

-- all statements and results of a program
abbrev pub parts : Prog Place → List Part
parts g = decls_parts g.decls []
