-- Programs that are not well formed, and some that are.
use Rattle.std.specs.Prelude.{ℕ, Bool, false, true, [], ◌∷◌, Some, None, codes}
use Rattle.syntax_tree.specs.Plain.{Program, Process, Stmt, Declaration, device, process, periodic, literal_constant, literal, variable, loop, put, perform, no_exprs, stmts, no_stmts}

abbrev pub valve : Bool → Declaration
valve is_out = device (codes "valve") is_out

-- one process of one statement
abbrev pub doing : Declaration → Stmt → Program
doing d s = record {
  name = codes "a";
  decls =
      d
      ∷ process (record { name = codes "p"; activation = periodic (literal_constant false 100) None None; vars = []; routines = []; body = stmts s no_stmts; handler = None })
      ∷ [];
}

abbrev pub put_inwards : Program
put_inwards = doing (valve false) (put (codes "valve") (literal 7))

abbrev pub undeclared : Program
undeclared = doing (valve true) (put (codes "valve") (variable (codes "x")))

abbrev pub endless : Program
endless = doing (valve true) (loop (codes "i") (literal_constant false 2147483647) (literal_constant false 2147483647) no_stmts)

-- a process with a procedure that calls itself
abbrev pub circle : Process
circle = record {
  name = codes "p";
  activation = periodic (literal_constant false 100) None None;
  vars = [];
  routines = record { name = codes "f"; params = []; vars = []; body = stmts (perform (codes "f") no_exprs) no_stmts; answers = None } ∷ [];
  body = stmts (perform (codes "f") no_exprs) no_stmts;
  handler = None;
}

abbrev pub circular : Program
circular = record { name = codes "a"; decls = process circle ∷ [] }

-- a process that is released each 100 ticks and has to end within so many
abbrev pub due_in : ℕ → Process
due_in deadline = record {
  name = codes "p";
  activation = periodic (literal_constant false 100) (Some (literal_constant false deadline)) None;
  vars = [];
  routines = [];
  body = stmts (put (codes "valve") (literal 7)) no_stmts;
  handler = None;
}

abbrev pub hurrying : ℕ → Program
hurrying deadline = record { name = codes "a"; decls = valve true ∷ process (due_in deadline) ∷ [] }
