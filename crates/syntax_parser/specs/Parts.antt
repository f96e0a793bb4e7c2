-- Parts of the longer forms, each as reading gives it.
use Rattle.std.specs.Prelude.{ℕ, List, map, Option, Ok, Box}
use Rattle.std.specs.Global.{Global}
use Rattle.syntax_tree.specs.declared.place.Place.{Place}
use Rattle.syntax_tree.specs.Plain.{Name}
use Rattle.syntax_tree.specs.Placed as tree
use Rattle.syntax_tree.specs.Placed.{placed_constant, placed_expr, placed_scalar, placed_stmt, placed_param, placed_var, placed_routine, placed_handler, optional}
use Rattle.syntax_tree.specs.declared.expr.Constant as code_constant
use Rattle.syntax_tree.specs.declared.decl.Param as code_param
use Rattle.syntax_tree.specs.declared.decl.Scalar as code_scalar
use Rattle.syntax.specs.Words as w
use Rattle.syntax_reading.specs.ExprReading.{Parse, ◌>>=◌, expect, name, constant}
use Rattle.syntax_reading.specs.StmtReading.{stmts_by, closing}
use Rattle.syntax_reading.specs.Reading as reading
use Rattle.syntax_parser.specs.declared.routine.RoutineEnd as code_routine_end
use Rattle.syntax_parser.specs.declared.process.ProcessCode as code_process_code
use Rattle.syntax_parser.specs.declared.process.ProcessEnd as code_process_end

-- two constants in their boxes
abbrev pub placed_bounds : Box code_constant.Constant Global × Box code_constant.Constant Global → tree.Constant Place × tree.Constant Place
placed_bounds b = (placed_constant b.0.value, placed_constant b.1.value)

-- of a loop, behind its name
unfoldable pub loop_bounds : {P : Type 0} → Parse P (tree.Constant P × tree.Constant P)
loop_bounds ts =
    expect w.COLON ts >>= λ c. constant c.1 >>= λ low. expect w.RANGE low.1 >>= λ c. constant c.1 >>= λ high. Ok ((low.0, high.0), high.1)

-- of a loop, behind its bounds
unfoldable pub loop_body : {P : Type 0} → Parse P (tree.Stmt P) → Parse P (List (tree.Stmt P))
loop_body s ts = expect w.DO ts >>= λ c. stmts_by s c.1 >>= λ ss. closing w.FOR ss.1 >>= λ c. Ok (ss.0, c.1)

-- of a wait, behind the condition
unfoldable pub wait_bounds : {P : Type 0} → Parse P (tree.Constant P × tree.Constant P)
wait_bounds ts =
    expect w.NO_LONGER_THAN ts >>= λ c. constant c.1 >>= λ limit. expect w.COLON limit.1 >>= λ c. constant c.1 >>= λ number.
    Ok ((limit.0, number.0), number.1)

-- of a routine, behind its name
unfoldable pub signature : {P : Type 0} → tree.RoutineKind → Parse P (List (tree.Param P) × Option (tree.Scalar P))
signature kind ts = reading.params ts >>= λ ps. reading.result kind ps.1 >>= λ s. Ok ((ps.0, s.0), s.1)

abbrev pub placed_signature : List code_param.Param × Option code_scalar.Scalar → List (tree.Param Place) × Option (tree.Scalar Place)
placed_signature s = (map placed_param s.0, optional placed_scalar s.1)

-- of a routine, behind its signature
pub record RoutineEnd (P : Type 0) : Type 0 where
  pub vars : List (tree.Var P)
  pub body : List (tree.Stmt P)
  pub value : Option (tree.Expr P)
  pub close : Name
  pub close_place : P

unfoldable pub routine_end : {P : Type 0} → ℕ → tree.RoutineKind → Parse P (RoutineEnd P)
routine_end depth kind ts =
    reading.vars ts >>= λ vs. reading.block depth vs.1 >>= λ b. reading.value depth kind b.1 >>= λ e. reading.close e.1 >>= λ c.
    Ok (record { vars = vs.0; body = b.0; value = e.0; close = c.0.0; close_place = c.0.1 }, c.1)

abbrev pub placed_routine_end : code_routine_end.RoutineEnd → RoutineEnd Place
placed_routine_end e = record {
  vars = map placed_var e.vars;
  body = map placed_stmt e.body;
  value = optional placed_expr e.value;
  close = e.close;
  close_place = e.close_place;
}

-- of a process, its variables, its routines and its body
pub record ProcessCode (P : Type 0) : Type 0 where
  pub vars : List (tree.Var P)
  pub routines : List (tree.Routine P)
  pub body : List (tree.Stmt P)

unfoldable pub process_code : {P : Type 0} → ℕ → Parse P (ProcessCode P)
process_code depth ts =
    reading.vars ts >>= λ vs. reading.routines depth vs.1 >>= λ rs. reading.block depth rs.1 >>= λ b.
    Ok (record { vars = vs.0; routines = rs.0; body = b.0 }, b.1)

abbrev pub placed_process_code : code_process_code.ProcessCode → ProcessCode Place
placed_process_code c = record { vars = map placed_var c.vars; routines = map placed_routine c.routines; body = map placed_stmt c.body }

-- of a process, its handler and its closing name
pub record ProcessEnd (P : Type 0) : Type 0 where
  pub handler : Option (tree.Handler P)
  pub close : Name
  pub close_place : P

unfoldable pub process_end : {P : Type 0} → ℕ → Parse P (ProcessEnd P)
process_end depth ts =
    reading.handler depth ts >>= λ h. reading.close h.1 >>= λ c. Ok (record { handler = h.0; close = c.0.0; close_place = c.0.1 }, c.1)

abbrev pub placed_process_end : code_process_end.ProcessEnd → ProcessEnd Place
placed_process_end e = record { handler = optional placed_handler e.handler; close = e.close; close_place = e.close_place }

-- of a process, all behind its activation
unfoldable pub process_rest : {P : Type 0} → ℕ → Parse P (ProcessCode P × ProcessEnd P)
process_rest depth ts = process_code depth ts >>= λ c. process_end depth c.1 >>= λ e. Ok ((c.0, e.0), e.1)

abbrev pub placed_process_rest : code_process_code.ProcessCode × code_process_end.ProcessEnd → ProcessCode Place × ProcessEnd Place
placed_process_rest r = (placed_process_code r.0, placed_process_end r.1)

-- the two forms of an activation
unfoldable pub periodic : {P : Type 0} → Parse P (tree.Activation P)
periodic ts =
    expect w.PERIODIC ts >>= λ c. expect w.FRAME c.1 >>= λ c. constant c.1 >>= λ frame. reading.deadline frame.1 >>= λ d.
    reading.first d.1 >>= λ f. Ok (tree.periodic frame.0 d.0 f.0, f.1)

unfoldable pub at_event : {P : Type 0} → Parse P (tree.Activation P)
at_event ts =
    expect w.AT_EVENT ts >>= λ c. name c.1 >>= λ n. expect w.FRAME n.1 >>= λ c. constant c.1 >>= λ frame. reading.deadline frame.1 >>= λ d.
    Ok (tree.at_event n.0.0 n.0.1 frame.0 d.0, d.1)
