-- A text to which the law applies.
use Rattle.std.specs.Prelude.{[], ◌∷◌, Some, None, false, pos}
use Rattle.syntax_tree.specs.Plain.{literal_constant, literal, variable, row, operand, no_operands, less, put, loop, exit_when, when_else, assign, whole, Stmts, no_stmts, stmts, Program}
use Rattle.code_spec.specs.Layout.{Scope, by_program, single}
use Rattle.codegen_law.specs.MadeRightFits.{StmtsFit}

abbrev pub empty : Program
empty = record { name = []; decls = [] }

-- a variable 1 with the range 0 .. 9, at word 0
abbrev pub with_one : Scope
with_one = record {
  owner = by_program;
  is_function = false;
  own = record { name = 1 ∷ []; range = Some (record { low = pos 0; high = pos 9 }); word = 0; shape = single; fixed = false } ∷ [];
  exit = None;
  frame = 2;
}

-- for 2 : 1 .. 10 do exit when 1 < 2 if 1 then 1 := 2 else put 3 7 end if end for
abbrev pub text : Stmts
text = stmts (loop (2 ∷ []) (literal_constant false 1) (literal_constant false 10)
    (stmts (exit_when (row (variable (1 ∷ [])) (operand less (variable (2 ∷ [])) no_operands)))
    (stmts (when_else (variable (1 ∷ [])) (stmts (assign (whole (1 ∷ [])) (variable (2 ∷ []))) no_stmts) (stmts (put (3 ∷ []) (literal 7)) no_stmts)) no_stmts))) no_stmts

-- The law: it keeps to the premise.
abbrev pub ExampleFits : Type 0
ExampleFits = StmtsFit empty with_one false 1 text
