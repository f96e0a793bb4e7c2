-- The sentences of some statements and of a result.
use Rattle.std.proofs.Common.{◌≡◌, ℕ, true, false, List, [], ◌∷◌, Some, None, refl}
use Rattle.std.specs.Prelude.{codes}
use Rattle.std.specs.Fmt.{digits}
use Rattle.syntax_tree.specs.Plain.{equal}
use Rattle.syntax_tree.specs.Placed.{Constant, literal_constant, int, boolean, scalar, array, Var, Expr, literal, truth, variable, call, no_exprs, exprs, no_operands, operand, row, whole, part, Stmt, assign, put, no_stmts, stmts, function, Routine, device, routine, process, periodic, Prog}
use Rattle.syntax_tree.specs.declared.place.Place.{Place}
use Rattle.message_types.specs.Told.{type_sentence}

abbrev at : (line col : ℕ) → Place
at line col = record { line = line; col = col }

-- a number that stands at the place
abbrev number : Place → ℕ → Constant Place
number place n = literal_constant place false n place

-- the variables `x` and `b`
abbrev x : Place → Expr Place
x place = variable place (codes "x")

abbrev b : Place → Expr Place
b place = variable place (codes "b")

-- function f(n : int) returns int; return n = 1
abbrev answers : Routine Place
answers = record {
  kind = function;
  name = codes "f";
  place = at 3 10;
  params = record { name = codes "n"; place = at 3 12; kind = int } ∷ [];
  result = Some int;
  vars = [];
  body = no_stmts;
  value = Some (row (variable (at 5 10) (codes "n")) (operand equal (literal (at 5 14) 1) no_operands));
  close = codes "f";
  close_place = at 6 5;
}

-- x : int, b : boolean, t : array 1 .. 3 of int
abbrev variables : List (Var Place)
variables =
    record { name = codes "x"; place = at 8 5; kind = scalar int }
    ∷ record { name = codes "b"; place = at 9 5; kind = scalar boolean }
    ∷ record { name = codes "t"; place = at 10 5; kind = array (number (at 10 15) 1) (number (at 10 20) 3) int }
    ∷ []

-- a program with one statement, at 11:3, behind a device `d`
abbrev program : Stmt Place → Prog Place
program s = record {
  name = codes "a";
  place = at 1 9;
  decls =
      device (codes "d") (at 2 8) true
      ∷ routine answers
      ∷ process (record {
        name = codes "p";
        place = at 7 9;
        activation = periodic (number (at 7 28) 100) None None;
        vars = variables;
        routines = [];
        body = stmts s no_stmts;
        handler = None;
        close = codes "p";
        close_place = at 12 5;
      })
      ∷ [];
  close = codes "a";
  close_place = at 13 5;
}

pub put_truth : type_sentence (program (put (at 11 3) (codes "d") (at 11 7) (truth (at 11 9) true))) 30 (at 11 3) ≡ Some (codes "`put` to `d`: wanted a number, found a boolean")
unfolding type_sentence
put_truth = refl

-- the target comes before the value: t[b] := b
pub target_first : type_sentence (program (assign (part (at 11 3) (codes "t") (b (at 11 5))) (b (at 11 11)))) 30 (at 11 3) ≡ Some (codes "the index of `t`: wanted a number, found a boolean")
unfolding type_sentence
target_first = refl

-- b := x = b
pub compared : type_sentence (program (assign (whole (at 11 3) (codes "b")) (row (x (at 11 8)) (operand equal (b (at 11 12)) no_operands)))) 30 (at 11 3) ≡ Some (codes "right of `=`: wanted a number, found a boolean")
unfolding type_sentence
compared = refl

-- x := b
pub assigned : type_sentence (program (assign (whole (at 11 3) (codes "x")) (b (at 11 8)))) 30 (at 11 3) ≡ Some (codes "assigned to `x`: wanted a number, found a boolean")
unfolding type_sentence
assigned = refl

-- x := t
pub without_index : type_sentence (program (assign (whole (at 11 3) (codes "x")) (variable (at 11 8) (codes "t")))) 30 (at 11 3) ≡ Some (codes "`t` is an array and is used by element, as `t[i]`")
unfolding type_sentence
without_index = refl

-- x[1] := 1
pub with_index : type_sentence (program (assign (part (at 11 3) (codes "x") (literal (at 11 5) 1)) (literal (at 11 11) 1))) 30 (at 11 3) ≡ Some (codes "`x` is no array and has no index")
unfolding type_sentence
with_index = refl

-- the number of the arguments comes before the arguments: x := f(b, 1)
pub counted : type_sentence (program (assign (whole (at 11 3) (codes "x")) (call (at 11 8) (codes "f") (exprs (b (at 11 10)) (exprs (literal (at 11 13) 1) no_exprs))))) 30 (at 11 3) ≡ Some (codes "arguments of `f`: wanted 1, found 2")
unfolding type_sentence digits
counted = refl

-- x := f(b)
pub argued : type_sentence (program (assign (whole (at 11 3) (codes "x")) (call (at 11 8) (codes "f") (exprs (b (at 11 10)) no_exprs)))) 30 (at 11 3) ≡ Some (codes "argument 1 of `f`: wanted a number, found a boolean")
unfolding type_sentence digits
argued = refl

-- the result is told at the name of the function, of which a statement tells nothing: x := x
pub answered : type_sentence (program (assign (whole (at 11 3) (codes "x")) (x (at 11 8)))) 30 (at 3 10) ≡ Some (codes "the result of `f`: wanted a number, found a boolean")
unfolding type_sentence
answered = refl

pub agreeing : type_sentence (program (assign (whole (at 11 3) (codes "x")) (x (at 11 8)))) 30 (at 11 3) ≡ None
unfolding type_sentence
agreeing = refl
