-- The sentences of a small program.
use Rattle.std.proofs.Common.{◌≡◌, ℕ, true, false, List, [], ◌∷◌, Some, None, refl}
use Rattle.std.specs.Prelude.{codes}
use Rattle.syntax_tree.specs.Placed.{literal_constant, literal, truth, call, no_exprs, whole, Stmt, assign, exit_when, put, Stmts, no_stmts, stmts, int, scalar, Routine, procedure, function, device, routine, process, periodic, Prog}
use Rattle.syntax_tree.specs.declared.place.Place.{Place}
use Rattle.message_conduct.specs.Conduct.{conduct_sentence}

abbrev at : (line col : ℕ) → Place
at line col = record { line = line; col = col }

-- a put of 1, to a device whose name stands there
abbrev put_one : Place → Place → List ℕ → Stmt Place
put_one place name_place name = put place name name_place (literal (at 9 9) 1)

-- a function that has a put
abbrev putting : Routine Place
putting = record {
  kind = function;
  name = codes "f";
  place = at 4 10;
  params = [];
  result = Some int;
  vars = [];
  body = stmts (put_one (at 5 3) (at 5 7) (codes "out")) no_stmts;
  value = Some (literal (at 6 10) 1);
  close = codes "f";
  close_place = at 7 5;
}

abbrev nothing : Routine Place
nothing = record {
  kind = procedure;
  name = codes "q";
  place = at 8 11;
  params = [];
  result = None;
  vars = [];
  body = no_stmts;
  value = None;
  close = codes "q";
  close_place = at 8 25;
}

-- a put to an in device, an exit outside a loop, a procedure in an expression
abbrev acts : Stmts Place
acts =
    stmts (put_one (at 12 3) (at 12 7) (codes "in"))
    (stmts (exit_when (at 13 3) (truth (at 13 13) true))
    (stmts (assign (whole (at 14 3) (codes "x")) (call (at 14 8) (codes "q") no_exprs)) no_stmts))

abbrev program : Prog Place
program = record {
  name = codes "a";
  place = at 1 9;
  decls =
      device (codes "out") (at 2 8) true
      ∷ device (codes "in") (at 3 8) false
      ∷ routine putting
      ∷ routine nothing
      ∷ process (record {
        name = codes "p";
        place = at 10 9;
        activation = periodic (literal_constant (at 10 28) false 10 (at 10 28)) None None;
        vars = record { name = codes "x"; place = at 11 5; kind = scalar int } ∷ [];
        routines = [];
        body = acts;
        handler = None;
        close = codes "p";
        close_place = at 15 5;
      })
      ∷ [];
  close = codes "a";
  close_place = at 16 5;
}

pub direction : conduct_sentence program 38 (at 12 3) ≡ Some (codes "`put` gives to an `out` device; `in` is an `in` device")
unfolding conduct_sentence
direction = refl

pub in_function : conduct_sentence program 34 (at 5 3) ≡ Some (codes "the function `f`, being no entry, has neither `get` nor `put`")
unfolding conduct_sentence
in_function = refl

pub exit : conduct_sentence program 34 (at 13 3) ≡ Some (codes "`exit` stands outside a loop")
unfolding conduct_sentence
exit = refl

pub procedure_asked : conduct_sentence program 34 (at 14 3) ≡ Some (codes "`q` is a procedure and gives no value")
unfolding conduct_sentence
procedure_asked = refl

-- a rule that does not fail there
pub no_rule : conduct_sentence program 38 (at 13 3) ≡ None
unfolding conduct_sentence
no_rule = refl
