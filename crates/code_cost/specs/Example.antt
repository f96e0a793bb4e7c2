-- Programs at the limits of the rules of size. Each stands in one line.
use Rattle.std.specs.Prelude.{◌≤◌, ◌<◌, ◌+◌, ◌*◌, ℕ, zero, suc, true, false, [], ◌∷◌, Some, None, codes}
use Rattle.syntax_tree.specs.Placed.{Prog, Routine, Process, Stmts, no_stmts, stmts, literal, put, perform, no_exprs, procedure, periodic, literal_constant, array, int, routine, process, device}
use Rattle.syntax_tree.specs.declared.place.Place.{Place}
use Rattle.static_rule.specs.First.{IsFirstOf}
use Rattle.code_cost.specs.Rules.{SizeFails}

abbrev pub at : (col : ℕ) → Place
at c = record { line = 1; col = c }

-- procedure f() var t : array 1 .. LAST of int begin end f
abbrev pub array_routine : (last : ℕ) → Routine Place
array_routine last = record {
  kind = procedure;
  name = codes "f";
  place = at 21;
  params = [];
  result = None;
  vars = record { name = codes "t"; place = at 29; kind = array (literal_constant (at 39) false 1 (at 39)) (literal_constant (at 44) false last (at 44)) int } ∷ [];
  body = no_stmts;
  value = None;
  close = codes "f";
  close_place = at 66;
}

-- process p : periodic frame 30 begin f() end p
abbrev pub array_process : Process Place
array_process = record {
  name = codes "p";
  place = at 76;
  activation = periodic (literal_constant (at 95) false 30 (at 95)) None None;
  vars = [];
  routines = [];
  body = stmts (perform (at 104) (codes "f") no_exprs) no_stmts;
  handler = None;
  close = codes "p";
  close_place = at 112;
}

-- program a procedure f() var t : array 1 .. LAST of int begin end f process p : periodic frame 30
-- begin f() end p end a
abbrev pub with_array : (last : ℕ) → Prog Place
with_array last = record { name = codes "a"; place = at 9; decls = routine (array_routine last) ∷ process array_process ∷ []; close = codes "a"; close_place = at 118 }

-- so many times put d 1, from a column on
abbrev pub puts : (times col : ℕ) → Stmts Place
puts zero c = no_stmts
puts (suc n) c = stmts (put (at c) (codes "d") (at (4 + c)) (literal (at (6 + c)) 1)) (puts n (8 + c))

-- process p : periodic frame 30 begin put d 1 put d 1 .. end p
abbrev pub puts_process : (times : ℕ) → Process Place
puts_process n = record {
  name = codes "p";
  place = at 34;
  activation = periodic (literal_constant (at 53) false 30 (at 53)) None None;
  vars = [];
  routines = [];
  body = puts n 62;
  handler = None;
  close = codes "p";
  close_place = at (66 + 8 * n);
}

-- program a device d : out process p : periodic frame 30 begin put d 1 put d 1 .. end p end a
abbrev pub with_puts : (times : ℕ) → Prog Place
with_puts n = record { name = codes "a"; place = at 9; decls = device (codes "d") (at 18) true ∷ process (puts_process n) ∷ []; close = codes "a"; close_place = at (72 + 8 * n) }

-- The law. A call of f takes two words beside those of f. A put has two instructions, and the
-- process its END.
pub record RulesOfSizeAreTried : Type 0 where
  pub routine_over : IsFirstOf (SizeFails (with_array 4097)) (Some (record { number = 47; place = at 21 }))
  pub process_over : IsFirstOf (SizeFails (with_array 4095)) (Some (record { number = 47; place = at 76 }))
  pub within : IsFirstOf (SizeFails (with_array 4094)) None
  pub code_within : (n : ℕ) → n ≤ 32767 → IsFirstOf (SizeFails (with_puts n)) None
  pub code_over : (n : ℕ) → 32767 < n → IsFirstOf (SizeFails (with_puts n)) (Some (record { number = 46; place = at 9 }))
