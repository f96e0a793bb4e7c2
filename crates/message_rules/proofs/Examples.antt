-- The sentences of some small programs.
use Rattle.std.proofs.Common.{◌≡◌, ℕ, true, false, List, [], ◌∷◌, Some, None, refl}
use Rattle.std.specs.Prelude.{codes}
use Rattle.std.specs.Fmt.{digits}
use Rattle.syntax_tree.specs.Placed.{Constant, literal_constant, named_constant, int, array, Decl, constant, process, periodic, no_stmts, Prog}
use Rattle.syntax_tree.specs.declared.place.Place.{Place}
use Rattle.message_rules.specs.Findings.{rule_sentence}

abbrev at : (line col : ℕ) → Place
at line col = record { line = line; col = col }

-- a number that stands at the place
abbrev number : Place → ℕ → Constant Place
number place n = literal_constant place false n place

abbrev program : List (Decl Place) → Prog Place
program ds = record { name = codes "a"; place = at 1 9; decls = ds; close = codes "a"; close_place = at 9 5 }

-- a process with this frame and with an array of these bounds
abbrev task : (frame low high : Constant Place) → Decl Place
task frame low high = process (record {
  name = codes "p";
  place = at 3 9;
  activation = periodic frame None None;
  vars = record { name = codes "v"; place = at 4 5; kind = array low high int } ∷ [];
  routines = [];
  body = no_stmts;
  handler = None;
  close = codes "p";
  close_place = at 8 5;
})

-- the frame is that of a constant below 0
abbrev minus_five : Decl Place
minus_five = constant (codes "five") (at 2 7) (literal_constant (at 2 14) true 5 (at 2 15))

abbrev low_frame : Prog Place
low_frame = program (minus_five ∷ task (named_constant (at 3 28) false (codes "five") (at 3 28)) (number (at 4 15) 0) (number (at 4 20) 65536) ∷ [])

pub frame : rule_sentence low_frame 36 (at 3 28) ≡ Some (codes "the frame is -5; it may be 10 to 1000000000")
unfolding rule_sentence digits
frame = refl

pub elements : rule_sentence low_frame 44 (at 4 15) ≡ Some (codes "the array has 65537 elements; 65536 are the most")
unfolding rule_sentence digits
elements = refl

-- a rule that does not fail there
pub no_rule : rule_sentence low_frame 32 (at 4 15) ≡ None
unfolding rule_sentence digits
no_rule = refl

pub no_process : rule_sentence (program []) 40 (at 1 9) ≡ Some (codes "the program has no process")
unfolding rule_sentence digits
no_process = refl
