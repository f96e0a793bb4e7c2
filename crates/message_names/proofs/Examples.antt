-- What is told of names in some programs.
use Rattle.std.proofs.Common.{◌≡◌, ℕ, true, false, List, [], ◌∷◌, Some, None, option_map, refl, arith}
use Rattle.std.specs.Prelude.{Contains, codes}
use Rattle.std.specs.Fmt.{digits}
use Rattle.message_text.specs.Nearest.{distance, one_more}
use Rattle.message_text.specs.Shown.{show}
use Rattle.syntax_tree.specs.Placed.{Constant, literal_constant, named_constant, int, scalar, Var, Member, variable_member, perform, perform_entry, put, loop, literal, variable, no_exprs, Stmts, stmts, no_stmts, procedure, Decl, device, monitor, process, periodic, Prog}
use Rattle.syntax_tree.specs.declared.place.Place.{Place}
use Rattle.static_names.specs.declared.kind.Kind.TheVariants as kind_is
use Rattle.static_names.specs.declared.kind.NameUse.TheVariants as want_is
use Rattle.static_names.specs.Occurrences.{names, used}
use Rattle.message_names.specs.declared.role.Wanted.TheVariants as wanted_is
use Rattle.message_names.specs.Mentions.{mentions, uses}
use Rattle.message_names.specs.Reach.{meaning}
use Rattle.message_names.specs.Told.{name_sentence, name_notes}

abbrev at : (line col : ℕ) → Place
at line col = record { line = line; col = col }

-- a number that stands at the place
abbrev number : Place → ℕ → Constant Place
number place n = literal_constant place false n place

abbrev program : List (Decl Place) → (close_place : Place) → Prog Place
program ds close_place = record { name = codes "a"; place = at 1 9; decls = ds; close = codes "a"; close_place = close_place }

-- a variable at this place
abbrev var_at : (name : List ℕ) → Place → Var Place
var_at name place = record { name = name; place = place; kind = scalar int }

-- a process in this line
abbrev task_in : (line : ℕ) → List (Var Place) → Stmts Place → (close : List ℕ) (close_place : Place) → Decl Place
task_in line vars body close close_place = process (record {
  name = codes "p";
  place = at line 9;
  activation = periodic (number (at line 28) 100) None None;
  vars = vars;
  routines = [];
  body = body;
  handler = None;
  close = close;
  close_place = close_place;
})

-- one in the third line, with a variable in the fourth
abbrev task : Stmts Place → (close : List ℕ) (close_place : Place) → Decl Place
task body close close_place = task_in 3 (var_at (codes "x") (at 4 5) ∷ []) body close close_place

-- a monitor at this place
abbrev monitor_at : (place : Place) → List (Member Place) → (entry close_entry close_place : Place) → Decl Place
monitor_at place members entry close_entry close_place = monitor (record {
  name = codes "m";
  place = place;
  members = members;
  entries = record {
    kind = procedure;
    name = codes "tick";
    place = entry;
    params = [];
    result = None;
    vars = [];
    body = no_stmts;
    value = None;
    close = codes "tick";
    close_place = close_entry;
  } ∷ [];
  close = codes "m";
  close_place = close_place;
})

-- ---- a device of another spelling

abbrev spelled_text : List ℕ
spelled_text = codes "program a\ndevice d : out\nprocess p : periodic frame 100\nvar x : int\nbegin\nput D 1\nend p\nend a\n"

abbrev spelled : Prog Place
spelled = program (device (codes "d") (at 2 8) true ∷ task (stmts (put (at 6 1) (codes "D") (at 6 5) (literal (at 6 7) 1)) no_stmts) (codes "p") (at 7 5) ∷ []) (at 8 5)

pub spelled_sentence : name_sentence spelled 20 (at 6 5) ≡ Some (codes "`D` is declared nowhere in reach")
unfolding name_sentence digits
spelled_sentence = refl

pub spelled_notes : name_notes spelled_text spelled 20 (at 6 5) ≡ codes "        = the nearest name in reach is `d`:\n      2 | device d : out\n        |        ^\n"
unfolding name_notes distance one_more show digits
spelled_notes = refl

-- ---- a bound that is no number, and a loop's variable behind the loop

abbrev looped_text : List ℕ
looped_text = codes "program a\ndevice d : out\nprocess p : periodic frame 100\nvar x : int\nbegin\nfor i : 1 .. x do put d i end for\nput d i\nend p\nend a\n"

abbrev looped : Prog Place
looped = program (device (codes "d") (at 2 8) true ∷ task (stmts (loop (at 6 1) (codes "i") (at 6 5) (number (at 6 9) 1) (named_constant (at 6 14) false (codes "x") (at 6 14))
    (stmts (put (at 6 19) (codes "d") (at 6 23) (variable (at 6 25) (codes "i"))) no_stmts))
    (stmts (put (at 7 1) (codes "d") (at 7 5) (variable (at 7 7) (codes "i"))) no_stmts)) (codes "p") (at 8 5) ∷ []) (at 9 5)

pub bound_sentence : name_sentence looped 22 (at 6 14) ≡ Some (codes "`x` is a variable; wanted is a constant")
unfolding name_sentence digits
bound_sentence = refl

pub bound_notes : name_notes looped_text looped 22 (at 6 14)
    ≡ codes "        = it is declared here:\n      4 | var x : int\n        |     ^\n        = this number is fixed in the text; `exit when` ends a loop earlier\n"
unfolding name_notes distance one_more show digits
bound_notes = refl

pub behind_notes : name_notes looped_text looped 20 (at 7 7)
    ≡ codes "        = a loop variable of that name is out of reach here:\n      6 | for i : 1 .. x do put d i end for\n        |     ^\n"
unfolding name_notes distance one_more show digits
behind_notes = refl

-- within the loop the variable is meant
pub within_sentence : name_sentence looped 22 (at 6 25) ≡ Some (codes "`i` is a loop variable; wanted is a variable or a constant")
unfolding name_sentence digits
within_sentence = refl

-- ---- a name that is declared twice, an entry without its monitor, and a closing name that differs

abbrev closed_text : List ℕ
closed_text =
    codes "program a\ndevice x : out\nprocess p : periodic frame 100\nvar x : int\nbegin\ntick()\nend q\nmonitor m\nentry procedure tick() begin end tick\nend m\nend a\n"

abbrev closed : Prog Place
closed = program (device (codes "x") (at 2 8) true ∷ task (stmts (perform (at 6 1) (codes "tick") no_exprs) no_stmts) (codes "q") (at 7 5) ∷ monitor_at (at 8 9) [] (at 9 17) (at 9 34) (at 10 5) ∷ []) (at 11 5)

pub twice_sentence : name_sentence closed 21 (at 4 5) ≡ Some (codes "`x` is declared already")
unfolding name_sentence digits
twice_sentence = refl

pub twice_notes : name_notes closed_text closed 21 (at 4 5)
    ≡ codes "        = the other one is a device; give one of them another name:\n      2 | device x : out\n        |        ^\n"
unfolding name_notes distance one_more show digits
twice_notes = refl

pub entry_notes : name_notes closed_text closed 20 (at 6 1)
    ≡ codes "        = write `m.tick` for the entry:\n      9 | entry procedure tick() begin end tick\n        |                 ^^^^\n"
unfolding name_notes distance one_more show digits
entry_notes = refl

pub closing_sentence : name_sentence closed 23 (at 7 5) ≡ Some (codes "`q` closes nothing; wanted is `p`")
unfolding name_sentence digits
closing_sentence = refl

pub closing_notes : name_notes closed_text closed 23 (at 7 5)
    ≡ codes "        = the name behind `end` is that of:\n      3 | process p : periodic frame 100\n        |         ^\n"
unfolding name_notes distance one_more show digits
closing_notes = refl

-- ---- names behind that of a monitor, and one with nothing near

abbrev behind_text : List ℕ
behind_text =
    codes "program a\nmonitor m\nvar n : int\nentry procedure tick() begin end tick\nend m\nprocess p : periodic frame 100\nbegin\nm.tock()\nm.n()\ngo_on()\nend p\nend a\n"

abbrev behind : Prog Place
behind = program (monitor_at (at 2 9) (variable_member (var_at (codes "n") (at 3 5)) ∷ []) (at 4 17) (at 4 34) (at 5 5) ∷ task_in 6 []
    (stmts (perform_entry (at 8 1) (codes "m") (codes "tock") (at 8 3) no_exprs)
    (stmts (perform_entry (at 9 1) (codes "m") (codes "n") (at 9 3) no_exprs)
    (stmts (perform (at 10 1) (codes "go_on") no_exprs) no_stmts))) (codes "p") (at 11 5) ∷ []) (at 12 5)

pub behind_sentence : name_sentence behind 20 (at 8 3) ≡ Some (codes "the monitor `m` has no entry `tock`")
unfolding name_sentence digits
behind_sentence = refl

pub tock_notes : name_notes behind_text behind 20 (at 8 3)
    ≡ codes "        = the nearest name in reach is `tick`:\n      4 | entry procedure tick() begin end tick\n        |                 ^^^^\n"
unfolding name_notes distance one_more show digits
tock_notes = refl

pub member_notes : name_notes behind_text behind 20 (at 9 3)
    ≡ codes "        = a variable of that name is out of reach here:\n      3 | var n : int\n        |     ^\n"
unfolding name_notes distance one_more show digits
member_notes = refl

pub far_notes : name_notes behind_text behind 20 (at 10 1) ≡ codes "        = declare it, or correct the name\n"
unfolding name_notes distance one_more show digits
far_notes = refl

-- ---- behind a process and a full stop a variable of it is found, where the rules find nothing: they fail of `p` already

abbrev crossed : Prog Place
crossed = program (task (stmts (perform_entry (at 6 1) (codes "p") (codes "x") (at 6 3) no_exprs) no_stmts) (codes "p") (at 7 5) ∷ []) (at 8 5)

pub crossed_found : option_map (λ m. m.place) (meaning (mentions crossed) (uses (wanted_is.Entry (at 6 1)) (codes "x") (at 6 3))) ≡ Some (at 4 5)
crossed_found = refl

pub crossed_nowhere : Contains (names crossed) (used (codes "x") (at 6 3) want_is.Entry None)
crossed_nowhere = (4, omega arith, refl)

pub crossed_wrong : Contains (names crossed) (used (codes "p") (at 6 1) want_is.Monitor (Some (record { place = at 3 9; kind = kind_is.Process })))
crossed_wrong = (3, omega arith, refl)
