-- Programs with logs: some that are runs of their program, and some that are none.
use Rattle.std.specs.Prelude.{List, None, Some, [], codes, false, negsuc, pos, true, ℕ, ◌∷◌}
use Rattle.base.specs.declared.event.Event.{Event}
use Rattle.base.specs.declared.event.Act.{Act}
use Rattle.base.specs.declared.event.Act.TheVariants as act
use Rattle.syntax_tree.specs.Plain.{Program, add, and, array, assert, assign, assign_empty, assign_entry, at_event, boolean, broadcast, call, condition_member, constant, device, div, element, equal, event, except, exit_when, exprs, get, greater, int, less, literal, literal_constant, loop, minus, monitor, mul, named_constant, negation, no_exprs, no_operands, no_stmts, operand, paren, part, perform, perform_entry, periodic, process, put, routine, row, scalar, signal, stmts, sub, subrange, truth, variable, variable_member, wait, when, whole}
use Rattle.source_semantics.specs.Starts.{Script, occurs, sets}

abbrev pub at : ℕ → ℕ → Act → Event
at t k a = record { tick = t; proc = k; act = a }

-- one process that puts
abbrev pub one_put : Program
one_put = record {
  name = codes "a";
  decls =
      device (codes "valve") true
      ∷ process (record { name = codes "p"; activation = periodic (literal_constant false 15) None None; vars = []; routines = []; body = (stmts (put (codes "valve") (literal 7)) no_stmts); handler = None })
      ∷ [];
}

abbrev pub one_put_script : Script
one_put_script = record { lines = []; end_tick = 15 }

abbrev pub one_put_log : List Event
one_put_log =
    at 0 0 act.Release
    ∷ at 10 0 (act.Put 0 (pos 7))
    ∷ at 14 0 act.End
    ∷ []

-- three processes, of which two enter a monitor, with first activations
abbrev pub three_ranks : Program
three_ranks = record {
  name = codes "c";
  decls =
      device (codes "a") true
      ∷ monitor (record { name = codes "m"; members = (variable_member (record { name = codes "n"; kind = scalar int }) ∷ []); entries = (record { name = codes "e"; params = []; vars = []; body = (stmts (assign (whole (codes "n")) (row (variable (codes "n")) (operand add (literal 1) no_operands))) no_stmts); answers = None } ∷ []) })
      ∷ process (record { name = codes "l"; activation = periodic (literal_constant false 200) None None; vars = []; routines = []; body = (stmts (perform_entry (codes "m") (codes "e") no_exprs) no_stmts); handler = None })
      ∷ process (record { name = codes "u"; activation = periodic (literal_constant false 100) None (Some (literal_constant false 12)); vars = []; routines = []; body = (stmts (perform_entry (codes "m") (codes "e") no_exprs) no_stmts); handler = None })
      ∷ process (record { name = codes "h"; activation = periodic (literal_constant false 90) None (Some (literal_constant false 14)); vars = []; routines = []; body = (stmts (put (codes "a") (literal 1)) no_stmts); handler = None })
      ∷ [];
}

abbrev pub three_ranks_script : Script
three_ranks_script = record { lines = []; end_tick = 90 }

abbrev pub three_ranks_log : List Event
three_ranks_log =
    at 0 0 act.Release
    ∷ at 10 0 (act.Enter 0)
    ∷ at 12 1 act.Release
    ∷ at 14 2 act.Release
    ∷ at 24 2 (act.Put 0 (pos 1))
    ∷ at 28 2 act.End
    ∷ at 37 0 (act.Leave 0)
    ∷ at 48 1 (act.Enter 0)
    ∷ at 60 1 (act.Leave 0)
    ∷ at 68 1 act.End
    ∷ at 76 0 act.End
    ∷ []

-- a wait that is signalled at its last tick
abbrev pub signalled_wait : Program
signalled_wait = record {
  name = codes "d";
  decls =
      device (codes "a") true
      ∷ monitor (record { name = codes "m"; members = (condition_member (codes "c") ∷ []); entries = (record { name = codes "w"; params = []; vars = []; body = (stmts (wait (codes "c") (literal_constant false 30) (literal_constant false 10)) no_stmts); answers = None } ∷ record { name = codes "s"; params = []; vars = []; body = (stmts (signal (codes "c")) no_stmts); answers = None } ∷ []) })
      ∷ process (record { name = codes "p"; activation = periodic (literal_constant false 200) None None; vars = []; routines = []; body = (stmts (perform_entry (codes "m") (codes "w") no_exprs) no_stmts); handler = Some (record { numbers = ((literal_constant false 10) ∷ []); body = (stmts (put (codes "a") (literal 1)) no_stmts) }) })
      ∷ process (record { name = codes "q"; activation = periodic (literal_constant false 300) None (Some (literal_constant false 31)); vars = []; routines = []; body = (stmts (perform_entry (codes "m") (codes "s") no_exprs) no_stmts); handler = None })
      ∷ [];
}

abbrev pub signalled_wait_script : Script
signalled_wait_script = record { lines = []; end_tick = 100 }

abbrev pub signalled_wait_log : List Event
signalled_wait_log =
    at 0 0 act.Release
    ∷ at 10 0 (act.Enter 0)
    ∷ at 16 0 (act.Wait 0)
    ∷ at 31 1 act.Release
    ∷ at 41 1 (act.Enter 0)
    ∷ at 46 1 (act.Signal 0 (Some 0))
    ∷ at 49 1 (act.Leave 0)
    ∷ at 53 0 (act.Enter 0)
    ∷ at 56 0 (act.Leave 0)
    ∷ at 64 0 act.End
    ∷ at 72 1 act.End
    ∷ []

-- the same wait, signalled too late
abbrev pub late_signal : Program
late_signal = record {
  name = codes "d";
  decls =
      device (codes "a") true
      ∷ monitor (record { name = codes "m"; members = (condition_member (codes "c") ∷ []); entries = (record { name = codes "w"; params = []; vars = []; body = (stmts (wait (codes "c") (literal_constant false 30) (literal_constant false 10)) no_stmts); answers = None } ∷ record { name = codes "s"; params = []; vars = []; body = (stmts (signal (codes "c")) no_stmts); answers = None } ∷ []) })
      ∷ process (record { name = codes "p"; activation = periodic (literal_constant false 200) None None; vars = []; routines = []; body = (stmts (perform_entry (codes "m") (codes "w") no_exprs) no_stmts); handler = Some (record { numbers = ((literal_constant false 10) ∷ []); body = (stmts (put (codes "a") (literal 1)) no_stmts) }) })
      ∷ process (record { name = codes "q"; activation = periodic (literal_constant false 300) None (Some (literal_constant false 32)); vars = []; routines = []; body = (stmts (perform_entry (codes "m") (codes "s") no_exprs) no_stmts); handler = None })
      ∷ [];
}

abbrev pub late_signal_script : Script
late_signal_script = record { lines = []; end_tick = 100 }

abbrev pub late_signal_log : List Event
late_signal_log =
    at 0 0 act.Release
    ∷ at 10 0 (act.Enter 0)
    ∷ at 16 0 (act.Wait 0)
    ∷ at 32 1 act.Release
    ∷ at 42 1 (act.Enter 0)
    ∷ at 47 0 (act.TimeOut 0 10)
    ∷ at 47 1 (act.Signal 0 None)
    ∷ at 50 1 (act.Leave 0)
    ∷ at 61 0 (act.Put 0 (pos 1))
    ∷ at 65 0 act.End
    ∷ at 73 1 act.End
    ∷ []

-- an exception inside a monitor, which nobody handles
abbrev pub raise_inside : Program
raise_inside = record {
  name = codes "a";
  decls =
      monitor (record { name = codes "m"; members = []; entries = (record { name = codes "r"; params = []; vars = []; body = (stmts (except (literal_constant false 12)) no_stmts); answers = None } ∷ record { name = codes "e"; params = []; vars = []; body = no_stmts; answers = None } ∷ []) })
      ∷ process (record { name = codes "p"; activation = periodic (literal_constant false 100) None None; vars = []; routines = []; body = (stmts (perform_entry (codes "m") (codes "r") no_exprs) no_stmts); handler = None })
      ∷ process (record { name = codes "q"; activation = periodic (literal_constant false 200) None None; vars = []; routines = []; body = (stmts (perform_entry (codes "m") (codes "e") no_exprs) no_stmts); handler = None })
      ∷ [];
}

abbrev pub raise_inside_script : Script
raise_inside_script = record { lines = []; end_tick = 50 }

abbrev pub raise_inside_log : List Event
raise_inside_log =
    at 0 0 act.Release
    ∷ at 0 1 act.Release
    ∷ at 10 0 (act.Enter 0)
    ∷ at 14 0 (act.Raise 12)
    ∷ at 18 0 act.End
    ∷ at 29 1 (act.Enter 0)
    ∷ at 32 1 (act.Leave 0)
    ∷ at 40 1 act.End
    ∷ []

-- a value outside its subrange, and its handler
abbrev pub handled_range : Program
handled_range = record {
  name = codes "b";
  decls =
      device (codes "a") true
      ∷ process (record { name = codes "p"; activation = periodic (literal_constant false 30) None None; vars = (record { name = codes "x"; kind = scalar (subrange (literal_constant false 0) (literal_constant false 9)) } ∷ []); routines = []; body = (stmts (assign (whole (codes "x")) (literal 10)) no_stmts); handler = Some (record { numbers = ((literal_constant false 3) ∷ []); body = (stmts (put (codes "a") (literal 1)) no_stmts) }) })
      ∷ [];
}

abbrev pub handled_range_script : Script
handled_range_script = record { lines = []; end_tick = 30 }

abbrev pub handled_range_log : List Event
handled_range_log =
    at 0 0 act.Release
    ∷ at 3 0 (act.Raise 3)
    ∷ at 14 0 (act.Put 0 (pos 1))
    ∷ at 18 0 act.End
    ∷ []

-- a sum that is no word
abbrev pub overflow : Program
overflow = record {
  name = codes "a";
  decls =
      process (record { name = codes "p"; activation = periodic (literal_constant false 10) None None; vars = (record { name = codes "x"; kind = scalar int } ∷ []); routines = []; body = (stmts (assign (whole (codes "x")) (row (literal 2147483647) (operand add (literal 1) no_operands))) no_stmts); handler = None })
      ∷ [];
}

abbrev pub overflow_script : Script
overflow_script = record { lines = []; end_tick = 10 }

abbrev pub overflow_log : List Event
overflow_log =
    at 0 0 act.Release
    ∷ at 3 0 (act.Raise 1)
    ∷ at 7 0 act.End
    ∷ []

-- a quotient that is no word
abbrev pub least_word : Program
least_word = record {
  name = codes "a";
  decls =
      process (record { name = codes "p"; activation = periodic (literal_constant false 30) None None; vars = (record { name = codes "x"; kind = scalar int } ∷ []); routines = []; body = (stmts (assign (whole (codes "x")) (row (paren (row (minus (literal 2147483647)) (operand sub (literal 1) no_operands))) (operand div (paren (minus (literal 1))) no_operands))) no_stmts); handler = None })
      ∷ [];
}

abbrev pub least_word_script : Script
least_word_script = record { lines = []; end_tick = 30 }

abbrev pub least_word_log : List Event
least_word_log =
    at 0 0 act.Release
    ∷ at 20 0 (act.Raise 1)
    ∷ at 24 0 act.End
    ∷ []

-- a process that events release
abbrev pub by_event : Program
by_event = record {
  name = codes "a";
  decls =
      device (codes "valve") true
      ∷ event (codes "e")
      ∷ process (record { name = codes "p"; activation = at_event (codes "e") (literal_constant false 15) None; vars = []; routines = []; body = (stmts (put (codes "valve") (literal 7)) no_stmts); handler = None })
      ∷ [];
}

abbrev pub by_event_script : Script
by_event_script = record { lines = (occurs 0 0 ∷ occurs 15 0 ∷ []); end_tick = 30 }

abbrev pub by_event_log : List Event
by_event_log =
    at 0 0 act.Release
    ∷ at 10 0 (act.Put 0 (pos 7))
    ∷ at 14 0 act.End
    ∷ at 15 0 act.Release
    ∷ at 25 0 (act.Put 0 (pos 7))
    ∷ at 29 0 act.End
    ∷ []

-- a function with a loop and an exit, a procedure that acts inside a loop, an array, a constant and
-- an assertion
abbrev pub loop_and_function : Program
loop_and_function = record {
  name = codes "f";
  decls =
      constant (codes "last") (literal_constant false 4)
      ∷ device (codes "in1") false
      ∷ device (codes "out1") true
      ∷ routine (record { name = codes "upto"; params = (record { name = codes "n"; kind = (subrange (literal_constant false 0) (literal_constant false 10)) } ∷ []); vars = (record { name = codes "s"; kind = scalar int } ∷ []); body = (stmts (loop (codes "i") (literal_constant false 1) (literal_constant false 100) (stmts (exit_when (row (variable (codes "i")) (operand greater (variable (codes "n")) no_operands))) (stmts (assign (whole (codes "s")) (row (variable (codes "s")) (operand add (variable (codes "i")) no_operands))) no_stmts))) no_stmts); answers = Some (record { kind = int; value = (variable (codes "s")) }) })
      ∷ routine (record { name = codes "show"; params = (record { name = codes "v"; kind = int } ∷ []); vars = []; body = (stmts (put (codes "out1") (variable (codes "v"))) (stmts (put (codes "out1") (minus (variable (codes "v")))) no_stmts)); answers = None })
      ∷ process (record { name = codes "p"; activation = periodic (literal_constant false 1000) None None; vars = (record { name = codes "t"; kind = array (literal_constant false 1) (named_constant false (codes "last")) (subrange (literal_constant false 0) (literal_constant false 50)) } ∷ record { name = codes "b"; kind = scalar boolean } ∷ []); routines = (record { name = codes "top"; params = []; vars = []; body = no_stmts; answers = Some (record { kind = int; value = (row (element (codes "t") (variable (codes "last"))) (operand add (call (codes "upto") (exprs (literal 2) no_exprs)) no_operands)) }) } ∷ []); body = (stmts (get (codes "in1") (part (codes "t") (literal 2))) (stmts (loop (codes "k") (literal_constant false 1) (literal_constant false 2) (stmts (perform (codes "show") (exprs (row (call (codes "upto") (exprs (row (variable (codes "k")) (operand add (literal 1) no_operands)) no_exprs)) (operand add (element (codes "t") (variable (codes "k"))) no_operands)) no_exprs)) no_stmts)) (stmts (assign (part (codes "t") (variable (codes "last"))) (row (call (codes "top") no_exprs) (operand mul (literal 2) no_operands))) (stmts (assert (row (row (element (codes "t") (literal 4)) (operand equal (literal 6) no_operands)) (operand and (negation (variable (codes "b"))) no_operands))) (stmts (assign (part (codes "t") (row (call (codes "upto") (exprs (literal 1) no_exprs)) (operand add (literal 4) no_operands))) (literal 1)) (stmts (put (codes "out1") (literal 99)) no_stmts)))))); handler = Some (record { numbers = ((literal_constant false 3) ∷ (literal_constant false 4) ∷ []); body = (stmts (put (codes "out1") (call (codes "top") no_exprs)) (stmts (except (literal_constant false 3)) no_stmts)) }) })
      ∷ [];
}

abbrev pub loop_and_function_script : Script
loop_and_function_script = record { lines = (sets 0 0 (pos 5) ∷ []); end_tick = 900 }

abbrev pub loop_and_function_log : List Event
loop_and_function_log =
    at 0 0 act.Release
    ∷ at 20 0 (act.Get 0 (pos 5))
    ∷ at 100 0 (act.Put 1 (pos 3))
    ∷ at 110 0 (act.Put 1 (negsuc 2))
    ∷ at 200 0 (act.Put 1 (pos 11))
    ∷ at 220 0 (act.Put 1 (negsuc 10))
    ∷ at 300 0 (act.Raise 3)
    ∷ at 400 0 (act.Put 1 (pos 9))
    ∷ at 420 0 (act.Raise 3)
    ∷ at 430 0 act.End
    ∷ []

-- the mine pump control
abbrev pub mine : Program
mine = record {
  name = codes "mine";
  decls =
      device (codes "level") false
      ∷ device (codes "methane") false
      ∷ device (codes "air") false
      ∷ device (codes "pump") true
      ∷ device (codes "alarm") true
      ∷ device (codes "panel") true
      ∷ event (codes "high")
      ∷ monitor (record { name = codes "motor"; members = (variable_member (record { name = codes "on"; kind = scalar boolean }) ∷ variable_member (record { name = codes "safe"; kind = scalar boolean }) ∷ []); entries = (record { name = codes "gas"; params = (record { name = codes "ok"; kind = boolean } ∷ []); vars = []; body = (stmts (assign (whole (codes "safe")) (variable (codes "ok"))) (stmts (when (negation (variable (codes "ok"))) (stmts (assign (whole (codes "on")) (truth false)) (stmts (put (codes "pump") (literal 0)) no_stmts))) no_stmts)); answers = None } ∷ record { name = codes "start"; params = []; vars = []; body = (stmts (when (variable (codes "safe")) (stmts (assign (whole (codes "on")) (truth true)) (stmts (put (codes "pump") (literal 1)) no_stmts))) no_stmts); answers = Some (record { kind = boolean; value = (variable (codes "on")) }) } ∷ []) })
      ∷ monitor (record { name = codes "box"; members = (variable_member (record { name = codes "last"; kind = scalar (subrange (literal_constant false 0) (literal_constant false 1000)) }) ∷ condition_member (codes "fresh") ∷ []); entries = (record { name = codes "store"; params = (record { name = codes "v"; kind = (subrange (literal_constant false 0) (literal_constant false 1000)) } ∷ []); vars = []; body = (stmts (assign (whole (codes "last")) (variable (codes "v"))) (stmts (broadcast (codes "fresh")) no_stmts)); answers = None } ∷ record { name = codes "fetch"; params = []; vars = []; body = (stmts (wait (codes "fresh") (literal_constant false 900) (literal_constant false 20)) no_stmts); answers = Some (record { kind = int; value = (variable (codes "last")) }) } ∷ []) })
      ∷ process (record { name = codes "gasWatch"; activation = periodic (literal_constant false 800) None None; vars = (record { name = codes "m"; kind = scalar (subrange (literal_constant false 0) (literal_constant false 1000)) } ∷ []); routines = []; body = (stmts (get (codes "methane") (whole (codes "m"))) (stmts (perform_entry (codes "motor") (codes "gas") (exprs (row (variable (codes "m")) (operand less (literal 100) no_operands)) no_exprs)) (stmts (perform_entry (codes "box") (codes "store") (exprs (variable (codes "m")) no_exprs)) no_stmts))); handler = Some (record { numbers = ((literal_constant false 3) ∷ []); body = (stmts (perform_entry (codes "motor") (codes "gas") (exprs (truth false) no_exprs)) (stmts (put (codes "alarm") (literal 1)) no_stmts)) }) })
      ∷ process (record { name = codes "airWatch"; activation = periodic (literal_constant false 1000) None None; vars = (record { name = codes "a"; kind = scalar int } ∷ []); routines = []; body = (stmts (get (codes "air") (whole (codes "a"))) (stmts (when (row (variable (codes "a")) (operand less (literal 20) no_operands)) (stmts (put (codes "alarm") (literal 2)) no_stmts)) no_stmts)); handler = None })
      ∷ process (record { name = codes "flow"; activation = at_event (codes "high") (literal_constant false 2000) None; vars = (record { name = codes "b"; kind = scalar boolean } ∷ []); routines = []; body = (stmts (assign_entry (whole (codes "b")) (codes "motor") (codes "start") no_exprs) (stmts (when (negation (variable (codes "b"))) (stmts (put (codes "alarm") (literal 3)) no_stmts)) no_stmts)); handler = None })
      ∷ process (record { name = codes "shower"; activation = periodic (literal_constant false 3000) None None; vars = (record { name = codes "n"; kind = scalar int } ∷ []); routines = []; body = (stmts (assign_entry (whole (codes "n")) (codes "box") (codes "fetch") no_exprs) (stmts (put (codes "panel") (variable (codes "n"))) no_stmts)); handler = Some (record { numbers = ((literal_constant false 20) ∷ []); body = (stmts (put (codes "alarm") (literal 4)) no_stmts) }) })
      ∷ process (record { name = codes "tally"; activation = periodic (literal_constant false 10000) None None; vars = (record { name = codes "t"; kind = array (literal_constant false 0) (literal_constant false 9) int } ∷ record { name = codes "s"; kind = scalar int } ∷ []); routines = []; body = (stmts (get (codes "level") (whole (codes "s"))) (stmts (loop (codes "i") (literal_constant false 0) (literal_constant false 9) (stmts (assign (part (codes "t") (variable (codes "i"))) (row (element (codes "t") (variable (codes "i"))) (operand add (variable (codes "s")) no_operands))) no_stmts)) no_stmts)); handler = None })
      ∷ process (record { name = codes "selfTest"; activation = periodic (literal_constant false 60000) None None; vars = []; routines = []; body = (stmts (perform_entry (codes "box") (codes "store") (exprs (literal 0) no_exprs)) (stmts (put (codes "panel") (literal 0)) no_stmts)); handler = None })
      ∷ [];
}

abbrev pub mine_script : Script
mine_script = record { lines = (sets 0 1 (pos 40) ∷ sets 0 2 (pos 50) ∷ []); end_tick = 88 }

abbrev pub mine_log : List Event
mine_log =
    at 0 0 act.Release
    ∷ at 0 1 act.Release
    ∷ at 0 3 act.Release
    ∷ at 0 4 act.Release
    ∷ at 0 5 act.Release
    ∷ at 9 0 (act.Get 1 (pos 40))
    ∷ at 30 0 (act.Enter 0)
    ∷ at 43 0 (act.Leave 0)
    ∷ at 63 0 (act.Enter 1)
    ∷ at 76 0 (act.Broadcast 0 0)
    ∷ at 79 0 (act.Leave 1)
    ∷ at 87 0 act.End
    ∷ []

-- a wait of a hundred and fifty ticks beside two users of another monitor
abbrev pub long_wait : Program
long_wait = record {
  name = codes "g";
  decls =
      monitor (record { name = codes "m"; members = (variable_member (record { name = codes "n"; kind = scalar int }) ∷ []); entries = (record { name = codes "e"; params = []; vars = []; body = (stmts (assign (whole (codes "n")) (row (variable (codes "n")) (operand add (literal 1) no_operands))) no_stmts); answers = None } ∷ []) })
      ∷ monitor (record { name = codes "k"; members = (condition_member (codes "c") ∷ []); entries = (record { name = codes "w"; params = []; vars = []; body = (stmts (wait (codes "c") (literal_constant false 150) (literal_constant false 10)) no_stmts); answers = None } ∷ []) })
      ∷ process (record { name = codes "a"; activation = periodic (literal_constant false 60) None None; vars = []; routines = []; body = (stmts (perform_entry (codes "m") (codes "e") no_exprs) no_stmts); handler = None })
      ∷ process (record { name = codes "b"; activation = periodic (literal_constant false 800) None None; vars = []; routines = []; body = (stmts (perform_entry (codes "k") (codes "w") no_exprs) no_stmts); handler = None })
      ∷ process (record { name = codes "l"; activation = periodic (literal_constant false 900) None None; vars = []; routines = []; body = (stmts (loop (codes "i") (literal_constant false 1) (literal_constant false 5) (stmts (perform_entry (codes "m") (codes "e") no_exprs) no_stmts)) no_stmts); handler = None })
      ∷ [];
}

abbrev pub long_wait_script : Script
long_wait_script = record { lines = []; end_tick = 278 }

abbrev pub long_wait_log : List Event
long_wait_log =
    at 0 0 act.Release
    ∷ at 0 1 act.Release
    ∷ at 0 2 act.Release
    ∷ at 10 0 (act.Enter 0)
    ∷ at 22 0 (act.Leave 0)
    ∷ at 30 0 act.End
    ∷ at 41 1 (act.Enter 1)
    ∷ at 47 1 (act.Wait 0)
    ∷ at 60 0 act.Release
    ∷ at 70 0 (act.Enter 0)
    ∷ at 82 0 (act.Leave 0)
    ∷ at 90 0 act.End
    ∷ at 94 2 (act.Enter 0)
    ∷ at 106 2 (act.Leave 0)
    ∷ at 120 0 act.Release
    ∷ at 130 0 (act.Enter 0)
    ∷ at 142 0 (act.Leave 0)
    ∷ at 150 0 act.End
    ∷ at 162 2 (act.Enter 0)
    ∷ at 174 2 (act.Leave 0)
    ∷ at 180 0 act.Release
    ∷ at 190 0 (act.Enter 0)
    ∷ at 198 1 (act.TimeOut 0 10)
    ∷ at 202 0 (act.Leave 0)
    ∷ at 210 0 act.End
    ∷ at 214 1 act.End
    ∷ at 234 2 (act.Enter 0)
    ∷ at 240 0 act.Release
    ∷ at 246 2 (act.Leave 0)
    ∷ at 257 0 (act.Enter 0)
    ∷ at 269 0 (act.Leave 0)
    ∷ at 277 0 act.End
    ∷ []

-- the mine pump control with an event, low air, and a fetch that is woken by a store
abbrev pub mine_woken : Program
mine_woken = record {
  name = codes "mine";
  decls =
      device (codes "level") false
      ∷ device (codes "methane") false
      ∷ device (codes "air") false
      ∷ device (codes "pump") true
      ∷ device (codes "alarm") true
      ∷ device (codes "panel") true
      ∷ event (codes "high")
      ∷ monitor (record { name = codes "motor"; members = (variable_member (record { name = codes "on"; kind = scalar boolean }) ∷ variable_member (record { name = codes "safe"; kind = scalar boolean }) ∷ []); entries = (record { name = codes "gas"; params = (record { name = codes "ok"; kind = boolean } ∷ []); vars = []; body = (stmts (assign (whole (codes "safe")) (variable (codes "ok"))) (stmts (when (negation (variable (codes "ok"))) (stmts (assign (whole (codes "on")) (truth false)) (stmts (put (codes "pump") (literal 0)) no_stmts))) no_stmts)); answers = None } ∷ record { name = codes "start"; params = []; vars = []; body = (stmts (when (variable (codes "safe")) (stmts (assign (whole (codes "on")) (truth true)) (stmts (put (codes "pump") (literal 1)) no_stmts))) no_stmts); answers = Some (record { kind = boolean; value = (variable (codes "on")) }) } ∷ []) })
      ∷ monitor (record { name = codes "box"; members = (variable_member (record { name = codes "last"; kind = scalar (subrange (literal_constant false 0) (literal_constant false 1000)) }) ∷ condition_member (codes "fresh") ∷ []); entries = (record { name = codes "store"; params = (record { name = codes "v"; kind = (subrange (literal_constant false 0) (literal_constant false 1000)) } ∷ []); vars = []; body = (stmts (assign (whole (codes "last")) (variable (codes "v"))) (stmts (broadcast (codes "fresh")) no_stmts)); answers = None } ∷ record { name = codes "fetch"; params = []; vars = []; body = (stmts (wait (codes "fresh") (literal_constant false 900) (literal_constant false 20)) no_stmts); answers = Some (record { kind = int; value = (variable (codes "last")) }) } ∷ []) })
      ∷ process (record { name = codes "gasWatch"; activation = periodic (literal_constant false 800) None None; vars = (record { name = codes "m"; kind = scalar (subrange (literal_constant false 0) (literal_constant false 1000)) } ∷ []); routines = []; body = (stmts (get (codes "methane") (whole (codes "m"))) (stmts (perform_entry (codes "motor") (codes "gas") (exprs (row (variable (codes "m")) (operand less (literal 100) no_operands)) no_exprs)) (stmts (perform_entry (codes "box") (codes "store") (exprs (variable (codes "m")) no_exprs)) no_stmts))); handler = Some (record { numbers = ((literal_constant false 3) ∷ []); body = (stmts (perform_entry (codes "motor") (codes "gas") (exprs (truth false) no_exprs)) (stmts (put (codes "alarm") (literal 1)) no_stmts)) }) })
      ∷ process (record { name = codes "airWatch"; activation = periodic (literal_constant false 1000) None None; vars = (record { name = codes "a"; kind = scalar int } ∷ []); routines = []; body = (stmts (get (codes "air") (whole (codes "a"))) (stmts (when (row (variable (codes "a")) (operand less (literal 20) no_operands)) (stmts (put (codes "alarm") (literal 2)) no_stmts)) no_stmts)); handler = None })
      ∷ process (record { name = codes "flow"; activation = at_event (codes "high") (literal_constant false 2000) None; vars = (record { name = codes "b"; kind = scalar boolean } ∷ []); routines = []; body = (stmts (assign_entry (whole (codes "b")) (codes "motor") (codes "start") no_exprs) (stmts (when (negation (variable (codes "b"))) (stmts (put (codes "alarm") (literal 3)) no_stmts)) no_stmts)); handler = None })
      ∷ process (record { name = codes "shower"; activation = periodic (literal_constant false 3000) None None; vars = (record { name = codes "n"; kind = scalar int } ∷ []); routines = []; body = (stmts (assign_entry (whole (codes "n")) (codes "box") (codes "fetch") no_exprs) (stmts (put (codes "panel") (variable (codes "n"))) no_stmts)); handler = Some (record { numbers = ((literal_constant false 20) ∷ []); body = (stmts (put (codes "alarm") (literal 4)) no_stmts) }) })
      ∷ process (record { name = codes "tally"; activation = periodic (literal_constant false 10000) None None; vars = (record { name = codes "t"; kind = array (literal_constant false 0) (literal_constant false 9) int } ∷ record { name = codes "s"; kind = scalar int } ∷ []); routines = []; body = (stmts (get (codes "level") (whole (codes "s"))) (stmts (loop (codes "i") (literal_constant false 0) (literal_constant false 9) (stmts (assign (part (codes "t") (variable (codes "i"))) (row (element (codes "t") (variable (codes "i"))) (operand add (variable (codes "s")) no_operands))) no_stmts)) no_stmts)); handler = None })
      ∷ process (record { name = codes "selfTest"; activation = periodic (literal_constant false 60000) None None; vars = []; routines = []; body = (stmts (perform_entry (codes "box") (codes "store") (exprs (literal 0) no_exprs)) (stmts (put (codes "panel") (literal 0)) no_stmts)); handler = None })
      ∷ [];
}

abbrev pub mine_woken_script : Script
mine_woken_script = record { lines = (sets 0 1 (pos 40) ∷ sets 0 2 (pos 10) ∷ occurs 0 0 ∷ []); end_tick = 780 }

abbrev pub mine_woken_log : List Event
mine_woken_log =
    at 0 2 act.Release
    ∷ at 0 0 act.Release
    ∷ at 0 1 act.Release
    ∷ at 0 3 act.Release
    ∷ at 0 4 act.Release
    ∷ at 0 5 act.Release
    ∷ at 9 0 (act.Get 1 (pos 40))
    ∷ at 30 0 (act.Enter 0)
    ∷ at 43 0 (act.Leave 0)
    ∷ at 63 0 (act.Enter 1)
    ∷ at 76 0 (act.Broadcast 0 0)
    ∷ at 79 0 (act.Leave 1)
    ∷ at 87 0 act.End
    ∷ at 100 1 (act.Get 2 (pos 10))
    ∷ at 110 1 (act.Put 4 (pos 2))
    ∷ at 114 1 act.End
    ∷ at 130 2 (act.Enter 0)
    ∷ at 140 2 (act.Put 3 (pos 1))
    ∷ at 150 2 (act.Leave 0)
    ∷ at 170 2 act.End
    ∷ at 180 3 (act.Enter 1)
    ∷ at 190 3 (act.Wait 0)
    ∷ at 200 4 (act.Get 0 (pos 0))
    ∷ at 500 4 act.End
    ∷ at 510 5 (act.Enter 1)
    ∷ at 520 5 (act.Broadcast 0 1)
    ∷ at 523 5 (act.Leave 1)
    ∷ at 530 3 (act.Enter 1)
    ∷ at 540 3 (act.Leave 1)
    ∷ at 560 3 (act.Put 5 (pos 0))
    ∷ at 565 3 act.End
    ∷ at 580 5 (act.Put 5 (pos 0))
    ∷ at 590 5 act.End
    ∷ []

-- two waits in one queue, signalled in turn, and a loop with an exit around entry calls
abbrev pub two_waiters : Program
two_waiters = record {
  name = codes "w";
  decls =
      device (codes "o") true
      ∷ monitor (record { name = codes "m"; members = (variable_member (record { name = codes "n"; kind = scalar int }) ∷ condition_member (codes "c") ∷ []); entries = (record { name = codes "take"; params = []; vars = []; body = (stmts (wait (codes "c") (literal_constant false 500) (literal_constant false 10)) no_stmts); answers = Some (record { kind = int; value = (variable (codes "n")) }) } ∷ record { name = codes "fill"; params = (record { name = codes "v"; kind = int } ∷ []); vars = (record { name = codes "b"; kind = scalar boolean } ∷ []); body = (stmts (assign (whole (codes "n")) (variable (codes "v"))) (stmts (assign_empty (whole (codes "b")) (codes "c")) (stmts (when (negation (variable (codes "b"))) (stmts (signal (codes "c")) no_stmts)) (stmts (assign_empty (whole (codes "b")) (codes "c")) (stmts (when (variable (codes "b")) (stmts (broadcast (codes "c")) no_stmts)) no_stmts))))); answers = None } ∷ []) })
      ∷ process (record { name = codes "a"; activation = periodic (literal_constant false 2000) None None; vars = (record { name = codes "x"; kind = scalar int } ∷ []); routines = []; body = (stmts (assign_entry (whole (codes "x")) (codes "m") (codes "take") no_exprs) (stmts (put (codes "o") (variable (codes "x"))) no_stmts)); handler = None })
      ∷ process (record { name = codes "b"; activation = periodic (literal_constant false 2001) None None; vars = (record { name = codes "x"; kind = scalar int } ∷ []); routines = []; body = (stmts (assign_entry (whole (codes "x")) (codes "m") (codes "take") no_exprs) (stmts (put (codes "o") (variable (codes "x"))) no_stmts)); handler = None })
      ∷ process (record { name = codes "q"; activation = periodic (literal_constant false 3000) None (Some (literal_constant false 100)); vars = []; routines = []; body = (stmts (loop (codes "i") (literal_constant false 1) (literal_constant false 5) (stmts (put (codes "o") (variable (codes "i"))) (stmts (exit_when (row (variable (codes "i")) (operand equal (literal 3) no_operands))) (stmts (perform_entry (codes "m") (codes "fill") (exprs (variable (codes "i")) no_exprs)) no_stmts)))) no_stmts); handler = None })
      ∷ [];
}

abbrev pub two_waiters_script : Script
two_waiters_script = record { lines = []; end_tick = 300 }

abbrev pub two_waiters_log : List Event
two_waiters_log =
    at 0 0 act.Release
    ∷ at 0 1 act.Release
    ∷ at 10 0 (act.Enter 0)
    ∷ at 16 0 (act.Wait 0)
    ∷ at 20 1 (act.Enter 0)
    ∷ at 30 1 (act.Wait 0)
    ∷ at 100 2 act.Release
    ∷ at 110 2 (act.Put 0 (pos 1))
    ∷ at 120 2 (act.Enter 0)
    ∷ at 125 2 (act.Empty 0 false)
    ∷ at 130 2 (act.Signal 0 (Some 0))
    ∷ at 135 2 (act.Empty 0 false)
    ∷ at 140 2 (act.Leave 0)
    ∷ at 150 0 (act.Enter 0)
    ∷ at 155 0 (act.Leave 0)
    ∷ at 160 0 (act.Put 0 (pos 1))
    ∷ at 165 0 act.End
    ∷ at 170 2 (act.Put 0 (pos 2))
    ∷ at 180 2 (act.Enter 0)
    ∷ at 185 2 (act.Empty 0 false)
    ∷ at 190 2 (act.Signal 0 (Some 1))
    ∷ at 195 2 (act.Empty 0 true)
    ∷ at 200 2 (act.Broadcast 0 0)
    ∷ at 205 2 (act.Leave 0)
    ∷ at 210 1 (act.Enter 0)
    ∷ at 215 1 (act.Leave 0)
    ∷ at 220 1 (act.Put 0 (pos 2))
    ∷ at 225 1 act.End
    ∷ at 230 2 (act.Put 0 (pos 3))
    ∷ at 240 2 act.End
    ∷ []
