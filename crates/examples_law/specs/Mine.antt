-- A mine pump: its text, and its image as far as the text decides it.
use Rattle.std.specs.Prelude.{true, false, List, [], ◌∷◌, Some, None, pos, codes}
use Rattle.syntax_tree.specs.Plain.{literal_constant, int, boolean, subrange, scalar, array, add, less, variable, literal, truth, element, negation, row, no_exprs, exprs, no_operands, operand, whole, part, assign, assign_entry, perform_entry, when, loop, get, put, wait, broadcast, Stmts, no_stmts, stmts, variable_member, condition_member, periodic, at_event, device, event, monitor, process, Program}
use Rattle.machine_isa.specs.declared.instr.Instr.{Instr}
use Rattle.machine_isa.specs.declared.instr.Instr.TheVariants as i
use Rattle.machine_semantics.specs.Trees.{Line, Fork, Rep, Call, Stay, Wait, Nil, Cons}
use Rattle.machine_semantics.specs.Image.{Image}

abbrev pub mine : Program
mine = record {
  name = codes "mine";
  decls =
      device (codes "level") false
      ∷ device (codes "methane") false
      ∷ device (codes "air") false
      ∷ device (codes "pump") true
      ∷ device (codes "alarm") true
      ∷ device (codes "panel") true
      ∷ event (codes "high")
      ∷ monitor (record { name = codes "motor"; members = variable_member (record { name = codes "on"; kind = scalar boolean }) ∷ variable_member (record { name = codes "safe"; kind = scalar boolean }) ∷ []; entries = record { name = codes "gas"; params = record { name = codes "ok"; kind = boolean } ∷ []; vars = []; body = (stmts (assign (whole (codes "safe")) (variable (codes "ok"))) (stmts (when (negation (variable (codes "ok"))) (stmts (assign (whole (codes "on")) (truth false)) (stmts (put (codes "pump") (literal 0)) no_stmts))) no_stmts)); answers = None } ∷ record { name = codes "start"; params = []; vars = []; body = (stmts (when (variable (codes "safe")) (stmts (assign (whole (codes "on")) (truth true)) (stmts (put (codes "pump") (literal 1)) no_stmts))) no_stmts); answers = Some (record { kind = boolean; value = (variable (codes "on")) }) } ∷ [] })
      ∷ monitor (record { name = codes "box"; members = variable_member (record { name = codes "last"; kind = scalar (subrange (literal_constant false 0) (literal_constant false 1000)) }) ∷ condition_member (codes "fresh") ∷ []; entries = record { name = codes "store"; params = record { name = codes "v"; kind = (subrange (literal_constant false 0) (literal_constant false 1000)) } ∷ []; vars = []; body = (stmts (assign (whole (codes "last")) (variable (codes "v"))) (stmts (broadcast (codes "fresh")) no_stmts)); answers = None } ∷ record { name = codes "fetch"; params = []; vars = []; body = (stmts (wait (codes "fresh") (literal_constant false 900) (literal_constant false 20)) no_stmts); answers = Some (record { kind = int; value = (variable (codes "last")) }) } ∷ [] })
      ∷ process (record { name = codes "gasWatch"; activation = (periodic (literal_constant false 800) None None); vars = record { name = codes "m"; kind = (scalar (subrange (literal_constant false 0) (literal_constant false 1000))) } ∷ []; routines = []; body = (stmts (get (codes "methane") (whole (codes "m"))) (stmts (perform_entry (codes "motor") (codes "gas") (exprs (row (variable (codes "m")) (operand less (literal 100) no_operands)) no_exprs)) (stmts (perform_entry (codes "box") (codes "store") (exprs (variable (codes "m")) no_exprs)) no_stmts))); handler = Some (record { numbers = (literal_constant false 3) ∷ []; body = (stmts (perform_entry (codes "motor") (codes "gas") (exprs (truth false) no_exprs)) (stmts (put (codes "alarm") (literal 1)) no_stmts)) }) })
      ∷ process (record { name = codes "airWatch"; activation = (periodic (literal_constant false 1000) None None); vars = record { name = codes "a"; kind = (scalar int) } ∷ []; routines = []; body = (stmts (get (codes "air") (whole (codes "a"))) (stmts (when (row (variable (codes "a")) (operand less (literal 20) no_operands)) (stmts (put (codes "alarm") (literal 2)) no_stmts)) no_stmts)); handler = None })
      ∷ process (record { name = codes "flow"; activation = (at_event (codes "high") (literal_constant false 2000) None); vars = record { name = codes "b"; kind = (scalar boolean) } ∷ []; routines = []; body = (stmts (assign_entry (whole (codes "b")) (codes "motor") (codes "start") no_exprs) (stmts (when (negation (variable (codes "b"))) (stmts (put (codes "alarm") (literal 3)) no_stmts)) no_stmts)); handler = None })
      ∷ process (record { name = codes "shower"; activation = (periodic (literal_constant false 3000) None None); vars = record { name = codes "n"; kind = (scalar int) } ∷ []; routines = []; body = (stmts (assign_entry (whole (codes "n")) (codes "box") (codes "fetch") no_exprs) (stmts (put (codes "panel") (variable (codes "n"))) no_stmts)); handler = Some (record { numbers = (literal_constant false 20) ∷ []; body = (stmts (put (codes "alarm") (literal 4)) no_stmts) }) })
      ∷ process (record { name = codes "tally"; activation = (periodic (literal_constant false 10000) None None); vars = record { name = codes "t"; kind = (array (literal_constant false 0) (literal_constant false 9) int) } ∷ record { name = codes "s"; kind = (scalar int) } ∷ []; routines = []; body = (stmts (get (codes "level") (whole (codes "s"))) (stmts (loop (codes "i") (literal_constant false 0) (literal_constant false 9) (stmts (assign (part (codes "t") (variable (codes "i"))) (row (element (codes "t") (variable (codes "i"))) (operand add (variable (codes "s")) no_operands))) no_stmts)) no_stmts)); handler = None })
      ∷ process (record { name = codes "selfTest"; activation = (periodic (literal_constant false 60000) None None); vars = []; routines = []; body = (stmts (perform_entry (codes "box") (codes "store") (exprs (literal 0) no_exprs)) (stmts (put (codes "panel") (literal 0)) no_stmts)); handler = None })
      ∷ [];
}

-- 103 instructions
abbrev pub mine_code : List Instr
mine_code =
    i.Enter (pos 0) ∷ i.LoadLocal (pos 0) ∷ i.StoreMon (pos 1) ∷ i.LoadLocal (pos 0) ∷ i.Not ∷ i.JumpZero (pos 11) ∷ i.Push (pos 0) ∷ i.StoreMon (pos 0) ∷
    i.Push (pos 0) ∷ i.Out (pos 3) ∷ i.Jump (pos 11) ∷ i.Leave (pos 0) ∷ i.Return ∷ i.Enter (pos 0) ∷ i.LoadMon (pos 1) ∷ i.JumpZero (pos 21) ∷
    i.Push (pos 1) ∷ i.StoreMon (pos 0) ∷ i.Push (pos 1) ∷ i.Out (pos 3) ∷ i.Jump (pos 21) ∷ i.LoadMon (pos 0) ∷ i.Leave (pos 0) ∷ i.ReturnValue ∷
    i.Enter (pos 1) ∷ i.LoadLocal (pos 0) ∷ i.Range (pos 0) (pos 1000) ∷ i.StoreMon (pos 2) ∷ i.Broadcast (pos 0) ∷ i.Leave (pos 1) ∷ i.Return ∷ i.Enter (pos 1) ∷
    i.Wait (pos 0) (pos 900) (pos 20) ∷ i.Reenter (pos 1) ∷ i.LoadMon (pos 2) ∷ i.Leave (pos 1) ∷ i.ReturnValue ∷ i.In (pos 1) ∷ i.Range (pos 0) (pos 1000) ∷ i.StoreOwn (pos 0) ∷
    i.LoadOwn (pos 0) ∷ i.Push (pos 100) ∷ i.Lt ∷ i.Call (pos 0) ∷ i.LoadOwn (pos 0) ∷ i.Range (pos 0) (pos 1000) ∷ i.Call (pos 2) ∷ i.End ∷
    i.Push (pos 0) ∷ i.Call (pos 0) ∷ i.Push (pos 1) ∷ i.Out (pos 4) ∷ i.End ∷ i.In (pos 2) ∷ i.StoreOwn (pos 0) ∷ i.LoadOwn (pos 0) ∷
    i.Push (pos 20) ∷ i.Lt ∷ i.JumpZero (pos 62) ∷ i.Push (pos 2) ∷ i.Out (pos 4) ∷ i.Jump (pos 62) ∷ i.End ∷ i.Call (pos 1) ∷
    i.StoreOwn (pos 0) ∷ i.LoadOwn (pos 0) ∷ i.Not ∷ i.JumpZero (pos 71) ∷ i.Push (pos 3) ∷ i.Out (pos 4) ∷ i.Jump (pos 71) ∷ i.End ∷
    i.Call (pos 3) ∷ i.StoreOwn (pos 0) ∷ i.LoadOwn (pos 0) ∷ i.Out (pos 5) ∷ i.End ∷ i.Push (pos 4) ∷ i.Out (pos 4) ∷ i.End ∷
    i.In (pos 0) ∷ i.StoreOwn (pos 10) ∷ i.Push (pos 0) ∷ i.StoreLocal (pos 0) ∷ i.Repeats (pos 10) ∷ i.LoadLocal (pos 0) ∷ i.LoadLocal (pos 0) ∷ i.LoadOwnAt (pos 0) (pos 0) (pos 10) ∷
    i.LoadOwn (pos 10) ∷ i.Add ∷ i.StoreOwnAt (pos 0) (pos 0) (pos 10) ∷ i.LoadLocal (pos 0) ∷ i.Push (pos 1) ∷ i.Add ∷ i.StoreLocal (pos 0) ∷ i.Repeat (pos 85) ∷
    i.End ∷ i.Push (pos 0) ∷ i.Range (pos 0) (pos 1000) ∷ i.Call (pos 2) ∷ i.Push (pos 0) ∷ i.Out (pos 5) ∷ i.End ∷ []

abbrev pub mine_image : Image
mine_image = record {
  over = 0;
  monitors = record { base = 0; words = 2; ceiling = 1 } ∷ record { base = 2; words = 1; ceiling = 1 } ∷ [];
  conditions = 1 ∷ [];
  devices = false ∷ false ∷ false ∷ true ∷ true ∷ true ∷ [];
  routines = record { kind = 2; owner = 0; params = 1; locals = 1; gives = false; start = 0; run = 0; susp = 0; waits = 0; stay = 0; tree = (Cons (Stay 0 (Cons (Line 4) (Cons (Fork (Cons (Line 4) Nil) Nil) Nil))) Nil) }
      ∷ record { kind = 2; owner = 0; params = 0; locals = 0; gives = true; start = 13; run = 0; susp = 0; waits = 0; stay = 0; tree = (Cons (Stay 0 (Cons (Line 1) (Cons (Fork (Cons (Line 4) Nil) Nil) (Cons (Line 1) Nil)))) Nil) }
      ∷ record { kind = 2; owner = 1; params = 1; locals = 1; gives = false; start = 24; run = 0; susp = 0; waits = 0; stay = 0; tree = (Cons (Stay 1 (Cons (Line 4) Nil)) Nil) }
      ∷ record { kind = 2; owner = 1; params = 0; locals = 0; gives = true; start = 31; run = 0; susp = 0; waits = 0; stay = 0; tree = (Cons (Stay 1 (Cons Wait (Cons (Line 1) Nil))) Nil) }
      ∷ [];
  processes = record { kind = 0; frame = 800; deadline = 800; first = 0; event = 0; rank = 0; run = 0; susp = 0; waits = 0; block = 0; bound = 0; words = 1; stack = 0; locals = 0; start = 37; handler = 48; numbers = 3 ∷ []; body = (Cons (Line 6) (Cons (Call 0) (Cons (Line 2) (Cons (Call 2) Nil)))); handler_tree = Some (Cons (Line 1) (Cons (Call 0) (Cons (Line 2) Nil))) }
      ∷ record { kind = 0; frame = 1000; deadline = 1000; first = 0; event = 0; rank = 0; run = 0; susp = 0; waits = 0; block = 0; bound = 0; words = 1; stack = 0; locals = 0; start = 53; handler = 0; numbers = []; body = (Cons (Line 5) (Cons (Fork (Cons (Line 2) Nil) Nil) Nil)); handler_tree = None }
      ∷ record { kind = 1; frame = 2000; deadline = 2000; first = 0; event = 0; rank = 0; run = 0; susp = 0; waits = 0; block = 0; bound = 0; words = 1; stack = 0; locals = 0; start = 63; handler = 0; numbers = []; body = (Cons (Call 1) (Cons (Line 3) (Cons (Fork (Cons (Line 2) Nil) Nil) Nil))); handler_tree = None }
      ∷ record { kind = 0; frame = 3000; deadline = 3000; first = 0; event = 0; rank = 0; run = 0; susp = 0; waits = 0; block = 0; bound = 0; words = 1; stack = 0; locals = 0; start = 72; handler = 77; numbers = 20 ∷ []; body = (Cons (Call 3) (Cons (Line 3) Nil)); handler_tree = Some (Cons (Line 2) Nil) }
      ∷ record { kind = 0; frame = 10000; deadline = 10000; first = 0; event = 0; rank = 0; run = 0; susp = 0; waits = 0; block = 0; bound = 0; words = 11; stack = 0; locals = 1; start = 80; handler = 0; numbers = []; body = (Cons (Line 4) (Cons (Rep 10 (Cons (Line 10) Nil)) Nil)); handler_tree = None }
      ∷ record { kind = 0; frame = 60000; deadline = 60000; first = 0; event = 0; rank = 0; run = 0; susp = 0; waits = 0; block = 0; bound = 0; words = 0; stack = 0; locals = 0; start = 97; handler = 0; numbers = []; body = (Cons (Line 2) (Cons (Call 2) (Cons (Line 2) Nil))); handler_tree = None }
      ∷ [];
  code = mine_code;
}
