-- Routines that stand before those that they call.
use Rattle.std.specs.Prelude.{◌≡◌, ℕ, List, [], ◌∷◌, Some, None, false, map, codes}
use Rattle.syntax_tree.specs.Plain.{Name, literal_constant, int, add, remainder, variable, literal, call, row, no_exprs, exprs, no_operands, operand, whole, assign, assign_entry, perform, perform_entry, put, Stmts, no_stmts, stmts, periodic, device, routine, monitor, process, Program}
use Rattle.code_spec.specs.Numbering.{numbered}

-- show calls limit and then twice in one expression, limit calls twice; the monitor's entry calls
-- limit; the process's own calls them all
abbrev pub nested : Program
nested = record {
  name = codes "nested";
  decls =
      device (codes "lamp") false
      ∷ routine (record { name = codes "show"; params = record { name = codes "a"; kind = int } ∷ []; vars = []; body = stmts (put (codes "lamp") (call (codes "limit") (exprs (call (codes "twice") (exprs (variable (codes "a")) no_exprs)) no_exprs))) no_stmts; answers = None })
      ∷ routine (record { name = codes "limit"; params = record { name = codes "a"; kind = int } ∷ []; vars = []; body = no_stmts; answers = Some (record { kind = int; value = row (call (codes "twice") (exprs (variable (codes "a")) no_exprs)) (operand remainder (literal 10) no_operands) }) })
      ∷ monitor (record { name = codes "m"; members = []; entries = record { name = codes "e"; params = []; vars = []; body = no_stmts; answers = Some (record { kind = int; value = call (codes "limit") (exprs (literal 1) no_exprs) }) } ∷ [] })
      ∷ process (record {
        name = codes "p";
        activation = periodic (literal_constant false 100) None None;
        vars = [];
        routines = record { name = codes "all"; params = []; vars = []; body = stmts (perform (codes "late") no_exprs) (stmts (perform (codes "show") (exprs (literal 1) no_exprs)) no_stmts); answers = None } ∷ record { name = codes "late"; params = []; vars = []; body = no_stmts; answers = None } ∷ [];
        body = no_stmts;
        handler = None;
      })
      ∷ routine (record { name = codes "twice"; params = record { name = codes "a"; kind = int } ∷ []; vars = []; body = no_stmts; answers = Some (record { kind = int; value = row (variable (codes "a")) (operand add (variable (codes "a")) no_operands) }) })
      ∷ [];
}

-- the names of the routines by number
abbrev pub CalleesFirst : Type 0
CalleesFirst = map (λ t. t.routine.name) (numbered nested) ≡ codes "twice" ∷ codes "limit" ∷ codes "show" ∷ codes "e" ∷ codes "late" ∷ codes "all" ∷ []
