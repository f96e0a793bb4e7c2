-- A program with the forms that the mine pump has not, and its code, written by hand.
use Rattle.std.specs.Prelude.{◌≡◌, true, false, List, [], ◌∷◌, Some, None, codes, map, pos}
use Rattle.syntax_tree.specs.Plain.{literal_constant, int, boolean, subrange, scalar, array, less, equal, variable, literal, truth, call, row, no_exprs, exprs, no_operands, operand, part, assign_empty, perform, perform_entry, when_else, loop, exit_when, signal, except, assert, no_stmts, stmts, variable_member, condition_member, periodic, routine, monitor, process, Program}
use Rattle.machine_isa.specs.declared.instr.Instr.{Instr}
use Rattle.machine_isa.specs.declared.instr.Instr.TheVariants as i
use Rattle.machine_semantics.specs.Trees.{Segs, Line, Fork, Rep, Call, Stay, Exit, Nil, Cons}
use Rattle.image_format.specs.View.{views}
use Rattle.codegen_spec.specs.Parts.{program_made}

-- function lim(a : 0 .. 9) : int = a
-- monitor m: var n : array 2 .. 4 of boolean, condition c; procedure e = n(3) := empty c; signal c
-- process p: var b : int; procedure idle =; for k : 1 .. 2 do exit when lim(k) = b; if b < 2 then
-- assert true else except 7; m.e; idle
abbrev pub forms : Program
forms = record {
  name = codes "forms";
  decls =
      routine (record { name = codes "lim"; params = record { name = codes "a"; kind = subrange (literal_constant false 0) (literal_constant false 9) } ∷ []; vars = []; body = no_stmts; answers = Some (record { kind = int; value = variable (codes "a") }) })
      ∷ monitor (record {
        name = codes "m";
        members = variable_member (record { name = codes "n"; kind = array (literal_constant false 2) (literal_constant false 4) boolean }) ∷ condition_member (codes "c") ∷ [];
        entries = record { name = codes "e"; params = []; vars = []; body = stmts (assign_empty (part (codes "n") (literal 3)) (codes "c")) (stmts (signal (codes "c")) no_stmts); answers = None } ∷ [];
      })
      ∷ process (record {
        name = codes "p";
        activation = periodic (literal_constant false 1000) None None;
        vars = record { name = codes "b"; kind = scalar int } ∷ [];
        routines = record { name = codes "idle"; params = []; vars = []; body = no_stmts; answers = None } ∷ [];
        body =
            stmts (loop (codes "k") (literal_constant false 1) (literal_constant false 2)
            (stmts (exit_when (row (call (codes "lim") (exprs (variable (codes "k")) no_exprs)) (operand equal (variable (codes "b")) no_operands)))
            (stmts (when_else (row (variable (codes "b")) (operand less (literal 2) no_operands)) (stmts (assert (truth true)) no_stmts) (stmts (except (literal_constant false 7)) no_stmts))
            no_stmts)))
            (stmts (perform_entry (codes "m") (codes "e") no_exprs)
            (stmts (perform (codes "idle") no_exprs) no_stmts));
        handler = None;
      })
      ∷ [];
}

-- lim from 0 on, m.e from 2 on, idle at 9, p from 10 on
abbrev pub forms_code : List Instr
forms_code =
    i.LoadLocal (pos 0) ∷ i.ReturnValue
    ∷ i.Enter (pos 0) ∷ i.Push (pos 3) ∷ i.Empty (pos 0) ∷ i.StoreMonAt (pos 0) (pos 2) (pos 3) ∷ i.Signal (pos 0) ∷ i.Leave (pos 0) ∷ i.Return
    ∷ i.Return
    ∷ i.Push (pos 1) ∷ i.StoreLocal (pos 0) ∷ i.Repeats (pos 2)
    ∷ i.LoadLocal (pos 0) ∷ i.Range (pos 0) (pos 9) ∷ i.Call (pos 0) ∷ i.LoadOwn (pos 0) ∷ i.Eq ∷ i.Exit (pos 34)
    ∷ i.LoadOwn (pos 0) ∷ i.Push (pos 2) ∷ i.Lt ∷ i.JumpZero (pos 28)
    ∷ i.Push (pos 1) ∷ i.JumpZero (pos 26) ∷ i.Jump (pos 27) ∷ i.Raise (pos 4) ∷ i.Jump (pos 29)
    ∷ i.Raise (pos 7)
    ∷ i.LoadLocal (pos 0) ∷ i.Push (pos 1) ∷ i.Add ∷ i.StoreLocal (pos 0) ∷ i.Repeat (pos 13)
    ∷ i.Call (pos 1) ∷ i.Call (pos 2) ∷ i.End ∷ []

abbrev pub routine_trees : List Segs
routine_trees = Cons (Line 1) Nil ∷ Cons (Stay 0 (Cons (Line 4) Nil)) Nil ∷ Nil ∷ []

abbrev pub turn : Segs
turn =
    Cons (Line 2) (Cons (Call 0) (Cons (Line 2) (Cons Exit (Cons (Line 3)
    (Cons (Fork (Cons (Line 1) (Cons (Fork Nil (Cons (Line 1) Nil)) Nil)) (Cons (Line 1) Nil)) (Cons (Line 4) Nil))))))

abbrev pub body_tree : Segs
body_tree = Cons (Line 2) (Cons (Rep 2 turn) (Cons (Call 1) (Cons (Call 2) Nil)))

pub record FormsAreMade : Type 0 where
  pub code : (program_made forms).instrs ≡ forms_code
  pub starts : map (λ p. p.start) (program_made forms).routines ≡ 0 ∷ 2 ∷ 9 ∷ []
  pub ends : map (λ p. p.end) (program_made forms).routines ≡ 2 ∷ 9 ∷ 10 ∷ []
  pub trees : map (λ p. views p.tree) (program_made forms).routines ≡ routine_trees
  pub bodies : map (λ p. p.body.start) (program_made forms).processes ≡ 10 ∷ []
  pub body_trees : map (λ p. views p.body.tree) (program_made forms).processes ≡ body_tree ∷ []
