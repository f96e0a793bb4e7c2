-- Parts of a program of which none waits: no statement among them is a wait.
use Rattle.std.proofs.Common.{◌≡◌, ℕ, zero, suc, Bool, true, false, List, [], ◌∷◌, Option, Some, None, inl, inr, refl, map, subst}
use Rattle.std.specs.Prelude.{filter_map, slice_get}
use Rattle.std.proofs.lemmas.Option.{same_Some, none-some}
use Rattle.syntax_tree.specs.declared.place.Place.{Place}
use Rattle.syntax_tree.specs.Plain as plain_of
use Rattle.syntax_tree.specs.Placed.{Scalar, Expr, Stmt, assign, assign_entry, assign_empty, perform, perform_entry, when, when_else, loop, exit_when, get, put, wait, signal, broadcast, except, assert, Stmts, no_stmts, stmts, Routine, Handler, Decl, constant, device, event, routine, monitor, process, optional, plain_stmt, plain_stmts, plain_routine, plain_handler, plain_monitor, plain_process, plain_decl, Constant}
use Rattle.static_rule.specs.Parts.{FailsAmong}
use Rattle.source_semantics.specs.Names.{routine_in, monitor_in, process_in}
use Rattle.static_declarations.specs.declared.home.Where.{Where}
use Rattle.static_declarations.specs.Parts.{Part, statement, answer, looped, home_of, outside_loops, stmt_parts, stmts_parts, answer_parts, routine_parts, routines_parts, handler_parts, decls_parts}
use Rattle.static_declarations.specs.declared.home.StmtContext.TheVariants as home_is
use Rattle.code_measures.specs.Quiet.{NoWait, NoWaits}
use Rattle.command_due.specs.Waits.{wait_rules}
use Rattle.edf_correct.specs.Waits.{HandlerHasNoWait, NoneWaits, ProcessHasNoWait, WaitlessTreesHaveNoWait}

-- none of the parts waits
abbrev Quiet : List Part → Type 0
Quiet xs = (number : ℕ) (place : Place) → FailsAmong wait_rules xs number place → ⊥

after : (x : Part) (xs : List Part) → Quiet (x ∷ xs) → Quiet xs
after x xs q number place fails = q number place (inr fails)

never : (here : Where) (p : Place) (cond : plain_of.Name) (c : Place) (limit number : Constant Place) (xs : List Part) → Quiet (statement here (wait p cond c limit number) ∷ xs) → ⊥
unfolding wait_rules
never here p cond c limit number xs q = q 48 p (inl (inl (refl, refl)))

-- ---- statements

mutual
  stmt_quiet : (here : Where) (s : Stmt Place) (more : List Part) → Quiet (stmt_parts here s more) → NoWait (plain_stmt s) × Quiet more
  stmt_quiet here (assign r e) more q = (tt, after (statement here (assign r e)) more q)
  stmt_quiet here (assign_entry r mon p entry c es) more q = (tt, after (statement here (assign_entry r mon p entry c es)) more q)
  stmt_quiet here (assign_empty r cond p) more q = (tt, after (statement here (assign_empty r cond p)) more q)
  stmt_quiet here (perform p name es) more q = (tt, after (statement here (perform p name es)) more q)
  stmt_quiet here (perform_entry p mon entry c es) more q = (tt, after (statement here (perform_entry p mon entry c es)) more q)
  stmt_quiet here (when p e a) more q = stmts_quiet here a more (after (statement here (when p e a)) (stmts_parts here a more) q)
  stmt_quiet here (when_else p e a b) more q =
      let one = stmts_quiet here a (stmts_parts here b more) (after (statement here (when_else p e a b)) (stmts_parts here a (stmts_parts here b more)) q) in
      let two = stmts_quiet here b more one.1 in
      ((one.0, two.0), two.1)
  stmt_quiet here (loop p name c low high a) more q = stmts_quiet (looped here) a more (after (statement here (loop p name c low high a)) (stmts_parts (looped here) a more) q)
  stmt_quiet here (exit_when p e) more q = (tt, after (statement here (exit_when p e)) more q)
  stmt_quiet here (get p dev c r) more q = (tt, after (statement here (get p dev c r)) more q)
  stmt_quiet here (put p dev c e) more q = (tt, after (statement here (put p dev c e)) more q)
  stmt_quiet here (wait p cond c limit number) more q = absurd (never here p cond c limit number more q)
  stmt_quiet here (signal p cond c) more q = (tt, after (statement here (signal p cond c)) more q)
  stmt_quiet here (broadcast p cond c) more q = (tt, after (statement here (broadcast p cond c)) more q)
  stmt_quiet here (except p number) more q = (tt, after (statement here (except p number)) more q)
  stmt_quiet here (assert p e) more q = (tt, after (statement here (assert p e)) more q)

  stmts_quiet : (here : Where) (ss : Stmts Place) (more : List Part) → Quiet (stmts_parts here ss more) → NoWaits (plain_stmts ss) × Quiet more
  stmts_quiet here no_stmts more q = (tt, q)
  stmts_quiet here (stmts s ss) more q =
      let one = stmt_quiet here s (stmts_parts here ss more) q in
      let two = stmts_quiet here ss more one.1 in
      ((one.0, two.0), two.1)

-- ---- routines and handlers

answer_quiet : (name : Place) (s : Option (Scalar Place)) (e : Option (Expr Place)) (more : List Part) → Quiet (answer_parts name s e more) → Quiet more
answer_quiet name (Some s) (Some e) more q = after (answer name s e) more q
answer_quiet name (Some s) None more q = q
answer_quiet name None (Some e) more q = q
answer_quiet name None None more q = q

routine_quiet : (is_entry : Bool) (r : Routine Place) (more : List Part) → Quiet (routine_parts is_entry r more) → NoWaits (plain_stmts r.body) × Quiet more
routine_quiet is_entry r more q =
    let one = stmts_quiet (outside_loops (home_of is_entry r.kind r.place)) r.body (answer_parts r.place r.result r.value more) q in
    (one.0, answer_quiet r.place r.result r.value more one.1)

no_routine : NoneWaits []
no_routine j r at = absurd (none-some r at)

one_more : (first : plain_of.Routine) (rs : List plain_of.Routine) → NoWaits first.body → NoneWaits rs → NoneWaits (first ∷ rs)
one_more first rs here rest zero r at = subst (λ (x : plain_of.Routine). NoWaits x.body) (same_Some first r at) here
one_more first rs here rest (suc j) r at = rest j r at

routines_quiet : (is_entry : Bool) (rs : List (Routine Place)) (more : List Part) → Quiet (routines_parts is_entry rs more) → NoneWaits (map plain_routine rs) × Quiet more
routines_quiet is_entry [] more q = (no_routine, q)
routines_quiet is_entry (r ∷ rs) more q =
    let one = routine_quiet is_entry r (routines_parts is_entry rs more) q in
    let two = routines_quiet is_entry rs more one.1 in
    (one_more (plain_routine r) (map plain_routine rs) one.0 two.0, two.1)

handler_quiet : (h : Option (Handler Place)) (more : List Part) → Quiet (handler_parts h more) → HandlerHasNoWait (optional plain_handler h) × Quiet more
handler_quiet None more q = (tt, q)
handler_quiet (Some h) more q = stmts_quiet (outside_loops home_is.Free) h.body more q

-- ---- declarations

record AreQuiet (ds : List plain_of.Declaration) : Type 0 where
  program : NoneWaits (filter_map routine_in ds)
  entries : (m : ℕ) (k : plain_of.Monitor) → slice_get (filter_map monitor_in ds) m ≡ Some k → NoneWaits k.entries
  bodies : (k : ℕ) (p : plain_of.Process) → slice_get (filter_map process_in ds) k ≡ Some p → ProcessHasNoWait p

monitors_more : (first : plain_of.Monitor) (ms : List plain_of.Monitor) → NoneWaits first.entries → ((m : ℕ) (k : plain_of.Monitor) → slice_get ms m ≡ Some k → NoneWaits k.entries)
    → (m : ℕ) (k : plain_of.Monitor) → slice_get (first ∷ ms) m ≡ Some k → NoneWaits k.entries
monitors_more first ms here rest zero k at = subst (λ (x : plain_of.Monitor). NoneWaits x.entries) (same_Some first k at) here
monitors_more first ms here rest (suc m) k at = rest m k at

processes_more : (first : plain_of.Process) (ps : List plain_of.Process) → ProcessHasNoWait first → ((k : ℕ) (p : plain_of.Process) → slice_get ps k ≡ Some p → ProcessHasNoWait p)
    → (k : ℕ) (p : plain_of.Process) → slice_get (first ∷ ps) k ≡ Some p → ProcessHasNoWait p
processes_more first ps here rest zero p at = subst ProcessHasNoWait (same_Some first p at) here
processes_more first ps here rest (suc k) p at = rest k p at

decls_quiet : (ds : List (Decl Place)) → Quiet (decls_parts ds []) → AreQuiet (map plain_decl ds)
decls_quiet [] q = record { program = no_routine; entries = λ m k at. absurd (none-some k at); bodies = λ k p at. absurd (none-some p at) }
decls_quiet (constant name p c ∷ ds) q = let rest = decls_quiet ds q in record { program = rest.program; entries = rest.entries; bodies = rest.bodies }
decls_quiet (device name p is_out ∷ ds) q = let rest = decls_quiet ds q in record { program = rest.program; entries = rest.entries; bodies = rest.bodies }
decls_quiet (event name p ∷ ds) q = let rest = decls_quiet ds q in record { program = rest.program; entries = rest.entries; bodies = rest.bodies }
decls_quiet (routine r ∷ ds) q =
    let one = routine_quiet false r (decls_parts ds []) q in
    let rest = decls_quiet ds one.1 in
    record { program = one_more (plain_routine r) (filter_map routine_in (map plain_decl ds)) one.0 rest.program; entries = rest.entries; bodies = rest.bodies }
decls_quiet (monitor m ∷ ds) q =
    let one = routines_quiet true m.entries (decls_parts ds []) q in
    let rest = decls_quiet ds one.1 in
    record { program = rest.program; entries = monitors_more (plain_monitor m) (filter_map monitor_in (map plain_decl ds)) one.0 rest.entries; bodies = rest.bodies }
decls_quiet (process p ∷ ds) q =
    let own = routines_quiet false p.routines (stmts_parts (outside_loops home_is.Free) p.body (handler_parts p.handler (decls_parts ds []))) q in
    let body = stmts_quiet (outside_loops home_is.Free) p.body (handler_parts p.handler (decls_parts ds [])) own.1 in
    let handler = handler_quiet p.handler (decls_parts ds []) body.1 in
    let rest = decls_quiet ds handler.1 in
    record {
      program = rest.program;
      entries = rest.entries;
      bodies = processes_more (plain_process p) (filter_map process_in (map plain_decl ds)) (record { body = body.0; handler = handler.0; own = own.0 }) rest.bodies;
    }

pub waitless_trees_have_no_wait : WaitlessTreesHaveNoWait
waitless_trees_have_no_wait g none = let q = decls_quiet g.decls none in record { program = q.program; entries = q.entries; bodies = q.bodies }
