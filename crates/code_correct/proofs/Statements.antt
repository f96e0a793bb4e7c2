-- The code of statements comes to their run.
use Rattle.std.specs.Prelude.{◌≡◌, ◌+◌, ◌≤◌, ℕ, suc, Bool, true, false, not, cond, List, [], ◌∷◌, ◌++◌, Option, Some, None, ℤ, pos, length}
use Rattle.std.proofs.Common.{refl, sym, ◌∙◌, ap, subst, arith, append-nil}
use Rattle.syntax_tree.specs.Plain.{Answers, Exprs, Stmt, assign, assign_entry, assign_empty, perform, perform_entry, when, when_else, loop, exit_when, get, put, wait, signal, broadcast, except, assert, Stmts, no_stmts, stmts}
use Rattle.base.specs.Words.{is_true, is_zero}
use Rattle.source_semantics.specs.Names.{constant_value, count_value, device_number, monitor_number, routine_count}
use Rattle.source_semantics.specs.Run.{Memory, Calls, do_all, receive, Run, goes, exits, fails, answers, stops, gets, puts, signals, broadcasts, asks_empty, value, arguments, condition_here, enter_found, enter_named, perform_found, run, run_all, turns}
use Rattle.machine_isa.specs.declared.instr.Instr.{Instr}
use Rattle.machine_isa.specs.declared.instr.Instr.TheVariants as i
use Rattle.machine_semantics.specs.State.{Operand, Value, Counter}
use Rattle.machine_semantics.specs.Effect.{Own, Goes}
use Rattle.code_spec.specs.Layout.{Scope, loops_in, loops}
use Rattle.code_spec.specs.Numbering.{Text, routine_in, entry_in, number_of}
use Rattle.code_spec.specs.Code.{code_of, args_code, call_code, index_code, store_code, put_code, range_code, ref_name}
use Rattle.code_spec.specs.Emits.{Has, IsLine, At, inner, condition_of, Emits, EmitsAll}
use Rattle.code_spec.specs.Steps.{Words, stand, Runs, arrived}
use Rattle.code_spec.specs.Memory.{Setting, site_of, Room, Before, Fits, Here}
use Rattle.code_spec.specs.Proper.{ProperArgs, Proper, ProperAll, CallsEntry, Callee}
use Rattle.code_spec.specs.Stands.{Point, point, there, jump, HasCounter, Looping, index_on, target_code}
use Rattle.code_spec.specs.Comes.{Left, Reached, Acting}
use Rattle.code_correct.specs.Known.{CallsCome, GotAll, HasCode}
use Rattle.code_correct.proofs.Steps.{then_runs, line_front, line_back, line_one}
use Rattle.code_correct.proofs.Gets.{step_runs, raise_here}
use Rattle.code_correct.proofs.Expressions.{value_gets, args_gets}
use Rattle.code_correct.proofs.Stores.{Laid}
use Rattle.code_correct.proofs.Targets.{value_runs}
use Rattle.code_correct.proofs.Items.{jumps, then_reached, acting_more}
use Rattle.code_correct.proofs.Loops.{room_inside, here_inside, enters_loop, turns_run}
use Rattle.code_correct.proofs.Acts.{target_runs, assign_runs, answered_runs, plain_runs, wait_runs, condition_is, storing, nothing}
use Rattle.code_correct.proofs.Calls.{is_outside, procedure_runs, entry_runs}
use Rattle.code_correct.proofs.Layouts.{below_more}

-- ---- room of parts

room_first : (c : Scope) (w a b : ℕ) → Room c w (a + b) → Room c w a
room_first c w a b r = record { apart = r.apart; below = r.below; room = (let enough : w + (a + b) ≤ c.frame = r.room in omega arith) }

room_second : (c : Scope) (w a b : ℕ) → Room c w (a + b) → Room c (w + a) b
room_second c w a b r = record { apart = r.apart; below = below_more w (w + a) c.own (omega arith) r.below; room = (let enough : w + (a + b) ≤ c.frame = r.room in omega arith) }

some_none : (a : Answers) → Some a ≡ None → ⊥
some_none a h = absurd cc

module _ (e : Setting) (o : Own) (before : Before) where
  -- ---- jumps and tests

  -- a jump behind a run
  to_jump : (c : Scope) (fixed : List ℤ) (mid q : ℕ) (os : List Operand) (r : Run) (start : Own) → At e.image.code mid (i.Jump (pos q))
      → Runs e.image (Reached e o (point c fixed o.job.inside false mid os) before r) start → Runs e.image (Reached e o (point c fixed o.job.inside false q os) before r) start
  to_jump c fixed mid q os (goes m) start at h =
      then_runs h (λ b g. subst (λ t. Runs e.image (Reached e o (point c fixed o.job.inside false q os) before (goes m)) t) (sym g.4)
      (jumps e o c fixed before m (Reached e o (point c fixed o.job.inside false q os) before (goes m)) q mid os (jump q at there) (λ u f. arrived (u, f, refl, refl, refl)) g.0 g.1))
  to_jump c fixed mid q os (exits m) start at h = then_runs h (λ b g. arrived g)
  to_jump c fixed mid q os (fails n m) start at h = then_runs h (λ b g. arrived g)
  to_jump c fixed mid q os (answers v m) start at h = then_runs h (λ b g. arrived g)
  to_jump c fixed mid q os (stops a inside is m) start at h =
      then_runs h (λ b g. arrived (
        g.0,
        subst (λ t. Acting e o (point c fixed o.job.inside false q os) a inside t m b) (append-nil is)
            (acting_more e o (point c fixed o.job.inside false mid os) (point c fixed o.job.inside false q os) a inside is [] m b g.1 refl tt (q, jump q at there, refl)),
      ))

  -- a test: on where the value is true, else to another address
  tested : (c : Scope) (fixed : List ℤ) (m : Memory) (z : Point) (r t : ℕ) (os : List Operand) (v : ℤ) (x y : Run) (w : Words) → Here e o c → Fits e o c fixed before w m → At e.image.code r (i.JumpZero (pos t))
      → ((u : Words) → Fits e o c fixed before u m → Runs e.image (Reached e o z before x) (stand o u (r + 1) os))
      → ((u : Words) → Fits e o c fixed before u m → Runs e.image (Reached e o z before y) (stand o u t os))
      → Runs e.image (Reached e o z before (cond (is_true v) x y)) (stand o w r (Value v ∷ os))
  tested c fixed m z r t os v x y w here f at hx hy = by_case (is_zero v) refl
    where
      by_case : (b : Bool) → is_zero v ≡ b → Runs e.image (Reached e o z before (cond (not (is_zero v)) x y)) (stand o w r (Value v ∷ os))
      by_case true is =
          subst (λ b. Runs e.image (Reached e o z before (cond (not b) x y)) (stand o w r (Value v ∷ os))) (sym is)
          (step_runs e o c fixed before m here (Reached e o z before y) w r t (Value v ∷ os) os (i.JumpZero (pos t)) f at
          (λ s u g. ap (λ b. cond b (Goes (stand o u t os)) (Goes (stand o u (r + 1) os))) is) hy)
      by_case false is =
          subst (λ b. Runs e.image (Reached e o z before (cond (not b) x y)) (stand o w r (Value v ∷ os))) (sym is)
          (step_runs e o c fixed before m here (Reached e o z before x) w r (r + 1) (Value v ∷ os) os (i.JumpZero (pos t)) f at
          (λ s u g. ap (λ b. cond b (Goes (stand o u t os)) (Goes (stand o u (r + 1) os))) is) hx)

  -- an exit where the value is true
  exit_tested : (c : Scope) (fixed : List ℤ) (m : Memory) (r y q : ℕ) (os : List Operand) (v : ℤ) (w : Words) → Here e o c → Fits e o c fixed before w m → c.exit ≡ Some y → HasCounter c.exit os → At e.image.code r (i.Exit (pos y)) → q ≡ r + 1
      → Runs e.image (Reached e o (point c fixed o.job.inside false q os) before (cond (is_true v) (exits m) (goes m))) (stand o w r (Value v ∷ os))
  exit_tested c fixed m r y q os v w here f ex top at end =
      let counter : HasCounter (Some y) os = subst (λ t. HasCounter t os) ex top in
      subst (λ t. Runs e.image (Reached e o (point c fixed o.job.inside false q os) before (cond (is_true v) (exits m) (goes m))) (stand o w r (Value v ∷ t))) (sym counter.2)
      (by_case counter.0 counter.1 counter.2 (is_zero v) refl)
    where
      by_case : (n : ℕ) (rest : List Operand) → os ≡ Counter n ∷ rest → (b : Bool) → is_zero v ≡ b
          → Runs e.image (Reached e o (point c fixed o.job.inside false q os) before (cond (not (is_zero v)) (exits m) (goes m))) (stand o w r (Value v ∷ Counter n ∷ rest))
      by_case n rest has true is =
          subst (λ b. Runs e.image (Reached e o (point c fixed o.job.inside false q os) before (cond (not b) (exits m) (goes m))) (stand o w r (Value v ∷ Counter n ∷ rest))) (sym is)
          (step_runs e o c fixed before m here (Reached e o (point c fixed o.job.inside false q os) before (goes m)) w r (r + 1) (Value v ∷ Counter n ∷ rest) (Counter n ∷ rest) (i.Exit (pos y)) f at
          (λ s u g. ap (λ b. cond b (Goes (stand o u (r + 1) (Counter n ∷ rest))) (Goes (stand o u y rest))) is)
          (λ u g. arrived (u, g, refl, refl, ap (λ t. stand o u t (Counter n ∷ rest)) (sym end) ∙ ap (λ t. stand o u q t) (sym has))))
      by_case n rest has false is =
          subst (λ b. Runs e.image (Reached e o (point c fixed o.job.inside false q os) before (cond (not b) (exits m) (goes m))) (stand o w r (Value v ∷ Counter n ∷ rest))) (sym is)
          (step_runs e o c fixed before m here (Reached e o (point c fixed o.job.inside false q os) before (exits m)) w r y (Value v ∷ Counter n ∷ rest) rest (i.Exit (pos y)) f at
          (λ s u g. ap (λ b. cond b (Goes (stand o u (r + 1) (Counter n ∷ rest))) (Goes (stand o u y rest))) is)
          (λ u g. arrived (subst (λ t. Left e o (point c fixed o.job.inside false q os) fixed before m t (stand o u y rest)) (sym ex) (n, rest, has, u, g, refl))))

module _ (e : Setting) (code : HasCode e) (laid : Laid e) (n : ℕ) (low : n ≤ routine_count e.program) (calls : Calls) (known : CallsCome e n calls) (o : Own) (before : Before) where
  -- the arguments of a call, and where the call is
  abbrev CallAt : Scope → List ℤ → Memory → ℕ → List Operand → Exprs → Text → ℕ → Own → Type 0
  CallAt c fixed m q os es t p start =
      At e.image.code p (i.Call (pos (number_of e.program t))) × (p + 1 ≡ q) × Runs e.image (GotAll e o c fixed before m t.routine.params p os (arguments (site_of e c calls) m es t.routine.params)) start

  call_at : (c : Scope) (fixed : List ℤ) (m : Memory) (p q : ℕ) (os : List Operand) (es : Exprs) (found : Option Text) (t : Text) (w : Words) → Here e o c → Fits e o c fixed before w m → found ≡ Some t → ProperArgs e c n es t.routine.params
      → IsLine e.image.code p q (call_code e.program found (λ ps. args_code e.program c es ps)) → (r : ℕ) × CallAt c fixed m q os es t r (stand o w p os)
  call_at c fixed m p q os es found t w here f is ok line =
      let whole : IsLine e.image.code p q (args_code e.program c es t.routine.params ++ (i.Call (pos (number_of e.program t)) ∷ [])) =
      subst (λ r. IsLine e.image.code p q (call_code e.program r (λ ps. args_code e.program c es ps))) is line in
      let last : At e.image.code (p + length (args_code e.program c es t.routine.params)) (i.Call (pos (number_of e.program t))) × (q ≡ p + length (args_code e.program c es t.routine.params) + 1) =
      line_one e.image.code (p + length (args_code e.program c es t.routine.params)) q (i.Call (pos (number_of e.program t)))
      (line_back e.image.code p q (args_code e.program c es t.routine.params) (i.Call (pos (number_of e.program t)) ∷ []) whole) in (
        p + length (args_code e.program c es t.routine.params),
        (
          last.0,
          sym last.1,
          args_gets e n calls code.routines known o c fixed before m here p (p + length (args_code e.program c es t.routine.params)) os es t.routine.params w (line_front e.image.code p q (args_code e.program c es t.routine.params) _ whole) ok f,
        ),
      )

  mutual
    pub run_runs : (s : Stmt) (c : Scope) (fixed : List ℤ) (m : Memory) (word p q : ℕ) (os : List Operand) (w : Words) → Here e o c → HasCounter c.exit os → Room c word (loops_in s) → Fits e o c fixed before w m
        → Emits e.program e.image.code c word p q s → Proper e c n s → Runs e.image (Reached e o (point c fixed o.job.inside false q os) before (run (site_of e c calls) m s)) (stand o w p os)
    run_runs (assign r x) c fixed m word p q os w here top room f h ok = assign_runs e n calls code.routines known o c fixed before m here laid room.apart p q os r x w h ok.0 ok.1 ok.2 f
    run_runs (assign_entry r mon en es) c fixed m word p q os w here top room f h ok =
        let t : Text = ok.2.0 in
        let ce : CallsEntry e c n mon en es ok.2.0 = ok.2.3 in
        let out : o.job.inside ≡ None = is_outside e o.job.inside c.owner c.is_function here.may_run ce.outside ce.may_act in
        let a : ℕ = p + length (index_code e.program c r) in
        let js : List Instr = call_code e.program (entry_in e.program mon en) (λ ps. args_code e.program c es ps) in
        let rest : IsLine e.image.code (p + length (index_code e.program c r)) q (call_code e.program (entry_in e.program mon en) (λ ps. args_code e.program c es ps) ++ put_code e.program c r) =
        line_back e.image.code p q (index_code e.program c r) _ h in
        let middle : ℕ = p + length (index_code e.program c r) + length (call_code e.program (entry_in e.program mon en) (λ ps. args_code e.program c es ps)) in
        let put_line : IsLine e.image.code (p + length (index_code e.program c r) + length (call_code e.program (entry_in e.program mon en) (λ ps. args_code e.program c es ps))) q (put_code e.program c r) =
        line_back e.image.code (p + length (index_code e.program c r)) q (call_code e.program (entry_in e.program mon en) (λ ps. args_code e.program c es ps)) (put_code e.program c r) rest in
        target_runs e n calls code.routines known o c fixed before m here (point c fixed o.job.inside false q os) refl p q os r
        (call_code e.program (entry_in e.program mon en) (λ ps. args_code e.program c es ps) ++ put_code e.program c r) (λ y. enter_named (site_of e c calls) m mon en es (receive y ∷ [])) w h ok.0 ok.1 f
        (λ ix u target conv g. subst (λ y. Runs e.image (Reached e o (point c fixed o.job.inside false q os) before (enter_found (site_of e c calls) m (monitor_number e.program mon) y (λ ps. arguments (site_of e c calls) m es ps) (receive (record { name = ref_name r; index = ix }) ∷ [])))
        (stand o u (p + length (index_code e.program c r)) (index_on ix os))) (sym ce.entry_is.in_source)
        (let at : (y : ℕ) × CallAt c fixed m (p + length (index_code e.program c r) + length (call_code e.program (entry_in e.program mon en) (λ ps. args_code e.program c es ps))) (index_on ix os) es ok.2.0 y (stand o u (p + length (index_code e.program c r)) (index_on ix os)) =
        call_at c fixed m (p + length (index_code e.program c r)) (p + length (index_code e.program c r) + length (call_code e.program (entry_in e.program mon en) (λ ps. args_code e.program c es ps))) (index_on ix os) es (entry_in e.program mon en) ok.2.0 u here g ce.entry_is.in_code ce.args
        (line_front e.image.code (p + length (index_code e.program c r)) q (call_code e.program (entry_in e.program mon en) (λ ps. args_code e.program c es ps)) (put_code e.program c r) rest) in
        entry_runs e o c fixed before m here ce.may_act out calls ok.2.0 (monitor_number e.program mon) (code.entries mon en ok.2.0 ce.entry_is) (code.proper_entries mon en ok.2.0 ce.entry_is) ce.entry_is.owner ce.entry_is.reaches
        (stand o u (p + length (index_code e.program c r)) (index_on ix os)) at.0 (index_on ix os) (arguments (site_of e c calls) m es ok.2.0.routine.params) (receive (record { name = ref_name r; index = ix }) ∷ []) (point c fixed o.job.inside false q os) refl at.1.0
        (storing e o c fixed before m here None q (at.0 + 1) os (record { name = ref_name r; index = ix }) (sym out) room.apart target (subst (λ y. IsLine e.image.code y q (target_code e.program c (ref_name r) ix)) (sym at.1.1)
        (conv (p + length (index_code e.program c r) + length (call_code e.program (entry_in e.program mon en) (λ ps. args_code e.program c es ps))) q put_line)))
        (λ some. tt) (λ none r. some_none ok.2.1 (sym ok.2.2 ∙ none)) at.1.2))
    run_runs (assign_empty r x) c fixed m word p q os w here top room f h ok =
        let line : IsLine e.image.code p q (index_code e.program c r ++ (i.Empty (pos (condition_of e.program c.owner x)) ∷ put_code e.program c r)) =
        subst (λ y. IsLine e.image.code p q (index_code e.program c r ++ (i.Empty (pos (condition_of e.program c.owner x)) ∷ (range_code y ++ store_code e.program c r)))) (sym ok.2) h in
        answered_runs e n calls code.routines known o c fixed before m here room.apart ok.3 p q os r (i.Empty (pos (condition_of e.program c.owner x))) (asks_empty (condition_here (site_of e c calls) x)) w line ok.0 ok.1
        (λ below. (ap (λ y. i.Empty (pos y)) (sym (condition_is e calls c.owner x)), refl)) (λ t. tt) refl f
    run_runs (perform g es) c fixed m word p q os w here top room f h ok =
        let t : Text = ok.2.0 in
        let callee : Callee e c n g ok.2.0 = ok.2.1 in
        let out : o.job.inside ≡ None = is_outside e o.job.inside c.owner c.is_function here.may_run ok.1 ok.0 in
        let at : (y : ℕ) × CallAt c fixed m q os es ok.2.0 y (stand o w p os) = call_at c fixed m p q os es (routine_in e.program c.owner g) ok.2.0 w here f callee.in_code ok.2.3 h in
        subst (λ y. Runs e.image (Reached e o (point c fixed o.job.inside false q os) before (perform_found (site_of e c calls) m y (λ ps. arguments (site_of e c calls) m es ps))) (stand o w p os)) (sym callee.in_source)
        (procedure_runs e o c fixed before m here ok.0 out n calls code known g ok.2.0 (stand o w p os) at.0 q os (arguments (site_of e c calls) m es ok.2.0.routine.params) callee ok.2.2 at.1.0 at.1.1 at.1.2)
    run_runs (perform_entry mon en es) c fixed m word p q os w here top room f h ok =
        let ce : CallsEntry e c n mon en es ok.0 = ok.2 in
        let out : o.job.inside ≡ None = is_outside e o.job.inside c.owner c.is_function here.may_run ce.outside ce.may_act in
        let at : (y : ℕ) × CallAt c fixed m q os es ok.0 y (stand o w p os) = call_at c fixed m p q os es (entry_in e.program mon en) ok.0 w here f ce.entry_is.in_code ce.args h in
        subst (λ y. Runs e.image (Reached e o (point c fixed o.job.inside false q os) before (enter_found (site_of e c calls) m (monitor_number e.program mon) y (λ ps. arguments (site_of e c calls) m es ps) [])) (stand o w p os)) (sym ce.entry_is.in_source)
        (entry_runs e o c fixed before m here ce.may_act out calls ok.0 (monitor_number e.program mon) (code.entries mon en ok.0 ce.entry_is) (code.proper_entries mon en ok.0 ce.entry_is) ce.entry_is.owner ce.entry_is.reaches
        (stand o w p os) at.0 os (arguments (site_of e c calls) m es ok.0.routine.params) [] (point c fixed o.job.inside false q os) refl at.1.0
        (nothing e o c fixed before m here None (at.0 + 1) q os (sym out) at.1.1) (λ some. some ok.1) (λ none r. r) at.1.2)
    run_runs (when x a) c fixed m word p q os w here top room f h ok =
        value_runs e o c fixed before m here (point c fixed o.job.inside false q os) h.0 (stand o w p os) os (value (site_of e c calls) m x) (λ v. cond (is_true v) (run_all (site_of e c calls) m a) (goes m)) f.same
        (value_gets e n calls code.routines known o c fixed before m here p h.0 os x w h.2 ok.0 f)
        (λ v u g. tested e o before c fixed m (point c fixed o.job.inside false q os) h.0 (h.1 + 1) os v (run_all (site_of e c calls) m a) (goes m) u here g h.3
        (λ y k. to_jump e o before c fixed h.1 q os (run_all (site_of e c calls) m a) (stand o y (h.0 + 1) os) h.5 (all_runs a c fixed m word (h.0 + 1) h.1 os y here top room k h.4 ok.1))
        (λ y k. arrived (y, k, refl, refl, ap (λ t. stand o y t os) (sym h.6))))
    run_runs (when_else x a b) c fixed m word p q os w here top room f h ok =
        value_runs e o c fixed before m here (point c fixed o.job.inside false q os) h.0 (stand o w p os) os (value (site_of e c calls) m x) (λ v. cond (is_true v) (run_all (site_of e c calls) m a) (run_all (site_of e c calls) m b)) f.same
        (value_gets e n calls code.routines known o c fixed before m here p h.0 os x w h.2 ok.0 f)
        (λ v u g. tested e o before c fixed m (point c fixed o.job.inside false q os) h.0 (h.1 + 1) os v (run_all (site_of e c calls) m a) (run_all (site_of e c calls) m b) u here g h.3
        (λ y k. to_jump e o before c fixed h.1 q os (run_all (site_of e c calls) m a) (stand o y (h.0 + 1) os) h.5 (all_runs a c fixed m word (h.0 + 1) h.1 os y here top (room_first c word (loops a) (loops b) room) k h.4 ok.1))
        (λ y k. all_runs b c fixed m (word + loops a) (h.1 + 1) q os y here top (room_second c word (loops a) (loops b) room) k h.6 ok.2))
    run_runs (loop x lo hi ss) c fixed m word p q os w here top room f h ok =
        let v : ℤ = constant_value e.program lo in
        let looping : Looping e c o.job.inside x ss word (p + 1 + 1 + 1) h.0 q =
        record { level = n; emits = h.2; counts = h.3; end_is = h.4; room = room; low = low; proper = ok.1 word q; may_run = here.may_run } in
        subst (λ k. Runs e.image (Reached e o (point c fixed o.job.inside false q os) before (turns (λ y. run_all (site_of e c calls) y ss) x ss k (constant_value e.program lo) m)) (stand o w p os)) (sym ok.0.1)
        (enters_loop e o c fixed before x word q (loops ss) room (Reached e o (point c fixed o.job.inside false q os) before (turns (λ y. run_all (site_of e c calls) y ss) x ss (suc ok.0.0) (constant_value e.program lo) m)) m w p os (constant_value e.program lo) (suc ok.0.0) here f
        (subst (λ k. Has e.image.code p (i.Push (constant_value e.program lo) ∷ i.StoreLocal (pos word) ∷ i.Repeats (pos k) ∷ [])) ok.0.1 h.1)
        (λ y g. turns_run e o c fixed before here x ss word (p + 1 + 1 + 1) h.0 q os looping (λ k. run_all (site_of e c calls) k ss)
        (λ j z u k l. all_runs ss (inner c x word q) (z ∷ fixed) k (suc word) (p + 1 + 1 + 1) h.0 (Counter (suc j) ∷ os) u (here_inside e o c x word q here) (suc j, os, refl) (room_inside c x word q (loops ss) room) l h.2 (ok.1 word q))
        ok.0.0 (constant_value e.program lo) ok.0.2 y m g))
    run_runs (exit_when x) c fixed m word p q os w here top room f h ok =
        value_runs e o c fixed before m here (point c fixed o.job.inside false q os) h.0 (stand o w p os) os (value (site_of e c calls) m x) (λ v. cond (is_true v) (exits m) (goes m)) f.same
        (value_gets e n calls code.routines known o c fixed before m here p h.0 os x w h.2 ok f)
        (λ v u g. exit_tested e o before c fixed m h.0 h.1 q os v u here g h.3 top h.4 h.5)
    run_runs (get d r) c fixed m word p q os w here top room f h ok =
        answered_runs e n calls code.routines known o c fixed before m here room.apart ok.2 p q os r (i.In (pos (device_number e.program d))) (gets (device_number e.program d)) w h ok.0 ok.1 (λ below. (refl, refl)) (λ t. tt) refl f
    run_runs (put d x) c fixed m word p q os w here top room f h ok =
        value_runs e o c fixed before m here (point c fixed o.job.inside false q os) (p + length (code_of e.program c x)) (stand o w p os) os (value (site_of e c calls) m x) (λ v. stops (puts (device_number e.program d) v) [] [] m) f.same
        (value_gets e n calls code.routines known o c fixed before m here p (p + length (code_of e.program c x)) os x w (line_front e.image.code p q (code_of e.program c x) _ h) ok.0 f)
        (λ v u g. plain_runs e n calls code.routines known o c fixed before m here ok.1 (p + length (code_of e.program c x)) q (Value v ∷ os) os (i.Out (pos (device_number e.program d))) (puts (device_number e.program d) v) u
        (line_back e.image.code p q (code_of e.program c x) (i.Out (pos (device_number e.program d)) ∷ []) h) (refl, refl) (λ r. r) refl g)
    run_runs (wait x limit number) c fixed m word p q os w here top room f h ok =
        wait_runs e n calls code.routines known o c fixed before m here ok.1 p q os x (count_value e.program limit) (count_value e.program number) w h ok.0 f
    run_runs (signal x) c fixed m word p q os w here top room f h ok =
        plain_runs e n calls code.routines known o c fixed before m here ok p q os os (i.Signal (pos (condition_of e.program c.owner x))) (signals (condition_here (site_of e c calls) x)) w h
        (ap (λ y. i.Signal (pos y)) (sym (condition_is e calls c.owner x)), refl) (λ r. r) refl f
    run_runs (broadcast x) c fixed m word p q os w here top room f h ok =
        plain_runs e n calls code.routines known o c fixed before m here ok p q os os (i.Broadcast (pos (condition_of e.program c.owner x))) (broadcasts (condition_here (site_of e c calls) x)) w h
        (ap (λ y. i.Broadcast (pos y)) (sym (condition_is e calls c.owner x)), refl) (λ r. r) refl f
    run_runs (except k) c fixed m word p q os w here top room f h ok =
        arrived (f.same, raise_here e o c fixed before m here w p os (i.Raise (pos (count_value e.program k))) (count_value e.program k) f h.has.0 (λ s u g. refl))
    run_runs (assert x) c fixed m word p q os w here top room f h ok =
        value_runs e o c fixed before m here (point c fixed o.job.inside false q os) h.0 (stand o w p os) os (value (site_of e c calls) m x) (λ v. cond (is_true v) (goes m) (fails 4 m)) f.same
        (value_gets e n calls code.routines known o c fixed before m here p h.0 os x w h.1 ok f)
        (λ v u g. tested e o before c fixed m (point c fixed o.job.inside false q os) h.0 (h.0 + 1 + 1) os v (goes m) (fails 4 m) u here g h.2
        (λ y k. jumps e o c fixed before m (Reached e o (point c fixed o.job.inside false q os) before (goes m)) q (h.0 + 1) os (jump q h.3 there) (λ z l. arrived (z, l, refl, refl, refl)) y k)
        (λ y k. arrived (k.same, raise_here e o c fixed before m here y (h.0 + 1 + 1) os (i.Raise (pos 4)) 4 k h.4 (λ s z l. refl))))

    pub all_runs : (ss : Stmts) (c : Scope) (fixed : List ℤ) (m : Memory) (word p q : ℕ) (os : List Operand) (w : Words) → Here e o c → HasCounter c.exit os → Room c word (loops ss) → Fits e o c fixed before w m
        → EmitsAll e.program e.image.code c word p q ss → ProperAll e c n ss → Runs e.image (Reached e o (point c fixed o.job.inside false q os) before (run_all (site_of e c calls) m ss)) (stand o w p os)
    all_runs no_stmts c fixed m word p q os w here top room f h ok = arrived (w, f, refl, refl, ap (λ t. stand o w t os) (sym h))
    all_runs (stmts s ss) c fixed m word p q os w here top room f h ok =
        let rest_room : Room c (word + loops_in s) (loops ss) = room_second c word (loops_in s) (loops ss) room in
        then_reached e o (point c fixed o.job.inside false h.0 os) (point c fixed o.job.inside false q os) before (stand o w p os) (run (site_of e c calls) m s) (λ k. run_all (site_of e c calls) k ss) (λ k. exits k) (do_all ss ∷ []) refl refl
        (run_runs s c fixed m word p h.0 os w here top (room_first c word (loops_in s) (loops ss) room) f h.1 ok.0) tt
        (q, record { start = h.0; word = word + loops_in s; level = n; onward = there; emits = h.2; room = rest_room; counter = top; low = low; proper = ok.1; may_run = here.may_run }, tt, (q, there, refl))
        (λ u k g inside. all_runs ss c fixed k (word + loops_in s) h.0 q os u here top rest_room g h.2 ok.1)
        (λ k b l. arrived l)
