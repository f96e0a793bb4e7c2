-- The operands of statements, routines and processes.
use Rattle.std.specs.Prelude.{◌≡◌, ◌≤◌, ◌<◌, ◌+◌, ℕ, suc, true, false, pos, List, [], ◌∷◌, ◌++◌, Option, Some, None, All, Contains}
use Rattle.std.proofs.Common.{refl, arith}
use Rattle.base.proofs.Members.{none_in}
use Rattle.syntax_tree.specs.Plain.{Name, Var, Stmt, assign, assign_entry, assign_empty, perform, perform_entry, when, when_else, loop, exit_when, get, put, wait, signal, broadcast, except, assert, Stmts, no_stmts, stmts, Answers, Routine, Handler, Process, Program}
use Rattle.source_semantics.specs.Names.{constant_value, count_value, device_number}
use Rattle.source_semantics.specs.Store.{range_of}
use Rattle.machine_isa.specs.declared.instr.Instr.{Instr}
use Rattle.machine_isa.specs.declared.instr.Instr.TheVariants as i
use Rattle.machine_semantics.specs.Image.{Image}
use Rattle.valid_image.specs.Operands.{Whose, local_words, in_area, is_between, is_own_condition, is_own_monitor, is_device}
use Rattle.code_spec.specs.Layout.{Owner, by_program, by_process, by_monitor, home_of, Scope, loops_in, loops, count, routine_vars_words, routine_places, routine_words, param_places, places_from, handler_loops, frame_words}
use Rattle.code_spec.specs.Numbering.{Text, routine_in, entry_in}
use Rattle.code_spec.specs.Code.{code_of, args_code, call_code, index_code, store_code, put_code}
use Rattle.code_spec.specs.Emits.{inner, turns_of, condition_of, monitor_of}
use Rattle.code_spec.specs.Compiled.{routine_scope, process_scope, enter_code}
use Rattle.static_semantics.specs.Here.{Here, own_of, conditions_here, in_routine}
use Rattle.static_semantics.specs.Statements.{Fits, AllFit}
use Rattle.static_semantics.specs.WellFormed.{ParamFits, VarFits, AnswersFit, RoutineFits, OptionalFits, ProcessFits}
use Rattle.code_measures.specs.Sound.{Sound, SoundAll, SoundAnswers, SoundRoutine, SoundHandler, SoundProcess}
use Rattle.built_valid_law.specs.Lies.{AllLie}
use Rattle.built_valid_law.proofs.AreasLemmas.{word_inside, scalar_order, variables_lie, parameters_lie, both_lie, turns_are_few, none_bad}
use Rattle.built_valid_law.specs.Has.{AllOf, EachBranch, StmtHas, StmtsHave, EndHas, LeaveHas, RoutineHas, HandlerHas, ProcessHas}
use Rattle.built_valid_law.specs.Fine.{IsFine, MayCall, Stands}
use Rattle.built_valid_law.specs.Texts.{RoutinesAreFine, ProcessesAreFine}
use Rattle.built_valid_law.proofs.Lines.{all_both, number_between, range_fine, wait_fine, raise_fine, Reaches, call_fine, expr_fine, args_fine, index_fine, store_code_fine, put_fine}

-- where a text stands, by the rules
abbrev here_at : Program → Process → Scope → List Name → List Var → Here
here_at g p c turns vars = record { program = g; process = p; home = home_of c.owner; is_function = c.is_function; turns = turns; own = vars }

module _ (g : Program) (m : Image) (w : Whose) (p : Process) where
  abbrev Fine : Instr → Type 0
  Fine = IsFine m w

  abbrev Lies : Scope → Type 0
  Lies c = Reaches m w g c

  frame_word : (k : ℕ) → k < w.locals → in_area (local_words w) (pos k) ≡ true
  frame_word k lt = word_inside (local_words w) k (omega arith) (omega (arith, lt))

  inside_loop : (c : Scope) (x : Name) (k q : ℕ) → k < w.locals → Lies c → Lies (inner c x k q)
  inside_loop c x k q lt r = record { own = (record { shape = frame_word k lt; range = tt }, r.own); outer = r.outer }

  -- a condition is named only in an entry
  own_monitor : (o : Owner) (x : Name) → Contains (conditions_here g (home_of o)) x → Stands g m w o → is_own_monitor w (pos (monitor_of o)) ≡ true
  own_monitor by_program x h s = absurd (none_in x h)
  own_monitor (by_process k) x h s = absurd (none_in x h)
  own_monitor (by_monitor j) x h s = s.monitor j refl

  mutual
    stmt_fine : (s : Stmt) (c : Scope) (turns : List Name) (vars : List Var) (k : ℕ) → Lies c → Stands g m w c.owner → k + loops_in s ≤ w.locals → Sound g (MayCall g m w) c s → Fits (here_at g p c turns vars) s → StmtHas Fine g c k s
    stmt_fine (assign t e) c turns vars k r st room h f =
        all_both Fine (index_code g c t) (code_of g c e ++ put_code g c t) (index_fine m w g t c r h.0)
        (all_both Fine (code_of g c e) (put_code g c t) (expr_fine m w g e c r h.2) (put_fine m w g t c r))
    stmt_fine (assign_entry t mon en es) c turns vars k r st room h f =
        all_both Fine (index_code g c t) (call_code g (entry_in g mon en) (λ ps. args_code g c es ps) ++ put_code g c t) (index_fine m w g t c r h.0)
        (all_both Fine (call_code g (entry_in g mon en) (λ ps. args_code g c es ps)) (put_code g c t)
        (call_fine m w g (entry_in g mon en) h.2.0 (λ ps. args_code g c es ps) h.2.2 h.2.3 (args_fine m w g es h.2.0.routine.params c r h.2.3.params h.2.5)) (put_fine m w g t c r))
    stmt_fine (assign_empty t x) c turns vars k r st room h f =
        all_both Fine (index_code g c t) (i.Empty (pos (condition_of g c.owner x)) ∷ store_code g c t) (index_fine m w g t c r h.0)
        (none_bad (is_own_condition m w (pos (condition_of g c.owner x))) (pos (condition_of g c.owner x)) (st.conditions x f.1), store_code_fine m w g t c r)
    stmt_fine (perform n es) c turns vars k r st room h f =
        call_fine m w g (routine_in g c.owner n) h.0 (λ ps. args_code g c es ps) h.1 h.2 (args_fine m w g es h.0.routine.params c r h.2.params h.4)
    stmt_fine (perform_entry mon en es) c turns vars k r st room h f =
        call_fine m w g (entry_in g mon en) h.0 (λ ps. args_code g c es ps) h.1 h.2 (args_fine m w g es h.0.routine.params c r h.2.params h.4)
    stmt_fine (when e a) c turns vars k r st room h f = (expr_fine m w g e c r h.0, stmts_fine a c turns vars k r st room h.1 f.1)
    stmt_fine (when_else e a b) c turns vars k r st room h f = (
      expr_fine m w g e c r h.0,
      stmts_fine a c turns vars k r st (omega (arith, room)) h.1 f.1,
      stmts_fine b c turns vars (k + loops a) r st (omega (arith, room)) h.2 f.2,
    )
    stmt_fine (loop x low high ss) c turns vars k r st room h f =
        let lt : k < w.locals = omega (arith, room) in
        let here : in_area (local_words w) (pos k) ≡ true = frame_word k lt in
        let turns_ok : is_between 1 1000000 (pos (turns_of (constant_value g low) (constant_value g high))) ≡ true = turns_are_few g low high f.0 in (
          (refl, (none_bad (in_area (local_words w) (pos k)) (pos k) here, (none_bad (is_between 1 1000000 (pos (turns_of (constant_value g low) (constant_value g high)))) (pos (turns_of (constant_value g low) (constant_value g high))) turns_ok, tt))),
          λ q. stmts_fine ss (inner c x k q) (x ∷ turns) vars (suc k) (inside_loop c x k q lt r) st (omega (arith, room)) (h.1 k q) f.1,
          (none_bad (in_area (local_words w) (pos k)) (pos k) here, (refl, (refl, (none_bad (in_area (local_words w) (pos k)) (pos k) here, tt)))),
        )
    stmt_fine (exit_when e) c turns vars k r st room h f = expr_fine m w g e c r h
    stmt_fine (get d t) c turns vars k r st room h f =
        all_both Fine (index_code g c t) (i.In (pos (device_number g d)) ∷ put_code g c t) (index_fine m w g t c r h.0)
        (none_bad (is_device m false (pos (device_number g d))) (pos (device_number g d)) (st.devices d false f.1), put_fine m w g t c r)
    stmt_fine (put d e) c turns vars k r st room h f =
        all_both Fine (code_of g c e) (i.Out (pos (device_number g d)) ∷ []) (expr_fine m w g e c r h)
        (none_bad (is_device m true (pos (device_number g d))) (pos (device_number g d)) (st.devices d true f.1), tt)
    stmt_fine (wait x limit number) c turns vars k r st room h f = (
      wait_fine m w (condition_of g c.owner x) (count_value g limit) (count_value g number) (st.conditions x f.0)
          (number_between 1 1000000000 (constant_value g limit) f.1.limits) (number_between 10 999 (constant_value g number) f.2.limits),
      (none_bad (is_own_monitor w (pos (monitor_of c.owner))) (pos (monitor_of c.owner)) (own_monitor c.owner x f.0 st), tt),
    )
    stmt_fine (signal x) c turns vars k r st room h f = none_bad (is_own_condition m w (pos (condition_of g c.owner x))) (pos (condition_of g c.owner x)) (st.conditions x f)
    stmt_fine (broadcast x) c turns vars k r st room h f = none_bad (is_own_condition m w (pos (condition_of g c.owner x))) (pos (condition_of g c.owner x)) (st.conditions x f)
    stmt_fine (except n) c turns vars k r st room h f = raise_fine m w (count_value g n) (number_between 10 999 (constant_value g n) f.limits)
    stmt_fine (assert e) c turns vars k r st room h f = (expr_fine m w g e c r h, refl)

    stmts_fine : (ss : Stmts) (c : Scope) (turns : List Name) (vars : List Var) (k : ℕ) → Lies c → Stands g m w c.owner → k + loops ss ≤ w.locals → SoundAll g (MayCall g m w) c ss → AllFit (here_at g p c turns vars) ss → StmtsHave Fine g c k ss
    stmts_fine no_stmts c turns vars k r st room h f = tt
    stmts_fine (stmts s ss) c turns vars k r st room h f =
        (stmt_fine s c turns vars k r st (omega (arith, room)) h.0 f.0, stmts_fine ss c turns vars (k + loops_in s) r st (omega (arith, room)) h.1 f.1)

  -- ---- routines

  branches : EachBranch Fine
  branches = record { jump = λ n. refl; jump_zero = λ n. refl; repeat = λ n. refl; exit = λ n. refl }

  own_places : (r : Routine) → All (ParamFits g) r.params → All (VarFits g) r.vars → routine_words g r ≤ w.locals → AllLie (local_words w) (routine_places g r)
  own_places r params vars room =
      both_lie (local_words w) (param_places g 0 r.params) (places_from g (count r.params) r.vars)
      (parameters_lie g (local_words w) 0 r.params params (omega arith) (omega (arith, room)))
      (variables_lie g (local_words w) (count r.params) r.vars vars (omega arith) (omega (arith, room)))

  end_fine : (a : Option Answers) (c : Scope) (h : Here) → Lies c → SoundAnswers g (MayCall g m w) c a → AnswersFit g h a → EndHas Fine g c a
  end_fine None c h r s f = refl
  end_fine (Some a) c h r s f = ((expr_fine m w g a.value c r s, range_fine m w (range_of g a.kind) (scalar_order g a.kind f.0)), refl)

  enter_fine : (o : Owner) → Stands g m w o → AllOf Fine (enter_code o)
  enter_fine by_program s = tt
  enter_fine (by_process k) s = tt
  enter_fine (by_monitor j) s = (none_bad (is_own_monitor w (pos j)) (pos j) (s.monitor j refl), tt)

  leave_fine : (o : Owner) → Stands g m w o → LeaveHas Fine o
  leave_fine by_program s = tt
  leave_fine (by_process k) s = tt
  leave_fine (by_monitor j) s = none_bad (is_own_monitor w (pos j)) (pos j) (s.monitor j refl)

  abbrev text_of : Owner → Routine → Text
  text_of o r = record { owner = o; routine = r }

  same_body : (o : Owner) (r : Routine) → AllFit (in_routine g p (home_of o) r) r.body → AllFit (here_at g p (routine_scope g (text_of o r)) [] (own_of r)) r.body
  same_body by_program r h = h
  same_body (by_process k) r h = h
  same_body (by_monitor j) r h = h

  routine_fine : (o : Owner) (r : Routine) → Stands g m w o → routine_words g r ≤ w.locals → SoundRoutine g (MayCall g m w) (text_of o r) → RoutineFits g p (home_of o) r → RoutineHas Fine g (text_of o r)
  routine_fine o r st room h f =
      let lies : Lies (routine_scope g (text_of o r)) = record { own = own_places r f.params f.vars room; outer = st.outer } in
      record {
        branches = branches;
        enters = enter_fine o st;
        body = stmts_fine r.body (routine_scope g (text_of o r)) [] (own_of r) (routine_vars_words g r) lies st room h.0 (same_body o r f.body);
        ends = end_fine r.answers (routine_scope g (text_of o r)) (in_routine g p (home_of o) r) lies h.1 f.answers;
        leaves = leave_fine o st;
      }

  -- ---- processes

  handler_fine : (k : ℕ) (o : Option Handler) → Stands g m w (by_process k) → loops p.body + handler_loops o ≤ w.locals → SoundHandler g (MayCall g m w) (process_scope g k p) o → OptionalFits g p o → HandlerHas Fine g k p o
  handler_fine k None st room h f = tt
  handler_fine k (Some d) st room h f = stmts_fine d.body (process_scope g k p) [] [] (loops p.body) (record { own = tt; outer = st.outer }) st room h f.body

  process_fine : (k : ℕ) → Stands g m w (by_process k) → frame_words p ≤ w.locals → SoundProcess g (MayCall g m w) k p → ProcessFits g p → ProcessHas Fine g k p
  process_fine k st room h f = record {
    branches = branches;
    body = stmts_fine p.body (process_scope g k p) [] [] 0 (record { own = tt; outer = st.outer }) st (omega (arith, room)) h.0 f.body;
    handler = handler_fine k p.handler st room h.1 f.handler;
    ends = refl;
  }

pub routines_are_fine : RoutinesAreFine
routines_are_fine g m w p t st room h f = routine_fine g m w p t.owner t.routine st room h f

pub processes_are_fine : ProcessesAreFine
processes_are_fine g m w k p st room h f = process_fine g m w p k st room h f
