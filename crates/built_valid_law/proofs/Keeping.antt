-- Each instruction of the code of a text has the property that its text gives.
use Rattle.std.specs.Prelude.{◌≡◌, ◌+◌, ℕ, suc, List, [], ◌∷◌, length, Option, Some, None, pos, slice_get}
use Rattle.std.proofs.Common.{inl, inr, sym, ap, subst, ◌∙◌, arith}
use Rattle.std.proofs.lemmas.Bool.{cases_lt}
use Rattle.syntax_tree.specs.Plain.{Stmt, assign, assign_entry, assign_empty, perform, perform_entry, when, when_else, loop, exit_when, get, put, wait, signal, broadcast, except, assert, Stmts, no_stmts, stmts, Answers, Handler, Process, Program}
use Rattle.source_semantics.specs.Names.{constant_value}
use Rattle.machine_isa.specs.declared.instr.Instr.{Instr}
use Rattle.machine_isa.specs.declared.instr.Instr.TheVariants as i
use Rattle.machine_semantics.specs.Image as image
use Rattle.code_spec.specs.Layout.{Owner, by_program, by_process, by_monitor, Scope, loops_in, loops, routine_vars_words}
use Rattle.code_spec.specs.Numbering.{Text}
use Rattle.code_spec.specs.Emits.{Has, IsLine, At, inner, turns_of, Emits, EmitsAll}
use Rattle.code_spec.specs.Compiled.{routine_scope, process_scope, enter_code, EmitsAnswer, EmitsEnd, EmitsRoutine, EmitsHandler, EmitsProcess}
use Rattle.built_valid_law.specs.Has.{AllOf, EachBranch, StmtHas, StmtsHave, AnswerHas, EndHas, LeaveHas, RoutineHas, HandlerHas, ProcessHas}
use Rattle.built_valid_law.specs.Kept.{Keeps}

same_instr : (j k : Instr) → Some j ≡ Some k → j ≡ k
same_instr j k e = cc

module _ (code : List Instr) (P : Instr → Type 0) where
  keep_none : (p q : ℕ) → q ≡ p → Keeps code P p q
  keep_none p q e a j low high is = absurd (omega (arith, e, low, high))

  keep_both : (p r q : ℕ) → Keeps code P p r → Keeps code P r q → Keeps code P p q
  keep_both p r q h k a j low high is = elim (cases_lt a r) [ inl lt ↦ h a j low lt is | inr le ↦ k a j le high is ]

  keep_at : (p : ℕ) (j : Instr) → At code p j → P j → Keeps code P p (p + 1)
  keep_at p j at has a k low high is =
      let here : a ≡ p = omega (arith, low, high) in
      subst P (same_instr j k (sym at ∙ (ap (λ n. slice_get code n) (sym here) ∙ is))) has

  keep_has : (p : ℕ) (js : List Instr) → Has code p js → AllOf P js → Keeps code P p (p + length js)
  keep_has p [] h k = keep_none p (p + length {A = Instr} []) (omega arith)
  keep_has p (j ∷ js) h k =
      keep_both p (p + 1) (p + length (j ∷ js)) (keep_at p j h.0 k.0)
      (let e : p + 1 + length js ≡ p + length (j ∷ js) = omega arith in subst (λ n. Keeps code P (p + 1) n) e (keep_has (p + 1) js h.1 k.1))

  keep_line : (p q : ℕ) (js : List Instr) → IsLine code p q js → AllOf P js → Keeps code P p q
  keep_line p q js l k = subst (λ n. Keeps code P p n) (sym l.end) (keep_has p js l.has k)

  -- ---- statements

  module _ (g : Program) (branches : EachBranch P) where
    mutual
      stmt_keeps : (s : Stmt) (c : Scope) (w p q : ℕ) → Emits g code c w p q s → StmtHas P g c w s → Keeps code P p q
      stmt_keeps (assign r e) c w p q m h = keep_line p q _ m h
      stmt_keeps (assign_entry r mon en es) c w p q m h = keep_line p q _ m h
      stmt_keeps (assign_empty r x) c w p q m h = keep_line p q _ m h
      stmt_keeps (perform f es) c w p q m h = keep_line p q _ m h
      stmt_keeps (perform_entry mon en es) c w p q m h = keep_line p q _ m h
      stmt_keeps (when e a) c w p q m h =
          subst (λ n. Keeps code P p n) (sym m.6)
          (keep_both p m.0 (m.1 + 1) (keep_line p m.0 _ m.2 h.0)
          (keep_both m.0 (m.0 + 1) (m.1 + 1) (keep_at m.0 (i.JumpZero (pos (m.1 + 1))) m.3 (branches.jump_zero (m.1 + 1)))
          (keep_both (m.0 + 1) m.1 (m.1 + 1) (stmts_keep a c w (m.0 + 1) m.1 m.4 h.1) (keep_at m.1 (i.Jump (pos q)) m.5 (branches.jump q)))))
      stmt_keeps (when_else e a b) c w p q m h =
          keep_both p m.0 q (keep_line p m.0 _ m.2 h.0)
          (keep_both m.0 (m.0 + 1) q (keep_at m.0 (i.JumpZero (pos (m.1 + 1))) m.3 (branches.jump_zero (m.1 + 1)))
          (keep_both (m.0 + 1) m.1 q (stmts_keep a c w (m.0 + 1) m.1 m.4 h.1)
          (keep_both m.1 (m.1 + 1) q (keep_at m.1 (i.Jump (pos q)) m.5 (branches.jump q)) (stmts_keep b c (w + loops a) (m.1 + 1) q m.6 h.2))))
      stmt_keeps (loop x low high ss) c w p q m h =
          keep_both p (p + 1 + 1 + 1) q (let e : p + 3 ≡ p + 1 + 1 + 1 = omega arith in subst (λ n. Keeps code P p n) e (keep_has p (i.Push (constant_value g low) ∷ i.StoreLocal (pos w) ∷ i.Repeats (pos (turns_of (constant_value g low) (constant_value g high))) ∷ []) m.1 h.0))
          (keep_both (p + 1 + 1 + 1) m.0 q (stmts_keep ss (inner c x w q) (suc w) (p + 1 + 1 + 1) m.0 m.2 (h.1 q))
          (let e : m.0 + 5 ≡ m.0 + 1 + 1 + 1 + 1 + 1 = omega arith in
          subst (λ n. Keeps code P m.0 n) (e ∙ sym m.4)
          (keep_has m.0 (i.LoadLocal (pos w) ∷ i.Push (pos 1) ∷ i.Add ∷ i.StoreLocal (pos w) ∷ i.Repeat (pos (p + 1 + 1 + 1)) ∷ []) m.3 (h.2.0, (h.2.1.0, (h.2.1.1.0, (h.2.1.1.1.0, (branches.repeat (p + 1 + 1 + 1), tt))))))))
      stmt_keeps (exit_when e) c w p q m h =
          subst (λ n. Keeps code P p n) (sym m.5) (keep_both p m.0 (m.0 + 1) (keep_line p m.0 _ m.2 h) (keep_at m.0 (i.Exit (pos m.1)) m.4 (branches.exit m.1)))
      stmt_keeps (get d r) c w p q m h = keep_line p q _ m h
      stmt_keeps (put d e) c w p q m h = keep_line p q _ m h
      stmt_keeps (wait x limit number) c w p q m h = keep_line p q _ m h
      stmt_keeps (signal x) c w p q m h = keep_line p q _ m (h, tt)
      stmt_keeps (broadcast x) c w p q m h = keep_line p q _ m (h, tt)
      stmt_keeps (except n) c w p q m h = keep_line p q _ m (h, tt)
      stmt_keeps (assert e) c w p q m h =
          subst (λ n. Keeps code P p n) (sym m.5)
          (keep_both p m.0 (m.0 + 1 + 1 + 1) (keep_line p m.0 _ m.1 h.0)
          (keep_both m.0 (m.0 + 1) (m.0 + 1 + 1 + 1) (keep_at m.0 (i.JumpZero (pos (m.0 + 1 + 1))) m.2 (branches.jump_zero (m.0 + 1 + 1)))
          (keep_both (m.0 + 1) (m.0 + 1 + 1) (m.0 + 1 + 1 + 1) (keep_at (m.0 + 1) (i.Jump (pos q)) m.3 (branches.jump q)) (keep_at (m.0 + 1 + 1) (i.Raise (pos 4)) m.4 h.1))))

      pub stmts_keep : (ss : Stmts) (c : Scope) (w p q : ℕ) → EmitsAll g code c w p q ss → StmtsHave P g c w ss → Keeps code P p q
      stmts_keep no_stmts c w p q m h = keep_none p q m
      stmts_keep (stmts s ss) c w p q m h =
          keep_both p m.0 q (stmt_keeps s c w p m.0 m.1 h.0) (stmts_keep ss c (w + loops_in s) m.0 q m.2 h.1)

  -- ---- routines and processes

  module _ (g : Program) where
    answer_keeps : (a : Answers) (c : Scope) (p q : ℕ) → EmitsAnswer g code c p q a → AnswerHas P g c a → Keeps code P p q
    answer_keeps a c p q m h = keep_both p m.0 q (keep_line p m.0 _ m.1 h.0) (keep_line m.0 q _ m.2 h.1)

    end_keeps : (o : Owner) (a : Option Answers) (c : Scope) (p q : ℕ) → EmitsEnd g code c o p q a → EndHas P g c a → LeaveHas P o → Keeps code P p q
    end_keeps by_program None c p q m h l = keep_line p q _ m (h, tt)
    end_keeps by_program (Some a) c p q m h l = keep_both p m.0 q (answer_keeps a c p m.0 m.1 h.0) (keep_line m.0 q _ m.2 (h.1, tt))
    end_keeps (by_process k) None c p q m h l = keep_line p q _ m (h, tt)
    end_keeps (by_process k) (Some a) c p q m h l = keep_both p m.0 q (answer_keeps a c p m.0 m.1 h.0) (keep_line m.0 q _ m.2 (h.1, tt))
    end_keeps (by_monitor k) None c p q m h l = keep_line p q _ m (l, (h, tt))
    end_keeps (by_monitor k) (Some a) c p q m h l = keep_both p m.0 q (answer_keeps a c p m.0 m.1 h.0) (keep_line m.0 q _ m.2 (l, (h.1, tt)))

    pub routine_keeps : (t : Text) (p q : ℕ) → EmitsRoutine g code t p q → RoutineHas P g t → Keeps code P p q
    routine_keeps t p q m h =
        keep_both p m.inside q (keep_line p m.inside (enter_code t.owner) m.enters h.enters)
        (keep_both m.inside m.behind q (stmts_keep g h.branches t.routine.body (routine_scope g t) (routine_vars_words g t.routine) m.inside m.behind m.body h.body)
        (end_keeps t.owner t.routine.answers (routine_scope g t) m.behind q m.rest h.ends h.leaves))

    handler_keeps : (k : ℕ) (t : Process) (o : Option Handler) (p q : ℕ) (ip : image.Process) → EachBranch P → P i.End → EmitsHandler g code k t o p q ip → HandlerHas P g k t o → Keeps code P p q
    handler_keeps k t None p q ip branches end m h = keep_none p q m.0
    handler_keeps k t (Some d) p q ip branches end m h =
        keep_both p m.0 q (stmts_keep g branches d.body (process_scope g k t) (loops t.body) p m.0 m.1 h) (keep_line m.0 q _ m.2 (end, tt))

    pub process_keeps : (k : ℕ) (t : Process) (p q : ℕ) (ip : image.Process) → EmitsProcess g code k t p q ip → ProcessHas P g k t → Keeps code P p q
    process_keeps k t p q ip m h =
        keep_both p m.behind q (stmts_keep g h.branches t.body (process_scope g k t) 0 p m.behind m.body h.body)
        (keep_both m.behind (m.behind + 1) q (keep_at m.behind i.End m.end h.ends)
        (handler_keeps k t t.handler (m.behind + 1) q ip h.branches h.ends m.handler h.handler))
